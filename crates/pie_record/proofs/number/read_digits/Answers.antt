use Rattle.pie_record.proofs.FieldFacts.{all_read, none_read}
use Rattle.pie_record.proofs.number.read_digits.Goals as goal

pub returns-then-len-le-WORD : goal.returns-then-len-le-WORD
returns-then-len-le-WORD c =
    let a = c.args in
    all_read a.text.now a.from a.from 0 c.eight_digits.result c.eight_digits.ensures (none_read a.text.now a.from) c.requires c.if-text-from-eq48.false

pub returns-then-len : goal.returns-then-len
returns-then-len c =
    let a = c.args in
    all_read a.text.now a.from _ c.in_ok-first.first c.eight_digits-then-len-2.result c.eight_digits-then-len-2.ensures
    (c.in_ok-first.ensures a.from (none_read a.text.now a.from)) c.requires c.if-text-from-eq48.false

pub returns : goal.returns
returns c =
    let a = c.args in
    all_read a.text.now a.from _ c.in_ok-second.second c.eight_digits-4.result c.eight_digits-4.ensures
    (c.in_ok-second.ensures a.from (c.in_ok-first-2.ensures a.from (none_read a.text.now a.from))) c.requires c.if-text-from-eq48.false
