use Rattle.std.proofs.Common.{◌+◌, ◌*◌, ◌≡◌, ℕ, subst, sym}
use Rattle.pie_record.specs.{HasRead}
use Rattle.pie_record.proofs.LaneFacts.{eight-read, lanes_of, word}
use Rattle.pie_record.proofs.number.eight_digits.Goals as goal

pub returns : goal.returns
returns c = λ first read.
    let a = c.args in
    let is : a.start * 100000000 + (c.from.result * 10000 + c.from-2.result) ≡ a.start * 100000000 + word (lanes_of a.text.now a.from a.end) =
    λ i. a.start * 100000000 + (c.from.ensures i * 10000 + c.from-2.ensures i) in
    subst (λ (v : ℕ). HasRead a.text.now first a.end v) (sym is)
    (eight-read a.text.now a.from a.end a.start first c.requires.few c.requires.within c.requires.fresh c.type_inv.text c.if-digits-ne0.false read)
