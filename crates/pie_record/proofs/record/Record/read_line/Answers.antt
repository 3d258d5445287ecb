use Rattle.std.proofs.Common.{arith, rules, take, ◌≡◌, ◌<◌, ◌+◌}
use Rattle.pie_record.specs.{fields_of}
use Rattle.pie_record.proofs.InputFacts.{some_fields, plain_found, empty_found}
use Rattle.pie_record.proofs.record.Record.read_line.Goals as goal

pub returns-then-len-eq0 : goal.returns-then-len-eq0
returns-then-len-eq0 g c =
    let l = c.take_line-len in
    let it = rw c.in-Feed.is at l.ensures.takes in
    let none : l.result.0 ≡ 0 = search rules in
    empty_found c.args.is_first c.args.input.now l.new.self (take l.result.0 l.new.line) (take l.result.1 l.new.ends) l.result.0 it none
    (fields_of c.self.inside.csv_record)

pub returns : goal.returns
returns g c =
    let l = c.take_line-len in
    let it = rw c.in-Feed.is at l.ensures.takes in
    let some : 0 < l.result.0 = search rules in
    rw (some_fields (l.result.1 + 1) (omega arith))
    (plain_found c.args.is_first c.args.input.now l.new.self (take l.result.0 l.new.line) (take l.result.1 l.new.ends) l.result.0 it some)
