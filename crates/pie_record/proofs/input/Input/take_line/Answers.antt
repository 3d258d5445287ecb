use Rattle.std.proofs.Common.{arith, rules, ◌≡◌, ◌-◌, ◌<◌, get_or, take, get_or-take, sym, length, slice_range}
use Rattle.std.proofs.lemmas.Bool.Decides.{nat_tests}
use Rattle.pie_record.specs.{IsFound}
use Rattle.pie_record.proofs.InputFacts.{line-taken}
use Rattle.pie_record.proofs.input.Input.take_line.Goals as goal

pub returns-clause-takes : goal.returns-clause-takes
returns-clause-takes g c =
    let i = c.self.inside in
    let s = c.scan-place in
    let before : s.result.0 < i.end - i.at = search rules in
    let found : IsFound (slice_range i.bytes.items i.at (length i.bytes.items)) (take s.result.0 s.new.line) (take s.result.1 s.new.ends) s.result.0 = rw (c.in-Feed.is, c.deref.ensures.value) at s.ensures.found in
    rw (← c.self.view_is) (line-taken i.bytes.items (take s.result.0 s.new.line) (take s.result.1 s.new.ends) i.at s.result.0 i.end found before
    (g.R.Read.remaining i.reader) (λ some.
    let first : get_or s.new.line 0 0 ≡ get_or (take s.result.0 s.new.line) 0 0 = sym (get_or-take s.result.0 s.new.line 0 0 some) in
    grind (arith, nat_tests, first)))
