use Rattle.std.proofs.Common.{◌+◌, ◌-◌, ◌≡◌, ◌∙◌, ℕ, ap, arith, drop, get_or, sym, take}
use Rattle.std.proofs.lemmas.List.{drop-take, length-take}
use Rattle.pie_record.specs.{Some, start_of}
use Rattle.pie_record.proofs.InputFacts.{line-between, line-field}
use Rattle.pie_record.proofs.record.field_in.Goals as goal

pub start_of-start-requires-clause-fits : goal.start_of-start-requires-clause-fits
start_of-start-requires-clause-fits c = λ i before.
    let it = line-between c.args.line.now c.args.ends.now i c.requires.plain before in
    omega (arith, it.within, c.type_inv.line)

pub slice_bounds-result-end : goal.slice_bounds-result-end
slice_bounds-result-end c =
    let it = line-between c.args.line.now c.args.ends.now c.args.place c.requires.plain c.requires.within in
    omega (arith, it.within, length-take (get_or c.args.ends.now c.args.place 0) c.args.line.now)

pub returns-clause-within : goal.returns-clause-within
returns-clause-within c =
    let it = line-between c.args.line.now c.args.ends.now c.args.place c.requires.plain c.requires.within in
    omega (arith, it.rising, it.within, c.start_of-start.ensures, length-take (get_or c.args.ends.now c.args.place 0) c.args.line.now)

pub returns-clause-field : goal.returns-clause-field
returns-clause-field c =
    let line = c.args.line.now in
    let end = get_or c.args.ends.now c.args.place 0 in
    let start = start_of 0 c.args.ends.now c.args.place in
    let it = line-between line c.args.ends.now c.args.place c.requires.plain c.requires.within in
    let same : start + (end - start) ≡ end = omega (arith, it.rising) in
    rw c.start_of-start.ensures (ap (λ (n : ℕ). Some (drop start (take n line))) (sym same) ∙ ap Some (drop-take start (end - start) line)
    ∙ sym (line-field line c.args.ends.now c.args.place c.requires.plain c.requires.within))
