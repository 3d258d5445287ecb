use Rattle.pie_early.proofs.Laws.{◌≡◌, ◌∙◌, ap, sym, refl, true, arith, nat_tests, is_considered, cause_considered, cause_verdict}
use Rattle.pie_event.specs.Cause.{verdict_named, name_of}
use Rattle.pie_early.proofs.decision.decide.Goals as goal

pub returns-in-Some-clause-verdict : goal.returns-in-Some-clause-verdict
returns-in-Some-clause-verdict c =
    let a = c.args in
    ap verdict_named (c.unconsidered.ensures.named c.in-Some.name a.elements a.offered a.accu c.in-Some.is refl)
    ∙ cause_verdict a.elements a.params.now a.control.now a.offered a.accu

pub returns-clause-name : goal.returns-clause-name
returns-clause-name c =
    let a = c.args in
    let considered : is_considered a.params.now a.control.now a.offered.bytes ≡ true =
    grind (arith, nat_tests, c.unconsidered.ensures.considered, c.in_default.is) in
    rw c.effective_prob-effective.ensures.value at c.decide_considered.ensures.name
    ∙ sym (ap name_of (cause_considered a.elements a.params.now a.control.now a.offered a.accu considered))

pub returns-clause-verdict : goal.returns-clause-verdict
returns-clause-verdict c =
    ap verdict_named (returns-clause-name c) ∙ cause_verdict c.args.elements c.args.params.now c.args.control.now c.args.offered c.args.accu
