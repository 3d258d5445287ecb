use Rattle.pie_early.proofs.Laws.{◌≡◌, ◌∙◌, ap, refl, sym, true, arith, nat_tests, is_considered, cause_considered, cause_verdict}
use Rattle.pie_event.specs.Cause.{verdict_of}
use Rattle.pie_event.specs.declared.cause.Cause.TheVariants.{ShortQueue}
use Rattle.pie_early.specs.Cause.{considered_cause, early_cause}
use Rattle.pie_early.proofs.decision.cause.Goals as goal

pub returns-in-None-clause-verdict : goal.returns-in-None-clause-verdict
returns-in-None-clause-verdict c =
    let a = c.args in
    let considered : is_considered a.params.now a.control.now a.offered.bytes ≡ true = grind (arith, nat_tests, c.unconsidered.ensures.considered, c.in-None.is) in
    let same : c.considered_cause.result ≡ early_cause a.elements a.params.now a.control.now a.offered a.accu
    = c.considered_cause.ensures ∙ sym (cause_considered a.elements a.params.now a.control.now a.offered a.accu considered) in
    ap verdict_of same ∙ cause_verdict a.elements a.params.now a.control.now a.offered a.accu

pub returns-in-Some-BurstAllowed-clause-cause : goal.returns-in-Some-BurstAllowed-clause-cause
unfolding early_cause considered_cause
returns-in-Some-BurstAllowed-clause-cause c =
    let a = c.args in
    let named = c.unconsidered.ensures.named _ a.elements a.offered a.accu c.in-Some-BurstAllowed.is refl in
    grind (arith, nat_tests, named)

pub returns-in-Some-LowDelay-clause-cause : goal.returns-in-Some-LowDelay-clause-cause
unfolding early_cause considered_cause
returns-in-Some-LowDelay-clause-cause c =
    let a = c.args in
    let named = c.unconsidered.ensures.named _ a.elements a.offered a.accu c.in-Some-LowDelay.is refl in
    grind (arith, nat_tests, named)

pub returns-in-Some : goal.returns-in-Some
unfolding early_cause considered_cause is_considered
returns-in-Some c =
    let a = c.args in
    let named = c.unconsidered.ensures.named _ a.elements a.offered a.accu c.in-Some.is refl in
    let cause : ShortQueue a.offered.bytes a.params.now.mean_pkt ≡ early_cause a.elements a.params.now a.control.now a.offered a.accu
    = grind (arith, nat_tests, named, c.unconsidered.ensures.considered, c.in-Some.is) in
    record { cause = cause; verdict = ap verdict_of cause ∙ cause_verdict a.elements a.params.now a.control.now a.offered a.accu }
