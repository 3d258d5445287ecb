-- The decision on plain numbers is the decision on the checked ones.
use Rattle.pie_early.proofs.Laws.{◌≡◌, ◌∙◌, accu_after, choice_of, effective_prob_of, accu_below, represents_arrival, grown, picked}
use Rattle.pie_early.specs.declared.decision.Decision.{Decision}
use Rattle.pie_early.proofs.early.Early.consider.Goals as goal
use Rattle.pie_early.proofs.early.Early.consider.Goals.{After-choice_by}

pub invariant_of-self : goal.invariant_of-self
invariant_of-self c =
    let a = c.args in
    rw c.decide-decision.ensures.accu (accu_below a.elements.picking _ _ _ a.offered.bytes a.offered.word c.self.inside.accu c.self.invariant)

module _ (c : After-choice_by) where
  chosen : c.choice_by.result ≡ choice_of c.args.elements c.args.params.now c.args.control.now c.args.offered c.args.self.now
  chosen = rw (← c.raw.ensures.same, ← c.raw-2.ensures, ← c.self.view_is) (c.choice_by.ensures _ (c.verdict.ensures ∙ c.decide-decision.ensures.verdict))

pub returns-clause-picked : goal.returns-clause-picked
returns-clause-picked c =
    let a = c.args in
    picked a.elements.picking a.params.now a.control.now (effective_prob_of a.elements a.params.now a.control.now a.offered) a.offered.bytes a.offered.ecn
    a.offered.word a.self.now c.choice_by.result (chosen c)

pub returns-clause-represents : goal.returns-clause-represents
returns-clause-represents c events shown =
    let a = c.args in
    let d : Decision = c.decide-decision.result in
    let accu : d.accu ≡ accu_after a.elements a.params.now a.control.now a.offered a.self.now
    = rw (← c.raw.ensures.same, ← c.raw-2.ensures, ← c.self.view_is) c.decide-decision.ensures.accu in
    rw (chosen c, accu) (represents_arrival a.elements.picking a.params.now a.control.now (effective_prob_of a.elements a.params.now a.control.now a.offered)
    a.offered.bytes a.offered.word a.self.now events a.offered.ecn shown)

pub returns-clause-grows : goal.returns-clause-grows
returns-clause-grows c = λ accumulates considered some queued.
    let a = c.args in
    grown a.elements.picking a.params.now a.control.now (effective_prob_of a.elements a.params.now a.control.now a.offered) a.offered.bytes a.offered.ecn
    a.offered.word a.self.now c.decide-decision.result.accu c.choice_by.result accumulates considered some queued (chosen c)
    (rw (← c.raw.ensures.same, ← c.raw-2.ensures, ← c.self.view_is) c.decide-decision.ensures.accu)
