use Rattle.std.proofs.Common.{arith}
use Rattle.std.proofs.lemmas.Int.{ints}
use Rattle.pie_control.proofs.update.next.Goals as goal

pub returns-clause-cap : goal.returns-clause-cap
returns-clause-cap c capped tenth =
    let step = c.tuned_step-step.ensures.cap capped tenth in
    c.decayed.ensures.shrinks _ (omega (arith, ints, step))
