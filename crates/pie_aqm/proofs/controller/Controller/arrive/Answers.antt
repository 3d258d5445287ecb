use Rattle.std.proofs.Common.{arith, rules}
use Rattle.pie_aqm.specs.Calls.{Arrive}
use Rattle.pie_aqm.proofs.Laws.{Sound_call, stays_sound}
use Rattle.pie_aqm.proofs.controller.Controller.arrive.Goals as goal

pub invariant_of-self : goal.invariant_of-self
invariant_of-self c = stays_sound _ _ (search rules) (Sound_call _ c.self.invariant (Arrive c.args.arrival c.args.moment)
    (omega (arith, c.units.ensures)))
