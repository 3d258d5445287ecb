use Rattle.std.proofs.Common.{arith, refl, subst, sym}
use Rattle.std.specs.Prelude.{[]}
use Rattle.pie_control.specs.History.{Represents, probability, last_delay, last_moment, granted_burst, burst_allowance, ControlState}
use Rattle.pie_control.proofs.control.Control.opened.Goals as goal

pub returns-clause-represents : goal.returns-clause-represents
unfolding probability last_delay last_moment granted_burst burst_allowance
returns-clause-represents c = subst (λ (p : ControlState). Represents c.args.params.now c.args.moment [] p) (sym c.opened.ensures) (record {
  prob = refl;
  old_delay = refl;
  burst = omega (arith, c.units.ensures, c.max_burst.ensures);
  last = c.units-2.ensures.value;
})
