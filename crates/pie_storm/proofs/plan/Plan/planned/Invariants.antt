use Rattle.pie_storm.proofs.Names.{◌≡◌, ◌-◌, ◌^◌, length, min, calls_of, total}
use Rattle.pie_storm.proofs.plan.Plan.planned.Given as goal

abbrev pub invariant-loop-caller : goal.invariant-loop-caller
invariant-loop-caller l = l.count ≡ min (total (λ caller. length (calls_of l.self caller)) l.caller) (2 ^ 64 - 1)
