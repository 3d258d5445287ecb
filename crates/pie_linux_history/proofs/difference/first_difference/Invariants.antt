use Rattle.std.proofs.Common.{◌≡◌, drop}
use Rattle.pie_linux_history.specs.Differences.{first_difference}
use Rattle.pie_linux_history.proofs.difference.first_difference.Given as goal

abbrev pub invariant-loop-column : goal.invariant-loop-column
invariant-loop-column l =
    first_difference l.step 0 l.recorded l.right ≡ first_difference l.step l.column (drop l.column l.recorded) (drop l.column l.right)
