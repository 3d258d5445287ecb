use Rattle.std.proofs.Common.{◌≡◌, ◌-◌, ◌^◌, take}
use Rattle.std.specs.Prelude.{min}
use Rattle.pie_units.specs.Number.{number_after}
use Rattle.pie_units.proofs.number.number_after.Given as goal

abbrev pub invariant-more : goal.invariant-more
invariant-more l = l.number ≡ min (number_after l.before (take l.i l.digits)) (2 ^ 128 - 1)
