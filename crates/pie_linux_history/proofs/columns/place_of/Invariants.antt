use Rattle.std.proofs.Common.{◌≡◌, drop}
use Rattle.pie_linux_history.specs.Columns.{place_from}
use Rattle.pie_linux_history.proofs.columns.place_of.Given as goal

abbrev pub invariant-loop-place : goal.invariant-loop-place
invariant-loop-place l = place_from 0 l.name l.names ≡ place_from l.place l.name (drop l.place l.names)
