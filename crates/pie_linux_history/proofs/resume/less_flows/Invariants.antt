use Rattle.std.specs.Prelude.{◌≡◌, drop}
use Rattle.std.specs.List.{fold}
use Rattle.pie_linux_history.specs.Cuts.{less_flow}
use Rattle.pie_linux_history.proofs.resume.less_flows.Given as goal

abbrev pub invariant-loop-place : goal.invariant-loop-place
invariant-loop-place l = fold less_flow l.left (drop l.place l.flows) ≡ fold less_flow l.memory l.flows
