use Rattle.std.proofs.Common.{◌≡◌, replicate}
use Rattle.pie_linux_history.specs.Queue.{first_flow}
use Rattle.pie_linux_history.proofs.queue.first_flows.Given as goal

abbrev pub invariant-loop-place : goal.invariant-loop-place
invariant-loop-place l = l.flows.items ≡ replicate l.place (first_flow l.step)
