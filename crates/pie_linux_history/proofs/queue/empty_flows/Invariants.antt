use Rattle.pie_linux_history.proofs.QueueFacts.{Emptied}
use Rattle.pie_linux_history.proofs.queue.empty_flows.Given as goal

abbrev pub invariant-loop-place : goal.invariant-loop-place
invariant-loop-place l = Emptied l.queue l.fn.flows.items l.fn.lost.items l.place l.flows.items l.lost.items
