use Rattle.std.proofs.Common.{◌-◌}
use Rattle.pie_linux_history.proofs.QueueFacts.{Drops}
use Rattle.pie_linux_history.proofs.queue.drop_first.Given as goal

abbrev pub invariant-loop-before : goal.invariant-loop-before
invariant-loop-before l = Drops l.fn.queue l.fn.flow l.fn.waiting.items l.count l.fn.lost.items (l.count - l.before) l.queue l.flow l.waiting.items l.lost.items
