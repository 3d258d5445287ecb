use Rattle.std.proofs.Common.{◌≡◌, ◌++◌, length, map}
use Rattle.pie_linux_history.specs.declared.explained.Fate.TheVariants as fate
use Rattle.pie_linux_history.specs.Queue.{dropped}
use Rattle.pie_linux_history.proofs.queue.drop_all.Given as goal

abbrev pub invariant-packets : goal.invariant-packets
invariant-packets l = l.lost.items ++ map (dropped fate.Reset l.queue l.flow) l.waiting.items ≡ l.fn.lost.items ++ map (dropped fate.Reset l.queue l.flow) l.fn.waiting.items

abbrev pub decreases-packets : goal.decreases-packets
decreases-packets l = length l.waiting.items
