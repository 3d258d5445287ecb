use Rattle.std.proofs.Common.{arith}
use Rattle.pie_linux_history.proofs.QueueFacts.{emptied-next}
use Rattle.pie_linux_history.proofs.queue.empty_flows.Goals as goal

pub loop-place-preserved : goal.loop-place-preserved
loop-place-preserved c = emptied-next c.args.queue.now c.args.flows.now.items c.args.lost.now.items c.loop-place.place c.loop-place.flows.items
    c.loop-place.lost.items c.index_mut.result.now c.empty.new.self c.empty.new.lost.items (omega arith) c.index_mut.ensures.value
    c.in_ok-empty.ensures.flow c.in_ok-empty.ensures.lost c.loop-place.invariant
