use Rattle.std.proofs.Common.{arith, ◌∙◌, sym}
use Rattle.pie_queue.proofs.QueueFacts.{bytes-drop, IsQueue-drop}
use Rattle.pie_queue.proofs.queue.ByteQueue.take.Goals as goal

pub invariant_of-self-2 : goal.invariant_of-self-2
invariant_of-self-2 c =
    let sum = bytes-drop c.self.inside.ring.items c.in_ok-oldest.oldest (sym c.pop_front.ensures.value ∙ c.in_ok-oldest.was) in
    rw (c.pop_front.ensures.items) ((let s = c.self.invariant.0 in omega (arith, sum)), IsQueue-drop _ _ c.self.invariant.1)
