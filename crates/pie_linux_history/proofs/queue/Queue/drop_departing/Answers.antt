use Rattle.pie_linux_history.proofs.QueueFacts.{drop-none}
use Rattle.pie_linux_history.proofs.queue.Queue.drop_departing.Goals as goal

pub returns-in-None : goal.returns-in-None
returns-in-None c = rw (← c.self.view_is) (drop-none _ c.args.step.now c.place.result c.args.lost.now.items c.if-not-step.false
    (rw (← c.self.view_is) at c.place.ensures) (rw c.deref.ensures.value at c.in-None.ensures.lookup.3))
