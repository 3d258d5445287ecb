use Rattle.std.proofs.lemmas.Result.{IfOk-weaker}
use Rattle.pie_linux_history.proofs.QueueFacts.{steps-flow, steps-none}
use Rattle.pie_linux_history.proofs.queue.Queue.step_flow.Goals as goal

pub returns-in-Some : goal.returns-in-Some
returns-in-Some c = IfOk-weaker c.step.result _ _ (λ decision took. rw (← c.self.view_is) (steps-flow _ c.args.step.now c.place-place.result c.in-Some.flow.now
    c.step.new.queue c.step.new.self decision (rw (← c.self.view_is) at c.place-place.ensures) c.in-Some.ensures.item.3.0 c.in-Some.ensures.value took)) c.step.ensures

pub returns-in-None : goal.returns-in-None
returns-in-None c = rw (← c.self.view_is, c.other.ensures, c.no_flow.ensures) (steps-none _ c.args.step.now c.place-place.result
    (rw (← c.self.view_is) at c.place-place.ensures) c.in-None.ensures.item.3)
