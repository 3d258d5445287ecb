use Rattle.pie_explain.proofs.DecidedFacts.{decided-is}
use Rattle.pie_explain.proofs.decided_event.decide.Goals as goal

pub returns-in-Ok : goal.returns-in-Ok
returns-in-Ok c = λ origin events shows.
    decided-is c.args.core.now c.step.new.self c.args.number c.args.event.now c.args.set_by c.args.clock c.in-Ok.answer c.begin-explained.result.explanation
    c.wait_if_decided-waited.result c.registers-explained.result c.delay.result origin events (
      c.begin-explained.ensures.in_state,
      c.wait_if_decided-waited.ensures,
      c.in-Ok.ensures.answers,
      c.in-Ok.ensures.after,
      c.registers-explained.ensures.reads,
      c.delay.ensures.reads,
    ) c.in-Ok.ensures.represents shows
