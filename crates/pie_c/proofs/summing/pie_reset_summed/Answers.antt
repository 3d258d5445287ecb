use Rattle.pie_c.proofs.Sound.{adds_call, done-decides}
use Rattle.pie_c.proofs.summing.pie_reset_summed.Goals as goal

pub returns-clause-summed : goal.returns-clause-summed
returns-clause-summed c =
    adds_call _ _ _ _ _ _ _ _ _ _ _ c.add.ensures.settings c.add.ensures.refused c.add.ensures.taken
    (done-decides _ c.pie_reset_event-answer.result c.pie_reset_event-answer.ensures.answer) c.conditions_of.ensures
    (λ one free explains met said. c.done-noted.ensures.adds one met said explains.cause)
