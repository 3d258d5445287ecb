use Rattle.pie_c.proofs.Sound.{adds_call, update-decides}
use Rattle.pie_c.proofs.summing.pie_update_summed.Goals as goal

pub returns-clause-summed : goal.returns-clause-summed
returns-clause-summed c =
    adds_call _ _ _ _ _ _ _ _ _ _ _ c.add.ensures.settings c.add.ensures.refused c.add.ensures.taken
    (update-decides _ _ _ c.pie_update_event-answer.result c.pie_update_event-answer.ensures.answer) c.conditions_of.ensures
    (λ one free explains met said. c.updated-noted.ensures.adds one _ _ met said explains.cause)
