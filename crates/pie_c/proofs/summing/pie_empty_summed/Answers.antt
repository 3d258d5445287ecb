use Rattle.pie_c.proofs.Sound.{adds_call, none-decides}
use Rattle.pie_c.proofs.summing.pie_empty_summed.Goals as goal

pub returns-clause-summed : goal.returns-clause-summed
returns-clause-summed c =
    adds_call _ _ _ _ _ _ _ _ _ _ _ c.add.ensures.settings c.add.ensures.refused c.add.ensures.taken
    (none-decides _ c.pie_empty_event-answer.result c.pie_empty_event-answer.ensures.answer) c.conditions_of.ensures
    (λ one free explains met said. c.empty-noted.ensures.adds one met said explains.cause)
