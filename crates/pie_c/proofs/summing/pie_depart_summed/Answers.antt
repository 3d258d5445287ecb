use Rattle.pie_c.proofs.Sound.{◌∙◌, refl, sym, capped, departed, waited_refusal, controller_state, adds_call, done-decides, unmoved}
use Rattle.pie_c.proofs.summing.pie_depart_summed.Goals as goal

pub returns-clause-summed : goal.returns-clause-summed
returns-clause-summed c =
    let before = c.args.state.now in
    let after = c.pie_depart_waited-answer.new.state in
    let event = c.args.event.now in
    let same = unmoved before after (waited_refusal before event.size c.args.left c.args.arrived event.moment)
    (departed (capped (controller_state before)) event.size c.args.left c.args.arrived event.moment) c.pie_depart_waited-answer.ensures.steps.fields in
    adds_call _ _ _ before after _ _ _ _ _ _ c.add.ensures.settings c.add.ensures.refused c.add.ensures.taken
    (done-decides _ c.pie_depart_waited-answer.result c.pie_depart_waited-answer.ensures.answer) (c.conditions_of-met.ensures ∙ same)
    (λ one free explains met said.
    c.left-noted.ensures.adds one _ met said refl (explains.waited ∙ sym c.saturating_sub-waited.ensures) explains.cause)
