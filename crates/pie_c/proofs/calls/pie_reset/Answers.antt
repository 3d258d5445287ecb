use Rattle.pie_c.proofs.Sound.{◌∙◌, ap, rules, ControllerState, reset_refusal, with_registers, resets}
use Rattle.pie_aqm.specs.Steps.{reset}
use Rattle.pie_c.proofs.calls.pie_reset.Goals as goal

pub returns-clause-made : goal.returns-clause-made
unfolding reset_refusal
returns-clause-made c =
    let a = c.args in
    resets c.calls_are_lawful.ensures.keeps c.calls_are_lawful.ensures.looks a.state.now _ a.moment (search rules)
    (c.keep_registers.ensures ∙ ap (λ (h : ControllerState). with_registers a.state.now h)
    (c.reset.ensures ∙ ap (λ (h : ControllerState). reset h a.moment) c.raw-controller.ensures))
