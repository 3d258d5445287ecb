use Rattle.pie_c.specs.{params_refusal}
use Rattle.pie_c.proofs.Sound.{◌∙◌, ap, rules, ControllerState, with_rate, changes}
use Rattle.pie_aqm.specs.Steps.{changed}
use Rattle.pie_c.proofs.calls.pie_set_params.Goals as goal

pub returns-clause-made : goal.returns-clause-made
unfolding params_refusal
returns-clause-made c =
    let a = c.args in
    changes c.calls_are_lawful.ensures.keeps c.calls_are_lawful.ensures.looks a.state.now _ a.params.now a.moment (search rules)
    (c.keep_departed.ensures ∙ ap (with_rate (record a.state.now { params = a.params.now })) c.set_params.ensures
    ∙ ap (λ (h : ControllerState). with_rate (record a.state.now { params = a.params.now }) (changed h a.params.now a.moment)) c.raw-controller.ensures)
