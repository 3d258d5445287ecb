use Rattle.pie_guarantees.proofs.LawfulFacts.{AtEachEvent, ◌≡◌, ◌∙◌, refl, subst, sym, ap, Command, ControllerState, after_call, call_of, state_after, waiting_after, first-state, step_at}
use Rattle.pie_guarantees.proofs.BurstFacts.{calm-whole, reset-whole, activated-whole}
use Rattle.pie_guarantees.proofs.bursts.allowances_begin_whole.Goals as goal

-- the allowance is whole
abbrev Whole : ControllerState → Type 0
Whole h = h.control.burst ≡ h.params.max_burst

pub returns : goal.returns
unfolding AtEachEvent
returns c = record {
  opening = λ opening lawful. subst Whole (first-state opening) refl;
  reset = λ opening before event later lawful moment is.
      let step = step_at opening before event later lawful in
      subst Whole (sym (step.state ∙ ap (λ (c : Command). after_call (state_after opening before)
      (call_of (waiting_after opening before) opening.limits.packets c)) is))
      (reset-whole (state_after opening before) (waiting_after opening before) opening.limits.packets moment);
  turned_on = λ opening before event later lawful off on.
      let step = step_at opening before event later lawful in
      subst Whole (sym step.state)
      (activated-whole (state_after opening before) (waiting_after opening before) opening.limits.packets event.command off
      (sym (ap (λ (g : ControllerState). g.active) step.state) ∙ on));
  calm = λ opening before event later lawful calm.
      let step = step_at opening before event later lawful in
      subst Whole (sym step.state)
      (calm-whole (state_after opening before) (waiting_after opening before) opening.limits.packets event.command event.answer calm.update.update
      calm.update.active calm.delay calm.old_delay (sym (ap (λ (g : ControllerState). g.control.prob) step.state) ∙ calm.prob));
}
