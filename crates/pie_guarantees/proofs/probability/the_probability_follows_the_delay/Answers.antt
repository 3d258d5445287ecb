use Rattle.pie_guarantees.proofs.LawfulFacts.{AtEachEvent, ◌≤◌, arith, subst, sym, [], append-nil, in-range, ControllerState, state_after, params_after, probability_after, waiting_after, sound_at, step_at}
use Rattle.pie_guarantees.proofs.ProbabilityFacts.{next_capped, next_decays, next_down, next_up, prob-next, stays-or-zero}
use Rattle.pie_guarantees.proofs.probability.the_probability_follows_the_delay.Goals as goal

pub returns : goal.returns
unfolding AtEachEvent
returns c = record {
  bounded = λ opening history lawful. (sound_at opening history [] (rw (append-nil history) lawful)).0.prob;
  rises = λ opening before event later lawful active above risen.
      let step = step_at opening before event later lawful in
      let target = (in-range (params_after opening before) step.sound.params).target in
      let least = target.0 in
      rw (prob-next opening before event step active) (next_up _ _ _ _ _ step.sound.prob (omega arith) above risen);
  falls = λ opening before event later lawful active below fallen.
      rw (prob-next opening before event (step_at opening before event later lawful) active) (next_down _ _ _ _ _ below fallen);
  capped = λ opening before event later lawful active capped large.
      rw (prob-next opening before event (step_at opening before event later lawful) active) (next_capped _ _ _ _ _ capped large);
  decays = λ opening before event later lawful active low fallen.
      rw (prob-next opening before event (step_at opening before event later lawful) active) (next_decays _ _ _ _ _ low fallen);
  nothing_else_raises = λ opening before event later lawful other.
      let step = step_at opening before event later lawful in
      subst (λ (g : ControllerState). g.control.prob ≤ probability_after opening before) (sym step.state)
      (stays-or-zero (state_after opening before) (waiting_after opening before) opening.limits.packets event.command event.answer other);
}
