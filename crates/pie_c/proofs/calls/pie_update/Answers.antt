use Rattle.pie_c.specs.{updated_with}
use Rattle.pie_c.proofs.Sound.{◌≡◌, ◌∙◌, true, ap, arith, rules, subst, sym, ControllerState, IsSound, updated, update_refusal, controller_state, is_sound, state_of, makes, controller-sound}
use Rattle.pie_aqm.specs.Calls.{Update}
use Rattle.pie_c.proofs.calls.pie_update.Goals as goal
use Rattle.pie_c.proofs.calls.pie_update.Goals.{After-made, After-made-2}

pub is_too_soon-requires : goal.is_too_soon-requires
is_too_soon-requires c = rw c.raw-controller.ensures (controller-sound c.args.state.now (sym c.is_sound.ensures ∙ c.if-not-is_sound.false))

pub made-requires : goal.made-requires
made-requires c = rw c.raw-controller.ensures (controller-sound c.args.state.now (sym c.is_sound.ensures ∙ c.if-not-is_sound.false))

too_soon : (c : After-made) → update_refusal c.args.state.now c.args.queued c.args.moment ≡ 103
unfolding controller_state update_refusal
too_soon c = search rules

pub returns-then-is_too_soon-clause-answer : goal.returns-then-is_too_soon-clause-answer
unfolding controller_state
returns-then-is_too_soon-clause-answer c =
    rw (too_soon c, c.made.ensures) (ap (λ (h : ControllerState). updated_with 103 h.control.old_delay h) c.raw-controller.ensures)

pub update-delay-requires-clause-sound : goal.update-delay-requires-clause-sound
update-delay-requires-clause-sound c = rw c.raw-controller.ensures (controller-sound c.args.state.now (sym c.is_sound.ensures ∙ c.if-not-is_sound.false))

pub made-requires-2 : goal.made-requires-2
made-requires-2 c =
    let a = c.args in
    subst IsSound (sym (c.update-delay.ensures.after ∙ ap (λ (h : ControllerState). updated h a.queued a.moment) c.raw-controller.ensures))
    (c.calls_are_lawful.ensures.keeps (controller_state a.state.now) (controller-sound a.state.now (sym c.is_sound.ensures ∙ c.if-not-is_sound.false)) (Update a.queued a.moment)
    (omega arith))

taken : (c : After-made-2) → update_refusal c.args.state.now c.args.queued c.args.moment ≡ 0
unfolding controller_state update_refusal
taken c = search rules

after : (c : After-made-2) → c.update-delay.new.self ≡ updated (controller_state c.args.state.now) c.args.queued c.args.moment
after c = c.update-delay.ensures.after ∙ ap (λ (h : ControllerState). updated h c.args.queued c.args.moment) c.raw-controller.ensures

pub returns-clause-made : goal.returns-clause-made
returns-clause-made c =
    let a = c.args in
    let sound : is_sound a.state.now ≡ true = sym c.is_sound.ensures ∙ c.if-not-is_sound.false in
    makes c.calls_are_lawful.ensures.keeps c.calls_are_lawful.ensures.looks a.state.now _ (Update a.queued a.moment) (update_refusal a.state.now a.queued a.moment) sound
    (rw (taken c) (c.keep_updated.ensures ∙ ap state_of (after c))) (λ free. omega arith)
