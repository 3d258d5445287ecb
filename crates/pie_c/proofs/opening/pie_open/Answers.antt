use Rattle.pie_c.proofs.Sound.{◌≡◌, ◌∙◌, sym, opening_refusal, opening_state, elements_of, profile_of, opened-state, opening-free, opening-taken, controller-of-state, params-from, state-sound}
use Rattle.pie_c.proofs.opening.pie_open.Goals as goal
use Rattle.pie_c.proofs.opening.pie_open.Goals.{After-calls_look_back}

free : (c : After-calls_look_back) → opening_refusal c.args.opening.now ≡ 0
free c = opening-free c.args.opening.now c.in-Ok.it (sym c.checked.ensures ∙ c.in-Ok.is)

pub returns-clause-after : goal.returns-clause-after
returns-clause-after c =
    let says = sym c.checked.ensures ∙ c.in-Ok.is in
    rw (free c) (c.keep_registers.ensures
    ∙ opened-state c.args.state.now c.args.opening.now c.in-Ok.it c.raw.result c.opened-controller.result says c.raw.ensures.same c.opened-controller.ensures)

pub returns-clause-sound : goal.returns-clause-sound
returns-clause-sound c taken =
    let o = c.args.opening.now in
    let opens = opening-taken o taken in
    rw (returns-clause-after c, taken)
    (state-sound _ (c.calls_keep_it_sound.ensures.opens (profile_of o.profile) (elements_of o.choices) o.params o.moment
    (params-from o.params opens.0) opens.1))

pub returns-clause-represents : goal.returns-clause-represents
returns-clause-represents c taken =
    let o = c.args.opening.now in
    rw (returns-clause-after c, taken, controller-of-state (opening_state o))
    (c.calls_look_back.ensures.opens (profile_of o.profile) (elements_of o.choices) o.params o.moment)
