use Rattle.pie_c.proofs.Sound.{◌≡◌, ◌∙◌, ℕ, ap, subst, sym, verdict_number, name_of, cause, verdict, arrival_of, arrival_refusal, unless_refused, controller_state, adds_call, arrival-decides, arrival-few, arrival-place}
use Rattle.std.specs.Prelude.{Some, option_map}
use Rattle.pie_c.proofs.summing.arrive_summed.Goals as goal

pub returns-clause-summed : goal.returns-clause-summed
returns-clause-summed c = λ packets.
    let queued = c.args.queued in
    let event = c.args.event.now in
    let state = controller_state c.args.state.now in
    let decided = verdict state (arrival_of queued event.size c.args.room event.ecn event.word) in
    let answer = c.arrive-answer.result.0 in
    let is : answer ≡ unless_refused (arrival_refusal queued event.size event.ecn event.moment) (verdict_number decided) =
    subst (λ (bits : ℕ). answer ≡ unless_refused (arrival_refusal queued event.size bits event.moment)
    (verdict_number (verdict state (arrival_of queued event.size c.args.room bits event.word)))) c.from-bits.ensures
    c.arrive-answer.ensures.arrives.answer in
    adds_call _ _ _ _ _ _ _ _ _ _ _ c.add.ensures.settings c.add.ensures.refused c.add.ensures.taken
    (arrival-decides queued event.size event.ecn event.moment answer decided is) c.conditions_of.ensures
    (λ one free explains met said. c.arrived-noted.ensures.adds one decided met said
    (c.min.ensures ∙ arrival-place _ answer decided is free)
    (subst (λ (bits : ℕ). c.arrive-answer.result.1
    ≡ Some (name_of (cause state (arrival_of queued event.size c.args.room bits event.word) packets))) c.from-bits.ensures
    (c.arrive-answer.ensures.name (arrival-few _ answer decided is free) packets) ∙ sym (ap (option_map name_of) explains.cause)))
