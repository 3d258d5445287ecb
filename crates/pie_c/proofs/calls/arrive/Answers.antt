use Rattle.pie_c.specs.{Arrive}
use Rattle.pie_c.proofs.Sound.{◌≡◌, ◌==◌, ◌∙◌, ap, arith, nat_tests, Ecn, ArrivingPacket, arrived, verdict, PieState, verdict_number, arrival_of, arrival_refusal, controller_state, with_arrival, arrived-state, given_calls, kept-later, makes, name-later, verdict-later}
use Rattle.pie_c.proofs.calls.arrive.Goals as goal
use Rattle.pie_c.proofs.calls.arrive.Goals.{After-of_verdict}

module _ (c : After-of_verdict) where
  abbrev state : PieState
  state = c.args.state.now

  abbrev arrival : ArrivingPacket
  arrival = arrival_of c.args.queued c.args.size c.args.room c.args.bits c.args.word

  abbrev with_ecn : Ecn → ArrivingPacket
  with_ecn ecn = record { queued = c.args.queued; is_full = c.args.room == 0; size = c.args.size; ecn = ecn; word = c.args.word }

  taken : arrival_refusal c.args.queued c.args.size c.args.bits c.args.moment ≡ 0
  unfolding arrival_refusal
  taken = grind (c.in-Some.ensures.two, arith, nat_tests)

  left : c.keep_arrived.new.self ≡ with_arrival state (arrived (controller_state state) arrival c.args.moment)
  left = c.keep_arrived.ensures ∙ kept-later state _ _ _ c.args.moment _ _ c.reach.ensures c.raw_with-controller.ensures.controller
      c.arrive_with_name-verdict.ensures.after
      (ap with_ecn c.in-Some.ensures.value)

  decided : c.arrive_with_name-verdict.result.0 ≡ verdict (controller_state state) arrival
  decided = verdict-later state _ _ _ c.args.moment _ _ c.reach.ensures c.raw_with-controller.ensures.controller c.arrive_with_name-verdict.ensures.verdict
      (ap with_ecn c.in-Some.ensures.value)

pub returns-clause-arrives : goal.returns-clause-arrives
unfolding arrival_refusal
returns-clause-arrives c = let a = c.args in record {
  answer = rw (taken c) (c.of_verdict.ensures ∙ ap verdict_number (decided c));
  fields = rw (taken c) (left c);
  if_sound = λ sound. makes c.calls_are_lawful.ensures.keeps c.calls_are_lawful.ensures.looks a.state.now _ (Arrive (arrival c) a.moment) _ sound
      (rw (taken c) (left c ∙ arrived-state (state c) (arrival c) a.moment sound)) (given_calls a.moment _);
}

pub returns-clause-name : goal.returns-clause-name
returns-clause-name c = λ _ packets.
    name-later (state c) _ _ _ c.args.moment packets _ _ c.reach.ensures c.raw_with-controller.ensures.controller c.arrive_with_name-verdict.ensures.name
    (ap (with_ecn c) c.in-Some.ensures.value)
