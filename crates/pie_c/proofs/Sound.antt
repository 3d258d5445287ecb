-- A state contains a controller's state, and is sound if that is.
pub use Rattle.pie_c.specs.State.{Opening}
pub use Rattle.pie_c.specs.{last_moment, profile_number, profile_of, opening_in, opening_of, is_bad_size, verdict_number, PieOpening, RawParams, Depart, ControllerState, IsSound, arrived, capped, departed, opened, updated, arrival_of, departure_refusal, if_taken, unless_refused, waited_refusal, opening_state, takes_stamps, with_arrival, with_departure, with_rate, with_registers, PieState, Event, first_bad, default_profile, Ecn}
unfoldable pub use Rattle.pie_c.specs.{choices_of, elements_of, opening_refusal, are_in_range, cause, verdict, arrival_refusal, moment_refusal, packet_refusal, reset_refusal, update_refusal, controller_state, is_activity_sound, is_rate_sound, is_sound, state_of}
pub use Rattle.std.proofs.Common.{Bool, List, None, Some, [], ap, arith, false, if◌then◌else◌, min, nat_le, nat_lt, refl, rules, subst, suc, sym, true, ℕ, ◌++◌, ◌<◌, ◌==◌, ◌^◌, ◌∙◌, ◌∷◌, ◌≡◌, ◌≤◌}
pub use Rattle.std.proofs.lemmas.Bool.{eqb-true}
pub use Rattle.std.proofs.lemmas.Bool.Decides.{nat_tests}
pub use Rattle.pie_aqm.specs.Steps.{advanced, with_count}
unfoldable pub use Rattle.pie_aqm.specs.Steps.{accu_left, count_kept_open, is_between_cycles}
pub use Rattle.pie_aqm.specs.declared.verdict.ArrivingPacket.{ArrivingPacket}
unfoldable pub use Rattle.pie_book.specs.History.{waiting_after}
pub use Rattle.pie_event.specs.Cause.{name_of}
pub use Rattle.pie_event.specs.declared.cause.CauseName.{CauseName}
pub use Rattle.pie_event.specs.declared.opening.Profile.TheVariants.{One}
pub use Rattle.pie_event.specs.declared.command.Verdict.{Verdict}
pub use Rattle.pie_params.specs.Params.{usual}
pub use Rattle.pie_params.specs.declared.elements.Decay.TheVariants.{Half}
pub use Rattle.pie_params.specs.declared.elements.Delay.TheVariants.{Stamp}
pub use Rattle.pie_params.specs.declared.elements.Picking.TheVariants.{Random}
pub use Rattle.pie_params.specs.declared.elements.Size.TheVariants.{Scaled}
pub use Rattle.pie_params.specs.declared.elements.Step.TheVariants.{Uncapped}
use Rattle.pie_c.specs.{Begun, count_of, flag, flag_of, start_of, Cause, answer_of, Clock, Explained, LiveInterval, Conditions, Holds, IsSet, HasConditions, clock_of, meter_input_of, updated_by, Adds, ExplainsCall, conditions_of, cause_after, state_after, wait_of, effect_of, Setter, explanation, moment_of, with_after, Arrive, Call, Change, IsTaken, Advance, Restart, after_call, event_of_call, ControllerEvent, Opened, Represents, Arrives, Departs, Leaves, Makes, Advances, Steps, params_refusal, KeepsSound, LooksBack, flat_map, Waiting, rows_text, text_of, event_row, written_rows, queued_row, resumed_rows, PieStats, WrittenEvent, opening_text, event_of_written, written_text, CanWait, bits_of, is_snapshot, queued_text, resume_of, resume_text, set_by_of, snapshot_in, waiting_text}
use Rattle.std.proofs.Common.{Option, is_none, zero, max, Ok}
use Rattle.pie_event.specs.declared.opening.Profile.{Profile}
use Rattle.pie_params.specs.declared.elements.Elements.{Elements}
use Rattle.pie_aqm.specs.Steps.{IsWithin, changed, reset}
use Rattle.pie_explain.specs.declared.meter_input.MeterInput.{MeterInput}
use Rattle.pie_explain.specs.Sums.{answer_place, size_by, size_in}
use Rattle.std.specs.Bool.{Decides}
use Rattle.pie_book.specs.Decision.{registers_after}
use Rattle.std.specs.Prelude.{IsTrue, All, map}
use Rattle.pie_params.specs.Params.{is_dq_threshold}
use Rattle.std.proofs.lemmas.Grind.{flat_map-append}

-- ---- The optional elements of flags

few-choices : (e : Elements) → choices_of e ≤ 31
unfolding choices_of
few-choices e = grind (arith, nat_tests)

elements-back : (e : Elements) → elements_of (choices_of e) ≡ e
unfolding elements_of choices_of
elements-back e = grind (arith, nat_tests)

pub choices-back : (n : ℕ) → n ≤ 31 → choices_of (elements_of n) ≡ n
unfolding elements_of choices_of
choices-back n few = grind (arith, nat_tests)

-- at most the first flag is set
pub nearly_usual : (n : ℕ) → n ≤ 1 → elements_of n ≡ (if n == 1 then record usual { delay = Stamp } else usual)
unfolding elements_of
nearly_usual zero h = refl
nearly_usual (suc zero) h = refl
nearly_usual (suc (suc n)) h = absurd (omega (arith, h))

-- ---- The controller's state of the state of a controller is the same

pub controller-of-state : (h : ControllerState) → controller_state (state_of h) ≡ h
unfolding controller_state state_of
controller-of-state h = let back = elements-back h.elements in grind (arith, nat_tests)

-- ---- Soundness

pub params-from : (p : RawParams) → are_in_range p ≡ true → first_bad p ≡ None
unfolding are_in_range
params-from p e = grind (arith, nat_tests)

params-to : (p : RawParams) → first_bad p ≡ None → are_in_range p ≡ true
unfolding are_in_range
params-to p e = ap is_none e

-- the facts about a sound state that involve more than one number
fits : (s : PieState) → is_sound s ≡ true → (is_rate_sound s ≡ true) × (is_activity_sound s ≡ true) × (s.choices ≤ 31)
unfolding is_sound
fits s sound = (grind (arith, nat_tests), grind (arith, nat_tests), grind (arith, nat_tests))

within : (s : PieState) → is_rate_sound s ≡ true → (s.average < 2 ^ 60) × IsWithin s.params.dq_threshold s.moment (controller_state s).rate.begun
unfolding is_rate_sound controller_state
within s h = (grind (arith, nat_tests), grind (arith, nat_tests))

one-at : (s : PieState) → is_activity_sound s ≡ true → profile_of s.profile ≡ One → (s.active == 1) ≡ true
unfolding is_activity_sound
one-at s h one = grind (arith, nat_tests)

pub controller-sound : (s : PieState) → is_sound s ≡ true → IsSound (controller_state s)
unfolding controller_state is_sound
controller-sound s h = record {
  params = params-from s.params (grind (arith, nat_tests));
  moment = grind (arith, nat_tests);
  prob = grind (arith, nat_tests);
  old_delay = grind (arith, nat_tests);
  burst = grind (arith, nat_tests);
  last = grind (arith, nat_tests);
  accu = grind (arith, nat_tests);
  average = (within s (fits s h).0).0;
  cycle = (within s (fits s h).0).1;
  waited = grind (arith, nat_tests);
  active = one-at s (fits s h).1;
}

rate-to : (s : PieState) (o : Option Begun) → s.average < 2 ^ 60 → s.measuring ≡ flag_of o → s.cycle_start ≡ start_of o → s.cycle_count ≡ count_of o
    → IsWithin s.params.dq_threshold s.moment o → is_rate_sound s ≡ true
unfolding is_rate_sound
rate-to s o a f t c w = grind (arith, nat_tests)

activity-to : (profile : Profile) (active : Bool) (s : PieState) → s.profile ≡ profile_number profile → s.active ≡ flag active
    → (profile ≡ One → active ≡ true) → is_activity_sound s ≡ true
unfolding is_activity_sound
activity-to profile active s p a always = grind (arith, nat_tests)

pub state-sound : (h : ControllerState) → IsSound h → is_sound (state_of h) ≡ true
unfolding state_of is_sound
state-sound h sound =
    let params : are_in_range h.params ≡ true = params-to h.params sound.params in
    let rate : is_rate_sound (state_of h) ≡ true = rate-to (state_of h) h.rate.begun sound.average refl refl refl sound.cycle in
    let activity : is_activity_sound (state_of h) ≡ true = activity-to h.profile h.active (state_of h) refl refl sound.active in
    let few : choices_of h.elements ≤ 31 = few-choices h.elements in
    grind (arith, nat_tests)

-- ---- A sound state is the state of its controller, so a call may write only the changed fields

pub state-of-controller : (s : PieState) → is_sound s ≡ true → state_of (controller_state s) ≡ s
unfolding controller_state state_of is_rate_sound is_activity_sound
state-of-controller s sound =
    let fit = (fits s sound).0 in
    let known = (fits s sound).1 in
    let back = choices-back s.choices (fits s sound).2 in
    grind (arith, nat_tests)

pub kept_updated : (s : PieState) (h : ControllerState) → is_sound s ≡ true
    → h ≡ record (controller_state s) { moment = h.moment; active = h.active; control = h.control }
    → record s {
      moment = h.moment;
      prob = h.control.prob;
      old_delay = h.control.old_delay;
      burst = h.control.burst;
      last = h.control.last;
      active = flag h.active;
    } ≡ state_of h
unfolding controller_state state_of
kept_updated s h sound is = let back = state-of-controller s sound in grind (arith, nat_tests)

-- ---- Facts about the events that the summing calls add to an interval's sums.

-- a departure does not change its conditions
pub unmoved : (before after : PieState) (refusal : ℕ) (state : ControllerState) → after ≡ if_taken refusal before (with_departure before state)
    → conditions_of (after.active == 1) after.params.target after.last after ≡ conditions_of (before.active == 1) before.params.target before.last after
unmoved before after refusal state is = grind (arith, nat_tests)

-- a call adds its event as `Adds` states, if its flag is true exactly without a refusal, and the event is recorded as
-- `noted` if the fields for its kind are
pub adds_call : (refusal : ℕ) (before after : LiveInterval) (s t : PieState) (made : Event) (decided : Option Cause) (wait : ℕ) (taken : Bool)
    (met : Conditions) (noted : MeterInput) → IsSet before after → (taken ≡ false → after ≡ before)
    → ((all : List Explained) (one : Explained) → taken ≡ true → noted ≡ meter_input_of one → one.explanation.clock ≡ clock_of before
    → Holds before all → Holds after (all ++ one ∷ []))
    → Decides taken (refusal ≡ 0) → met ≡ conditions_of (s.active == 1) s.params.target s.last t
    → ((one : Explained) → refusal ≡ 0 → ExplainsCall s t (clock_of before) made decided wait one → HasConditions met one
    → one.explanation.event.answer ≡ made.answer → size_in one ≡ size_by made.command → noted ≡ meter_input_of one)
    → Adds refusal before after (ExplainsCall s t (clock_of before) made decided wait)
adds_call refusal before after s t made decided wait taken met noted set same adds decides is notes = record {
  refused = λ r. grind (arith, same, decides);
  settings = set;
  adds = λ all one free explains holds.
      adds all one (decides.1 free) (notes one free explains (subst (λ (m : Conditions). HasConditions m one) (sym is) explains.meets)
      (ap (λ (e : Event). e.answer) explains.event) (ap (λ (e : Event). size_by e.command) explains.event)) explains.clock holds;
}

-- ---- The refusal from the return value

-- the return value is a verdict exactly if the arrival was accepted
pub arrival-decides : (queued size ecn moment answer : ℕ) (verdict : Verdict)
    → answer ≡ unless_refused (arrival_refusal queued size ecn moment) (verdict_number verdict)
    → Decides (nat_le answer 4) (arrival_refusal queued size ecn moment ≡ 0)
unfolding arrival_refusal
arrival-decides queued size ecn moment answer verdict is =
    (λ few. grind (arith, nat_tests), λ free. grind (arith, nat_tests))

-- a call that returns its refusal
pub done-decides : (refusal answer : ℕ) → answer ≡ refusal → Decides (answer == 0) (refusal ≡ 0)
done-decides refusal answer is = (λ so. grind (arith, nat_tests), λ free. grind (arith, nat_tests))

-- an accepted arrival returns a verdict
pub arrival-few : (refusal answer : ℕ) (verdict : Verdict) → answer ≡ unless_refused refusal (verdict_number verdict) → refusal ≡ 0 → answer ≤ 4
arrival-few refusal answer verdict is taken = grind (arith, nat_tests)

-- the counter of an accepted arrival
pub arrival-place : (refusal answer : ℕ) (verdict : Verdict) → answer ≡ unless_refused refusal (verdict_number verdict) → refusal ≡ 0
    → min answer 8 ≡ answer_place (answer_of verdict)
arrival-place refusal answer verdict is taken = grind (arith, nat_tests)

-- a departure that found no packet returns 5, which is not a refusal
pub none-decides : (moment answer : ℕ) → answer ≡ unless_refused (moment_refusal moment) 5 → Decides (answer == 5) (moment_refusal moment ≡ 0)
unfolding moment_refusal
none-decides moment answer is = (λ so. grind (arith, nat_tests), λ free. grind (arith, nat_tests))

-- an update returns 0 exactly if it was made
pub update-decides : (state : PieState) (queued moment answer : ℕ) → answer ≡ (updated_by state queued moment).code
    → Decides (answer == 0) (update_refusal state queued moment ≡ 0)
update-decides state queued moment answer is = (λ so. grind (arith, nat_tests), λ free. grind (arith, nat_tests))

-- ---- The added event is the explained one

pub explained : (opening : Opening) (history : List Event) (made : Event) (before after : PieState) (number : ℕ) (set_by : Setter) (day : Option Clock)
    → controller_state before ≡ state_after opening history → controller_state after ≡ state_after opening (history ++ made ∷ [])
    → after.moment ≡ moment_of opening history made
    → ExplainsCall before after day made (cause_after opening history made.command) (wait_of (effect_of made) after.moment (waiting_after opening history))
    (with_after opening (history ++ made ∷ []) (explanation opening history number made set_by day))
unfolding explanation controller_state registers_after
explained opening history made before after number set_by day held left moment = record {
  event = refl;
  cause = refl;
  waited = ap (λ (at : ℕ). wait_of (effect_of made) at (waiting_after opening history)) (sym moment);
  clock = refl;
  meets = λ i. record {
    moment = sym moment i;
    was_active = ap (λ (h : ControllerState). h.active) (sym held) i;
    is_active = ap (λ (h : ControllerState). h.active) (sym left) i;
    old_target = ap (λ (h : ControllerState). h.params.target) (sym held) i;
    last_update = ap (λ (h : ControllerState). h.control.last) (sym held) i;
    prob = ap (λ (h : ControllerState). h.control.prob) (sym left) i;
    burst = ap (λ (h : ControllerState). h.control.burst) (sym left) i;
    target = ap (λ (h : ControllerState). h.params.target) (sym left) i;
  };
}

-- The state after a call for a packet is the controller's state, if it was sound.

-- ---- A call that is accepted

-- the numbers of an accepted opening
pub opening-taken : (o : PieOpening) → opening_refusal o ≡ 0 → (are_in_range o.params ≡ true) × (o.moment < 2 ^ 60)
unfolding opening_refusal
opening-taken o free = (grind (arith, nat_tests), grind (arith, nat_tests))

-- an opening with a result is accepted
pub opening-free : (o : PieOpening) (it : Opening) → opening_of o ≡ Ok it → opening_refusal o ≡ 0
opening-free o it is = grind (arith, nat_tests)

threshold-in : (params : RawParams) → first_bad params ≡ None → params.dq_threshold ≤ 65536
threshold-in params good =
    let power : IsTrue (is_dq_threshold params.dq_threshold) = grind (arith, nat_tests) in
    grind (arith, nat_tests, power)

pub threshold-small : (s : PieState) → is_sound s ≡ true → (controller_state s).params.dq_threshold ≤ 65536
unfolding controller_state
threshold-small s sound = threshold-in s.params (controller-sound s sound).params

-- ---- A sound state after a call stays sound and represents the call

-- the moment of an accepted call is in its range
pub given_calls : (moment rest : ℕ) → (if nat_lt last_moment moment then 101 else rest) ≡ 0 → moment < 2 ^ 60
given_calls moment rest free = grind (arith, nat_tests)

pub departed-moment : (size left moment rest : ℕ) → unless_refused (packet_refusal size left moment) rest ≡ 0 → moment < 2 ^ 60
unfolding packet_refusal
departed-moment size left moment rest free = grind (arith, nat_tests)

module _ (s t : PieState) (call : Call) (refusal : ℕ) (keeps : KeepsSound) (looks : LooksBack) (sound : is_sound s ≡ true)
    (left : t ≡ if_taken refusal s (state_of (after_call (controller_state s) call))) where
  pub stays-sound : (refusal ≡ 0 → IsTaken call) → is_sound t ≡ true
  stays-sound taken = rw left (by (refusal == 0) (λ is. taken (eqb-true refusal 0 is)))
    where
      by : (free : Bool) → (free ≡ true → IsTaken call) → is_sound (if free then state_of (after_call (controller_state s) call) else s) ≡ true
      by true taken = state-sound _ (keeps (controller_state s) (controller-sound s sound) call (taken refl))
      by false taken = sound

  pub represents-call : (o : Opened) (events : List ControllerEvent) → refusal ≡ 0 → Represents o events (controller_state s)
      → Represents o (events ++ event_of_call (controller_state s) call ∷ []) (controller_state t)
  represents-call o events free shows =
      rw (left, free, controller-of-state (after_call (controller_state s) call)) (looks o events (controller_state s) shows (threshold-small s sound) call)

-- all three facts
pub makes : KeepsSound → LooksBack → (s t : PieState) (call : Call) (refusal : ℕ) → is_sound s ≡ true
    → t ≡ if_taken refusal s (state_of (after_call (controller_state s) call)) → (refusal ≡ 0 → IsTaken call) → Makes s call refusal t
makes keeps looks s t call refusal sound left taken = record {
  after = left;
  sound = λ _. stays-sound s t call refusal keeps looks sound left taken;
  represents = represents-call s t call refusal keeps looks sound left;
}

-- ---- The state after a call

pub arrived-state : (s : PieState) (a : ArrivingPacket) (moment : ℕ) → is_sound s ≡ true
    → with_arrival s (arrived (controller_state s) a moment) ≡ state_of (arrived (controller_state s) a moment)
unfolding controller_state state_of
arrived-state s a moment sound = let back = state-of-controller s sound in grind (arith, nat_tests)

-- if delays come from the rate, the packet's arrival is irrelevant
pub by-rate : (s : PieState) (size left since moment : ℕ) → takes_stamps s ≡ false
    → with_rate s (departed (capped (controller_state s)) size left 0 moment) ≡ with_departure s (departed (capped (controller_state s)) size left since moment)
unfolding controller_state elements_of
by-rate s size left since moment is = rw is refl

-- each field after a departure, for either source of delays
left-in : (s t : PieState) (size left since moment refusal : ℕ) → is_sound s ≡ true
    → t ≡ if_taken refusal s (with_departure s (departed (capped (controller_state s)) size left since moment))
    → t ≡ if_taken refusal s (state_of (departed (controller_state s) size left since moment))
unfolding controller_state state_of elements_of
left-in s t size left since moment refusal sound is =
    let back = state-of-controller s sound in
    let few = threshold-small s sound in
    grind (arith, nat_tests)

left-by : KeepsSound → LooksBack → (s t : PieState) (size left since moment rest : ℕ) → let refusal = unless_refused (packet_refusal size left moment) rest in
    t ≡ if_taken refusal s (with_departure s (departed (capped (controller_state s)) size left since moment))
    → Leaves s (Depart size left since moment) refusal t
left-by keeps looks s t size left since moment rest is sound =
    makes keeps looks s t (Depart size left since moment) (unless_refused (packet_refusal size left moment) rest) sound
    (left-in s t size left since moment _ sound is) (departed-moment size left moment rest)

pub departs : KeepsSound → LooksBack → (s t : PieState) (size left since moment : ℕ)
    → t ≡ if_taken (waited_refusal s size left since moment) s (with_departure s (departed (capped (controller_state s)) size left since moment))
    → Departs s size left since moment t
departs keeps looks s t size left since moment is = record { fields = is; if_sound = left-by keeps looks s t size left since moment _ is }

-- each field after a departure that is refused if delays come from time stamps
pub departs_by_rate : KeepsSound → LooksBack → (s t : PieState) (size left moment : ℕ)
    → t ≡ if_taken (departure_refusal s size left moment) s (with_rate s (departed (capped (controller_state s)) size left 0 moment))
    → Steps s (Depart size left 0 moment) (departure_refusal s size left moment) (with_rate s (departed (capped (controller_state s)) size left 0 moment)) t
departs_by_rate keeps looks s t size left moment is = record {
  fields = is;
  if_sound = left-by keeps looks s t size left 0 moment _ (grind (arith, nat_tests, by-rate s size left 0 moment));
}

-- a departure that leaves the open cycle open is accepted, and changes only the count and the moment
pub counted-taken : (s : PieState) (h : ControllerState) (size left moment count : ℕ) → h ≡ controller_state s → count_kept_open h size ≡ Some count
    → moment ≤ last_moment → left ≤ 2 ^ 30 → 0 < size → departure_refusal s size left moment ≡ 0
unfolding controller_state count_kept_open elements_of packet_refusal
counted-taken s h size left moment count is kept m few some = grind (arith, nat_tests)

pub counted-state : (s : PieState) (h : ControllerState) (size left moment count : ℕ) → h ≡ controller_state s → count_kept_open h size ≡ Some count
    → departed (capped h) size left 0 moment ≡ with_count (capped h) count moment
    → record s { moment = max s.moment moment; cycle_count = count } ≡ with_rate s (departed (capped (controller_state s)) size left 0 moment)
unfolding controller_state count_kept_open elements_of
counted-state s h size left moment count is kept alone = grind (arith, nat_tests)

-- a departure that meets no open cycle and opens none is accepted, and changes only the moment
pub unmeasured-taken : (s : PieState) (h : ControllerState) (size left moment : ℕ) → h ≡ controller_state s → is_between_cycles h left ≡ true → moment ≤ last_moment
    → is_bad_size size ≡ false → departure_refusal s size left moment ≡ 0
unfolding controller_state is_between_cycles elements_of packet_refusal
unmeasured-taken s h size left moment is none m good = grind (arith, nat_tests)

pub unmeasured-state : (s : PieState) (h : ControllerState) (size left moment : ℕ) → h ≡ controller_state s → is_between_cycles h left ≡ true
    → departed (capped h) size left 0 moment ≡ advanced (capped h) moment
    → record s { moment = max s.moment moment; measuring = 0; cycle_start = 0; cycle_count = 0 }
    ≡ with_rate s (departed (capped (controller_state s)) size left 0 moment)
unfolding controller_state is_between_cycles elements_of
unmeasured-state s h size left moment is none alone = grind (arith, nat_tests)

pub passes : KeepsSound → LooksBack → (s t : PieState) (moment : ℕ)
    → t ≡ if_taken (moment_refusal moment) s (record s { moment = max s.moment moment }) → Advances s moment t
unfolding moment_refusal controller_state state_of
passes keeps looks s t moment is = record {
  fields = is;
  if_sound = λ sound. let back = state-of-controller s sound in
      makes keeps looks s t (Advance moment) (moment_refusal moment) sound (grind (arith, nat_tests)) (given_calls moment _);
}

-- an arrival at a state that already has its moment
abbrev pub at_later : PieState → ℕ → PieState
at_later s moment = record s { moment = max s.moment moment }

pub kept-later : (s t : PieState) (a b : ArrivingPacket) (moment : ℕ) (h g : ControllerState) → t ≡ at_later s moment
    → h ≡ controller_state t → g ≡ arrived h a t.moment → a ≡ b
    → with_arrival t g ≡ with_arrival s (arrived (controller_state s) b moment)
unfolding controller_state accu_left verdict
kept-later s t a b moment h g at held after same = grind (arith, nat_tests)

pub verdict-later : (s t : PieState) (a b : ArrivingPacket) (moment : ℕ) (h : ControllerState) (v : Verdict) → t ≡ at_later s moment
    → h ≡ controller_state t → v ≡ verdict h a
    → a ≡ b
    → v ≡ verdict (controller_state s) b
unfolding controller_state verdict
verdict-later s t a b moment h v at held is same = rw (is, held, same, at) refl

-- the name of its cause, which does not depend on the moment
pub name-later : (s t : PieState) (a b : ArrivingPacket) (moment packets : ℕ) (h : ControllerState) (name : CauseName) → t ≡ at_later s moment
    → h ≡ controller_state t
    → ((n : ℕ) → name ≡ name_of (cause h a n)) → a ≡ b
    → Some name ≡ Some (name_of (cause (controller_state s) b packets))
unfolding controller_state cause
name-later s t a b moment packets h name at held is same = ap Some (is packets ∙ rw (held, same, at) refl)

-- ---- The state after the other calls

reset-taken : (s : PieState) (moment : ℕ) → reset_refusal s moment ≡ 0 → (is_sound s ≡ true) × (moment < 2 ^ 60)
unfolding reset_refusal
reset-taken s moment free = (grind (arith, nat_tests), grind (arith, nat_tests))

pub resets : KeepsSound → LooksBack → (s t : PieState) (moment : ℕ) → reset_refusal s moment ≡ 0 → t ≡ with_registers s (reset (controller_state s) moment)
    → Makes s (Restart moment) (reset_refusal s moment) t
unfolding controller_state state_of
resets keeps looks s t moment free is = let taken = reset-taken s moment free in let back = state-of-controller s taken.0 in
    makes keeps looks s t (Restart moment) (reset_refusal s moment) taken.0 (grind (arith, nat_tests)) (λ _. taken.1)

change-taken : (s : PieState) (params : RawParams) (moment : ℕ) → params_refusal s params moment ≡ 0
    → (is_sound s ≡ true) × (are_in_range params ≡ true) × (moment < 2 ^ 60)
unfolding params_refusal
change-taken s params moment free = (grind (arith, nat_tests), grind (arith, nat_tests), grind (arith, nat_tests))

pub changes : KeepsSound → LooksBack → (s t : PieState) (params : RawParams) (moment : ℕ) → params_refusal s params moment ≡ 0
    → t ≡ with_rate (record s { params = params }) (changed (controller_state s) params moment)
    → Makes s (Change params moment) (params_refusal s params moment) t
unfolding controller_state state_of
changes keeps looks s t params moment free is = let taken = change-taken s params moment free in let back = state-of-controller s taken.0 in
    makes keeps looks s t (Change params moment) (params_refusal s params moment) taken.0 (grind (arith, nat_tests))
    (λ _. (taken.2, params-from params taken.1))

pub opened-state : (s : PieState) (o : PieOpening) (it : Opening) (raw : RawParams) (h : ControllerState) → opening_of o ≡ Ok it → raw ≡ it.params
    → h ≡ opened it.choices.profile it.choices.elements raw it.moment
    → with_registers (record s { params = o.params; profile = o.profile; choices = o.choices }) h ≡ state_of (opening_state o)
unfolding opening_refusal state_of
opened-state s o it raw h says same is = let back = choices-back o.choices in grind (arith, nat_tests)

-- ---- The texts of waiting packets and of events are their records.

event-written : (k : WrittenEvent) (e : Event) → event_of_written k ≡ Some e → written_text k ≡ text_of (event_row e)
event-written k e is = grind (arith, nat_tests)

events-written : (kept : List WrittenEvent) (events : List Event) → map event_of_written kept ≡ map Some events
    → flat_map written_text kept ≡ flat_map text_of (map event_row events)
events-written [] [] is = refl
events-written [] (e ∷ events) is = cc
events-written (k ∷ kept) [] is = cc
events-written (k ∷ kept) (e ∷ events) is = grind (arith, event-written k e, events-written kept events)

packet-written : (tag size since : ℕ) (ecn : Ecn) → is_bad_size size ≡ false → nat_le since last_moment ≡ true
    → queued_text tag size (bits_of ecn) since
    ≡ text_of (queued_row (record { packet = record { tag = tag; size = size; ecn = ecn }; since = since }))
packet-written tag size since ecn good early = grind (arith, nat_tests)

packets-written : (packets : List Waiting) → All CanWait packets → flat_map waiting_text packets ≡ flat_map text_of (map queued_row packets)
packets-written [] can = refl
packets-written (w ∷ packets) can =
    let first : CanWait w = can 0 w (omega arith) in
    let rest : All CanWait packets = λ k d below. can (suc k) d (omega (arith, below)) in
    let early : nat_le w.since last_moment ≡ true = let since = first.since in grind (since, arith, nat_tests) in
    rw (packet-written w.packet.tag w.packet.size w.since w.packet.ecn first.size early, packets-written packets rest) refl

pub whole_written : (o : PieOpening) (events : List Event) (kept : List WrittenEvent) → opening_refusal o ≡ 0 → map event_of_written kept ≡ map Some events
    → opening_text (opening_of o) ++ flat_map written_text kept ≡ rows_text (written_rows (opening_in o) events)
unfolding rows_text
whole_written o events kept free is = rw (free, events-written kept events is) refl

pub part_written : (o : PieOpening) (s : PieState) (t : PieStats) (count set_by packets bytes : ℕ) (waiting : List Waiting) (events : List Event)
    (kept : List WrittenEvent) → opening_refusal o ≡ 0 → is_sound s ≡ true → is_snapshot o s count packets bytes ≡ true → All CanWait waiting
    → map event_of_written kept ≡ map Some events
    → resume_text (resume_of o s t count set_by packets bytes) ++ (flat_map waiting_text waiting ++ flat_map written_text kept)
    ≡ rows_text (resumed_rows (opening_in o) (snapshot_in s t count packets bytes) waiting (set_by_of set_by) (map event_row events))
unfolding rows_text
part_written o s t count set_by packets bytes waiting events kept free sound stands can is =
    rw (
      free,
      sound,
      stands,
      events-written kept events is,
      packets-written waiting can,
      flat_map-append text_of (map queued_row waiting) (map event_row events),
    ) refl
