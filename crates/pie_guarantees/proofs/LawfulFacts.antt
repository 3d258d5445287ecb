-- In a lawful history, a core represents the events before each place, and each event changes the core as its call does.
pub use Rattle.std.proofs.Common.{All, Bool, List, None, Option, Some, [], ap, arith, cond, drop, false, fold, if◌then◌else◌, inl, length, map, max, min, nat_lt, refl, subst, suc, sym, true, zero, ℕ, ◌&&◌, ◌*◌, ◌++◌, ◌+◌, ◌-◌, ◌/◌, ◌<◌, ◌==◌, ◌^◌, ◌∙◌, ◌∷◌, ◌≡◌, ◌≤◌, ◌⊎◌, get_or, take}
pub use Rattle.std.proofs.Math.Nat.{div-le_of_le-mul, div-mul-le_self, le_of_mul-le-mul_right, lt-mul-div-succ, pow-suc}
pub use Rattle.std.proofs.lemmas.Bool.Decides.{nat_tests}
pub use Rattle.std.proofs.lemmas.Int.{clamps, ints}
pub use Rattle.std.proofs.lemmas.List.{append-nil, append_assoc, length-map, map-append}
pub use Rattle.std.proofs.lemmas.List.Elements.{All-cons, All-head, All-nil, All-tail, filter_map-append}
pub use Rattle.std.proofs.lemmas.List.Sums.{sum_by-cons, sum_by_push}
pub use Rattle.std.proofs.lemmas.Nat.{le-div, mul-le}
pub use Rattle.std.specs.Prelude.{Err, Ok, Result, int_div, not, pos, sum_by, ℤ, ⊤, ◌*ℤ◌, ◌-ℤ◌, ◌||◌, ◌≤ℤ◌}
pub use Rattle.pie_aqm.proofs.Laws.{in-range, threshold-holds, Sound_call, Sound_opened, next-hold, filter_map-push, place_of, with_one}
pub use Rattle.pie_aqm.specs.Calls.{IsTaken, after_call}
pub use Rattle.pie_aqm.specs.Steps.{ControllerState, IsSound, chosen, offered}
unfoldable pub use Rattle.pie_aqm.specs.History.{state_of}
pub use Rattle.pie_aqm.specs.History.{Place, places}
unfoldable pub use Rattle.pie_aqm.specs.Steps.{verdict}
pub use Rattle.pie_book.proofs.CoreFacts.{at_place, departed-of-legal, first_shows, state-is, next-core, next-legal, effective_moment-push, waiting_after-push}
unfoldable pub use Rattle.pie_book.proofs.Examples.{worked}
pub use Rattle.pie_book.specs.Decision.{arrival_of, call_of, IsLegal, IsLegalAt, answer_by, decision, has_bad_size, is_too_soon, refusal_by_rule, refusal_with, average_after, due_after, is_dropped_early, is_marked, is_queued}
pub use Rattle.pie_guarantees.specs.{active_after, delay_after, params_after, parts_after, bytes_after, effective_moment, waiting_after, count_of, is_dropped_bytes, is_dropped_packets, is_reset, Answer, Arrive, Command, Depart, DroppedEarly, Event, Marked, Opening, Packet, SetParams, Update, Waiting, Effect, effect_of, departure, is_update, AllAllow, Allows, IsAllowed, IsWhole, KeepsParams, SetsAllow, burst_left, updates_in, IsLawful, SetsInRange, IsActiveUpdate, IsSteady, least_rise, old_delay_after, probability_after, untuned_fall, untuned_rise, updates_from, updates_to_a_tenth, IsArrivalOf, IsEarly, MarksOnlyCapable, OnlyMarks, SparesCapable, is_early, RawParams, burst_begins, burst_continues, burst_opening, first_drop, lowered, lowered_opening, IsBetween, samples_after, flows_in_turn, flows_opening, half_is_reached, last_update}
unfoldable pub use Rattle.pie_book.specs.Decision.{state_after}
pub use Rattle.pie_book.specs.Core.{after_command, call_in, first_core, waiting_next}
pub use Rattle.pie_book.specs.Types.{ArrivingPacket, Empty, Reset, Verdict}
pub use Rattle.pie_control.specs.History.{decays}
unfoldable pub use Rattle.pie_control.specs.History.{delay_of, decayed, next, raw_step, tuned_step, tuning_divisor}
pub use Rattle.pie_early.specs.Decision.{effective_prob_of, effective_prob, picked_choice}
unfoldable pub use Rattle.pie_early.specs.Decision.{is_considered, is_picked}
pub use Rattle.pie_event.specs.Event.{effect, caller_moment}
pub use Rattle.pie_event.specs.Cause.{answer_of}
unfoldable pub use Rattle.pie_guarantees.specs.{AllAlong, AtEachEvent, AtEachHistory, BetweenAny, after_updates}
pub use Rattle.pie_params.specs.Params.{is_capped, usual, default_profile, first_bad}
pub use Rattle.pie_params.specs.declared.elements.Elements.{Elements}
pub use Rattle.pie_params.specs.declared.elements.Step.{Step}
pub use Rattle.pie_queue.specs.Queue.{is_capable, bytes_of}
pub use Rattle.pie_rate.specs.Estimate.{average_of, averaged}
unfoldable pub use Rattle.pie_rate.specs.Estimate.{average}
pub use Rattle.std.proofs.Math.Seq.{drop-append_seam, take-append_seam}
use Rattle.std.proofs.lemmas.List.Elements.{All-drop, All-take}
use Rattle.pie_book.specs.Core.{CoreView, Represents, largest_queue_updated}
use Rattle.pie_event.specs.Event as Opens
use Rattle.std.proofs.lemmas.List.{append_cancel_left, length_push}
use Rattle.std.proofs.lemmas.List.Recursion.{is_sum_by}
use Rattle.pie_guarantees.specs.{Carries, SetsLimit, bytes_departed, is_packet_arrival, packet_queued, packets_departed, packets_arrived, packets_queued, packets_waiting, time_of}
use Rattle.pie_event.specs.Cause as Verdicts
use Rattle.pie_aqm.specs.Steps as Steps

-- ---- accepted commands

-- an accepted command: its moment is in range, and an update is not too soon
pub record IsFree (opening : Opening) (before : List Event) (command : Command) : Type 0 where
  pub moment : caller_moment command < 2 ^ 60
  pub size : has_bad_size command ≡ false
  pub in_time : is_too_soon (effective_moment opening before) (due_after opening before) command ≡ false

pub is_free : (opening : Opening) (before : List Event) (command : Command) → refusal_by_rule opening before command ≡ None
    → IsFree opening before command
is_free opening before command e = grind (arith, nat_tests)

-- ---- the core's numbers at a place

-- a core represents these events, and its numbers are sound
pub record IsSteadyAt (opening : Opening) (history : List Event) : Type 0 where
  pub core : CoreView
  pub represents : Represents opening core history
  pub sound : IsSound core.controller

steady-first : (opening : Opening) → Opens.opening_refusal opening.limits opening.moment ≡ None → first_bad opening.params ≡ None → IsSteadyAt opening []
steady-first opening good params = record {
  core = first_core opening;
  represents = first_shows opening;
  sound = Sound_opened opening.choices.profile opening.choices.elements opening.params opening.moment params
      (let within : opening.moment ≤ Opens.last_moment = grind (arith, good) in omega (arith, within));
}

-- ---- one more event

call-taken : (core : CoreView) (command : Command) → caller_moment command < 2 ^ 60 → SetsInRange command → IsTaken (call_in core command)
call-taken core command handed fit = grind (arith, nat_tests)

steady-next : (opening : Opening) (before : List Event) (event : Event) → IsSteadyAt opening before → IsLegalAt opening (place_of before event)
    → SetsInRange event.command → IsSteadyAt opening (before ++ event ∷ [])
steady-next opening before event old here fit =
    let core = old.core in
    let handed = (is_free opening before event.command here.taken).moment in
    record {
      core = largest_queue_updated (after_command core event.command);
      represents = next-core opening core before event old.represents old.sound.params (next-legal opening core before event old.represents here);
      sound = Sound_call core.controller old.sound (call_in core event.command) (call-taken core event.command handed fit);
    }

-- an event of a lawful history: the state after the events before it, and the state after the event
pub record IsStep (opening : Opening) (before : List Event) (event : Event) : Type 0 where
  pub here : IsLegalAt opening (place_of before event)
  pub free : IsFree opening before event.command
  pub sound : IsSound (state_after opening before)
  pub state : state_after opening (before ++ event ∷ [])
      ≡ after_call (state_after opening before) (call_of (waiting_after opening before) opening.limits.packets event.command)
  pub waiting : waiting_after opening (before ++ event ∷ [])
      ≡ waiting_next (waiting_after opening before) (effective_moment opening (before ++ event ∷ [])) (effect_of event)
  pub same_moment : (state_after opening before).moment ≡ effective_moment opening before
  pub next_moment : (state_after opening (before ++ event ∷ [])).moment ≡ effective_moment opening (before ++ event ∷ [])

-- a property of the answer to a command, and of the state after it, holds at the step
pub at-step : (opening : Opening) (before : List Event) (event : Event) → IsStep opening before event → (P : Answer → ControllerState → Type 0)
    → P (answer_by (state_after opening before) (waiting_after opening before) opening.limits.packets event.command)
    (after_call (state_after opening before) (call_of (waiting_after opening before) opening.limits.packets event.command))
    → P event.answer (state_after opening (before ++ event ∷ []))
at-step opening before event step P so = rw (step.state, step.here.answered) so

step-of : (opening : Opening) (before : List Event) (event : Event) → IsSteadyAt opening before → IsLegalAt opening (place_of before event)
    → SetsInRange event.command → IsStep opening before event
unfolding steady-next
step-of opening before event old here fit =
    let next = steady-next opening before event old here fit in
    let core = old.core in
    let is : core.controller ≡ state_after opening before = state-is opening core before old.represents in
    record {
      here = here;
      free = is_free opening before event.command here.taken;
      sound = subst (λ (h : ControllerState). IsSound h) is old.sound;
      state = sym (state-is opening next.core (before ++ event ∷ []) next.represents)
          ∙ ap (λ (h : ControllerState). after_call h (call_of core.waiting core.capacity event.command)) is
          ∙ ap (λ (w : List Waiting). after_call (state_after opening before) (call_of w core.capacity event.command)) old.represents.waiting
          ∙ ap (λ (n : ℕ). after_call (state_after opening before) (call_of (waiting_after opening before) n event.command)) old.represents.capacity;
      waiting = waiting_after-push opening before event (departed-of-legal opening before old.represents.legal)
          ∙ ap (λ (m : ℕ). waiting_next (waiting_after opening before) m (effect_of event)) (sym (effective_moment-push opening before event));
      same_moment = sym (ap (λ (h : ControllerState). h.moment) is) ∙ old.represents.moment;
      next_moment = sym (ap (λ (h : ControllerState). h.moment) (state-is opening next.core (before ++ event ∷ []) next.represents)) ∙ next.represents.moment;
    }

-- ---- a whole history

set-after : (before rest : List Event) → All (λ (e : Event). SetsInRange e.command) (before ++ rest)
    → All (λ (e : Event). SetsInRange e.command) rest
set-after before rest all =
    rw (drop-append_seam before rest) at (All-drop (λ (e : Event). SetsInRange e.command) (length before) (before ++ rest) all)

steady-along : (opening : Opening) (before between later : List Event) → IsSteadyAt opening before
    → All (IsLegalAt opening) (places (before ++ between ++ later)) → All (λ event. SetsInRange event.command) (between ++ later)
    → IsSteadyAt opening (before ++ between)
steady-along opening before [] later old legal fit = rw (append-nil before) old
steady-along opening before (event ∷ between) later old legal fit =
    let one : (before ++ event ∷ []) ++ between ≡ before ++ (event ∷ between) = append_assoc before (event ∷ []) between in
    let here = at_place (IsLegalAt opening) before event (between ++ later) (rw (append_assoc before (event ∷ between) later) at legal) in
    let next = steady-next opening before event old here (All-head (λ (e : Event). SetsInRange e.command) event (between ++ later) fit) in
    rw (← one) (steady-along opening (before ++ event ∷ []) between later next (rw (← one) at legal)
    (All-tail (λ (e : Event). SetsInRange e.command) event (between ++ later) fit))

-- a core represents the events before a place of a lawful history
pub steady_at : (opening : Opening) (before later : List Event) → IsLawful opening (before ++ later) → IsSteadyAt opening before
steady_at opening before later lawful =
    steady-along opening [] before later (steady-first opening lawful.opens lawful.params) lawful.legal lawful.set

-- each event of a lawful history is a step
pub step_at : (opening : Opening) (before : List Event) (event : Event) (later : List Event) → IsLawful opening (before ++ event ∷ later)
    → IsStep opening before event
step_at opening before event later lawful =
    step-of opening before event (steady_at opening before (event ∷ later) lawful)
    (at_place (IsLegalAt opening) before event later lawful.legal)
    (All-head (λ (e : Event). SetsInRange e.command) event later (set-after before (event ∷ later) lawful.set))

-- a property that holds before some events of a lawful history, given those that follow, and is preserved by each of them, holds after them
pub along : (P : List Event → List Event → Type 0) (Q : List Event → Event → Type 0) (opening : Opening)
    → ((before : List Event) (event : Event) (left : List Event) → IsStep opening before event → Q before event → P before (event ∷ left)
    → P (before ++ event ∷ []) left)
    → (before between later : List Event) → IsLawful opening (before ++ between ++ later) → AllAlong Q before between → P before between
    → P (before ++ between) []
unfolding AllAlong
along P Q opening stays before [] later lawful all so = rw (append-nil before) so
along P Q opening stays before (event ∷ between) later lawful all so =
    let one : (before ++ event ∷ []) ++ between ≡ before ++ (event ∷ between) = append_assoc before (event ∷ []) between in
    let step = step_at opening before event (between ++ later) (rw (append_assoc before (event ∷ between) later) at lawful) in
    rw (← one) (along P Q opening stays (before ++ event ∷ []) between later (rw (← one) at lawful) all.1 (stays before event between step all.0 so))

-- a property of each event holds of each event with those before it
pub all_along : (Q : Event → Type 0) (before between : List Event) → All Q between → AllAlong (λ earlier event. Q event) before between
unfolding AllAlong
all_along Q before [] all = tt
all_along Q before (event ∷ between) all = (All-head Q event between all, all_along Q (before ++ event ∷ []) between (All-tail Q event between all))

-- a property that holds at the opening and is preserved by each event holds after a lawful history
pub throughout : (P : List Event → Type 0) (opening : Opening) → P []
    → ((before : List Event) (event : Event) → IsStep opening before event → P before → P (before ++ event ∷ []))
    → (history : List Event) → IsLawful opening history → P history
throughout P opening first stays history lawful =
    along (λ before left. P before) (λ before event. ⊤) opening (λ before event left step passed so. stays before event step so) [] history []
    (rw (append-nil history) lawful) (all_along (λ event. ⊤) [] history (λ k d within. tt)) first

-- the controller's numbers at the opening
pub first-state : (opening : Opening) → (first_core opening).controller ≡ state_after opening []
first-state opening = state-is opening (first_core opening) [] (first_shows opening)

-- the updates of events, the first of which is known
pub counted-cons : (event : Event) (later : List Event) → updates_in (event ∷ later) ≡ cond (is_update (effect_of event)) 1 0 + updates_in later
counted-cons event later = sum_by-cons (λ (e : Event). cond (is_update (effect_of e)) 1 0) event later

-- the number of updates after a command
abbrev pub counted_with : Command → ℕ → ℕ
counted_with (Update moment) n = n + 1
counted_with _ n = n

counted-with : (command : Command) (answer : Answer) (n : ℕ) → n + cond (is_update (effect command answer)) 1 0 ≡ counted_with command n
counted-with command answer n = grind (arith, nat_tests)

-- a property between two events: `n` updates were made, and the others follow
record Counted (P : ℕ → List Event → Type 0) (between earlier left : List Event) : Type 0 where
  n : ℕ
  counted : updates_in between ≡ n + updates_in left
  holds : P n earlier

-- a property of the number of updates so far that is preserved by each event of a lawful history holds after them
pub along_updates : (P : ℕ → List Event → Type 0) (Q : List Event → Event → Type 0) (opening : Opening)
    → ((n : ℕ) (earlier : List Event) (event : Event) → IsStep opening earlier event → Q earlier event → P n earlier
    → P (counted_with event.command n) (earlier ++ event ∷ []))
    → (before between later : List Event) → IsLawful opening (before ++ between ++ later) → AllAlong Q before between → P 0 before
    → P (updates_in between) (before ++ between)
along_updates P Q opening next before between later lawful all first =
    let next : (earlier : List Event) (event : Event) (left : List Event) → IsStep opening earlier event → Q earlier event
    → Counted P between earlier (event ∷ left) → Counted P between (earlier ++ event ∷ []) left =
    λ earlier event left step here old. record {
      n = counted_with event.command old.n;
      counted = let was = old.counted in omega (arith, was, counted-cons event left, counted-with event.command event.answer old.n);
      holds = next old.n earlier event step here old.holds;
    } in
    let it = along (Counted P between) Q opening next before between later lawful all (record { n = 0; counted = omega arith; holds = first }) in
    let whole : it.n ≡ updates_in between = let counted = it.counted in omega (arith, counted) in
    subst (λ (n : ℕ). P n (before ++ between)) whole it.holds

-- the controller's numbers there are sound, and their moment is the effective one
pub sound_at : (opening : Opening) (before later : List Event) → IsLawful opening (before ++ later)
    → IsSound (state_after opening before) × ((state_after opening before).moment ≡ effective_moment opening before)
sound_at opening before later lawful =
    let it = steady_at opening before later lawful in
    let is : it.core.controller ≡ state_after opening before = state-is opening it.core before it.represents in
    (subst (λ (h : ControllerState). IsSound h) is it.sound, sym (ap (λ (h : ControllerState). h.moment) is) ∙ it.represents.moment)

-- the beginning of a lawful history is lawful
pub beginning : (opening : Opening) (before later : List Event) → IsLawful opening (before ++ later) → IsLawful opening before
beginning opening before later lawful = record {
  opens = lawful.opens;
  params = lawful.params;
  set = rw (take-append_seam before later) at
      (All-take (λ (e : Event). SetsInRange e.command) (length before) (before ++ later) lawful.set);
  legal = (steady_at opening before later lawful).represents.legal;
}

-- at each place the command is accepted and has its answer
pub all_legal : (o : Opening) (ps : List (Place Event)) → map (λ (p : Place Event). refusal_by_rule o p.before p.event.command) ps
    ≡ map (λ (p : Place Event). None) ps
    → map (λ (p : Place Event). p.event.answer) ps ≡ map (λ (p : Place Event). decision o p.before p.event.command) ps → All (IsLegalAt o) ps
all_legal o [] taken answered = All-nil (IsLegalAt o)
all_legal o (p ∷ ps) taken answered = grind (arith, nat_tests, all_legal o ps (ap (drop 1) taken) (ap (drop 1) answered))

-- The verdict of every packet.

-- ---- counts

abbrev Adds : List Event → Type 0
Adds history = packets_arrived history ≡ count_of is_queued history + count_of is_marked history + count_of is_dropped_early history
    + count_of is_dropped_bytes history + count_of is_dropped_packets history

count-push : (test : Effect → Bool) (before : List Event) (event : Event)
    → count_of test (before ++ event ∷ []) ≡ count_of test before + cond (test (effect_of event)) 1 0
count-push test before event = sum_by_push (λ (e : Event). cond (test (effect_of e)) 1 0) before event

-- the effect of the event, by the state before it
effect-is : (opening : Opening) (before : List Event) (event : Event) → IsStep opening before event
    → effect_of event ≡ effect event.command (answer_by (state_after opening before) (waiting_after opening before) opening.limits.packets event.command)
effect-is opening before event step = ap (λ (a : Answer). effect event.command a) step.here.answered

-- the number of ways in which an effect counts
abbrev ways : Effect → ℕ
ways d = cond (is_queued d) 1 0 + cond (is_marked d) 1 0 + cond (is_dropped_early d) 1 0 + cond (is_dropped_bytes d) 1 0
    + cond (is_dropped_packets d) 1 0

-- one command counts once
once-more : (h : ControllerState) (waiting : List Waiting) (packets : ℕ) (command : Command)
    → cond (is_packet_arrival command) 1 0 ≡ ways (effect command (answer_by h waiting packets command))
unfolding Steps.verdict
once-more h waiting packets command = grind (arith, nat_tests)

adds-next : (opening : Opening) (before : List Event) (event : Event) → IsStep opening before event → Adds before → Adds (before ++ event ∷ [])
adds-next opening before event step old = grind (arith, nat_tests, once-more, sum_by_push, count-push, effect-is)

pub each_once : AtEachHistory (λ opening history. Adds history)
unfolding AtEachHistory
each_once opening history lawful = throughout Adds opening refl (adds-next opening) history lawful

-- ---- order

abbrev packets-of : List Waiting → List Packet
packets-of waiting = map (λ (entry : Waiting). entry.packet) waiting

in-order : (h : ControllerState) (waiting : List Waiting) (packets : ℕ) (command : Command) (now : ℕ) (gone all : List Packet)
    → gone ++ packets-of waiting ≡ all
    → with_one gone (departure (effect command (answer_by h waiting packets command)))
    ++ packets-of (waiting_next waiting now (effect command (answer_by h waiting packets command)))
    ≡ with_one all (packet_queued (effect command (answer_by h waiting packets command)))
unfolding Steps.verdict
in-order h waiting packets command now gone all e = grind (arith, nat_tests, append_assoc, map-append)

abbrev Ordered : Opening → List Event → Type 0
Ordered opening history = packets_departed history ++ packets_waiting opening history ≡ packets_queued history

ordered-next : (opening : Opening) (before : List Event) (event : Event) → IsStep opening before event → Ordered opening before
    → Ordered opening (before ++ event ∷ [])
unfolding packets_departed packets_queued
ordered-next opening before event step old = grind (arith, nat_tests, filter_map-push, effect-is, in-order)

-- at the opening no packet is queued
none-waits : (opening : Opening) → waiting_after opening [] ≡ []
none-waits opening = sym (first_shows opening).waiting

ordered-first : (opening : Opening) → waiting_after opening [] ≡ [] → Ordered opening []
unfolding packets_departed packets_queued
ordered-first opening none = rw none refl

pub in_order : AtEachHistory (λ opening history. Ordered opening history)
unfolding AtEachHistory
in_order opening history lawful =
    throughout (Ordered opening) opening (ordered-first opening (none-waits opening)) (ordered-next opening) history lawful

-- ---- limits

-- the queued packets after a command: at most as many as before, or one more for which ring and limit have room
record Bounded (limit packets : ℕ) (before after : List Waiting) (queued : Option Packet) : Type 0 where
  ring : length before ≤ packets → length after ≤ packets
  or : (bytes_of after ≤ bytes_of before) ⊎ (bytes_of after ≤ limit)
  queue : (packet : Packet) → queued ≡ Some packet → bytes_of after ≤ limit

bytes-queued : (packet : Packet) (waiting : List Waiting) (moment word now : ℕ) (v : Verdict)
    → bytes_of (waiting_next waiting now (effect (Arrive moment packet word) (answer_of v)))
    ≡ bytes_of waiting + (if Verdicts.is_queued v then packet.size else 0)
bytes-queued packet waiting moment word now v = grind (arith, nat_tests, sum_by_push)

bounded : (h : ControllerState) (waiting : List Waiting) (packets : ℕ) (command : Command) (now : ℕ)
    → Bounded h.params.limit_bytes packets waiting (waiting_next waiting now (effect command (answer_by h waiting packets command)))
    (packet_queued (effect command (answer_by h waiting packets command)))
unfolding Steps.verdict
bounded h waiting packets (Arrive moment packet word) now =
    let bytes = bytes-queued packet waiting moment word now (Steps.verdict h (arrival_of waiting packets packet word)) in
    record { ring = grind (arith, nat_tests, length_push); or = grind (arith, nat_tests); queue = λ new is. grind (arith, nat_tests) }
bounded h (oldest ∷ others) packets (Depart moment) now =
    let first = sum_by-cons (λ (entry : Waiting). entry.packet.size) oldest others in
    record { ring = λ within. omega arith; or = inl (omega (arith, first)); queue = λ packet is. cc }
bounded h waiting packets _ now =
    record { ring = grind (arith, nat_tests); or = grind (arith, nat_tests); queue = λ packet is. grind (arith, nat_tests) }

bounded-at : (opening : Opening) (before : List Event) (event : Event) → IsStep opening before event
    → Bounded (state_after opening before).params.limit_bytes opening.limits.packets (waiting_after opening before)
    (waiting_after opening (before ++ event ∷ [])) (packet_queued (effect_of event))
bounded-at opening before event step =
    rw (step.waiting, effect-is opening before event step)
    (bounded (state_after opening before) (waiting_after opening before) opening.limits.packets event.command
    (effective_moment opening (before ++ event ∷ [])))

pub in_the_ring : AtEachHistory (λ opening history. length (waiting_after opening history) ≤ opening.limits.packets)
unfolding AtEachHistory
in_the_ring opening =
    throughout (λ history. length (waiting_after opening history) ≤ opening.limits.packets) opening (rw none-waits (omega arith))
    (λ before event step within. (bounded-at opening before event step).ring within)

pub room_for_bytes : AtEachEvent (λ opening before event. (packet : Packet) → packet_queued (effect_of event) ≡ Some packet
    → bytes_after opening (before ++ event ∷ []) ≤ (params_after opening before).limit_bytes)
unfolding AtEachEvent
room_for_bytes opening before event later lawful packet is =
    (bounded-at opening before event (step_at opening before event later lawful)).queue packet is

-- the limit in force after a call
limit-next : (most : ℕ) (h : ControllerState) (waiting : List Waiting) (packets : ℕ) (command : Command) → h.params.limit_bytes ≤ most
    → SetsLimit most command → (after_call h (call_of waiting packets command)).params.limit_bytes ≤ most
limit-next most h waiting packets command low set = grind (arith, nat_tests)

record Below (most : ℕ) (opening : Opening) (history : List Event) : Type 0 where
  limit : (params_after opening history).limit_bytes ≤ most
  bytes : bytes_after opening history ≤ most

below-next : (most : ℕ) (opening : Opening) (before : List Event) (event : Event) → IsStep opening before event → SetsLimit most event.command
    → Below most opening before → Below most opening (before ++ event ∷ [])
below-next most opening before event step set old = record {
  limit = subst (λ (h : ControllerState). h.params.limit_bytes ≤ most) (sym step.state)
      (limit-next most (state_after opening before) (waiting_after opening before) opening.limits.packets event.command old.limit set);
  bytes = let or = (bounded-at opening before event step).or in grind arith;
}

pub bytes_below : (most : ℕ) → AtEachHistory (λ opening history. opening.params.limit_bytes ≤ most
    → All (λ event. SetsLimit most event.command) history → bytes_after opening history ≤ most)
unfolding AtEachHistory
bytes_below most opening history lawful low set =
    (along (λ before left. Below most opening before) (λ before event. SetsLimit most event.command) opening
    (λ before event left step set old. below-next most opening before event step set old) [] history []
    (rw (append-nil history) lawful) (all_along (λ (event : Event). SetsLimit most event.command) [] history set) (record {
      limit = subst (λ (g : ControllerState). g.params.limit_bytes ≤ most) (first-state opening) low;
      bytes = rw none-waits (omega arith);
    })).bytes

-- ---- waits

-- two lists of one length at the beginnings of the same list
same-beginning : (some other : List Packet) (rest more : List Packet) → some ++ rest ≡ other ++ more → length some ≡ length other → some ≡ other
same-beginning some other rest more e l =
    sym (take-append_seam some rest) ∙ (λ i. take (l i) (e i)) ∙ take-append_seam other more

pub first_out : BetweenAny (λ opening before between. length (packets_departed between) ≡ length (waiting_after opening before)
    → packets_departed between ≡ packets_waiting opening before)
unfolding AtEachHistory BetweenAny packets_departed packets_queued
first_out opening before between later lawful many =
    let first = in_order opening before (beginning opening before (between ++ later) (rw (append_assoc before between later) at lawful)) in
    let both = in_order opening (before ++ between) (beginning opening (before ++ between) later lawful) in
    let gone = packets_departed before in
    let left = packets_departed between in
    let waits = packets_waiting opening before in
    let rest = packets_waiting opening (before ++ between) in
    let new = packets_queued between in
    let one : (gone ++ left) ++ rest ≡ packets_queued before ++ new =
    ap (λ (ps : List Packet). ps ++ rest) (sym (filter_map-append (λ (e : Event). departure (effect_of e)) before between)) ∙ both
    ∙ filter_map-append (λ (e : Event). packet_queued (effect_of e)) before between in
    let two : gone ++ (left ++ rest) ≡ gone ++ (waits ++ new) =
    sym (append_assoc gone left rest) ∙ one ∙ ap (λ (ps : List Packet). ps ++ new) (sym first) ∙ append_assoc gone waits new in
    let three = append_cancel_left gone (left ++ rest) (waits ++ new) two in
    let length : length left ≡ length waits = many ∙ sym (length-map (waiting_after opening before) (λ (entry : Waiting). entry.packet)) in
    same-beginning left waits rest new three length

sizes-of : (waiting : List Waiting) → sum_by (λ (packet : Packet). packet.size) (packets-of waiting) ≡ bytes_of waiting
sizes-of waiting = is_sum_by (λ (ws : List Waiting). sum_by (λ (packet : Packet). packet.size) (packets-of ws))
    (λ (entry : Waiting). entry.packet.size) refl (λ w ws. sum_by-cons (λ (packet : Packet). packet.size) w.packet (packets-of ws)) waiting

pub waits_bounded : (rate : ℕ) (opening : Opening) (before : List Event) (event : Event) (between : List Event) (later : List Event)
    (packet : Packet) → IsLawful opening (before ++ event ∷ [] ++ between ++ later) → packet_queued (effect_of event) ≡ Some packet
    → length (packets_departed between) ≡ length (waiting_after opening (before ++ event ∷ []))
    → Carries rate opening (before ++ event ∷ []) between
    → rate * time_of opening (before ++ event ∷ []) between ≤ 8 * 10 ^ 9 * (params_after opening before).limit_bytes
unfolding AtEachEvent BetweenAny
waits_bounded rate opening before event between later packet lawful in_queue many carries =
    let b = before ++ event ∷ [] in
    let split : before ++ event ∷ [] ++ between ++ later ≡ before ++ (event ∷ (between ++ later)) =
    append_assoc b between later ∙ append_assoc before (event ∷ []) (between ++ later) in
    let room = room_for_bytes opening before event (between ++ later) (rw split at lawful) packet in_queue in
    let bytes : bytes_departed between ≡ bytes_after opening b =
    ap (λ (ps : List Packet). sum_by (λ (packet : Packet). packet.size) ps) (first_out opening b between later lawful many)
    ∙ sizes-of (waiting_after opening b) in
    omega (arith, carries, rw (← bytes) at room)
