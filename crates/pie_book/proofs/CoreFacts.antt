-- The state of a core that represents a history equals the look-back over the history, and after each command the core
-- represents the history with one more event.
use Rattle.std.proofs.Common.{◌≡◌, ◌≤◌, ◌<◌, ◌+◌, ℕ, List, [], ◌∷◌, ◌++◌, map, length, true, refl, ap, subst, ◌∙◌, sym, arith, length-append, max, None, Some, All, is_some, append-nil, drop, Bool, cond, drop-drop, length-drop, if◌then◌else◌, sum_by, ◌↔◌, add-zero, ◌*◌, ◌-◌, suc, false, Option, slice_get, zero, take, Result, OnOk}
use Rattle.std.proofs.lemmas.Bool.Decides.{nat_tests}
use Rattle.std.proofs.lemmas.List.{map-append, drop-append-le, append_assoc, take-append-le, take-append-drop, take_all}
use Rattle.std.proofs.lemmas.List.Elements.{All-cons, All-head, All-nil, All-push, All-tail, All-pop, All-drop}
use Rattle.std.proofs.lemmas.List.Sums.{sum_by_push, sum_by-append, sum_by-cons}
use Rattle.pie_book.specs.{Packet, Waiting, One, ControllerState, Command, Arrive, Depart, Answer, Event, Opening, arrival_of, cause_after, CoreView, Represents, counted, refusal_of, registers_of, with_queue, IsLegal, IsLegalAt, answer_by, decision, refusal_by_rule, delay_after, delay_answered, state_after, admitted, bytes_after, departed_count, effective_moment, waiting_after, registers_after, event_of, opened_of, controller_events, age_of_oldest, largest_delay, largest_queue, stats_after, waited, answer_in, call_in, waiting_next, bytes_of, HasThreshold, after_call, Place, places, greatest, Effect, effect, departure, fits, caller_moment, effect_of, admission, departed, marked, queued, count_of, is_departure, bytes_departed, is_update, first_bad, SetParams, IsNext, CommandFits, refusal_with, active_after, arriving_size, controller_event, oldest_since, controller_event_at, core_after, first_core, registers_with, after_calls, call_at, calls_of, state_after_calls, Follows, cause_in, apply_in, outcome, core_along, ArrivedBy, ArrivedFrom, AreInOrder, AreQueued, IsSize, snapshot_of, IsBalanced, are_balanced, end_refusal, is_bad_size, has_bad_size, Limits, core_of, begun_with, newest_since, queue_refusal, with_ce, MayOpen, IsConsistent, Refusal, step_in, Mode, kept_of, left_by_one}
use Rattle.pie_aqm.specs.Steps.{cause, now_at}
use Rattle.pie_aqm.proofs.Laws.{place_of, places-push, from_places-push, greatest-push, with_one, Represents_call, Represents_opened, state_is, in_range_has_threshold, one_is_active}
use Rattle.pie_aqm.specs.Calls.{event_of_call, Call}
use Rattle.pie_aqm.specs.History.{after}
use Rattle.pie_aqm.specs.History as Controller
use Rattle.pie_aqm.specs.Steps as Steps
use Rattle.std.specs.Option.{option_map_or}
use Rattle.std.specs.Prelude.{⊤}
use Rattle.std.proofs.lemmas.Option.{slice_get_within, get_or_from_slice_get}
use Rattle.pie_queue.specs.Queue.{HasSize}
use Rattle.pie_book.specs.declared.snapshot.CoreSnapshot.{CoreSnapshot}

-- ---- The moment and the waiting packets after one more event

-- the effective moment after one more event is the greater of the one before it and the caller's moment
pub effective_moment-push : (opening : Opening) (history : List Event) (event : Event)
    → effective_moment opening (history ++ event ∷ []) ≡ max (effective_moment opening history) (caller_moment event.command)
unfolding effective_moment
effective_moment-push opening history event =
    rw (map-append (λ (e : Event). caller_moment e.command) history (event ∷ []))
    (greatest-push (opening.moment ∷ map (λ (e : Event). caller_moment e.command) history) (caller_moment event.command))

-- the queued packets after one more event
admitted-push : (opening : Opening) (history : List Event) (event : Event) → admitted opening (history ++ event ∷ [])
    ≡ with_one (admitted opening history) (admission (max (effective_moment opening history) (caller_moment event.command)) (effect_of event))
unfolding admitted
admitted-push opening history event = simp (from_places-push, effective_moment-push)

-- the number of departed packets after one more event
departed_count-push : (history : List Event) (event : Event)
    → departed_count (history ++ event ∷ []) ≡ departed_count history + cond (is_some (departure (effect_of event))) 1 0
unfolding departed_count
departed_count-push history event = sum_by_push (λ (e : Event). cond (is_some (departure (effect_of e))) 1 0) history event

-- the waiting packets after one more event
pub waiting_after-push : (opening : Opening) (history : List Event) (event : Event) → departed_count history ≤ length (admitted opening history)
    → waiting_after opening (history ++ event ∷ [])
    ≡ waiting_next (waiting_after opening history) (max (effective_moment opening history) (caller_moment event.command)) (effect_of event)
unfolding waiting_after
waiting_after-push opening history event fewer =
    rw (admitted-push opening history event, departed_count-push history event)
    (by_effect (effect_of event) (departed_count history) (admitted opening history) (max (effective_moment opening history) (caller_moment event.command))
    fewer)
  where
    by_effect : (d : Effect) (n : ℕ) (entries : List Waiting) (now : ℕ) → n ≤ length entries
        → drop (n + cond (is_some (departure d)) 1 0) (with_one entries (admission now d)) ≡ waiting_next (drop n entries) now d
    by_effect (departed packet) n entries now within = sym (drop-drop 1 n entries)
    by_effect (queued packet) n entries now within = simp add-zero (drop-append-le n entries (_ ∷ []) within)
    by_effect (marked packet) n entries now within = simp add-zero (drop-append-le n entries (_ ∷ []) within)
    by_effect _ n entries now within = simp add-zero

-- the number of departed packets is at most that of the queued ones, also after an event whose departure finds a waiting packet
pub departed-push : (opening : Opening) (history : List Event) (event : Event) → departed_count history ≤ length (admitted opening history)
    → (is_some (departure (effect_of event)) ≡ true → 0 < length (waiting_after opening history))
    → departed_count (history ++ event ∷ []) ≤ length (admitted opening (history ++ event ∷ []))
unfolding waiting_after
departed-push opening history event fewer waits = grind (arith, nat_tests, length-drop, admitted-push, departed_count-push, length-append)

-- ---- The statistics after one more event

-- one more, if there is one
more_of : (b : Bool) (n m : ℕ) → n + cond b m 0 ≡ (if b then n + m else n)
more_of b n m = grind (arith, nat_tests)

count_of-push : (test : Effect → Bool) (history : List Event) (event : Event)
    → count_of test (history ++ event ∷ []) ≡ (if test (effect_of event) then count_of test history + 1 else count_of test history)
count_of-push test history event = grind (arith, nat_tests, sum_by_push, more_of)

-- no bytes depart unless a packet does
bytes-push : (history : List Event) (event : Event)
    → sum_by (λ (e : Event). bytes_departed (effect_of e)) (history ++ event ∷ [])
    ≡ (if is_departure (effect_of event) then sum_by (λ (e : Event). bytes_departed (effect_of e)) history + bytes_departed (effect_of event)
    else sum_by (λ (e : Event). bytes_departed (effect_of e)) history)
bytes-push history event = grind (arith, nat_tests, sum_by_push)

largest_queue-push : (opening : Opening) (history : List Event) (event : Event)
    → largest_queue opening (history ++ event ∷ []) ≡ max (largest_queue opening history) (bytes_after opening (history ++ event ∷ []))
unfolding largest_queue
largest_queue-push opening history event = simp (places-push, map-append, greatest-push)

largest_delay-push : (opening : Opening) (history : List Event) (event : Event)
    → largest_delay opening (history ++ event ∷ [])
    ≡ (if is_update (effect_of event) then max (largest_delay opening history) (delay_answered opening history) else largest_delay opening history)
unfolding largest_delay
largest_delay-push opening history event = grind (arith, nat_tests, from_places-push, greatest-push)

waited-push : (opening : Opening) (history : List Event) (event : Event)
    → waited opening (history ++ event ∷ [])
    ≡ (if is_departure (effect_of event) then waited opening history + age_of_oldest (effective_moment opening (history ++ event ∷ []))
    (waiting_after opening history)
    else waited opening history)
unfolding waited
waited-push opening history event = simp (places-push, sum_by_push) (more_of (is_departure (effect_of event)) _ _)

-- the statistics after one more event
pub stats_after-push : (opening : Opening) (history : List Event) (event : Event)
    → stats_after opening (history ++ event ∷ [])
    ≡ with_queue
    (counted (stats_after opening history) (effect_of event) (delay_answered opening history)
    (age_of_oldest (effective_moment opening (history ++ event ∷ [])) (waiting_after opening history)))
    (bytes_after opening (history ++ event ∷ []))
unfolding stats_after
stats_after-push opening history event =
    simp (count_of-push, bytes-push, largest_queue-push, largest_delay-push, waited-push)

-- ---- Legal histories

-- a packet departs only if one waits
departs-some : (opening : Opening) (history : List Event) (command : Command)
    → is_some (departure (effect command (decision opening history command))) ≡ true → 0 < length (waiting_after opening history)
departs-some opening history command some = grind (arith, nat_tests, some)

-- each command has an answer that it can have
pub answer_fits : (h : ControllerState) (waiting : List Waiting) (packets : ℕ) (command : Command) → fits command (answer_by h waiting packets command) ≡ true
answer_fits h waiting packets command = grind (arith, nat_tests)

-- a fact about each place of a history, at the place between these events
pub at_place : (P : Place Event → Type 0) (before : List Event) (event : Event) (rest : List Event) → All P (places (before ++ event ∷ rest))
    → P (place_of before event)
unfolding places
at_place P [] event rest all = All-head P (place_of [] event) (map (after event) (places rest)) all
at_place P (first ∷ before) event rest all =
    at_place (λ place. P (after first place)) before event rest
    (All-of-map P (after first) (places (before ++ event ∷ rest))
    (All-tail P (place_of [] first) (map (after first) (places (before ++ event ∷ rest))) all))
  where
    All-of-map : (P : Place Event → Type 0) (f : Place Event → Place Event) (xs : List (Place Event)) → All P (map f xs) → All (λ x. P (f x)) xs
    All-of-map P f [] all = All-nil (λ x. P (f x))
    All-of-map P f (x ∷ xs) all =
        All-cons (λ y. P (f y)) x xs (All-head P (f x) (map f xs) all) (All-of-map P f xs (All-tail P (f x) (map f xs) all))

-- induction over legal histories: a fact that holds without events, and after one more legal event, holds for each
-- legal history
pub legal-all : (opening : Opening) (P : List Event → Type 0) → P []
    → ((before : List Event) (event : Event) → P before → IsLegalAt opening (place_of before event) → P (before ++ event ∷ []))
    → (history : List Event) → IsLegal opening history → P history
legal-all opening P none more history legal = go [] history none legal
  where
    go : (before rest : List Event) → P before → IsLegal opening (before ++ rest) → P (before ++ rest)
    go before [] held legal = subst P (sym (append-nil before)) held
    go before (event ∷ rest) held legal =
        let here = at_place (IsLegalAt opening) before event rest legal in
        let joined : before ++ event ∷ [] ++ rest ≡ before ++ (event ∷ rest) = append_assoc before (event ∷ []) rest in
        subst P joined (go (before ++ event ∷ []) rest (more before event held here) (rw (← joined) at legal))

-- a legal history with one more event that is legal at its end
pub legal-push : (opening : Opening) (history : List Event) (event : Event) → IsLegal opening history → IsLegalAt opening (place_of history event)
    → IsLegal opening (history ++ event ∷ [])
legal-push opening history event legal here =
    rw (places-push history event) (All-push (IsLegalAt opening) (places history) (place_of history event) legal here)

-- in a legal history the number of departed packets is at most that of the packets that were queued
pub departed-of-legal : (opening : Opening) (history : List Event) → IsLegal opening history
    → departed_count history ≤ length (admitted opening history)
unfolding departed_count
departed-of-legal opening = legal-all opening (λ h. departed_count h ≤ length (admitted opening h)) (omega arith)
    (λ before event within here. departed-push opening before event within (λ some. departs-some opening before event.command (rw here.answered at some)))

-- ---- The state of a core

-- in profile one the controller is always active
pub one_is_active_after : (opening : Opening) (history : List Event) → opening.choices.profile ≡ One → active_after opening history ≡ true
unfolding state_after Controller.state_of
one_is_active_after opening history one = one_is_active (opened_of opening) (controller_events opening history) one

module _ (opening : Opening) (core : CoreView) (history : List Event) (shows : Represents opening core history) where
  pub state-is : core.controller ≡ state_after opening history
  unfolding state_after
  state-is = state_is (opened_of opening) (controller_events opening history) core.controller shows.controller

  pub delay_is : Steps.delay_in core.controller (bytes_of core.waiting) ≡ delay_after opening history
  delay_is = λ i. Steps.delay_in (state-is i) (bytes_of (shows.waiting i))

  answered-is : Steps.delay_answered core.controller (bytes_of core.waiting) ≡ delay_answered opening history
  answered-is = λ i. Steps.delay_answered (state-is i) (bytes_of (shows.waiting i))

  pub registers_is : registers_of core ≡ registers_after opening history
  unfolding registers_after
  registers_is = λ i. registers_with (shows.count i) (shows.moment i) (state-is i) (shows.waiting i)

  pub refusal_is : (command : Command) → refusal_of core command ≡ refusal_by_rule opening history command
  refusal_is command = λ i. refusal_with (shows.moment i) (Steps.due (state-is i)) (shows.count i) (shows.max_events i) command

  -- the core's answer is the decision
  pub next_decided : (command : Command) → answer_in core command ≡ decision opening history command
  next_decided command = λ i. answer_by (state-is i) (shows.waiting i) (shows.capacity i) command

  pub cause_is : (moment : ℕ) (packet : Packet) (word : ℕ)
      → Some (cause core.controller (arrival_of core.waiting core.capacity packet word) (length core.waiting))
      ≡ cause_after opening history (Arrive moment packet word)
  cause_is moment packet word = grind (arith, nat_tests, state-is)

-- the cause of the core's answer is the cause after the history
pub cause_found : (opening : Opening) (core : CoreView) (history : List Event) → Represents opening core history → (command : Command)
    → cause_in core command ≡ cause_after opening history command
cause_found opening core history shows (Arrive moment packet word) = cause_is opening core history shows moment packet word
cause_found opening core history shows _ = refl

-- the result of a command in a book is the outcome after the history
pub outcome_is : (opening : Opening) (core : CoreView) (history : List Event) → Represents opening core history → (tail_length : ℕ) (command : Command)
    → apply_in opening core tail_length command ≡ outcome opening (record { history = history; tail_length = tail_length }) command
outcome_is opening core history shows tail_length command = grind (arith, nat_tests, refusal_is, next_decided)

-- ---- Without an event

pub first_shows : (opening : Opening) → Represents opening (first_core opening) []
unfolding places admitted departed_count effective_moment greatest waiting_after controller_events stats_after largest_queue largest_delay waited
first_shows opening = record {
  legal = All-nil (IsLegalAt opening);
  capacity = refl;
  max_events = refl;
  count = refl;
  moment = let start : max opening.moment 0 ≡ opening.moment = omega arith in sym start;
  waiting = refl;
  controller = Represents_opened opening.choices.profile opening.choices.elements opening.params opening.moment _ refl;
  stats = refl;
}

pub first_shown : (opening : Opening) (core : CoreView) → core ≡ first_core opening → Represents opening core []
first_shown opening core is = subst (λ (c : CoreView). Represents opening c []) (sym is) (first_shows opening)

-- ---- One more event

-- each command's event is the controller's event of its call
controller_event-command : (core : CoreView) (now : ℕ) (command : Command)
    → controller_event (effect command (answer_in core command)) (arriving_size command) (oldest_since core.waiting) (bytes_of core.waiting)
    (bytes_of (waiting_next core.waiting now (effect command (answer_in core command)))) (caller_moment command)
    ≡ event_of_call core.controller (call_in core command)
controller_event-command core now command = grind (arith, nat_tests, sum_by_push)

-- the effective moment after a call
moment-next : (core : CoreView) (command : Command) → (after_call core.controller (call_in core command)).moment ≡ now_at core.controller (caller_moment command)
moment-next core command = grind (arith, nat_tests)

controller_events-push : (opening : Opening) (history : List Event) (event : Event)
    → controller_events opening (history ++ event ∷ []) ≡ controller_events opening history ++ controller_event_at opening (place_of history event) ∷ []
unfolding controller_events
controller_events-push opening history event = simp (places-push, map-append)

module _ (opening : Opening) (core : CoreView) (history : List Event) (shows : Represents opening core history) where
  pub next-shows : (caller : ℕ) (command : Command) → HasThreshold core.controller (call_in core command) → refusal_of core command ≡ None
      → Represents opening (core_after core command) (history ++ event_of caller command (answer_in core command) ∷ [])
  next-shows caller command small free =
      let event : Event = event_of caller command (answer_in core command) in
      let all : List Event = history ++ event ∷ [] in
      let d : Effect = effect command (answer_in core command) in
      let now : ℕ = now_at core.controller (caller_moment command) in
      let moment : now ≡ effective_moment opening (history ++ event ∷ []) =
      ap (λ (m : ℕ). max m (caller_moment command)) shows.moment ∙ sym (effective_moment-push opening history event) in
      let waiting : waiting_next core.waiting now d ≡ waiting_after opening (history ++ event ∷ []) =
      (λ i. waiting_next (shows.waiting i) (max (shows.moment i) (caller_moment command)) d)
      ∙ sym (waiting_after-push opening history event (departed-of-legal opening history shows.legal)) in
      let controller_is : controller_event d (arriving_size command) (oldest_since core.waiting) (bytes_of core.waiting)
      (bytes_of (waiting_next core.waiting now d)) (caller_moment command) ≡ controller_event_at opening (place_of history event) =
      λ i. controller_event d (arriving_size command) (oldest_since (shows.waiting i)) (bytes_of (shows.waiting i)) (bytes_of (waiting i))
      (caller_moment command) in
      let counts : with_queue (counted core.stats d (Steps.delay_answered core.controller (bytes_of core.waiting)) (age_of_oldest now core.waiting))
      (bytes_of (waiting_next core.waiting now d))
      ≡ with_queue (counted (stats_after opening history) d (delay_answered opening history)
      (age_of_oldest (effective_moment opening (history ++ event ∷ [])) (waiting_after opening history))) (bytes_after opening (history ++ event ∷ [])) =
      λ i. with_queue (counted (shows.stats i) d (answered-is opening core history shows i) (age_of_oldest (moment i) (shows.waiting i)))
      (bytes_of (waiting i)) in
      record {
        legal = legal-push opening history event shows.legal (record {
          taken = sym (refusal_is opening core history shows command) ∙ free;
          answered = next_decided opening core history shows command;
        });
        capacity = shows.capacity;
        max_events = shows.max_events;
        count = rw (shows.count, length-append history (event ∷ [])) refl;
        moment = moment-next core command ∙ moment;
        waiting = waiting;
        controller = rw (controller_events-push opening history event, ← controller_is, controller_event-command core now command)
            (Represents_call (opened_of opening) (controller_events opening history) core.controller shows.controller (call_in core command) small);
        stats = counts ∙ sym (stats_after-push opening history event);
      }

-- ---- Parameters stay in their ranges

pub good-next : (core : CoreView) (command : Command) → first_bad core.controller.params ≡ None → CommandFits command
    → first_bad (after_call core.controller (call_in core command)).params ≡ None
good-next core (Arrive moment packet word) good fit =
    let kept : (after_call core.controller (call_in core (Arrive moment packet word))).params ≡ core.controller.params = grind (arith, nat_tests) in rw kept good
good-next core (Depart moment) good fit =
    let kept : (after_call core.controller (call_in core (Depart moment))).params ≡ core.controller.params = grind (arith, nat_tests) in rw kept good
good-next core (SetParams moment params) good fit = fit.1.in_range
good-next core _ good fit = good

-- a core that represents a history represents it with a command that it accepts
pub next_shown : (opening : Opening) (core : CoreView) (history : List Event) → Represents opening core history → (caller : ℕ) (command : Command)
    → first_bad core.controller.params ≡ None → refusal_of core command ≡ None
    → Represents opening (core_after core command) (history ++ event_of caller command (answer_in core command) ∷ [])
next_shown opening core history shows caller command good free =
    next-shows opening core history shows caller command (in_range_has_threshold core.controller (call_in core command) good) free

-- a legal event after a history is the next event of a core that represents the history
pub next-legal : (opening : Opening) (core : CoreView) (history : List Event) (event : Event) → Represents opening core history
    → IsLegalAt opening (place_of history event) → IsNext core event
next-legal opening core history event shows here = grind (arith, nat_tests, refusal_is, next_decided)

-- the core then represents the history with the event
pub next-core : (opening : Opening) (core : CoreView) (history : List Event) (event : Event) → Represents opening core history
    → first_bad core.controller.params ≡ None → IsNext core event → Represents opening (core_after core event.command) (history ++ event ∷ [])
next-core opening core history event shows good next =
    let same : event_of event.caller event.command (answer_in core event.command) ≡ event =
    ap (λ (answer : Answer). event_of event.caller event.command answer) (sym next.answered) in
    subst (λ (e : Event). Represents opening (core_after core event.command) (history ++ e ∷ [])) same
    (next_shown opening core history shows event.caller event.command good next.taken)

-- ---- A whole history

-- a core that represents these events and satisfies P
pub record IsRun (P : List Event → CoreView → Type 0) (opening : Opening) (history : List Event) : Type 0 where
  pub core : CoreView
  pub represents : Represents opening core history
  pub good : first_bad core.controller.params ≡ None
  pub holds : P history core

-- P is kept by each accepted command
abbrev pub Stays : (List Event → CoreView → Type 0) → Opening → Type 0
Stays P opening = (core : CoreView) (history : List Event) (event : Event) → Represents opening core history → P history core → CommandFits event.command
    → refusal_of core event.command ≡ None
    → P (history ++ event ∷ []) (core_after core event.command)

module _ (P : List Event → CoreView → Type 0) (opening : Opening) (stays : Stays P opening) where
  run-next : (history : List Event) (event : Event) → IsRun P opening history → IsLegalAt opening (place_of history event)
      → CommandFits event.command → IsRun P opening (history ++ event ∷ [])
  run-next history event run here fit =
      let next = next-legal opening run.core history event run.represents here in
      record {
        core = core_after run.core event.command;
        represents = next-core opening run.core history event run.represents run.good next;
        good = good-next run.core event.command run.good fit;
        holds = stays run.core history event run.represents run.holds fit next.taken;
      }

  pub run_of : (history : List Event) → P [] (first_core opening) → first_bad opening.params ≡ None → IsLegal opening history
      → All (λ event. CommandFits event.command) history → IsRun P opening history
  run_of history first good legal fit = legal-all opening (λ h. All (λ event. CommandFits event.command) h → IsRun P opening h)
      (λ none. record { core = first_core opening; represents = first_shows opening; good = good; holds = first })
      (λ before event run here fits.
      let both = All-pop (λ (e : Event). CommandFits e.command) (before ++ event ∷ []) before (Some event) refl fits in
      run-next before event (run both.0) here both.1)
      history legal fit

-- ---- A controller with a queue decides as a core does, and has its state, over a whole run

calls-push : (opening : Opening) (history : List Event) (event : Event)
    → calls_of opening (history ++ event ∷ []) ≡ calls_of opening history ++ call_at opening (place_of history event) ∷ []
unfolding calls_of
calls-push opening history event = simp (places-push, map-append)

after-push : (h : ControllerState) (calls : List Call) (call : Call) → after_calls h (calls ++ call ∷ []) ≡ after_call (after_calls h calls) call
unfolding after_calls
after-push h [] call = refl
after-push h (first ∷ calls) call = after-push (after_call h first) calls call

none-called : (opening : Opening) → (first_core opening).controller ≡ state_after_calls opening []
unfolding calls_of places after_calls
none-called opening = refl

-- a core whose controller has the state after the calls of the history
abbrev HoldsCalls : Opening → List Event → CoreView → Type 0
HoldsCalls opening history core = core.controller ≡ state_after_calls opening history

call-next : (opening : Opening) → Stays (HoldsCalls opening) opening
call-next opening core history event shows holds fit free = grind (arith, nat_tests, calls-push, after-push)

pub run_beside : (opening : Opening) (history : List Event) (command : Command) → first_bad opening.params ≡ None → IsLegal opening history
    → All (λ event. CommandFits event.command) history
    → refusal_by_rule opening history command ≡ None
    → answer_by (state_after_calls opening history) (waiting_after opening history) opening.limits.packets command ≡ decision opening history command
run_beside opening history command good legal fit free =
    let run = run_of (HoldsCalls opening) opening (call-next opening) history (none-called opening) good legal fit in
    ap (λ (h : ControllerState). answer_by h (waiting_after opening history) opening.limits.packets command)
    (sym run.holds ∙ state-is opening run.core history run.represents)

-- ---- Events that follow from a core are legal after each history that the core represents

module _ (opening : Opening) where
  pub follows_legal : (core : CoreView) (history rest : List Event) → Represents opening core history → first_bad core.controller.params ≡ None
      → All (λ event. CommandFits event.command) rest → Follows core rest ↔ IsLegal opening (history ++ rest)
  unfolding Follows
  follows_legal core history [] shows good fit = (λ follows. rw (append-nil history) shows.legal, λ legal. tt)
  follows_legal core history (event ∷ rest) shows good fit =
      let joined : (history ++ event ∷ []) ++ rest ≡ history ++ (event ∷ rest) = append_assoc history (event ∷ []) rest in
      let later : IsNext core event → Follows (core_after core event.command) rest ↔ IsLegal opening ((history ++ event ∷ []) ++ rest) =
      λ next. follows_legal (core_after core event.command) (history ++ event ∷ []) rest
      (next-core opening core history event shows good next)
      (good-next core event.command good (All-head (λ e. CommandFits e.command) event rest fit)) (All-tail (λ e. CommandFits e.command) event rest fit) in (
        λ follows. subst (λ (h : List Event). IsLegal opening h) joined ((later follows.0).0 follows.1),
        λ legal.
            let next = next-legal opening core history event shows (at_place (IsLegalAt opening) history event rest legal) in
            (next, (later next).1 (subst (λ (h : List Event). IsLegal opening h) (sym joined) legal)),
      )

  -- the core after events that follow from it represents the history with them
  pub follows_shown : (core : CoreView) (history events : List Event) → Represents opening core history → first_bad core.controller.params ≡ None
      → All (λ event. CommandFits event.command) events → Follows core events → Represents opening (core_along core events) (history ++ events)
  unfolding Follows core_along
  follows_shown core history [] shows good fit follows = subst (λ (h : List Event). Represents opening core h) (sym (append-nil history)) shows
  follows_shown core history (event ∷ events) shows good fit follows =
      let joined : (history ++ event ∷ []) ++ events ≡ history ++ (event ∷ events) = append_assoc history (event ∷ []) events in
      subst (λ (h : List Event). Represents opening (core_along (core_after core event.command) events) h) joined
      (follows_shown (core_after core event.command) (history ++ event ∷ []) events (next-core opening core history event shows good follows.0)
      (good-next core event.command good (All-head (λ e. CommandFits e.command) event events fit)) (All-tail (λ e. CommandFits e.command) event events fit)
      follows.1)

-- A core stays balanced at each command, and its waiting packets stay in order. A core that resumes accepts them.

-- ---- Numbers and facts

pub balanced_to : (s : CoreSnapshot) → IsBalanced s → are_balanced s ≡ true
unfolding are_balanced
balanced_to s b = let no_update = b.no_update in grind (arith, nat_tests, b, no_update)

pub balanced_of : (s : CoreSnapshot) → are_balanced s ≡ true → IsBalanced s
unfolding are_balanced
balanced_of s e = grind (arith, nat_tests)

-- ---- One more command

module _ (core : CoreView) where
  queued-next : (command : Command) → IsBalanced (snapshot_of core)
      → let after = core_after core command in
      after.stats.enqueued + after.stats.marked ≡ after.stats.left + length after.waiting
  queued-next command b = grind (arith, nat_tests, length-append, length-drop)

  waits-next : (command : Command) → IsBalanced (snapshot_of core)
      → (core_after core command).stats.waited ≤ (core_after core command).stats.left * (core_after core command).controller.moment
  waits-next command b =
      let e = b.waits in
      let now : ℕ = Steps.now_at core.controller (caller_moment command) in
      let more : core.stats.left * core.controller.moment ≤ core.stats.left * now = grind (arith, nat_tests) in
      let one : (core.stats.left + 1) * now ≡ core.stats.left * now + now = omega arith in
      let moment : (core_after core command).controller.moment ≡ now = grind (arith, nat_tests) in
      let age : age_of_oldest now core.waiting ≤ now = grind (arith, nat_tests) in
      rw moment (grind (arith, nat_tests, e, more, one, age))

  pub balanced_next : (command : Command) → IsBalanced (snapshot_of core) → IsBalanced (snapshot_of (core_after core command))
  unfolding Steps.accu_left
  balanced_next command b = record {
    events = grind (arith, nat_tests, b.events);
    arrivals = grind (arith, nat_tests, b.arrivals);
    queued = queued-next command b;
    largest_queue = omega arith;
    largest_delay = grind (arith, nat_tests, b.largest_delay);
    last_wait = grind (arith, nat_tests, b.last_wait);
    waits = waits-next command b;
    no_update = grind (arith, nat_tests, b.no_update);
    delay = grind (arith, nat_tests, b.delay);
    picking = grind (arith, nat_tests, b.picking);
  }

-- ---- Without events, and with all packets

-- a resumed core from which no announced packet or byte is missing has a balanced snapshot, if the announced numbers are balanced
pub balanced_ended : (core : CoreView) (packets bytes : ℕ) → length core.waiting ≤ packets → bytes_of core.waiting ≤ bytes
    → end_refusal (record { core = core; packets = packets; bytes = bytes }) ≡ None
    → are_balanced (record { count = core.count; controller = core.controller; packets = packets; bytes = bytes; stats = core.stats }) ≡ true
    → IsBalanced (snapshot_of core)
balanced_ended core packets bytes few small ended balanced =
    let many : length core.waiting ≡ packets = grind (arith, nat_tests, few, ended) in
    let whole : bytes_of core.waiting ≡ bytes = grind (arith, nat_tests, few, small, ended) in
    subst IsBalanced (λ i. record { count = core.count; controller = core.controller; packets = sym many i; bytes = sym whole i; stats = core.stats })
    (balanced_of (record { count = core.count; controller = core.controller; packets = packets; bytes = bytes; stats = core.stats }) balanced)

-- ---- The order of the waiting packets

pub queued_none : (now : ℕ) → AreQueued now []
unfolding AreInOrder
queued_none now = record { sizes = All-nil HasSize; moments = All-nil (ArrivedBy now); order = tt }

order-push : (waiting : List Waiting) (new : Waiting) → AreInOrder waiting → All (ArrivedBy new.since) waiting → AreInOrder (waiting ++ new ∷ [])
unfolding AreInOrder
order-push [] new order before = (All-nil (ArrivedFrom new.since), tt)
order-push (first ∷ others) new order before = (
  All-push (ArrivedFrom first.since) others new order.0 (All-head (ArrivedBy new.since) first others before),
  order-push others new order.1 (All-tail (ArrivedBy new.since) first others before),
)

order-drop : (waiting : List Waiting) → AreInOrder waiting → AreInOrder (drop 1 waiting)
unfolding AreInOrder
order-drop waiting order = grind (arith, nat_tests)

-- one more packet of a permitted size, which arrives at `until`
pub queued_push : (now until : ℕ) (waiting : List Waiting) (packet : Packet) → now ≤ until → AreQueued now waiting → IsSize packet.size
    → AreQueued until (waiting ++ (record { packet = packet; since = until }) ∷ [])
queued_push now until waiting packet up old size =
    let new : Waiting = record { packet = packet; since = until } in
    let later : All (ArrivedBy until) waiting = λ k d lt. let is = old.moments k d lt in omega (arith, is, up) in
    record {
      sizes = All-push HasSize waiting new old.sizes size;
      moments = All-push (ArrivedBy until) waiting new later (omega arith);
      order = order-push waiting new old.order later;
    }

-- the size of a packet that an effect adds
abbrev IsOfSize : Effect → Type 0
IsOfSize (queued packet) = IsSize packet.size
IsOfSize (marked packet) = IsSize packet.size
IsOfSize _ = ⊤

queued-after : (now until : ℕ) (waiting : List Waiting) → now ≤ until → AreQueued now waiting → (d : Effect) → IsOfSize d
    → AreQueued until (waiting_next waiting until d)
queued-after now until waiting up old (departed packet) size = record {
  sizes = All-drop HasSize 1 waiting old.sizes;
  moments = All-drop (ArrivedBy until) 1 waiting (λ k d lt. let is = old.moments k d lt in omega (arith, is, up));
  order = order-drop waiting old.order;
}
queued-after now until waiting up old (queued packet) size = queued_push now until waiting packet up old size
queued-after now until waiting up old (marked packet) size = queued_push now until waiting (with_ce packet) up old size
queued-after now until waiting up old _ size =
    record { sizes = old.sizes; moments = λ k d lt. let is = old.moments k d lt in omega (arith, is, up); order = old.order }

pub good-size : (size : ℕ) → is_bad_size size ≡ false → IsSize size
good-size size is = (grind (arith, nat_tests), grind (arith, nat_tests))

size-taken : (core : CoreView) (command : Command) → has_bad_size command ≡ false → IsOfSize (effect command (answer_in core command))
size-taken core command size = grind (arith, nat_tests, good-size)

pub queued_next : (core : CoreView) (command : Command) → refusal_of core command ≡ None → AreQueued core.controller.moment core.waiting
    → AreQueued (core_after core command).controller.moment (core_after core command).waiting
queued_next core command free old =
    let now : ℕ = Steps.now_at core.controller (caller_moment command) in
    let d : Effect = effect command (answer_in core command) in
    let size : has_bad_size command ≡ false = grind (arith, nat_tests, free) in
    let moment : (core_after core command).controller.moment ≡ now = grind (arith, nat_tests) in
    let up : core.controller.moment ≤ now = grind (arith, nat_tests) in
    rw moment (queued-after core.controller.moment now core.waiting up old d (size-taken core command size))

-- ---- A core that resumes from the numbers of a core accepts its packets, one by one

at-next : (P : Waiting → Type 0) (before : List Waiting) (next : Waiting) (after : List Waiting) → All P (before ++ next ∷ after) → P next
at-next P [] next after all = All-head P next after all
at-next P (first ∷ before) next after all = at-next P before next after (All-tail P first (before ++ next ∷ after) all)

before-next : (before : List Waiting) (next : Waiting) (after : List Waiting) → AreInOrder (before ++ next ∷ after)
    → All (ArrivedBy next.since) before
unfolding AreInOrder
before-next [] next after order = All-nil (ArrivedBy next.since)
before-next (first ∷ before) next after order =
    All-cons (ArrivedBy next.since) first before (at-next (ArrivedFrom first.since) before next after order.0)
    (before-next before next after order.1)

newest-by : (waiting : List Waiting) (now : ℕ) → All (ArrivedBy now) waiting → newest_since waiting ≤ now
newest-by waiting now all = by (slice_get waiting (length waiting - 1)) refl
  where
    by : (newest : Option Waiting) → slice_get waiting (length waiting - 1) ≡ newest → option_map_or (λ (w : Waiting). w.since) newest 0 ≤ now
    by None is = omega arith
    by (Some one) is =
        subst (λ (w : Waiting). w.since ≤ now) (get_or_from_slice_get waiting (length waiting - 1) one one is)
        (all (length waiting - 1) one (slice_get_within waiting (length waiting - 1) one is))

sum-more : (before : List Waiting) (next : Waiting) (after : List Waiting)
    → bytes_of before + next.packet.size ≤ bytes_of (before ++ next ∷ after)
sum-more before next after =
    let sum = sum_by-append (λ (w : Waiting). w.packet.size) before (next ∷ after) in
    let first = sum_by-cons (λ (w : Waiting). w.packet.size) next after in
    omega (arith, sum, first)

pub next_is_taken : (limits : Limits) (core : CoreView) (before : List Waiting) (next : Waiting) (after : List Waiting)
    → AreQueued core.controller.moment core.waiting → core.waiting ≡ before ++ next ∷ after
    → queue_refusal (begun_with (core_of limits (snapshot_of core) before) (snapshot_of core)) next.packet next.since ≡ None
next_is_taken limits core before next after old is =
    let all : AreQueued core.controller.moment (before ++ next ∷ after) = subst (λ (w : List Waiting). AreQueued core.controller.moment w) is old in
    let many : length core.waiting ≡ length (before ++ next ∷ after) = ap (λ (w : List Waiting). length w) is in
    let large : bytes_of core.waiting ≡ bytes_of (before ++ next ∷ after) = ap (λ (w : List Waiting). bytes_of w) is in
    let longer = length-append before (next ∷ after) in
    let more = sum-more before next after in
    let arrived = at-next (ArrivedBy core.controller.moment) before next after all.moments in
    let ordered = newest-by before next.since (before-next before next after all.order) in
    let size = at-next HasSize before next after all.sizes in
    grind (arith, nat_tests)

pub none_is_missed : (limits : Limits) (core : CoreView)
    → end_refusal (begun_with (core_of limits (snapshot_of core) core.waiting) (snapshot_of core)) ≡ None
none_is_missed limits core = grind (arith, nat_tests)

newest-behind : (first next : Waiting) (others : List Waiting) → newest_since (first ∷ next ∷ others) ≡ newest_since (next ∷ others)
newest-behind first next others =
    let all : length (first ∷ next ∷ others) - 1 ≡ suc (length others) = omega arith in
    let rest : length (next ∷ others) - 1 ≡ length others = omega arith in
    rw (all, rest) refl

-- a packet that a resumed core accepts stays in order behind the others
newest-of : (waiting : List Waiting) (since : ℕ) → AreInOrder waiting → newest_since waiting ≤ since → All (ArrivedBy since) waiting
unfolding AreInOrder
newest-of [] since order newest = All-nil (ArrivedBy since)
newest-of (only ∷ []) since order newest = All-cons (ArrivedBy since) only [] newest (All-nil (ArrivedBy since))
newest-of (first ∷ next ∷ others) since order newest =
    let rest : All (ArrivedBy since) (next ∷ others) = newest-of (next ∷ others) since order.1 (rw (sym (newest-behind first next others)) newest) in
    let from = All-head (ArrivedFrom first.since) next others order.0 in
    let by = All-head (ArrivedBy since) next others rest in
    All-cons (ArrivedBy since) first (next ∷ others) (omega (arith, from, by)) rest

pub queued_resumed : (now : ℕ) (waiting : List Waiting) (packet : Packet) (since : ℕ) → AreQueued now waiting → IsSize packet.size → since ≤ now
    → newest_since waiting ≤ since → AreQueued now (waiting ++ (record { packet = packet; since = since }) ∷ [])
queued_resumed now waiting packet since old size within newest =
    let new : Waiting = record { packet = packet; since = since } in
    record {
      sizes = All-push HasSize waiting new old.sizes size;
      moments = All-push (ArrivedBy now) waiting new old.moments within;
      order = order-push waiting new old.order (newest-of waiting since old.order newest);
    }

-- ---- The cores of a book agree with the kept events, without a history: one more event, a new copy, and events that leave
-- the event log.

-- ---- The core after more events

pub along-append : (core : CoreView) (xs ys : List Event) → core_along core (xs ++ ys) ≡ core_along (core_along core xs) ys
unfolding core_along
along-append core [] ys = refl
along-append core (x ∷ xs) ys = along-append (core_after core x.command) xs ys

along-push : (core : CoreView) (xs : List Event) (event : Event)
    → core_along core (xs ++ event ∷ []) ≡ core_after (core_along core xs) event.command
unfolding core_along
along-push core [] event = refl
along-push core (x ∷ xs) event = along-push (core_after core x.command) xs event

-- a core after a command may have had the same opening
opens-next : (opening : Opening) (core : CoreView) (command : Command) → MayOpen opening core → MayOpen opening (core_after core command)
opens-next opening core command opened = record {
  limits = opened.limits;
  profile = grind (arith, nat_tests, opened.profile);
  elements = grind (arith, nat_tests, opened.elements);
  moment = grind (arith, nat_tests, opened.moment);
}

pub opens-along : (opening : Opening) (core : CoreView) (xs : List Event) → MayOpen opening core → MayOpen opening (core_along core xs)
unfolding core_along
opens-along opening core [] opened = opened
opens-along opening core (x ∷ xs) opened = opens-along opening (core_after core x.command) xs (opens-next opening core x.command opened)

-- the first events, and some of the others
take-more : {X : Type 0} (xs : List X) (m n : ℕ) → take (m + n) xs ≡ take m xs ++ take n (drop m xs)
take-more xs zero n = let none : zero + n ≡ n = omega arith in ap (λ (k : ℕ). take k xs) none
take-more [] (suc m) n = by (suc m + n) n
  where
    by : {Y : Type 0} (k n : ℕ) → ◌≡◌ {A = List Y} (take k []) (take n [])
    by zero zero = refl
    by zero (suc n) = refl
    by (suc k) zero = refl
    by (suc k) (suc n) = refl
take-more (x ∷ xs) (suc m) n =
    let more : suc m + n ≡ suc (m + n) = omega arith in
    ap (λ (k : ℕ). take k (x ∷ xs)) more ∙ ap (λ (l : List _). x ∷ l) (take-more xs m n)

-- events leave the event log
pub along-folded : (base : CoreView) (kept : List Event) (before_tail n : ℕ)
    → core_along base (take (before_tail + n) kept) ≡ core_along (core_along base (take before_tail kept)) (take n (drop before_tail kept))
along-folded base kept before_tail n = grind (arith, nat_tests, take-more, along-append)

-- ---- Events that follow

follows-cut : (core : CoreView) (xs ys : List Event) → Follows core (xs ++ ys) → Follows (core_along core xs) ys
unfolding Follows core_along
follows-cut core [] ys follows = follows
follows-cut core (x ∷ xs) ys follows = follows-cut (core_after core x.command) xs ys follows.1

follows-push : (core : CoreView) (xs : List Event) (event : Event) → Follows core xs → IsNext (core_along core xs) event
    → Follows core (xs ++ event ∷ [])
unfolding Follows core_along
follows-push core [] event follows next = (next, tt)
follows-push core (x ∷ xs) event follows next = (follows.0, follows-push (core_after core x.command) xs event follows.1 next)

-- ---- The cores of a book

pub consistent-none : (opening : Opening) (core base recent : CoreView) (recent_len : ℕ) (kept : List Event) → MayOpen opening core → base ≡ core
    → recent ≡ core → kept ≡ [] → IsConsistent opening base recent core recent_len kept
unfolding Follows core_along
consistent-none opening core base recent recent_len kept opened is copied none = grind (arith, nat_tests)

module _ (opening : Opening) (base recent running : CoreView) (recent_len : ℕ) (kept : List Event)
    (consistent : IsConsistent opening base recent running recent_len kept) where
  pub consistent-next : (event : Event) → recent_len ≤ length kept → IsNext running event
      → IsConsistent opening base recent (core_after running event.command) recent_len (kept ++ event ∷ [])
  consistent-next event within next = grind (arith, nat_tests, follows-push, take-append-le, along-push)

  parted : core_along recent (drop recent_len kept) ≡ running
  parted =
      ap (λ (c : CoreView). core_along c (drop recent_len kept)) (sym consistent.to_recent)
      ∙ sym (along-append base (take recent_len kept) (drop recent_len kept))
      ∙ ap (λ (l : List Event). core_along base l) (take-append-drop recent_len kept) ∙ consistent.to_running

  pub consistent-recent : (others : ℕ) → others ≡ length kept - recent_len → IsConsistent opening recent running running others (drop recent_len kept)
  consistent-recent others many =
      let opened = opens-along opening base (take recent_len kept) consistent.opened in
      record {
        opened = rw consistent.to_recent at opened;
        follows = grind (arith, nat_tests, follows-cut, take-append-drop);
        to_recent = grind (arith, nat_tests, length-drop, take_all, parted);
        to_running = parted;
      }

  -- the core before the event log is the copy `recent` after the events between them, if `recent` is not beyond it
  pub along-recent : (before_tail : ℕ) → recent_len ≤ before_tail → core_along recent (take (before_tail - recent_len) (drop recent_len kept)) ≡ core_along base (take before_tail kept)
  along-recent before_tail within =
      let whole : recent_len + (before_tail - recent_len) ≡ before_tail = omega (arith, within) in
      ap (λ (c : CoreView). core_along c (take (before_tail - recent_len) (drop recent_len kept))) (sym consistent.to_recent)
      ∙ sym (along-folded base kept recent_len (before_tail - recent_len)) ∙ ap (λ (n : ℕ). core_along base (take n kept)) whole

  -- the running core may have had the opening too
  pub consistent-opened : MayOpen opening running
  consistent-opened = let opened = opens-along opening base kept consistent.opened in rw consistent.to_running at opened

  -- the running core is the core before the event log after the events of the event log
  pub tail-leads : (before_tail : ℕ) → core_along (core_along base (take before_tail kept)) (drop before_tail kept) ≡ running
  tail-leads before_tail =
      sym (along-append base (take before_tail kept) (drop before_tail kept))
      ∙ ap (λ (l : List Event). core_along base l) (take-append-drop before_tail kept) ∙ consistent.to_running

  pub tail-follows : (before_tail : ℕ) → Follows (core_along base (take before_tail kept)) (drop before_tail kept)
  tail-follows before_tail = grind (arith, nat_tests, follows-cut, take-append-drop)

-- the core before the kept events decides the oldest of them
pub consistent-decided : (opening : Opening) (base recent running : CoreView) (recent_len : ℕ) (oldest : Event) (rest kept : List Event)
    → kept ≡ oldest ∷ rest → 1 ≤ recent_len
    → IsConsistent opening base recent running recent_len kept
    → IsConsistent opening (core_after base oldest.command) recent running (recent_len - 1) rest
unfolding Follows core_along
consistent-decided opening base recent running recent_len oldest rest kept is some consistent =
    let opened = opens-next opening base oldest.command consistent.opened in grind (arith, nat_tests, opened)

pub oldest-next : (base : CoreView) (oldest : Event) (rest kept : List Event) → kept ≡ oldest ∷ rest → Follows base kept → IsNext base oldest
unfolding Follows
oldest-next base oldest rest kept is follows = let all : Follows base (oldest ∷ rest) = subst (λ (l : List Event). Follows base l) is follows in all.0

-- the core before the event log is then unchanged
pub along-decided : (base : CoreView) (oldest : Event) (rest kept : List Event) (before_tail : ℕ) → kept ≡ oldest ∷ rest → 1 ≤ before_tail
    → core_along (core_after base oldest.command) (take (before_tail - 1) rest) ≡ core_along base (take before_tail kept)
unfolding core_along
along-decided base oldest rest kept before_tail is some = grind (arith, nat_tests)

-- a step that decides the next event
pub stepped : (old new : CoreView) (event : Event) (command : Command) (result : Result Answer Refusal) → command ≡ event.command → IsNext old event
    → result ≡ step_in old command → OnOk result (new ≡ core_after old command) → new ≡ core_after old event.command
stepped old new event command result same next answers after = grind (arith, nat_tests)

-- an event log with room keeps its events
pub has-room : (mode : Mode) (most : ℕ) (tail : List Event) → length tail < most → (tail ≡ kept_of mode most tail) × (left_by_one mode most tail ≡ [])
has-room mode most tail fewer = grind (arith, nat_tests)

pub along-none : (core : CoreView) (left : List Event) → left ≡ [] → core ≡ core_along core left
unfolding core_along
along-none core left none = sym (ap (λ (l : List Event). core_along core l) none)

-- no event has left
pub along_zero : (core : CoreView) (before_tail : ℕ) (events : List Event) → before_tail ≡ 0 → core ≡ core_along core (take before_tail events)
along_zero core before_tail events none = grind (arith, nat_tests, along-none)
