-- Parameters in their ranges.
use Rattle.std.proofs.Common.{◌≡◌, ◌≤◌, arith, ◌<◌, ◌-◌, ◌^◌, ◌&&◌, ℕ, ℤ, Bool, true, false, refl, ap, subst, sym, if◌then◌else◌, ◌↔◌, rules, List, [], ◌∷◌, ◌++◌, ◌∙◌, map}
use Rattle.std.specs.Prelude.{None, max, Option, Some, unwrap_or, min}
use Rattle.std.proofs.lemmas.Bool.Decides.{nat_tests}
use Rattle.pie_params.specs.declared.raw.RawParams.{RawParams}
use Rattle.pie_params.specs.Params.{IsInRange, first_bad}
use Rattle.pie_fixed.specs.Fixed.{bounded_of}
use Rattle.pie_aqm.specs.Steps.{Elements, departure, Begun, Estimate, ControlState, Profile, One, ArrivingPacket, ControllerState, IsSound, IsWithin, accu_left, anew, bytes_with, control_updated, delay_in, is_calm, judged, now_at, keeps_wait, measures, opened, opens_active, stays_active, turns_on, verdict, wait_of}
use Rattle.pie_rate.specs.Estimate.{averaged, after_departure, step_from}
use Rattle.pie_control.specs.History.{delay_of, next, ControlEvent, idled, reset, update_at}
use Rattle.pie_early.proofs.Laws.{accu_below, after_last-push_no, after_last-push_yes, represents_arrival, represents-next}
use Rattle.pie_aqm.specs.Calls.{Arrive, Call, Change, Depart, IsTaken, Advance, Restart, Update, after_call}
use Rattle.pie_aqm.specs.{first_unsound, Departure, Two, ControllerEvent, Opened, moment_of, params_set, ActivityEvent, active_of, change_at, change_by, clears_rate, clears_wait, clears_wait_at, control_at, update_inputs, control_of, wait_at, wait_input, waited_at_end, waited_of, control_input, delay_at_end, departure_input, departure_inputs, departures_of, early_at, arrival_inputs, early_of, early_input, events_of, is_active, is_active_in, is_calm_at_end, now_of, activity_event, activity_events, activity_events_after, params_of, parts_of, turns_on_by, Enqueue, considered_where, verdict_input, offered, HasThreshold, event_of_call, RepresentsCall, Arrived, Departed, Updated, Reset, Changed, Represents, estimate_of, state_of, capped, departed, no_estimate, advanced, renewed, updated}
use Rattle.std.specs.List.{after_last, cons_option, filter_map}
use Rattle.std.proofs.lemmas.List.{append-nil, map-append, append_assoc}
use Rattle.std.proofs.lemmas.List.Elements.{filter_map-append}
use Rattle.pie_aqm.specs.History.{Place, places, after, greatest, last_or}
use Rattle.pie_early.specs.Decision.{effective_prob_of, EarlyEvent, arrival, cleared}
use Rattle.pie_rate.proofs.Laws.{none_represented, represents_after}
use Rattle.pie_control.proofs.Laws.{represents_idled, represents_reset, represents_updated}
use Rattle.pie_early.specs.Decision as Early
use Rattle.pie_rate.specs.Estimate as Rate
use Rattle.pie_control.specs.History as Control

pub in-range : (params : RawParams) → first_bad params ≡ None → IsInRange params
in-range params e = record {
  target = (grind (arith, nat_tests), grind (arith, nat_tests));
  t_update = (grind (arith, nat_tests), grind (arith, nat_tests));
  max_burst = grind (arith, nat_tests);
  alpha = grind (arith, nat_tests);
  beta = grind (arith, nat_tests);
  mean_pkt = (grind (arith, nat_tests), grind (arith, nat_tests));
  limit_bytes = (grind (arith, nat_tests), grind (arith, nat_tests));
  mark_ecnth = grind (arith, nat_tests);
  dq_threshold = grind (arith, nat_tests);
}

-- the bounds of the threshold
pub threshold-holds : (params : RawParams) → first_bad params ≡ None → (1024 ≤ params.dq_threshold) × (params.dq_threshold ≤ 65536)
threshold-holds params e = grind (arith, nat_tests, in-range)

-- ---- The state of a controller stays sound at each call

-- ---- The accumulated probability

pub accu-small : (h : ControllerState) (a : ArrivingPacket) → h.accu < 8_500_000_000_000 → accu_left h a < 8_500_000_000_000
unfolding accu_left
accu-small h a small = grind (arith, nat_tests, accu_below)

-- ---- The departure rate

mixed-within : (t sample average : ℕ) → t ≤ 65536 → sample < 2 ^ 60 → average < 2 ^ 60 → averaged t average sample < 2 ^ 60
mixed-within t sample average small s a = grind arith

step-holds : (threshold average size bytes_left now : ℕ) (begun : Option Begun) → 0 < threshold → threshold ≤ 65536 → now < 2 ^ 60 → average < 2 ^ 60
    → IsWithin threshold now begun
    → let e : Estimate = step_from threshold average (departure size bytes_left now) begun in (e.average < 2 ^ 60) × IsWithin threshold now e.begun
step-holds threshold average size bytes_left now None some small within a w = grind (arith, nat_tests)
step-holds threshold average size bytes_left now (Some cycle) some small within a w =
    let mixed = mixed-within threshold (max 1 (now - cycle.start)) average small (omega arith) a in grind (arith, nat_tests)

-- ---- The control law

bounded-hold : (z : ℤ) → bounded_of z ≤ 10 ^ 12
bounded-hold z = grind (arith, nat_tests)

pub next-hold : (elements : Elements) (params : RawParams) (prob delay old : ℕ) → next elements params prob delay old ≤ 10 ^ 12
unfolding next
next-hold elements params prob delay old = grind (arith, nat_tests, bounded-hold)

pub delay-hold : (bytes average threshold : ℕ) → delay_of bytes average threshold ≤ 2 ^ 40
unfolding delay_of
delay-hold bytes average threshold = omega arith

-- ---- Each call

pub Sound_opened : (profile : Profile) (elements : Elements) (params : RawParams) (moment : ℕ) → first_bad params ≡ None → moment < 2 ^ 60
    → IsSound (opened profile elements params moment)
Sound_opened profile elements params moment good within =
    let burst = (in-range params good).max_burst in
    let always : profile ≡ One → opens_active profile ≡ true = λ one. ap opens_active one in
    search (rules, good, within, burst, always)

Sound-anew : (h : ControllerState) → IsSound h → (active : Bool) → (h.profile ≡ One → active ≡ true) → IsSound (record (anew h) { active = active })
Sound-anew h sound active always = search (rules, sound, always, (in-range h.params sound.params).max_burst)

-- at a later moment
module _ (h : ControllerState) (sound : IsSound h) (moment : ℕ) (within : moment < 2 ^ 60) where
  advanced-moment : now_at h moment < 2 ^ 60
  advanced-moment = let before = sound.moment in omega arith

  cycle : IsWithin h.params.dq_threshold (now_at h moment) h.rate.begun
  cycle = let before = sound.cycle in grind (arith, nat_tests)

  last : h.control.last ≤ now_at h moment
  last = let before = sound.last in omega arith

  advance-sound : IsSound (record h { moment = now_at h moment })
  advance-sound = search (rules, sound, advanced-moment, cycle, last)

  arrive-sound : (a : ArrivingPacket) → IsSound (after_call h (Arrive a moment))
  arrive-sound a = by (turns_on h (bytes_with (verdict h a) a.queued a.size))
      (search (rules, sound, advanced-moment, cycle, last, accu-small h a sound.accu))
    where
      by : (on : Bool) → IsSound (judged h a moment) → IsSound (if on then record (anew (judged h a moment)) { active = true } else judged h a moment)
      by true here = Sound-anew (judged h a moment) here true (λ one. refl)
      by false here = here

  depart-sound : (size bytes_left since : ℕ) → IsSound (after_call h (Depart size bytes_left since moment))
  depart-sound size bytes_left since =
      search (rules, sound, advanced-moment, last, rates (measures h.active h.elements.delay), waits (keeps_wait h.active h.elements.delay))
    where
      rates : (b : Bool) → let e : Estimate = if b then after_departure h.params.dq_threshold h.rate (departure size bytes_left (now_at h moment))
          else h.rate in (e.average < 2 ^ 60) × IsWithin h.params.dq_threshold (now_at h moment) e.begun
      rates true =
          let threshold = threshold-holds h.params sound.params in
          let least = threshold.0 in
          step-holds h.params.dq_threshold h.rate.average size bytes_left (now_at h moment) h.rate.begun (omega arith) threshold.1 advanced-moment
          sound.average cycle
      rates false = (sound.average, cycle)

      waits : (b : Bool) → (if b then wait_of bytes_left since (now_at h moment) else h.waited) ≤ 2 ^ 40
      waits b = let before = sound.waited in grind (arith, nat_tests)

  update-sound : (queued : ℕ) → IsSound (after_call h (Update queued moment))
  update-sound queued =
      let always : h.profile ≡ One → (h.active && stays_active h.profile (is_calm h queued)) ≡ true =
      λ one. let on = sound.active one in grind (arith, nat_tests) in
      search (rules, sound, advanced-moment, cycle, by h.active, always)
    where
      by : (active : Bool) → let parts : ControlState = if active then control_updated h.elements h.params h.control (delay_in h queued) (now_at h moment)
          else record h.control { last = now_at h moment } in
          (parts.prob ≤ 10 ^ 12) × (parts.old_delay ≤ 2 ^ 40) × (parts.burst ≤ 10 ^ 12) × (parts.last ≤ now_at h moment)
      by true =
          let delay = delay-hold queued h.rate.average h.params.dq_threshold in
          let most = (in-range h.params sound.params).max_burst in (
            next-hold h.elements h.params h.control.prob (delay_in h queued) h.control.old_delay,
            grind (arith, nat_tests, sound.waited),
            grind (arith, nat_tests, sound.burst),
            omega arith,
          )
      by false = (sound.prob, sound.old_delay, sound.burst, omega arith)

  change-sound : (params : RawParams) → first_bad params ≡ None → IsSound (after_call h (Change params moment))
  change-sound params good = search (rules, sound, good, advanced-moment, last)

pub Sound_call : (h : ControllerState) → IsSound h → (call : Call) → IsTaken call → IsSound (after_call h call)
Sound_call h sound (Arrive a moment) taken = arrive-sound h sound moment taken a
Sound_call h sound (Depart size bytes_left since moment) taken = depart-sound h sound moment taken size bytes_left since
Sound_call h sound (Advance moment) taken = advance-sound h sound moment taken
Sound_call h sound (Update queued moment) taken = update-sound h sound moment taken queued
Sound_call h sound (Restart moment) taken = Sound-anew (record h { moment = now_at h moment }) (advance-sound h sound moment taken) h.active sound.active
Sound_call h sound (Change params moment) taken = change-sound h sound moment taken.0 params taken.1

pub stays_sound : (h g : ControllerState) → g ≡ h → IsSound h → IsSound g
stays_sound h g is sound = subst (λ (k : ControllerState). IsSound k) (sym is) sound

-- ---- `first_unsound` returns no number exactly if the state is sound

pub sound_from : (h : ControllerState) → first_unsound h ≡ None → IsSound h
unfolding first_unsound
sound_from h none = record {
  params = grind (arith, nat_tests);
  moment = grind (arith, nat_tests);
  prob = grind (arith, nat_tests);
  old_delay = grind (arith, nat_tests);
  burst = grind (arith, nat_tests);
  last = grind (arith, nat_tests);
  accu = grind (arith, nat_tests);
  average = grind (arith, nat_tests);
  cycle = grind (arith, nat_tests);
  waited = grind (arith, nat_tests);
  active = λ one. grind (arith, nat_tests);
}

pub sound_to : (h : ControllerState) → IsSound h → first_unsound h ≡ None
unfolding first_unsound
sound_to h s = grind (arith, nat_tests, s.params, s.cycle, s.active)

pub sound_is : (h : ControllerState) → (first_unsound h ≡ None) ↔ IsSound h
sound_is h = (sound_from h, sound_to h)

-- The places of a history with one more event at its end, and the elements filtered from them.

-- the place of an event after these events
abbrev pub place_of : {E : Type 0} → List E → E → Place E
place_of history event = record { before = history; event = event }

-- the last event's place is after all the others
pub places-push : {E : Type 0} (history : List E) (event : E) → places (history ++ event ∷ []) ≡ places history ++ place_of history event ∷ []
unfolding places
places-push [] event = refl
places-push (first ∷ history) event =
    rw (places-push history event) (rw (map-append (after first) (places history) (place_of history event ∷ [])) refl)

-- a list with one more element at its end, or unchanged
abbrev pub with_one : {X : Type 0} → List X → Option X → List X
with_one xs None = xs
with_one xs (Some x) = xs ++ x ∷ []

-- a filtered list with one more element at the end
pub filter_map-push : {X Y : Type 0} (h : X → Option Y) (xs : List X) (x : X) → filter_map h (xs ++ x ∷ []) ≡ with_one (filter_map h xs) (h x)
filter_map-push {X} {Y} h xs x = filter_map-append h xs (x ∷ []) ∙ by (filter_map h xs) (h x)
  where
    by : (kept : List Y) (entry : Option Y) → kept ++ cons_option entry [] ≡ with_one kept entry
    by kept None = append-nil kept
    by kept (Some y) = refl

-- a filtered list of places with one more event
pub from_places-push : {E Y : Type 0} (h : Place E → Option Y) (history : List E) (event : E)
    → filter_map h (places (history ++ event ∷ [])) ≡ with_one (filter_map h (places history)) (h (place_of history event))
from_places-push h history event = simp (places-push, filter_map-push)

-- a filtered list of the places after the last one that clears
pub since-push : {E Y : Type 0} (clears : Place E → Bool) (h : Place E → Option Y) (history : List E) (event : E)
    → filter_map h (after_last clears (places (history ++ event ∷ [])))
    ≡ (if clears (place_of history event) then [] else with_one (filter_map h (after_last clears (places history))) (h (place_of history event)))
since-push {E} {Y} clears h history event =
    ap (λ xs. filter_map h (after_last clears xs)) (places-push history event) ∙ by (clears (place_of history event)) refl
  where
    by : (b : Bool) → clears (place_of history event) ≡ b → filter_map h (after_last clears (places history ++ place_of history event ∷ []))
        ≡ (if b then [] else with_one (filter_map h (after_last clears (places history))) (h (place_of history event)))
    by true e = ap (λ xs. filter_map h xs) (after_last-push_yes clears (places history) (place_of history event) e)
    by false e = ap (λ xs. filter_map h xs) (after_last-push_no clears (places history) (place_of history event) e)
        ∙ filter_map-push h (after_last clears (places history)) (place_of history event)

pub greatest-push : (xs : List ℕ) (y : ℕ) → greatest (xs ++ y ∷ []) ≡ max (greatest xs) y
unfolding greatest
greatest-push [] y = omega arith
greatest-push (x ∷ xs) y = let more = greatest-push xs y in omega arith

-- the last element of a list with one more element, or unchanged
pub last_or-push : {X : Type 0} (d : X) (xs : List X) (x : X) → last_or d (xs ++ x ∷ []) ≡ x
unfolding last_or
last_or-push d [] x = refl
last_or-push d (y ∷ ys) x = last_or-push y ys x

pub last_or-one : {X : Type 0} (d : X) (xs : List X) (one : Option X) → last_or d (with_one xs one) ≡ unwrap_or one (last_or d xs)
last_or-one d xs None = refl
last_or-one d xs (Some x) = last_or-push d xs x

-- ---- The change of each part's list of inputs, and of the activity, by one more event.

-- ---- The moment and the parameters

pub moment-push : (opened : Opened) (events : List ControllerEvent) (event : ControllerEvent)
    → now_of opened (events ++ event ∷ []) ≡ max (now_of opened events) (moment_of event)
unfolding now_of
moment-push opened events event =
    rw (map-append moment_of events (event ∷ [])) (greatest-push (opened.moment ∷ map moment_of events) (moment_of event))

pub params-push : (opened : Opened) (events : List ControllerEvent) (event : ControllerEvent)
    → params_of opened (events ++ event ∷ []) ≡ unwrap_or (params_set event) (params_of opened events)
unfolding params_of
params-push opened events event =
    simp (filter_map-push, last_or-one)

-- ---- Events with their activity

activity_after-push : (opened : Opened) (earlier : List ActivityEvent) (events : List ControllerEvent) (event : ControllerEvent)
    → activity_events_after opened earlier (events ++ event ∷ []) ≡ activity_events_after opened earlier events ++ activity_event opened (activity_events_after opened earlier events) event
    ∷ []
unfolding activity_events_after
activity_after-push opened earlier [] event = refl
activity_after-push opened earlier (first ∷ events) event = activity_after-push opened (earlier ++ activity_event opened earlier first ∷ []) events event

activity-push : (opened : Opened) (events : List ControllerEvent) (event : ControllerEvent)
    → activity_events opened (events ++ event ∷ []) ≡ activity_events opened events ++ activity_event opened (activity_events opened events) event ∷ []
unfolding activity_events
activity-push opened events event = activity_after-push opened [] events event

events-activity_after : (opened : Opened) (earlier : List ActivityEvent) (events : List ControllerEvent)
    → events_of (activity_events_after opened earlier events) ≡ events_of earlier ++ events
unfolding activity_events_after
events-activity_after opened earlier [] = sym (append-nil (events_of earlier))
events-activity_after opened earlier (first ∷ events) =
    events-activity_after opened (earlier ++ activity_event opened earlier first ∷ []) events
    ∙ ap (λ (all : List ControllerEvent). all ++ events) (map-append (λ (n : ActivityEvent). n.event) earlier (activity_event opened earlier first ∷ []))
    ∙ append_assoc (events_of earlier) (first ∷ []) events

-- the events with their activity are the events
pub events-activity : (opened : Opened) (events : List ControllerEvent) → events_of (activity_events opened events) ≡ events
unfolding activity_events
events-activity opened events = events-activity_after opened [] events

-- true if one more event activates the controller
abbrev pub turned_on : Opened → List ControllerEvent → ControllerEvent → Bool
turned_on opened events event = turns_on_by event (active_of opened events) (params_of opened events)

-- the place of one more event
abbrev last_place : Opened → List ControllerEvent → ControllerEvent → Place ActivityEvent
last_place opened events event = place_of (activity_events opened events) (activity_event opened (activity_events opened events) event)

-- the elements filtered from the places, with one more event
filtered-push : {Y : Type 0} (h : Place ActivityEvent → Option Y) (opened : Opened) (events : List ControllerEvent) (event : ControllerEvent)
    → filter_map h (places (activity_events opened (events ++ event ∷ [])))
    ≡ with_one (filter_map h (places (activity_events opened events))) (h (last_place opened events event))
filtered-push h opened events event = simp (activity-push, from_places-push)

-- ---- Activity

-- the activity after an event, from the change that it makes
abbrev pub active_next : Profile → Bool → Option Bool → Bool
active_next profile active None = active
active_next One active (Some new) = true
active_next Two active (Some new) = new

pub active-push : (opened : Opened) (events : List ControllerEvent) (event : ControllerEvent)
    → active_of opened (events ++ event ∷ [])
    ≡ active_next opened.profile (active_of opened events) (change_by event (active_of opened events) (turned_on opened events event)
    (is_calm_at_end opened (activity_events opened events)))
unfolding active_of is_active
active-push opened events event =
    by opened.profile ∙ ap (active_next opened.profile (is_active_in opened.profile opened (activity_events opened events))) shown
  where
    shown : change_at opened (last_place opened events event)
        ≡ change_by event (is_active opened (activity_events opened events)) (turns_on_by event (is_active opened (activity_events opened events)) (params_of opened events))
        (is_calm_at_end opened (activity_events opened events))
    shown = rw (events-activity opened events) refl

    in_one : (change : Option Bool) → true ≡ active_next One true change
    in_one change = grind (arith, nat_tests)

    in_two : (changes : List Bool) (change : Option Bool) → last_or false (with_one changes change) ≡ active_next Two (last_or false changes) change
    in_two changes None = refl
    in_two changes (Some new) = last_or-one false changes (Some new)

    by : (profile : Profile) → is_active_in profile opened (activity_events opened (events ++ event ∷ []))
        ≡ active_next profile (is_active_in profile opened (activity_events opened events)) (change_at opened (last_place opened events event))
    by One = in_one (change_at opened (last_place opened events event))
    by Two = ap (λ (xs : List Bool). last_or false xs) (filtered-push (change_at opened) opened events event)
        ∙ in_two (filter_map (change_at opened) (places (activity_events opened events))) (change_at opened (last_place opened events event))

-- in profile one the controller is always active
pub one_is_active : (opened : Opened) (events : List ControllerEvent) → opened.profile ≡ One → active_of opened events ≡ true
unfolding active_of is_active
one_is_active opened events one = ap (λ (profile : Profile). is_active_in profile opened (activity_events opened events)) one

-- ---- The inputs of the parts

-- the departures since the estimate was cleared, after one more event at this moment
abbrev pub departures_next : ControllerEvent → Bool → Bool → List Departure → ℕ → List Departure
departures_next event measured on departures now = if clears_rate event on then [] else with_one departures (departure_input event measured now)

pub departures-push : (opened : Opened) (events : List ControllerEvent) (event : ControllerEvent)
    → departure_inputs opened (events ++ event ∷ [])
    ≡ departures_next event (measures (active_of opened events) opened.elements.delay) (turned_on opened events event)
    (departure_inputs opened events) (max (now_of opened events) (moment_of event))
unfolding departure_inputs departures_of active_of
departures-push opened events event = simp (activity-push, since-push, events-activity, moment-push)

-- the time that the last departed packet spent in the queue, after one more event at this moment
abbrev pub waited_next : ControllerEvent → Bool → Bool → ℕ → ℕ → ℕ
waited_next event kept on waited now = if clears_wait event on then 0 else unwrap_or (wait_input event kept now) waited

pub waited-push : (opened : Opened) (events : List ControllerEvent) (event : ControllerEvent)
    → waited_of opened (events ++ event ∷ [])
    ≡ waited_next event (keeps_wait (active_of opened events) opened.elements.delay) (turned_on opened events event) (waited_of opened events)
    (max (now_of opened events) (moment_of event))
unfolding waited_of waited_at_end active_of last_or
waited-push opened events event =
    simp (activity-push, since-push, events-activity, moment-push)
    (by (clears_wait event (turned_on opened events event))
    (wait_input event (keeps_wait (active_of opened events) opened.elements.delay) (max (now_of opened events) (moment_of event))))
  where
    before : List ℕ
    before = filter_map (wait_at opened) (after_last (clears_wait_at opened) (places (activity_events opened events)))

    by : (b : Bool) (wait : Option ℕ) → last_or 0 (if b then [] else with_one before wait) ≡ (if b then 0 else unwrap_or wait (last_or 0 before))
    by true wait = refl
    by false wait = last_or-one 0 before wait

pub control-push : (opened : Opened) (events : List ControllerEvent) (event : ControllerEvent)
    → update_inputs opened (events ++ event ∷ [])
    ≡ with_one (update_inputs opened events) (control_input event (active_of opened events) (turned_on opened events event)
    (params_of opened events) opened.elements (delay_at_end opened (activity_events opened events)) (max (now_of opened events) (moment_of event)))
unfolding update_inputs control_of active_of
control-push opened events event =
    rw (filtered-push (control_at opened) opened events event, events-activity opened events, moment-push opened events event) refl

pub early-push : (opened : Opened) (events : List ControllerEvent) (event : ControllerEvent)
    → arrival_inputs opened (events ++ event ∷ [])
    ≡ with_one (arrival_inputs opened events) (early_input event (active_of opened events) (turned_on opened events event)
    opened.elements (params_of opened events) (parts_of opened (update_inputs opened events)))
unfolding arrival_inputs early_of update_inputs active_of
early-push opened events event = rw (filtered-push (early_at opened) opened events event, events-activity opened events) refl

-- ---- The state of early drop after an arrival, for any list that it represents

-- the list after an arrival and its verdict
pub early-step : (h : ControllerState) (a : ArrivingPacket) (events : List EarlyEvent) → Early.Represents events h.accu
    → Early.Represents (events ++ verdict_input (verdict h a) (considered_where h.active h.params h.control a.queued)
    (effective_prob_of h.elements h.params h.control (offered a)) h.elements.picking ∷ []) (accu_left h a)
unfolding verdict accu_left
early-step h a events shown =
    let as_cleared = represents-next events h.accu cleared shown in
    let unseen = represents-next events h.accu (arrival false (effective_prob_of h.elements h.params h.control (offered a)) h.elements.picking Enqueue) shown in
    let seen = represents_arrival h.elements.picking h.params h.control (effective_prob_of h.elements h.params h.control (offered a)) a.queued a.word h.accu events
    a.ecn shown in
    grind (arith, nat_tests)

-- ---- The state after each call represents one more event

-- ---- The parts' abstraction relations, as equations

parts-is : (o : Opened) (events : List ControlEvent) (parts : ControlState) → Control.Represents o.params o.moment events parts → parts ≡ parts_of o events
parts-is o events parts shown = rw (← shown.prob, ← shown.old_delay, ← shown.burst, ← shown.last) refl

rate-is : (threshold : ℕ) (departures : List Departure) (e : Estimate) → Rate.Represents threshold departures e → e ≡ estimate_of threshold departures
rate-is threshold departures e shown = rw (← shown.average, ← shown.begun) refl

none-is : (threshold : ℕ) → estimate_of threshold [] ≡ no_estimate
none-is threshold = sym (rate-is threshold [] no_estimate (none_represented threshold))

-- ---- Activity

active-opened : (profile : Profile) (elements : Elements) (params : RawParams) (moment : ℕ)
    → opens_active profile ≡ active_of (record { profile = profile; elements = elements; params = params; moment = moment }) []
unfolding active_of is_active activity_events activity_events_after places last_or
active-opened One elements params moment = refl
active-opened Two elements params moment = refl

active-on : (profile : Profile) (active : Bool) → active_next profile active (Some true) ≡ true
active-on profile active = grind (arith, nat_tests)

active-update : (profile : Profile) (active calm : Bool)
    → active_next profile active (if active then (if calm then Some false else None) else None) ≡ (active && stays_active profile calm)
active-update profile active calm = grind (arith, nat_tests)

-- ---- Without an event

pub Represents_opened : (profile : Profile) (elements : Elements) (params : RawParams) (moment : ℕ) (new : ControllerState)
    → new ≡ opened profile elements params moment → Represents (record { profile = profile; elements = elements; params = params; moment = moment }) [] new
unfolding Represents state_of now_of params_of departure_inputs departures_of waited_of waited_at_end update_inputs control_of arrival_inputs early_of activity_events
    activity_events_after places greatest last_or Control.probability Control.last_delay Control.last_moment Control.granted_burst Control.burst_allowance
    Early.accumulated
Represents_opened profile elements params moment new is =
    let now : moment ≡ max moment 0 = omega arith in
    let burst : params.max_burst ≡ params.max_burst - 0 = omega arith in
    let active = active-opened profile elements params moment in
    let none = none-is params.dq_threshold in
    is ∙ λ i. record {
      profile = profile;
      elements = elements;
      params = params;
      moment = now i;
      active = active i;
      rate = sym none i;
      waited = 0;
      control = record { prob = 0; old_delay = 0; burst = burst i; last = moment };
      accu = 0;
    }

-- ---- One more event

module _ (o : Opened) (events : List ControllerEvent) where
  -- each part after one more event, which activates the controller or not
  abbrev next_if : Bool → ControllerEvent → ControllerState
  next_if on event = record {
    profile = o.profile;
    elements = o.elements;
    params = unwrap_or (params_set event) (params_of o events);
    moment = max (now_of o events) (moment_of event);
    active = active_next o.profile (active_of o events) (change_by event (active_of o events) on (is_calm_at_end o (activity_events o events)));
    rate = estimate_of (unwrap_or (params_set event) (params_of o events)).dq_threshold (departures_next event
        (measures (active_of o events) o.elements.delay) on (departure_inputs o events) (max (now_of o events) (moment_of event)));
    waited = waited_next event (keeps_wait (active_of o events) o.elements.delay) on (waited_of o events)
        (max (now_of o events) (moment_of event));
    control = parts_of o (with_one (update_inputs o events) (control_input event (active_of o events) on (params_of o events) o.elements
        (delay_at_end o (activity_events o events)) (max (now_of o events) (moment_of event))));
    accu = Early.accumulated (with_one (arrival_inputs o events) (early_input event (active_of o events) on o.elements (params_of o events)
        (parts_of o (update_inputs o events))));
  }

  state-push : (event : ControllerEvent) → state_of o (events ++ event ∷ []) ≡ next_if (turned_on o events event) event
  unfolding state_of
  state-push event = simp (params-push, moment-push, active-push, departures-push, waited-push, control-push, early-push)

  delay-is : (queued : ℕ) → delay_at_end o (activity_events o events) queued ≡ delay_in (state_of o events) queued
  unfolding state_of delay_at_end departure_inputs waited_of
  delay-is queued = rw (events-activity o events) refl

  calm-is : (queued : ℕ) → is_calm_at_end o (activity_events o events) queued ≡ is_calm (state_of o events) queued
  unfolding state_of update_inputs
  calm-is queued = rw (delay-is queued, events-activity o events) refl

  -- the state of the control law after these inputs
  own : (us : List ControlEvent) → Control.Represents o.params o.moment us (parts_of o us)
  own us = record { prob = refl; old_delay = refl; burst = refl; last = refl }

  -- the control law and early drop after a reset or activation
  control-reset : parts_of o (update_inputs o events ++ reset (params_of o events) ∷ []) ≡ renewed (params_of o events) (parts_of o (update_inputs o events))
  control-reset = sym (parts-is o _ _ (represents_reset o.params o.moment (update_inputs o events) _ _ (own (update_inputs o events)) (params_of o events) refl))

  early-cleared : Early.accumulated (arrival_inputs o events ++ cleared ∷ []) ≡ 0
  early-cleared = sym (represents-next (arrival_inputs o events) (Early.accumulated (arrival_inputs o events)) cleared refl)

  depart-next : (size bytes_left since moment : ℕ) → (state_of o events).params.dq_threshold ≤ 65536
      → next_if false (Departed size bytes_left since moment) ≡ departed (state_of o events) size bytes_left since moment
  unfolding state_of
  depart-next size bytes_left since moment small =
      let rate = rated (measures (active_of o events) o.elements.delay) in
      let waited = kept (keeps_wait (active_of o events) o.elements.delay) in
      λ i. record (advanced (state_of o events) moment) { rate = rate i; waited = waited i }
    where
      d : Departure
      d = departure size bytes_left (max (now_of o events) moment)

      t : ℕ
      t = (params_of o events).dq_threshold

      rated : (b : Bool) → estimate_of t (with_one (departure_inputs o events) (if b then Some d else None))
          ≡ (if b then after_departure t (estimate_of t (departure_inputs o events)) d else estimate_of t (departure_inputs o events))
      rated true = sym (rate-is t (departure_inputs o events ++ d ∷ []) (after_departure t (estimate_of t (departure_inputs o events)) d)
          (represents_after t (departure_inputs o events) d (estimate_of t (departure_inputs o events)) small (record { average = refl; begun = refl })))
      rated false = refl

      kept : (b : Bool) → unwrap_or (if b then Some (wait_of bytes_left since (max (now_of o events) moment)) else None) (waited_of o events)
          ≡ (if b then wait_of bytes_left since (max (now_of o events) moment) else waited_of o events)
      kept b = grind (arith, nat_tests)

  update-next : (queued moment : ℕ) → next_if false (Updated queued moment) ≡ updated (state_of o events) queued moment
  unfolding state_of
  update-next queued moment = rw (calm-is queued, delay-is queued) (λ i. record (advanced (state_of o events) moment) {
    active = active-update o.profile (active_of o events) (is_calm (state_of o events) queued) i;
    control = by (delay_in (state_of o events) queued) (max (now_of o events) moment) (active_of o events) i;
  })
    where
      us : List ControlEvent
      us = update_inputs o events

      by : (delay now : ℕ) (b : Bool) → parts_of o (us ++ (if b then update_at (params_of o events) o.elements delay now else idled now) ∷ [])
          ≡ (if b then control_updated o.elements (params_of o events) (parts_of o us) delay now else record (parts_of o us) { last = now })
      by delay now true = sym (parts-is o _ _ (represents_updated o.params o.moment us _ _ (own us) (params_of o events) o.elements delay now refl))
      by delay now false = sym (parts-is o _ _ (represents_idled o.params o.moment us _ _ (own us) now refl))

  reset-next : (moment : ℕ) → next_if false (Reset moment) ≡ after_call (state_of o events) (Restart moment)
  unfolding state_of
  reset-next moment = simp (none-is, control-reset, early-cleared)

  change-next : (params : RawParams) (moment : ℕ) → next_if false (Changed params moment) ≡ after_call (state_of o events) (Change params moment)
  unfolding state_of
  change-next params moment = simp none-is

  arrive-next : (a : ArrivingPacket) (moment : ℕ) (on : Bool)
      → next_if on (Arrived (verdict (state_of o events) a) a.size a.queued (bytes_with (verdict (state_of o events) a) a.queued a.size) moment)
      ≡ (if on then record (anew (judged (state_of o events) a moment)) { active = true } else judged (state_of o events) a moment)
  unfolding state_of
  arrive-next a moment true = simp (active-on, none-is, control-reset, early-cleared)
  arrive-next a moment false = simp (sym (early-step (state_of o events) a (arrival_inputs o events) refl))

  call-next : (call : Call) → HasThreshold (state_of o events) call
      → next_if (turned_on o events (event_of_call (state_of o events) call)) (event_of_call (state_of o events) call) ≡ after_call (state_of o events) call
  unfolding state_of
  call-next (Arrive a moment) small = arrive-next a moment (turns_on (state_of o events) (bytes_with (verdict (state_of o events) a) a.queued a.size))
  call-next (Depart size bytes_left since moment) small = depart-next size bytes_left since moment small
  call-next (Advance moment) small = refl
  call-next (Update queued moment) small = update-next queued moment
  call-next (Restart moment) small = reset-next moment
  call-next (Change params moment) small = change-next params moment

pub Represents_call : (o : Opened) (events : List ControllerEvent) (state : ControllerState) → Represents o events state
    → (call : Call) → HasThreshold state call
    → Represents o (events ++ event_of_call state call ∷ []) (after_call state call)
unfolding Represents
Represents_call o events state shows =
    subst (λ (h : ControllerState). (call : Call) → HasThreshold h call → after_call h call ≡ state_of o (events ++ event_of_call h call ∷ [])) (sym shows)
    (λ call small. sym (state-push o events (event_of_call (state_of o events) call) ∙ call-next o events call small))

has_threshold : (state : ControllerState) (call : Call) → state.params.dq_threshold ≤ 65536 → HasThreshold state call
has_threshold state (Depart size bytes_left since moment) small = small
has_threshold state _ small = tt

-- parameters in their ranges have a permitted threshold
pub in_range_has_threshold : (state : ControllerState) (call : Call) → first_bad state.params ≡ None → HasThreshold state call
in_range_has_threshold state call good = has_threshold state call (threshold-holds state.params good).1

pub represents_called : (o : Opened) (events : List ControllerEvent) (state : ControllerState) → Represents o events state → state.params.dq_threshold ≤ 65536
    → (call : Call) → Represents o (events ++ event_of_call state call ∷ []) (after_call state call)
represents_called o events state shows small call = Represents_call o events state shows call (has_threshold state call small)

-- the state equals the look-back
pub state_is : (o : Opened) (events : List ControllerEvent) (state : ControllerState) → Represents o events state → state ≡ state_of o events
unfolding Represents
state_is o events state shows = shows

-- an equal state represents the same events
pub moved : (o : Opened) (events : List ControllerEvent) (state new : ControllerState) → new ≡ state → Represents o events state → Represents o events new
moved o events state new e shows = subst (λ (h : ControllerState). Represents o events h) (sym e) shows

-- a call on the state
pub represents_with : (state new : ControllerState) (call : Call) → new ≡ after_call state call → HasThreshold state call → RepresentsCall state call new
unfolding RepresentsCall
represents_with state new call is small opened events shows = moved opened _ _ new is (Represents_call opened events state shows call small)

-- a departure, if the threshold is at most 65536
pub uncapped : (h g : ControllerState) (size bytes_left since moment : ℕ) → h.params.dq_threshold ≤ 65536
    → g ≡ record (departed (capped h) size bytes_left since moment) { params = h.params } → g ≡ after_call h (Depart size bytes_left since moment)
uncapped h g size bytes_left since moment small is = let e : min h.params.dq_threshold 65536 ≡ h.params.dq_threshold = omega (arith, small) in rw e at is
