-- The state of a controller as a look-back over all its events (`state_of`), and the places of a history: each event
-- with all events before it.
use Rattle.std.specs.Prelude.{ℕ, max, List, [], ◌∷◌, ◌++◌, map, ◌≡◌, Bool, true, false, ◌&&◌, Option, option_map, Some, None, if◌then◌else◌}
use Rattle.std.specs.List.{filter_map, after_last}
use Rattle.pie_aqm.specs.Steps.{RawParams, Elements, Departure, departure, ControlState, Enqueue, Mark, Drop, Profile, One, Two, Verdict, Picking, ControllerState, ControllerEvent, Opened, Arrived, Departed, Updated, Reset, Changed, moment_of, params_set, delay_by, keeps_wait, measures, wait_of, activates}
use Rattle.pie_rate.specs.Estimate.{average, begun, Estimate, begun_at}
use Rattle.pie_control.specs.History.{delay_of, ControlEvent, update_at, idled, reset, probability, last_delay, last_moment, burst_allowance, is_calm_after}
use Rattle.pie_early.specs.Decision.{effective_prob, is_considered, EarlyEvent, arrival, cleared, accumulated}
use Rattle.pie_event.specs.declared.command.Verdict.TheVariants.{Enqueued, Marked, DroppedEarly, DroppedBytes, DroppedPackets}

-- ---- Events with all events before them, and the greatest and the last element of a list.

-- an event of type E, and all events before it
pub record Place (E : Type 0) : Type 0 where
  pub before : List E
  pub event : E

-- a place of a history, with `first` before its first event
abbrev pub after : {E : Type 0} → E → Place E → Place E
after first place = record { before = first ∷ place.before; event = place.event }

-- each event of a history, with all events before it
unfoldable pub places : {E : Type 0} → List E → List (Place E)
places [] = []
places (event ∷ events) = (record { before = []; event = event }) ∷ map (after event) (places events)

-- the history up to and including the event of a place
abbrev pub up_to : {E : Type 0} → Place E → List E
up_to place = place.before ++ place.event ∷ []

-- the greatest of these numbers; 0 without a number
unfoldable pub greatest : List ℕ → ℕ
greatest [] = 0
greatest (x ∷ xs) = max x (greatest xs)

-- the last element, or the first argument if the list is empty
unfoldable pub last_or : {X : Type 0} → X → List X → X
last_or x [] = x
last_or x (y ∷ ys) = last_or y ys

-- ---- The state of a controller as a look-back over all its events (RFC 8033, sections 4.1, 4.2, 4.4 and 5.1 to 5.5).
-- Nothing here accumulates: each part is computed from a list that is filtered from the events. Activity before an
-- event (section 5.3; the conditions for switching are this project's own) is recorded with each event from the oldest
-- on, and each of these records looks back over all records before it.

-- the effective moment: the greatest of the opening moment and the moments of all events
unfoldable pub now_of : Opened → List ControllerEvent → ℕ
now_of opened events = greatest (opened.moment ∷ map moment_of events)

-- the parameters in force: those set last, or the opening's
unfoldable pub params_of : Opened → List ControllerEvent → RawParams
params_of opened events = last_or opened.params (filter_map params_set events)

-- an event, with the activity of the controller before it
pub record ActivityEvent : Type 0 where
  pub event : ControllerEvent
  pub active : Bool

-- these events, without the activity
abbrev pub events_of : List ActivityEvent → List ControllerEvent
events_of activity_events = map (λ (n : ActivityEvent). n.event) activity_events

-- the parameters in force before the event of a place, and the effective moment at it
abbrev pub params_at : Opened → Place ActivityEvent → RawParams
params_at opened place = params_of opened (events_of place.before)

abbrev pub moment_at : Opened → Place ActivityEvent → ℕ
moment_at opened place = now_of opened (events_of place.before ++ place.event.event ∷ [])

-- ---- Activation

-- true if an arrival activates the controller: it is inactive, and three times the bytes in the queue after it reach
-- the limit
abbrev pub turns_on_by : ControllerEvent → Bool → RawParams → Bool
turns_on_by (Arrived verdict size before after moment) active params = activates active params.limit_bytes after
turns_on_by event active params = false

abbrev pub turns_on_at : Opened → Place ActivityEvent → Bool
turns_on_at opened place = turns_on_by place.event.event place.event.active (params_at opened place)

-- ---- The departure rate

-- true for an event that clears the estimate: a reset, new parameters, or activation
abbrev pub clears_rate : ControllerEvent → Bool → Bool
clears_rate (Reset moment) turned_on = true
clears_rate (Changed params moment) turned_on = true
clears_rate event turned_on = turned_on

-- a departure as an input of the estimate, if the departure rate is measured
abbrev pub departure_input : ControllerEvent → Bool → ℕ → Option Departure
departure_input (Departed size bytes_left since moment) measured now = if measured then Some (departure size bytes_left now) else None
departure_input event measured now = None

abbrev pub clears_rate_at : Opened → Place ActivityEvent → Bool
clears_rate_at opened place = clears_rate place.event.event (turns_on_at opened place)

abbrev pub departure_at : Opened → Place ActivityEvent → Option Departure
departure_at opened place =
    departure_input place.event.event (measures place.event.active opened.elements.delay) (moment_at opened place)

-- the departures since the estimate was cleared
unfoldable pub departures_of : Opened → List ActivityEvent → List Departure
departures_of opened activity_events = filter_map (departure_at opened) (after_last (clears_rate_at opened) (places activity_events))

-- ---- Time stamps

-- true for an event that clears the last packet's time in the queue: a reset, or activation
abbrev pub clears_wait : ControllerEvent → Bool → Bool
clears_wait (Reset moment) turned_on = true
clears_wait event turned_on = turned_on

-- the time that a departed packet spent in the queue, if it is kept
abbrev pub wait_input : ControllerEvent → Bool → ℕ → Option ℕ
wait_input (Departed size bytes_left since moment) kept now = if kept then Some (wait_of bytes_left since now) else None
wait_input event kept now = None

abbrev pub clears_wait_at : Opened → Place ActivityEvent → Bool
clears_wait_at opened place = clears_wait place.event.event (turns_on_at opened place)

abbrev pub wait_at : Opened → Place ActivityEvent → Option ℕ
wait_at opened place = wait_input place.event.event (keeps_wait place.event.active opened.elements.delay) (moment_at opened place)

-- the time that the last departed packet since then spent in the queue; 0 without one (section 4.3)
unfoldable pub waited_at_end : Opened → List ActivityEvent → ℕ
waited_at_end opened activity_events = last_or 0 (filter_map (wait_at opened) (after_last (clears_wait_at opened) (places activity_events)))

-- ---- The queueing delay

-- the queueing delay of `queued` bytes
unfoldable pub delay_at_end : Opened → List ActivityEvent → ℕ → ℕ
delay_at_end opened activity_events queued =
    let threshold = (params_of opened (events_of activity_events)).dq_threshold in
    delay_by opened.elements.delay (waited_at_end opened activity_events) (delay_of queued (average threshold (departures_of opened activity_events)) threshold)

-- ---- The control law

-- an update or a reset as an input of the control law. An update has the parameters in force, the elements, the delay
-- of the bytes in the queue and the effective moment; while the controller is inactive it is idle. Activation is a
-- reset
abbrev pub control_input : ControllerEvent → Bool → Bool → RawParams → Elements → (ℕ → ℕ) → ℕ → Option ControlEvent
control_input (Arrived verdict size before after moment) active turned_on params elements delay now = if turned_on then Some (reset params) else None
control_input (Updated queued moment) active turned_on params elements delay now =
    Some (if active then update_at params elements (delay queued) now else idled now)
control_input (Reset moment) active turned_on params elements delay now = Some (reset params)
control_input event active turned_on params elements delay now = None

abbrev pub control_at : Opened → Place ActivityEvent → Option ControlEvent
control_at opened place =
    control_input place.event.event place.event.active (turns_on_at opened place) (params_at opened place) opened.elements
    (delay_at_end opened place.before) (moment_at opened place)

-- the inputs of the control law: updates and resets
unfoldable pub control_of : Opened → List ActivityEvent → List ControlEvent
control_of opened activity_events = filter_map (control_at opened) (places activity_events)

-- the state of the control law after these inputs
abbrev pub parts_of : Opened → List ControlEvent → ControlState
parts_of opened events = record {
  prob = probability events;
  old_delay = last_delay events;
  burst = burst_allowance opened.params events;
  last = last_moment opened.moment events;
}

-- ---- Early drop

-- an arrival with its verdict as an input of early drop, from a flag that is true if it was considered, its effective
-- probability, and the method of picking. A tail drop is a clear
abbrev pub verdict_input : Verdict → Bool → ℕ → Picking → EarlyEvent
verdict_input Enqueued considered prob picking = arrival considered prob picking Enqueue
verdict_input Marked considered prob picking = arrival considered prob picking Mark
verdict_input DroppedEarly considered prob picking = arrival considered prob picking Drop
verdict_input DroppedBytes considered prob picking = cleared
verdict_input DroppedPackets considered prob picking = cleared

-- true if an arrival that is not a tail drop is considered: never while the controller is inactive
abbrev pub considered_where : Bool → RawParams → ControlState → ℕ → Bool
considered_where active params parts queued = active && is_considered params parts queued

-- an arrival or a reset as an input of early drop; activation is a clear
abbrev pub early_input : ControllerEvent → Bool → Bool → Elements → RawParams → ControlState → Option EarlyEvent
early_input (Arrived verdict size before after moment) active turned_on elements params parts =
    Some (if turned_on then cleared
    else verdict_input verdict (considered_where active params parts before) (effective_prob elements.size params size parts.prob) elements.picking)
early_input (Reset moment) active turned_on elements params parts = Some cleared
early_input event active turned_on elements params parts = None

abbrev pub early_at : Opened → Place ActivityEvent → Option EarlyEvent
early_at opened place =
    early_input place.event.event place.event.active (turns_on_at opened place) opened.elements (params_at opened place)
    (parts_of opened (control_of opened place.before))

-- the inputs of early drop: arrivals, and events that clear the accumulated probability
unfoldable pub early_of : Opened → List ActivityEvent → List EarlyEvent
early_of opened activity_events = filter_map (early_at opened) (places activity_events)

-- ---- Activity

-- the change of activity by an event: an arrival may activate the controller, and a calm update deactivates it
abbrev pub change_by : ControllerEvent → Bool → Bool → (ℕ → Bool) → Option Bool
change_by (Arrived verdict size before after moment) active turned_on calm = if turned_on then Some true else None
change_by (Updated queued moment) active turned_on calm = if active then (if calm queued then Some false else None) else None
change_by event active turned_on calm = None

-- true if an update with `queued` bytes in the queue, after these events, is calm (section 4.4)
abbrev pub is_calm_at_end : Opened → List ActivityEvent → ℕ → Bool
is_calm_at_end opened activity_events queued =
    is_calm_after (control_of opened activity_events) (params_of opened (events_of activity_events)) opened.elements (delay_at_end opened activity_events queued)

abbrev pub change_at : Opened → Place ActivityEvent → Option Bool
change_at opened place = change_by place.event.event place.event.active (turns_on_at opened place) (is_calm_at_end opened place.before)

-- true if the controller is active: always in profile one. In profile two the last change decides, and without a change
-- the controller is inactive
abbrev pub is_active_in : Profile → Opened → List ActivityEvent → Bool
is_active_in One opened activity_events = true
is_active_in Two opened activity_events = last_or false (filter_map (change_at opened) (places activity_events))

unfoldable pub is_active : Opened → List ActivityEvent → Bool
is_active opened activity_events = is_active_in opened.profile opened activity_events

-- an event after these, with the activity before it
abbrev pub activity_event : Opened → List ActivityEvent → ControllerEvent → ActivityEvent
activity_event opened earlier event = record { event = event; active = is_active opened earlier }

-- these events with their activity, followed by one for each further event
unfoldable pub activity_events_after : Opened → List ActivityEvent → List ControllerEvent → List ActivityEvent
activity_events_after opened earlier [] = earlier
activity_events_after opened earlier (event ∷ events) = activity_events_after opened (earlier ++ activity_event opened earlier event ∷ []) events

-- each event, with the activity of the controller before it
unfoldable pub activity_events : Opened → List ControllerEvent → List ActivityEvent
activity_events opened events = activity_events_after opened [] events

-- ---- The whole state

unfoldable pub active_of : Opened → List ControllerEvent → Bool
active_of opened events = is_active opened (activity_events opened events)

unfoldable pub departure_inputs : Opened → List ControllerEvent → List Departure
departure_inputs opened events = departures_of opened (activity_events opened events)

unfoldable pub waited_of : Opened → List ControllerEvent → ℕ
waited_of opened events = waited_at_end opened (activity_events opened events)

unfoldable pub update_inputs : Opened → List ControllerEvent → List ControlEvent
update_inputs opened events = control_of opened (activity_events opened events)

unfoldable pub arrival_inputs : Opened → List ControllerEvent → List EarlyEvent
arrival_inputs opened events = early_of opened (activity_events opened events)

-- the estimate of the departure rate after these departures
abbrev pub estimate_of : ℕ → List Departure → Estimate
estimate_of threshold departures = record {
  average = average threshold departures;
  begun = option_map (begun_at departures) (begun threshold departures);
}

-- the state of a controller after these events
unfoldable pub state_of : Opened → List ControllerEvent → ControllerState
state_of opened events = record {
  profile = opened.profile;
  elements = opened.elements;
  params = params_of opened events;
  moment = now_of opened events;
  active = active_of opened events;
  rate = estimate_of (params_of opened events).dq_threshold (departure_inputs opened events);
  waited = waited_of opened events;
  control = parts_of opened (update_inputs opened events);
  accu = accumulated (arrival_inputs opened events);
}

-- the abstraction relation: the state of a controller with this opening after these events
unfoldable pub Represents : Opened → List ControllerEvent → ControllerState → Type 0
Represents opened events state = state ≡ state_of opened events
