-- The controller of a state, the soundness of states, the state of an opening, and the refusals, the return value and
-- the state after each call.
pub use Rattle.std.specs.List.{flat_map}
pub use Rattle.pie_abi.specs.Structs.{last_moment, profile_number, profile_of, arrived_event, bare_event, left_event, opening_in, opening_of, ecn_at, ecn_from, is_bad_size, verdict_number, bad_number, after_writing, count_written}
unfoldable pub use Rattle.pie_abi.specs.Structs.{choices_of, elements_of, opening_refusal, are_in_range}
pub use Rattle.pie_abi.specs.declared.event.PieEvent.{PieEvent}
pub use Rattle.pie_abi.specs.declared.opening.PieOpening.{PieOpening}
pub use Rattle.pie_params.specs.declared.raw.RawParams.{RawParams}
pub use Rattle.pie_abi.specs.declared.stats.PieStats.{PieStats}
pub use Rattle.pie_aqm.specs.Calls.{Arrive, Call, Change, Depart, IsTaken, Advance, Restart, after_call, event_of_call}
pub use Rattle.pie_aqm.specs.Steps.{ControllerEvent, Opened, ControllerState, IsSound, arrived, capped, delay_answered, departed, due, is_too_soon, opened, updated}
unfoldable pub use Rattle.pie_aqm.specs.History.{Represents}
unfoldable pub use Rattle.pie_aqm.specs.Steps.{cause, verdict}
pub use Rattle.pie_book.specs.Decision.{cause_after, wait_of}
unfoldable pub use Rattle.pie_book.specs.Decision.{state_after}
pub use Rattle.pie_c.specs.declared.state.PieState.{PieState}
pub use Rattle.pie_c.specs.declared.state.PieUpdated.{PieUpdated}
pub use Rattle.pie_event.specs.Event.{effect_of}
pub use Rattle.pie_event.specs.Cause.{answer_of}
pub use Rattle.pie_event.specs.declared.cause.Cause.{Cause}
pub use Rattle.pie_event.specs.declared.command.Answer.TheVariants.{Done, Empty, Left, Updated}
pub use Rattle.pie_event.specs.declared.command.Event.{Event}
pub use Rattle.pie_event.specs.declared.opening.Opening.{Opening}
pub use Rattle.pie_event.specs.declared.command.Setter.{Setter}
pub use Rattle.pie_event.specs.declared.command.Verdict.TheVariants.{DroppedBytes, DroppedEarly, DroppedPackets, Enqueued, Marked}
unfoldable pub use Rattle.pie_excerpt.specs.Preamble.{queued_row, resume_row}
pub use Rattle.pie_excerpt.specs.Beginning.{resumed_rows, resume_with}
pub use Rattle.pie_explain.specs.Explanation.{moment_of, with_after}
unfoldable pub use Rattle.pie_explain.specs.Explanation.{explanation}
pub use Rattle.pie_explain.specs.declared.explanation.Explained.{Explained}
pub use Rattle.pie_params.specs.Params.{default_profile, profile_for, first_bad}
pub use Rattle.pie_queue.specs.Queue.{bits_of}
pub use Rattle.pie_queue.specs.declared.ecn.Ecn.{Ecn}
pub use Rattle.pie_queue.specs.declared.ecn.Ecn.TheVariants.{NotEct}
pub use Rattle.pie_queue.specs.declared.packet.Waiting.{Waiting}
pub use Rattle.pie_rate.specs.Estimate.{Begun}
pub use Rattle.pie_record.specs.Text.{text_of}
unfoldable pub use Rattle.pie_record.specs.Text.{rows_text}
pub use Rattle.pie_record.specs.Write.{event_row, written_rows}
unfoldable pub use Rattle.pie_record.specs.Write.{opening_row}
pub use Rattle.pie_record.specs.declared.clock.Clock.{Clock}
pub use Rattle.pie_explain.specs.LiveInterval.{Holds, IsSet, HasConditions, clock_of, has_wall, length_of, meter_input_of}
pub use Rattle.pie_explain.specs.declared.live_interval.LiveInterval.{LiveInterval}
pub use Rattle.pie_explain.specs.declared.meter_input.Conditions.{Conditions}
use Rattle.std.specs.Prelude.{ℕ, ◌^◌, ◌%◌, Bool, not, ◌&&◌, ◌==◌, nat_lt, nat_le, Option, Some, None, if◌then◌else◌, Result, Ok, Err, ◌≡◌, ◌≤◌, true, max, List, [], ◌∷◌, ◌++◌}
use Rattle.pie_rate.specs.declared.raw.RawCycle.{RawCycle}
use Rattle.pie_aqm.specs.declared.raw.RawController.{RawController}
use Rattle.pie_units.specs.declared.number.UnitFault.{UnitFault}
use Rattle.pie_units.specs.declared.number.UnitFault.TheVariants.{NotANumber, TooPrecise, TooGreat}
use Rattle.pie_aqm.specs.declared.verdict.ArrivingPacket.{ArrivingPacket}

-- the open cycle of the departure rate, if the flag is 1
abbrev pub cycle_in : ℕ → ℕ → ℕ → Option RawCycle
cycle_in measuring start count = if measuring == 1 then Some (record { start = start; count = count }) else None

-- the numbers of an open cycle, 0 without one
abbrev pub flag_of : Option Begun → ℕ
flag_of None = 0
flag_of (Some _) = 1

abbrev pub start_of : Option Begun → ℕ
start_of None = 0
start_of (Some cycle) = cycle.start

abbrev pub count_of : Option Begun → ℕ
count_of None = 0
count_of (Some cycle) = cycle.count

-- 1 if true, otherwise 0
abbrev pub flag : Bool → ℕ
flag so = if so then 1 else 0

-- the controller's state from this state, number by number
abbrev pub controller_in : PieState → RawController
controller_in s = record {
  profile = profile_of s.profile;
  elements = elements_of s.choices;
  params = s.params;
  moment = s.moment;
  active = s.active == 1;
  rate = record { average = s.average; begun = cycle_in s.measuring s.cycle_start s.cycle_count };
  waited = s.waited;
  control = record { prob = s.prob; old_delay = s.old_delay; burst = s.burst; last = s.last };
  accu = s.accu;
}

-- the controller's state that a struct contains
unfoldable pub controller_state : PieState → ControllerState
controller_state s = controller_in s

-- the state that contains a controller's state
unfoldable pub state_of : ControllerState → PieState
state_of h = record {
  params = h.params;
  moment = h.moment;
  prob = h.control.prob;
  old_delay = h.control.old_delay;
  burst = h.control.burst;
  last = h.control.last;
  accu = h.accu;
  average = h.rate.average;
  measuring = flag_of h.rate.begun;
  cycle_start = start_of h.rate.begun;
  cycle_count = count_of h.rate.begun;
  profile = profile_number h.profile;
  active = flag h.active;
  choices = choices_of h.elements;
  waited = h.waited;
}

-- the state with this moment and this estimate of the departure rate; every other field is unchanged
abbrev pub with_rate : PieState → ControllerState → PieState
with_rate s h = record s {
  moment = h.moment;
  average = h.rate.average;
  measuring = flag_of h.rate.begun;
  cycle_start = start_of h.rate.begun;
  cycle_count = count_of h.rate.begun;
}

-- true if delays come from time stamps; below, the state after a departure: with this moment and time in the queue if
-- they do
abbrev pub takes_stamps : PieState → Bool
takes_stamps s = s.choices % 2 == 1

abbrev pub with_departure : PieState → ControllerState → PieState
with_departure s h = if takes_stamps s then record s { moment = h.moment; waited = h.waited } else with_rate s h

-- the state with all numbers of the rules and the activity, that is, all but the parameters, the profile and the
-- choices
abbrev pub with_registers : PieState → ControllerState → PieState
with_registers s h = record (with_rate s h) {
  prob = h.control.prob;
  old_delay = h.control.old_delay;
  burst = h.control.burst;
  last = h.control.last;
  accu = h.accu;
  active = flag h.active;
  waited = h.waited;
}

-- the state after an arrival: all numbers if it activated the controller, otherwise the moment and the accumulated
-- probability
abbrev pub with_arrival : PieState → ControllerState → PieState
with_arrival s h =
    if h.active && not (s.active == 1) then with_registers s h else record s { moment = h.moment; accu = h.accu }

-- true if the average is in its range, and one of two cases holds: the flag is 1, and the cycle opened at or before the
-- moment and has counted less than the threshold; or the flag and the cycle's numbers are 0
unfoldable pub is_rate_sound : PieState → Bool
is_rate_sound s =
    nat_lt s.average (2 ^ 60)
    && (if s.measuring == 1
    then nat_le s.cycle_start s.moment && nat_lt s.cycle_count s.params.dq_threshold
    else (s.measuring == 0) && (s.cycle_start == 0) && (s.cycle_count == 0))

-- true if the activity is possible: in profile one the controller is active, in profile two it is active or not
unfoldable pub is_activity_sound : PieState → Bool
is_activity_sound s = if s.profile == 1 then s.active == 1 else (s.profile == 2) && nat_le s.active 1

-- true if each field is in its range and the fields agree: no moment is later than the effective one
unfoldable pub is_sound : PieState → Bool
is_sound s =
    nat_le s.choices 31 && nat_le s.waited (2 ^ 40) && are_in_range s.params && nat_le s.moment last_moment
    && nat_le s.prob (10 ^ 12) && nat_le s.old_delay (2 ^ 40) && nat_le s.burst (10 ^ 12) && nat_le s.last s.moment
    && nat_lt s.accu 8_500_000_000_000 && is_rate_sound s && is_activity_sound s

-- ---- Openings

-- the default opening for a link of this rate
abbrev pub default_opening : ℕ → PieOpening
default_opening rate = record {
  params = profile_for rate;
  moment = 0;
  profile = 1;
  choices = 1;
  mode = 1;
  packets = 2 ^ 20;
  tail = 1024;
  events = 2 ^ 47;
}

-- the state and the opening of a controller with this opening
abbrev pub opening_state : PieOpening → ControllerState
opening_state o = opened (profile_of o.profile) (elements_of o.choices) o.params o.moment

-- the opening of the controller in a struct
abbrev pub opened_by : PieOpening → Opened
opened_by o = record { profile = profile_of o.profile; elements = elements_of o.choices; params = o.params; moment = o.moment }

-- ---- The return value of a call that parses a text, and the caller's number after it.

-- the code of the reason why the text is not a number of its kind
abbrev pub fault_number : UnitFault → ℕ
fault_number NotANumber = 114
fault_number TooPrecise = 115
fault_number TooGreat = 116

-- the code of a number that was read: 0, or that of its fault
abbrev pub read_code : Result ℕ UnitFault → ℕ
read_code (Ok number) = 0
read_code (Err why) = fault_number why

-- the value of the text, otherwise the number before
abbrev pub read_or_kept : Result ℕ UnitFault → ℕ → ℕ
read_or_kept (Ok number) before = number
read_or_kept (Err why) before = before

-- ---- Refusals and return values of the calls. The state after a call is the controller's state after its step.

-- ---- The laws of pie_aqm for each call, for any controller

-- a sound state stays sound
abbrev pub KeepsSound : Type 0
KeepsSound = (state : ControllerState) → IsSound state → (call : Call) → IsTaken call → IsSound (after_call state call)

-- the state represents the call
abbrev pub LooksBack : Type 0
LooksBack = (opened : Opened) (events : List ControllerEvent) (state : ControllerState) → Represents opened events state → state.params.dq_threshold ≤ 65536
    → (call : Call) → Represents opened (events ++ event_of_call state call ∷ []) (after_call state call)

-- ---- Return value and state of a call

-- the refusal if it is not 0, otherwise `answer`
abbrev pub unless_refused : ℕ → ℕ → ℕ
unless_refused refusal answer = if refusal == 0 then answer else refusal

-- the state after a call: `after`, or unchanged if the call is refused
abbrev pub if_taken : ℕ → PieState → PieState → PieState
if_taken refusal before after = if refusal == 0 then after else before

-- the return value and the state of a call with this refusal that otherwise leads to the state `after`
pub record Takes (before : PieState) (refusal : ℕ) (after : PieState) (code : ℕ) (left : PieState) : Type 0 where
  pub answer : code ≡ refusal
  pub fields : left ≡ if_taken refusal before after

-- the code of the refusal of an arrival; 0 if it is accepted
unfoldable pub arrival_refusal : ℕ → ℕ → ℕ → ℕ → ℕ
arrival_refusal queued size ecn moment =
    if nat_lt last_moment moment then 101
    else if is_bad_size size then 102
    else if nat_lt 3 ecn then 111
    else if nat_lt (2 ^ 30) queued then 112
    else 0

-- an arriving packet with the queue before it, from the caller's arguments
abbrev pub arrival_of : ℕ → ℕ → ℕ → ℕ → ℕ → ArrivingPacket
arrival_of queued size room bits word = record { queued = queued; is_full = room == 0; size = size; ecn = ecn_at bits; word = word }

-- ---- The state after a call for a packet

-- the state after a call that checks the whole state, with this refusal: in every field the controller's state. A sound
-- state stays sound and, if it represented the events before, represents the call too
pub record Makes (before : PieState) (call : Call) (refusal : ℕ) (left : PieState) : Type 0 where
  pub after : left ≡ if_taken refusal before (state_of (after_call (controller_state before) call))
  pub sound : is_sound before ≡ true → is_sound left ≡ true
  pub represents : (opened : Opened) (events : List ControllerEvent) → refusal ≡ 0 → Represents opened events (controller_state before)
      → Represents opened (events ++ event_of_call (controller_state before) call ∷ []) (controller_state left)

-- the state after a call for a packet, if it was sound
abbrev pub Leaves : PieState → Call → ℕ → PieState → Type 0
Leaves before call refusal left = is_sound before ≡ true → Makes before call refusal left

-- each field of any state after a call, if it is not refused
pub record Steps (before : PieState) (call : Call) (refusal : ℕ) (after left : PieState) : Type 0 where
  pub fields : left ≡ if_taken refusal before after
  pub if_sound : Leaves before call refusal left

-- the return value and the state after an arrival with this refusal: each field of any state, and the controller's
-- state if it was sound
pub record Arrives (before : PieState) (arrival : ArrivingPacket) (refusal moment code : ℕ) (left : PieState) : Type 0 where
  pub answer : code ≡ unless_refused refusal (verdict_number (verdict (controller_state before) arrival))
  pub fields : left ≡ if_taken refusal before (with_arrival before (arrived (controller_state before) arrival moment))
  pub if_sound : Leaves before (Arrive arrival moment) refusal left

-- the code of the refusal of a departure by its arguments; 0 if it is accepted
unfoldable pub packet_refusal : ℕ → ℕ → ℕ → ℕ
packet_refusal size left moment =
    if nat_lt last_moment moment then 101
    else if is_bad_size size then 102
    else if nat_lt (2 ^ 30) left then 112
    else 0

-- the code of the refusal by the state: if delays come from time stamps, the arrival of the packet is required, and it
-- is not later than the state's moment
abbrev pub departure_refusal : PieState → ℕ → ℕ → ℕ → ℕ
departure_refusal state size left moment = unless_refused (packet_refusal size left moment) (if takes_stamps state then 119 else 0)

-- the code of the first refusal of a departure with its arrival moment, or 0
abbrev pub waited_refusal : PieState → ℕ → ℕ → ℕ → ℕ → ℕ
waited_refusal state size left arrived moment =
    unless_refused (packet_refusal size left moment) (if takes_stamps state && nat_lt state.moment arrived then 118 else 0)

-- the state after the departure of a packet that arrived at this moment
abbrev pub Departs : PieState → ℕ → ℕ → ℕ → ℕ → PieState → Type 0
Departs before size left arrived moment after =
    Steps before (Depart size left arrived moment) (waited_refusal before size left arrived moment)
    (with_departure before (departed (capped (controller_state before)) size left arrived moment)) after

-- the code of the refusal of a departure that found no packet; 0 if it is accepted
unfoldable pub moment_refusal : ℕ → ℕ
moment_refusal moment = if nat_lt last_moment moment then 101 else 0

-- the state after such a departure: only the moment counts
abbrev pub Advances : PieState → ℕ → PieState → Type 0
Advances before moment after = Steps before (Advance moment) (moment_refusal moment) (record before { moment = max before.moment moment }) after

-- the code of the refusal of a state; 0 if it is sound
abbrev pub state_refusal : PieState → ℕ
state_refusal state = if is_sound state then 0 else 110

-- the code of the refusal of a reset; 0 if it is accepted
unfoldable pub reset_refusal : PieState → ℕ → ℕ
reset_refusal state moment = if not (is_sound state) then 110 else if nat_lt last_moment moment then 101 else 0

-- the code of the refusal of an update; 0 if it is accepted
unfoldable pub update_refusal : PieState → ℕ → ℕ → ℕ
update_refusal state queued moment =
    if not (is_sound state) then 110
    else if nat_lt last_moment moment then 101
    else if nat_lt (2 ^ 30) queued then 112
    else if is_too_soon (controller_state state) moment then 103
    else 0

-- the result of an update with this code and this delay, from the state after it
abbrev pub updated_with : ℕ → ℕ → ControllerState → PieUpdated
updated_with code delay state = record {
  code = code;
  due = due state;
  delay = delay;
  prob = state.control.prob;
  burst = state.control.burst;
}

-- the result of an update that is refused for its arguments or its state
abbrev pub nothing_updated : ℕ → PieUpdated
nothing_updated code = record { code = code; due = 0; delay = 0; prob = 0; burst = 0 }

-- the result of an update. If it is made: its delay and the state after it. If it is too soon: the delay of the last
-- update and the unchanged state
abbrev pub updated_by : PieState → ℕ → ℕ → PieUpdated
updated_by state queued moment =
    if update_refusal state queued moment == 0 then updated_with 0 (delay_answered (controller_state state) queued) (updated (controller_state state) queued moment)
    else if update_refusal state queued moment == 103 then updated_with 103 state.old_delay (controller_state state)
    else nothing_updated (update_refusal state queued moment)

-- the code of the refusal of new parameters; 0 if they are accepted
unfoldable pub params_refusal : PieState → RawParams → ℕ → ℕ
params_refusal state params moment =
    if not (is_sound state) then 110
    else if not (are_in_range params) then 107
    else if nat_lt last_moment moment then 101
    else 0
