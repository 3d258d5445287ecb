-- The numbers of a summary, each over the whole list of explained events.
use Rattle.std.specs.Prelude.{ℕ, ◌-◌, ◌&&◌, nat_lt, min, if◌then◌else◌, Bool, true, false, List, [], ◌∷◌, ◌++◌, length, map, slice_index, ◌≡◌, None, Option, Some, option_map}
use Rattle.std.specs.{List.filter_map, List.sum, Option.option_and}
use Rattle.pie_event.specs.declared.{cause.CauseName.CauseName, command.Command.Command, command.Command.TheVariants.Arrive, command.Answer.Answer, command.Answer.TheVariants.Enqueued, command.Answer.TheVariants.Marked, command.Answer.TheVariants.DroppedEarly, command.Answer.TheVariants.DroppedBytes, command.Answer.TheVariants.DroppedPackets, command.Answer.TheVariants.Empty, command.Answer.TheVariants.Left, command.Answer.TheVariants.Updated, command.Answer.TheVariants.Done}
use Rattle.pie_aqm.specs.History.{Place, greatest, last_or, places, up_to}
use Rattle.pie_event.specs.Cause.{name_of, place_of_cause}
use Rattle.pie_explain.specs.declared.{explanation.Explained.Explained, meter.Meter.Meter, meter_input.Conditions.Conditions, meter_input.MeterInput.MeterInput, interval.Sums.Sums}
use Rattle.pie_explain.specs.Aggregates.{counts_of, kept, bounds_of, peak_of, time_at, total_of}
use Rattle.pie_explain.specs.Ranges.{ranges_of}

-- ---- the meter's input for one event

-- the places of the counts of departed packets and of updates
abbrev pub left_place : ℕ
left_place = 5

abbrev pub updated_place : ℕ
updated_place = 7

-- the place of an answer's count: queued, marked, dropped early, in bytes, in packets, a packet that left, none that did, an update, and
-- a reset or new parameters
abbrev pub answer_place : Answer → ℕ
answer_place Enqueued = 0
answer_place Marked = 1
answer_place DroppedEarly = 2
answer_place DroppedBytes = 3
answer_place DroppedPackets = 4
answer_place (Left packet) = left_place
answer_place Empty = 6
answer_place (Updated delay prob burst) = updated_place
answer_place Done = 8

-- the place of the count of an arrival's cause, in the order of the decision; 15 for any other event
abbrev pub cause_place : Option CauseName → ℕ
cause_place (Some name) = place_of_cause name
cause_place None = 15

-- the size of the packet that arrived
abbrev pub size_by : Command → Option ℕ
size_by (Arrive moment packet word) = Some packet.size
size_by _ = None

-- the size of an explained event's packet, if it is an arrival or a departure of a packet
abbrev pub size_in : Explained → Option ℕ
size_in all = size_by all.explanation.event.command

-- the name of an event's cause
abbrev pub cause_of : Explained → Option CauseName
cause_of all = option_map name_of all.explanation.cause

-- the moment of an event if it changed the controller's activity in this direction: `true` for on, `false` for off; then its activity before and
-- after the event
abbrev pub turned_at : Bool → Bool → Bool → ℕ → Option ℕ
turned_at true false true moment = Some moment
turned_at false true false moment = Some moment
turned_at _ _ _ moment = None

-- the meter's input for an event of any kind, by the numbers before and after it: with the place of its answer, the name of its cause, and the size of
-- the packet that arrived
abbrev pub meter_input_plain : Conditions → ℕ → Option CauseName → Option ℕ → MeterInput
meter_input_plain met answer cause arrived = record {
  answer = answer;
  cause = cause;
  moment = met.moment;
  arrived = arrived;
  wait = None;
  left = None;
  excess = None;
  delay = None;
  prob = met.prob;
  turned_on = turned_at true met.was_active met.is_active met.moment;
  turned_off = turned_at false met.was_active met.is_active met.moment;
  carried = 0;
  above = 0;
  target = met.target;
  burst = met.burst;
}

-- the meter's input for an event. For a packet that left, also its waiting time, the excess of that over the target, its moment and its bytes; for an
-- update of an active controller, its delay, and if that is above the target, the time since the update before
unfoldable pub meter_input_by : Conditions → Answer → Option CauseName → Option ℕ → ℕ → MeterInput
meter_input_by met (Left packet) cause arrived waited = record (meter_input_plain met left_place cause arrived) {
  wait = Some waited;
  left = Some met.moment;
  excess = if nat_lt met.old_target waited then Some (waited - met.old_target) else None;
  carried = packet.size;
}
meter_input_by met (Updated delay prob burst) cause arrived waited = record (meter_input_plain met updated_place cause arrived) {
  delay = if met.was_active then Some delay else None;
  above = if met.was_active && nat_lt met.old_target delay then met.moment - met.last_update else 0;
}
meter_input_by met answer cause arrived waited = meter_input_plain met (answer_place answer) cause arrived

-- the numbers before and after an event, from its explanation
abbrev pub conditions_of_event : Explained → Conditions
conditions_of_event one = record {
  moment = one.explanation.moment;
  was_active = one.explanation.before.active;
  is_active = one.after.active;
  old_target = one.explanation.before.params.target;
  last_update = one.explanation.before.last;
  prob = one.after.prob;
  burst = one.after.burst;
  target = one.after.params.target;
}

-- the explained event has these conditions
abbrev pub HasConditions : Conditions → Explained → Type 0
HasConditions met one = conditions_of_event one ≡ met

-- the numbers of an explanation that a meter adds
abbrev pub meter_input_of : Explained → MeterInput
meter_input_of one = meter_input_by (conditions_of_event one) one.explanation.event.answer (cause_of one) (size_in one) one.explanation.waited

-- the waiting time of the packet that left
abbrev pub wait_in : Explained → Option ℕ
wait_in one = (meter_input_of one).wait

-- the wall-clock time of an event that turned the controller on, or off
abbrev pub on_time : Explained → Option ℕ
on_time one = option_and (meter_input_of one).turned_on (time_at one)

abbrev pub off_time : Explained → Option ℕ
off_time one = option_and (meter_input_of one).turned_off (time_at one)

-- ---- Inputs of a meter in their order

-- the moments of events
abbrev pub moments_of : List MeterInput → List ℕ
moments_of all = map (λ one. one.moment) all

-- the moment since which a departing packet was the first in the queue, as far as these events show: the moment of
-- the last departure before it, or of the first event if there was none
abbrev pub first_since : Place MeterInput → ℕ
first_since place = last_or (slice_index (moments_of (up_to place)) 0) (filter_map (λ one. one.left) place.before)

-- the excess, at most `since`; 0 without an excess
abbrev pub excess_within : Option ℕ → ℕ → ℕ
excess_within None since = 0
excess_within (Some excess) since = min excess since

-- the time for which the packet that left was the first in the queue and had waited longer than the target
abbrev pub late_at : Place MeterInput → ℕ
late_at place = excess_within place.event.excess (place.event.moment - first_since place)

-- ---- the numbers of a list of events

-- the numbers of a record, by the meter's inputs for the events and the wall-clock times that they have
unfoldable pub meter_of : List MeterInput → List ℕ → Meter
meter_of all times = record {
  answers = counts_of (λ one. one.answer) 9 all;
  causes = counts_of (λ one. cause_place one.cause) 15 all;
  first = slice_index (moments_of all) 0;
  last = last_or 0 (moments_of all);
  since = last_or (slice_index (moments_of all) 0) (filter_map (λ one. one.left) all);
  arrivals = kept (length (filter_map (λ one. one.arrived) all));
  arrived = total_of (filter_map (λ one. one.arrived) all);
  waits = total_of (filter_map (λ one. one.wait) all);
  greatest_wait = greatest (filter_map (λ one. one.wait) all);
  delays = peak_of (filter_map (λ one. one.delay) all);
  probs = peak_of (map (λ one. one.prob) all);
  turned_on = bounds_of (filter_map (λ one. one.turned_on) all);
  turned_off = bounds_of (filter_map (λ one. one.turned_off) all);
  timed = min (length times) 1;
  time = slice_index times 0;
  carried = kept (sum (map (λ one. one.carried) all));
  above = kept (sum (map (λ one. one.above) all));
  longer = kept (length (filter_map (λ one. one.excess) all));
  late = kept (sum (map late_at (places all)));
  target = last_or 0 (map (λ one. one.target) all);
  burst = last_or 0 (map (λ one. one.burst) all);
}

-- the numbers before one more event: the record's first moment and the moment since which the first packet waits at
-- the head already include it
abbrev pub awaiting : List MeterInput → MeterInput → List ℕ → Meter
awaiting shown one times = record (meter_of shown times) {
  first = slice_index (moments_of (shown ++ one ∷ [])) 0;
  since = first_since (record { before = shown; event = one });
}

-- a meter with the first of these wall-clock times, if there is one
abbrev pub timed_by : Meter → List ℕ → Meter
timed_by meter times = record meter { timed = min (length times) 1; time = slice_index times 0 }

-- the numbers of these events, from their explanations, and those before one more event
abbrev pub meter_in : List Explained → Meter
meter_in all = meter_of (map meter_input_of all) (filter_map time_at all)

abbrev pub reached : List Explained → Explained → Meter
reached shown one = awaiting (map meter_input_of shown) (meter_input_of one) (filter_map time_at shown)

-- the numbers of a summary of these events
unfoldable pub sums_of : List Explained → Sums
sums_of all = record {
  count = kept (length all);
  times = bounds_of (filter_map time_at all);
  meter = meter_in all;
  on_times = bounds_of (filter_map on_time all);
  off_times = bounds_of (filter_map off_time all);
}

-- the number of waiting times in each range
unfoldable pub waits_of : List Explained → List ℕ
waits_of all = ranges_of (filter_map wait_in all)
