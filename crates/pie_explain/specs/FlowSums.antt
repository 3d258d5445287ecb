-- The numbers of a flow: its events, and their sums.
use Rattle.std.specs.Prelude.{ℕ, ◌-◌, ◌*◌, ◌/◌, ◌^◌, ◌==◌, min, Bool, false, List, map, Option, Some, None, unwrap_or, is_some, if◌then◌else◌}
use Rattle.std.specs.List.{sum}
use Rattle.pie_aqm.specs.History.{greatest}
use Rattle.pie_event.specs.declared.{command.Command.Command, command.Command.TheVariants.Arrive, command.Answer.Answer, command.Answer.TheVariants.DroppedBytes, command.Answer.TheVariants.DroppedEarly, command.Answer.TheVariants.DroppedPackets, command.Answer.TheVariants.Enqueued, command.Answer.TheVariants.Left, command.Answer.TheVariants.Marked}
use Rattle.pie_explain.specs.declared.{explanation.Explained.Explained, flow_sums.FlowSums.FlowSums, meter_input.MeterInput.MeterInput}
use Rattle.pie_explain.specs.Aggregates.{kept}
use Rattle.pie_explain.specs.Sums.{answer_place, left_place, meter_input_of}

-- ---- the numbers of one event

-- the flow of an event: that of the packet that arrived or left, the upper 32 bits of its tag; no other event has one
abbrev pub flow_by : Command → Answer → Option ℕ
flow_by (Arrive moment packet word) answer = Some (packet.tag / 2 ^ 32)
flow_by _ (Left packet) = Some (packet.tag / 2 ^ 32)
flow_by _ _ = None

abbrev pub flow_in : Explained → Option ℕ
flow_in one = flow_by one.explanation.event.command one.explanation.event.answer

-- true if an event is of this flow
abbrev pub is_this : ℕ → Option ℕ → Bool
is_this flow None = false
is_this flow (Some other) = flow == other

abbrev pub is_of : ℕ → Explained → Bool
is_of flow one = is_this flow (flow_in one)

-- 1 for an event with this answer, by the place of its count, 0 for any other
abbrev pub answered : ℕ → MeterInput → ℕ
answered place one = if one.answer == place then 1 else 0

-- the counts of one event: its packet's arrival and size; the verdict on it; its departure, size and wait; and its
-- share of the queue, its bytes times its microseconds in the queue
unfoldable pub numbers_of : MeterInput → FlowSums
numbers_of one = record {
  arrivals = if is_some one.arrived then 1 else 0;
  bytes = unwrap_or one.arrived 0;
  queued = answered (answer_place Enqueued) one;
  marked = answered (answer_place Marked) one;
  early = answered (answer_place DroppedEarly) one;
  no_bytes = answered (answer_place DroppedBytes) one;
  no_packets = answered (answer_place DroppedPackets) one;
  left = answered left_place one;
  carried = one.carried;
  waited = unwrap_or one.wait 0;
  greatest_wait = unwrap_or one.wait 0;
  held = kept (one.carried * (unwrap_or one.wait 0 / 1000));
}

-- ---- the numbers of several events

-- the sums of several counts: each number is a sum, except the longest wait; the sum of waits has 128 bits
unfoldable pub added_up : List FlowSums → FlowSums
added_up all = record {
  arrivals = kept (sum (map (λ one. one.arrivals) all));
  bytes = kept (sum (map (λ one. one.bytes) all));
  queued = kept (sum (map (λ one. one.queued) all));
  marked = kept (sum (map (λ one. one.marked) all));
  early = kept (sum (map (λ one. one.early) all));
  no_bytes = kept (sum (map (λ one. one.no_bytes) all));
  no_packets = kept (sum (map (λ one. one.no_packets) all));
  left = kept (sum (map (λ one. one.left) all));
  carried = kept (sum (map (λ one. one.carried) all));
  waited = min (sum (map (λ one. one.waited) all)) (2 ^ 128 - 1);
  greatest_wait = greatest (map (λ one. one.greatest_wait) all);
  held = kept (sum (map (λ one. one.held) all));
}

-- the sums of these events
abbrev pub flow_sums : List Explained → FlowSums
flow_sums all = added_up (map (λ one. numbers_of (meter_input_of one)) all)
