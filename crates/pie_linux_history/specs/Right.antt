-- The step that the rules give in place of a recorded one: its inputs, and each number that they determine. A text without the column `rq` is compared in
-- fewer columns (`is_compared` of specs/Differences.antt).
use Rattle.std.specs.Prelude.{ℕ, ◌*◌, ◌%◌, ◌^◌, Bool, not, ◌&&◌, ◌==◌, nat_lt, if◌then◌else◌, List, [], ◌∷◌, Option, Some, None, get_or, unwrap_or}
use Rattle.pie_linux.specs.{Numbers.sum_32, Enqueue.draws, Enqueue.is_queued, Enqueue.one_if, Queue.excess}
use Rattle.pie_linux.specs.declared.{cause.LinuxCause.LinuxCause, cause.LinuxCause.TheVariants.OverLimit, cause.LinuxCause.TheVariants.SumAbove, cause.LinuxCause.TheVariants.WordBelow, params.MarkLimit.MarkLimit, params.MarkLimit.TheVariants.Percent, params.MarkLimit.TheVariants.Tenth, state.LinuxState.LinuxState}
use Rattle.pie_linux_history.specs.declared.{difference.Difference.Difference, numbers.FlowNumbers.FlowNumbers, numbers.QueueNumbers.QueueNumbers, numbers.Waiting.Waiting, right.Arrived.Arrived, right.Departed.Departed, step.Step.Step}
use Rattle.pie_linux_history.specs.{Columns.blank, Decisions.arrival_at, Decisions.arrived, Decisions.arrived_flow, Decisions.counts_memory, Decisions.cursor_of, Decisions.departed_flow, Decisions.departed_queue, Decisions.departure_at, Decisions.difference_32, Decisions.flow_chosen, Decisions.update_backlog, Decisions.updated_flow, Differences.step_difference, Resumes.is_init, Resumes.new_state, Resumes.no_stats}

-- ---- parts

-- the return value of pie_drop_early
abbrev pub early_result : LinuxCause → ℕ
early_result OverLimit = 255
early_result (SumAbove _) = 1
early_result (WordBelow _) = 1
early_result _ = 0

-- the step whose other numbers are 0
unfoldable pub base : Step → Step
base step = record (blank step.kind step.has_flows step.has_returned) { number = step.number; moment = step.moment }

-- a number, a flow and a state of fq_pie's rows only, or of pie's only
abbrev pub of_flows : Bool → ℕ → ℕ
of_flows has_flows number = if has_flows then number else 0

abbrev pub named_flow_of : Bool → Option ℕ → Option ℕ
named_flow_of has_flows flow = if has_flows then flow else None

abbrev pub state_of_pie : Bool → LinuxState → LinuxState → LinuxState
state_of_pie has_flows state zeros = if has_flows then zeros else state

-- the bytes of the returned packets: 0 if there are none
abbrev pub bytes_returned : Step → ℕ
bytes_returned step = if step.returned_packets == 0 then 0 else step.returned_bytes

-- ---- an arrival

-- at the limit the kernel records no backlog
unfoldable pub right_arrival : QueueNumbers → LinuxState → Arrived → Step → Step
right_arrival queue state one step = record (base step) {
  moment = if is_queued one.cause && not queue.params.dq_rate_estimator then step.enqueued * 64 % 2 ^ 64 else step.moment;
  flow = named_flow_of queue.has_flows (Some (flow_chosen queue step.priority step.hash));
  backlog = if counts_memory one.cause then one.backlog else 0;
  size = step.size;
  packet_length = step.packet_length;
  mtu = step.mtu;
  length_before = one.length;
  length_after = sum_32 queue.length step.returned_packets;
  bytes_before = one.bytes;
  bytes_after = sum_32 queue.bytes step.returned_bytes;
  limit = queue.params.limit;
  returned = if is_queued one.cause then 0 else if queue.has_flows then 2 else 1;
  protocol = step.protocol;
  header = step.header;
  contained = step.contained;
  early = early_result one.cause;
  draws = one_if (draws one.cause);
  word = if draws one.cause then step.word else 0;
  enqueued = if is_queued one.cause then step.enqueued else 0;
  hash = of_flows queue.has_flows step.hash;
  priority = of_flows queue.has_flows step.priority;
  truesize = of_flows queue.has_flows step.truesize;
  x0 = of_flows queue.has_flows one.memory;
  x1 = of_flows queue.has_flows queue.memory;
  x2 = of_flows queue.has_flows (unwrap_or queue.over_memory step.x2);
  after = state;
  stats = queue.stats;
  returned_packets = step.returned_packets;
  returned_bytes = bytes_returned step;
}

-- the first difference of an arrival
abbrev pub arrival_difference : QueueNumbers → FlowNumbers → Step → Option Difference
arrival_difference queue flow step =
    step_difference step (right_arrival (arrived queue flow step) (arrived_flow queue flow step).state (arrival_at queue flow step) step)

-- ---- a departure

-- the readings of the clock up to their number
abbrev pub reading_until : List ℕ → ℕ → ℕ → ℕ
reading_until readings reads place = if nat_lt place reads then get_or readings place 0 else 0

abbrev pub readings_until : List ℕ → ℕ → List ℕ
readings_until readings reads = reading_until readings reads 0 ∷ reading_until readings reads 1 ∷ reading_until readings reads 2 ∷ []

unfoldable pub right_departure : QueueNumbers → LinuxState → Departed → Step → Step
right_departure queue state one step = record (base step) {
  moment = if one.is_timed then step.moment else state.dq_tstamp * 64 % 2 ^ 64;
  flow = named_flow_of queue.has_flows step.flow;
  backlog = one.backlog;
  size = one.waiting.size;
  packet_length = one.waiting.length;
  length_after = sum_32 queue.length step.returned_packets;
  bytes_after = sum_32 queue.bytes step.returned_bytes;
  enqueued = one.waiting.enqueued;
  readings = readings_until step.readings one.reads;
  reads = one.reads;
  x1 = of_flows queue.has_flows queue.memory;
  after = state;
  returned_packets = step.returned_packets;
  returned_bytes = bytes_returned step;
  is_drop = queue.has_flows && step.is_drop;
}

abbrev pub departure_difference : QueueNumbers → FlowNumbers → Waiting → Step → Option Difference
departure_difference queue flow waiting step =
    step_difference step (right_departure (departed_queue queue waiting step) (departed_flow queue flow waiting step).state (departure_at queue flow waiting step) step)

-- ---- updates and rounds

unfoldable pub right_update : QueueNumbers → LinuxState → ℕ → Step → Step
right_update queue state backlog step = record (base step) {
  flow = named_flow_of queue.has_flows step.flow;
  backlog = backlog;
  length_after = sum_32 queue.length step.returned_packets;
  bytes_after = sum_32 queue.bytes step.returned_bytes;
  after = state;
  returned_packets = step.returned_packets;
  returned_bytes = bytes_returned step;
}

abbrev pub update_difference : QueueNumbers → FlowNumbers → Step → Option Difference
update_difference queue flow step =
    step_difference step (right_update queue (updated_flow queue flow step).state (update_backlog queue flow step) step)

unfoldable pub right_round : ℕ → Step → Step
right_round cursor step = record (base step) { flow = Some cursor }

abbrev pub round_difference : QueueNumbers → Step → Option Difference
round_difference queue step = step_difference step (right_round (cursor_of queue step) step)

-- ---- changes, resets and the first row

-- the packets that a change drops, returned ones too: of pie those above the limit; of fq_pie those that departed before its row, none in a row before them
abbrev pub right_size : QueueNumbers → Step → ℕ
right_size was step =
    if not was.has_flows then excess (sum_32 was.length (sum_32 step.returned_packets step.moved)) step.params.limit
    else if step.size == 0 then 0
    else sum_32 was.drops step.moved

-- their bytes: those of returned packets are not known
abbrev pub right_bytes : QueueNumbers → QueueNumbers → Step → ℕ
right_bytes queue was step =
    if not (step.moved == 0) then step.backlog
    else if not queue.has_flows then difference_32 was.bytes queue.bytes
    else if step.size == 0 then 0
    else was.drop_bytes

-- a change, before which the queue had the numbers `was`. Returned packets are dropped first
unfoldable pub right_change : QueueNumbers → QueueNumbers → LinuxState → Step → Step
right_change queue was state step = record (base step) {
  backlog = right_bytes queue was step;
  size = right_size was step;
  mtu = step.mtu;
  length_after = sum_32 queue.length step.returned_packets;
  bytes_after = sum_32 queue.bytes step.returned_bytes;
  limit = step.params.limit;
  truesize = of_flows queue.has_flows step.truesize;
  x0 = of_flows queue.has_flows step.x0;
  x1 = of_flows queue.has_flows queue.flows;
  x2 = of_flows queue.has_flows step.x2;
  after = state_of_pie queue.has_flows state (base step).after;
  params = step.params;
  stats = queue.stats;
  returned_packets = if nat_lt step.moved (right_size was step) then 0 else step.returned_packets;
  returned_bytes = bytes_returned step;
  moved = step.moved;
}

abbrev pub percent_of : MarkLimit → ℕ
percent_of (Percent percent) = percent
percent_of Tenth = 0

-- a reset of a queue with these numbers before it
unfoldable pub right_reset : QueueNumbers → LinuxState → Step → Step
right_reset queue state step = record (base step) {
  mtu = step.mtu;
  length_after = of_flows queue.has_flows (sum_32 queue.length step.returned_packets);
  bytes_after = sum_32 queue.bytes step.returned_bytes;
  limit = queue.params.limit;
  truesize = of_flows queue.has_flows queue.memory_limit;
  x0 = of_flows queue.has_flows (percent_of queue.params.marks);
  x1 = of_flows queue.has_flows queue.flows;
  x2 = of_flows queue.has_flows queue.quantum;
  after = state_of_pie queue.has_flows state (base step).after;
  params = queue.params;
  stats = queue.stats;
  returned_packets = step.returned_packets;
  returned_bytes = bytes_returned step;
}

-- the last step of a queue
unfoldable pub right_destroy : QueueNumbers → LinuxState → Step → Step
right_destroy queue state step = record (right_reset queue state step) {
  length_after = 0;
  bytes_after = 0;
  params = record queue.params { tupdate = 0 };
  returned_packets = 0;
  returned_bytes = 0;
}

-- the first step: a new queue has the counters, the state and the packets of a new one
unfoldable pub right_opening : Step → Step
right_opening step = record (base step) {
  mtu = step.mtu;
  length_after = if is_init step.kind then step.returned_packets else step.length_after;
  bytes_after = if is_init step.kind then step.returned_bytes else step.bytes_after;
  limit = step.params.limit;
  readings = if step.has_flows && not (is_init step.kind) then step.readings else (base step).readings;
  truesize = of_flows step.has_flows step.truesize;
  x0 = of_flows step.has_flows step.x0;
  x1 = of_flows step.has_flows step.x1;
  x2 = of_flows step.has_flows step.x2;
  after = state_of_pie step.has_flows (if is_init step.kind then new_state else step.after) (base step).after;
  params = step.params;
  stats = if is_init step.kind then no_stats else step.stats;
  returned_packets = step.returned_packets;
  returned_bytes = bytes_returned step;
}
