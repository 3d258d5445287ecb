-- The decision of one recorded step, from the numbers of its queue and of its flow: the numbers after it, by the rules of
-- pie_linux. No decision reads a recorded result, except the clock of a departure, and in a text without the column `rq` the
-- inputs that it lacks. specs/Right.antt has the comparison.
use Rattle.std.specs.Prelude.{ℕ, ◌+◌, ◌-◌, ◌%◌, ◌/◌, ◌^◌, Bool, true, false, not, nat_lt, ◌&&◌, ◌==◌, if◌then◌else◌, Option, Some, None, get_or, unwrap_or}
use Rattle.pie_linux.specs.{Numbers.sum_32, Numbers.ticks, Enqueue.counted, Enqueue.enqueue_cause, Enqueue.enqueued, Enqueue.is_markable, Enqueue.is_queued, Enqueue.is_tag, Departure.departed, Departure.readings, Update.restarted, Update.updated, Queue.flow_backlog, Queue.flow_of, Queue.is_over_memory, Queue.named_flow, Queue.next_cursor, Queue.own_excess}
use Rattle.pie_linux.specs.declared.{params.LinuxParams.LinuxParams, state.LinuxState.LinuxState, arrival.LinuxArrival.LinuxArrival, departure.LinuxDeparture.LinuxDeparture, cause.LinuxCause.LinuxCause, cause.LinuxCause.TheVariants.OverLimit, cause.LinuxCause.TheVariants.SumAbove, cause.LinuxCause.TheVariants.WordBelow, cause.Picked.Picked}
use Rattle.pie_linux.specs.declared.cause.Picked.TheVariants as picked
use Rattle.pie_linux_history.specs.declared.{explained.Input.Input, step.Step.Step, numbers.Waiting.Waiting, numbers.FlowNumbers.FlowNumbers, numbers.QueueNumbers.QueueNumbers, right.Arrived.Arrived, right.Departed.Departed}
use Rattle.pie_linux_history.specs.declared.explained.Input.TheVariants as input

-- a difference of C's type u32
abbrev pub difference_32 : ℕ → ℕ → ℕ
difference_32 a b = (a + (2 ^ 32 - b)) % 2 ^ 32

-- ---- waiting packets

-- the packet of a step
abbrev pub waiting_of : Step → Waiting
waiting_of step =
    record { length = step.packet_length; size = step.size; truesize = step.truesize; enqueued = step.enqueued; moment = step.moment }

-- the numbers with one more waiting packet
abbrev pub waiting_added : QueueNumbers → Waiting → QueueNumbers
waiting_added queue waiting = record queue {
  length = sum_32 queue.length 1;
  bytes = sum_32 queue.bytes waiting.length;
  memory = sum_32 queue.memory waiting.truesize;
}

-- the numbers without a waiting packet, of the queue and of its flow
abbrev pub removed : QueueNumbers → Waiting → QueueNumbers
removed queue waiting = record queue {
  length = difference_32 queue.length 1;
  bytes = difference_32 queue.bytes waiting.length;
  memory = difference_32 queue.memory waiting.truesize;
}

abbrev pub removed_flow : FlowNumbers → Waiting → FlowNumbers
removed_flow flow waiting = record flow { backlog = difference_32 flow.backlog waiting.length }

-- ---- inputs that a text without the column `rq` lacks

-- returned packets: the recorded numbers before an arrival are an input if both are above the queue's own, and the bytes of an update of pie if they are
abbrev pub counts_returned : QueueNumbers → Step → Bool
counts_returned queue step =
    not step.has_returned && (nat_lt queue.length step.length_before && nat_lt queue.bytes step.bytes_before)

abbrev pub lacks_bytes : QueueNumbers → Step → Bool
lacks_bytes queue step = not queue.has_flows && (not step.has_returned && nat_lt queue.bytes step.backlog)

-- a refused change of fq_pie: the kernel kept its limit
abbrev pub lacks_limit : QueueNumbers → Step → Bool
lacks_limit queue step = queue.has_flows && (not step.has_returned && not (step.limit == queue.params.limit))

abbrev pub admitted : QueueNumbers → Step → QueueNumbers
admitted queue step =
    if lacks_limit queue step then record queue { params = record queue.params { limit = step.limit } } else queue

-- a change of fq_pie's rate estimator whose row comes after its departures: a departure with the estimator reads the clock
abbrev pub lacks_switch : QueueNumbers → Step → Bool
lacks_switch queue step =
    queue.has_flows && (not step.has_returned
    && (if get_or step.readings 0 0 == 0 then queue.params.dq_rate_estimator else not queue.params.dq_rate_estimator))

abbrev pub params_at : QueueNumbers → Step → LinuxParams
params_at queue step =
    if lacks_switch queue step then record queue.params { dq_rate_estimator = not (get_or step.readings 0 0 == 0) } else queue.params

-- a protocol behind a VLAN tag, in any text: it matters if the two bytes of the header are ECN-capable in IPv4 or IPv6
abbrev pub hides_protocol : Step → Bool
hides_protocol step = is_tag step.protocol && (step.contained && not (step.header % 4 == 0 && step.header / 16 % 4 == 0))

abbrev pub markable : Step → Bool
markable step = if hides_protocol step then step.returned == 0 else is_markable step.protocol step.header step.contained

-- true if the protocol of a picked packet decides its fate
abbrev pub is_by_protocol : Picked → Bool
is_by_protocol picked.NotCapable = true
is_by_protocol picked.Marked = true
is_by_protocol _ = false

abbrev pub needs_protocol : LinuxCause → Bool
needs_protocol (SumAbove why) = is_by_protocol why
needs_protocol (WordBelow why) = is_by_protocol why
needs_protocol _ = false

-- the first input that a step lacks
abbrev pub lack_of : Bool → Bool → Bool → Option Input
lack_of change returned protocol =
    if change then Some input.Change else if returned then Some input.Returned else if protocol then Some input.Protocol else None

-- the backlog of a decision: of fq_pie the flow's, of pie the queue's
abbrev pub backlog_of : QueueNumbers → FlowNumbers → ℕ → ℕ
backlog_of queue flow bytes = if queue.has_flows then flow.backlog else bytes

-- ---- an arrival

abbrev pub arrival_of : Step → ℕ → ℕ → LinuxArrival
arrival_of step length backlog = record {
  length = length;
  backlog = backlog;
  size = step.size;
  mtu = step.mtu;
  markable = markable step;
  word = step.word;
}

-- the kernel's packets and bytes before an arrival, and the arrival
abbrev pub length_before : QueueNumbers → Step → ℕ
length_before queue step = if counts_returned queue step then step.length_before else sum_32 queue.length step.returned_packets

abbrev pub bytes_before : QueueNumbers → Step → ℕ
bytes_before queue step = if counts_returned queue step then step.bytes_before else sum_32 queue.bytes step.returned_bytes

abbrev pub arrival : QueueNumbers → FlowNumbers → Step → LinuxArrival
arrival queue flow step = arrival_of step (length_before queue step) (backlog_of queue flow (bytes_before queue step))

-- the cause of the decision
abbrev pub cause_of : QueueNumbers → FlowNumbers → Step → LinuxCause
cause_of queue flow step = enqueue_cause queue.params flow.state (arrival queue flow step)

-- the cause with the numbers before it
abbrev pub arrival_at : QueueNumbers → FlowNumbers → Step → Arrived
arrival_at queue flow step = record {
  cause = cause_of queue flow step;
  length = length_before queue step;
  bytes = bytes_before queue step;
  backlog = backlog_of queue flow (bytes_before queue step);
  memory = queue.memory;
}

-- the flow of fq_pie that a packet's priority names, or else the flow of its hash
abbrev pub flow_chosen : QueueNumbers → ℕ → ℕ → ℕ
flow_chosen queue priority hash = unwrap_or (named_flow priority queue.handle queue.flows) (flow_of hash queue.flows)

-- the number of arrivals at which fq_pie's memory exceeded its limit: unknown at first for a running queue. The limit in
-- packets comes before it
abbrev pub counts_memory : LinuxCause → Bool
counts_memory OverLimit = false
counts_memory _ = true

abbrev pub over_memory_after : Option ℕ → Bool → ℕ → Option ℕ
over_memory_after None over recorded = Some recorded
over_memory_after (Some count) over recorded = Some (if over then sum_32 count 1 else count)

abbrev pub memory_exceeded : QueueNumbers → Step → LinuxCause → QueueNumbers
memory_exceeded queue step cause = if queue.has_flows then record queue {
  over_memory = over_memory_after queue.over_memory
      (counts_memory cause && is_over_memory queue.memory queue.memory_limit step.truesize) step.x2;
} else queue

-- the numbers of the queue after an arrival
abbrev pub with_stats : QueueNumbers → LinuxCause → ℕ → QueueNumbers
with_stats queue cause length = record queue { stats = counted queue.params.marks queue.stats cause length }

abbrev pub arrived_by : QueueNumbers → Step → LinuxCause → QueueNumbers
arrived_by queue step cause = if is_queued cause then waiting_added queue (waiting_of step) else queue

abbrev pub arrived : QueueNumbers → FlowNumbers → Step → QueueNumbers
arrived queue flow step =
    let cause = cause_of queue flow step in
    arrived_by (memory_exceeded (with_stats queue cause (length_before queue step)) step cause) step cause

-- the numbers of the flow after an arrival
abbrev pub flow_arrived_by : FlowNumbers → Step → LinuxCause → FlowNumbers
flow_arrived_by flow step cause =
    if is_queued cause then record flow { backlog = flow_backlog flow.listed flow.backlog step.packet_length; listed = true } else flow

abbrev pub state_after : QueueNumbers → FlowNumbers → Step → LinuxState
state_after queue flow step = enqueued queue.params flow.state (arrival queue flow step)

abbrev pub arrived_flow : QueueNumbers → FlowNumbers → Step → FlowNumbers
arrived_flow queue flow step = flow_arrived_by (record flow { state = state_after queue flow step }) step (cause_of queue flow step)

-- the first input that the arrival lacks, in a queue with these numbers after it has its limit
abbrev pub lack_of_arrival : Bool → QueueNumbers → FlowNumbers → Step → Option Input
lack_of_arrival change queue flow step =
    lack_of change (counts_returned queue step) (hides_protocol step && needs_protocol (cause_of queue flow step))

-- ---- a departure

abbrev pub departure_of : Step → LinuxParams → Waiting → ℕ → LinuxDeparture
departure_of step params waiting backlog = record {
  backlog = backlog;
  size = waiting.size;
  enqueued = waiting.enqueued;
  first = if params.dq_rate_estimator then ticks (get_or step.readings 0 0) else step.after.dq_tstamp;
  second = ticks (get_or step.readings 1 0);
  third = ticks (get_or step.readings 2 0);
}

-- the backlog after a departure
abbrev pub left_backlog : QueueNumbers → FlowNumbers → Waiting → Step → ℕ
left_backlog queue flow waiting step =
    backlog_of queue (removed_flow flow waiting) (sum_32 (removed queue waiting).bytes step.returned_bytes)

abbrev pub departure : QueueNumbers → FlowNumbers → Waiting → Step → LinuxDeparture
departure queue flow waiting step = departure_of step (params_at queue step) waiting (left_backlog queue flow waiting step)

-- a departure that a change of the limit dropped is counted until the row of the change
abbrev pub drop_counted : QueueNumbers → Waiting → Step → QueueNumbers
drop_counted queue waiting step =
    if step.is_drop then record queue { drops = sum_32 queue.drops 1; drop_bytes = sum_32 queue.drop_bytes waiting.length } else queue

abbrev pub departed_queue : QueueNumbers → Waiting → Step → QueueNumbers
departed_queue queue waiting step = drop_counted (removed queue waiting) waiting step

abbrev pub departed_flow : QueueNumbers → FlowNumbers → Waiting → Step → FlowNumbers
departed_flow queue flow waiting step =
    record (removed_flow flow waiting) { state = departed (params_at queue step) flow.state (departure queue flow waiting step) }

abbrev pub departure_at : QueueNumbers → FlowNumbers → Waiting → Step → Departed
departure_at queue flow waiting step = record {
  waiting = waiting;
  backlog = left_backlog queue flow waiting step;
  reads = readings (params_at queue step) flow.state (departure queue flow waiting step);
  is_timed = (params_at queue step).dq_rate_estimator;
}

-- ---- an update

abbrev pub bytes_at_update : QueueNumbers → Step → ℕ
bytes_at_update queue step = if lacks_bytes queue step then step.backlog else sum_32 queue.bytes step.returned_bytes

abbrev pub update_backlog : QueueNumbers → FlowNumbers → Step → ℕ
update_backlog queue flow step = backlog_of queue flow (bytes_at_update queue step)

abbrev pub updated_flow : QueueNumbers → FlowNumbers → Step → FlowNumbers
updated_flow queue flow step = record flow { state = updated queue.params flow.state (update_backlog queue flow step) }

-- ---- a round of the timer

-- the recorded first flow of the round, 2^32 - 1 for -1
abbrev pub recorded_flow : Step → ℕ
recorded_flow step = unwrap_or step.flow (2 ^ 32 - 1)

abbrev pub cursor_of : QueueNumbers → Step → ℕ
cursor_of queue step = unwrap_or queue.cursor (recorded_flow step)

abbrev pub round_begun : QueueNumbers → Step → QueueNumbers
round_begun queue step = record queue { cursor = Some (next_cursor queue.flows (cursor_of queue step)) }

-- ---- changes and resets

-- the numbers after a change of the parameters, before packets are dropped
abbrev pub changed : QueueNumbers → Step → QueueNumbers
changed queue step =
    if not queue.has_flows then record queue { params = step.params }
    else if step.size == 0 then record queue { params = step.params; memory_limit = step.truesize; quantum = step.x2 }
    else record queue { params = step.params; memory_limit = step.truesize; quantum = step.x2; drops = 0; drop_bytes = 0 }

-- the packets that a lower limit drops from the front of pie. fq_pie's drops are departures
abbrev pub own_dropped : QueueNumbers → Step → ℕ
own_dropped queue step =
    if queue.has_flows then 0 else own_excess queue.length (sum_32 step.returned_packets step.moved) step.params.limit

abbrev pub reset_queue : QueueNumbers → QueueNumbers
reset_queue queue = record queue { length = 0; bytes = 0 }

abbrev pub reset_flow : FlowNumbers → Bool → FlowNumbers
reset_flow flow has_flows = record {
  state = restarted flow.state;
  backlog = if has_flows then flow.backlog else 0;
  listed = false;
}
