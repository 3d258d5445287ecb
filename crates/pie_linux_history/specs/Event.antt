-- The event of a report for a decided step of Linux's queue: arrivals, departures, updates, changes and resets, as pie_explain explains those of a
-- history. Times are in nanoseconds, probabilities in units of 10^-12, rounded down.
use Rattle.std.specs.Prelude.{ℕ, ◌+◌, ◌-◌, ◌*◌, ◌/◌, ◌%◌, ◌^◌, Bool, true, false, ◌==◌, if◌then◌else◌, min, max, Option, Some, None, option_map}
use Rattle.pie_linux.specs.Enqueue.{is_queued, own_prob}
use Rattle.pie_linux.specs.declared.{params.LinuxParams.LinuxParams, params.MarkLimit.MarkLimit, params.MarkLimit.TheVariants.Tenth, params.MarkLimit.TheVariants.Percent, cause.LinuxCause.LinuxCause, cause.Picked.Picked}
use Rattle.pie_linux.specs.declared.cause.LinuxCause.TheVariants as linux
use Rattle.pie_linux.specs.declared.cause.Picked.TheVariants as picked
use Rattle.pie_params.specs.declared.raw.RawParams.{RawParams}
use Rattle.pie_params.specs.Params.{default_profile}
use Rattle.pie_queue.specs.declared.{ecn.Ecn.Ecn, ecn.Ecn.TheVariants.NotEct, ecn.Ecn.TheVariants.Ect1, ecn.Ecn.TheVariants.Ect0, ecn.Ecn.TheVariants.Ce, packet.Packet.Packet}
use Rattle.pie_event.specs.declared.{command.Command.Command, command.Command.TheVariants.Arrive, command.Command.TheVariants.Depart, command.Command.TheVariants.Update, command.Command.TheVariants.Reset, command.Command.TheVariants.SetParams, command.Answer.Answer, command.Event.Event, cause.Cause.Cause, cause.Fate.Fate, registers.Registers.Registers, command.Setter.Setter}
use Rattle.pie_event.specs.declared.command.Answer.TheVariants as answer
use Rattle.pie_event.specs.declared.cause.Cause.TheVariants as cause
use Rattle.pie_event.specs.declared.cause.Fate.TheVariants as fate
use Rattle.pie_event.specs.declared.command.Setter.TheVariants as setter
use Rattle.pie_explain.specs.declared.explanation.Explained.{Explained}
use Rattle.pie_linux_history.specs.declared.{decided.DecidedStep.DecidedStep, decided.StepNumbers.StepNumbers, decided.Updates.Updates, explained.DecidedPacket.DecidedPacket, explained.Fate.Fate as PacketFate, step.Step.Step, step.Kind.Kind}
use Rattle.pie_linux_history.specs.declared.explained.Fate.TheVariants as packet_fate
use Rattle.pie_linux_history.specs.declared.step.Kind.TheVariants as kind

-- ---- units

-- a time in ticks of 64 ns, at most 2^64 - 1
abbrev pub nanos : ℕ → ℕ
nanos ticks = min (ticks * 64) (2 ^ 64 - 1)

-- a probability in units of 2^-56
abbrev pub parts : ℕ → ℕ
parts prob = prob * 10 ^ 12 / 2 ^ 56

-- the parameters: the target, within its range, and the defaults otherwise
abbrev pub params_of : LinuxParams → RawParams
params_of params = record default_profile { target = min (max (nanos params.target) 2) (10 ^ 10) }

-- ---- an arrival

-- the ECN field in the first two bytes of the network header of IPv4 (0x0800) or IPv6 (0x86dd), if the packet contains it
abbrev pub ecn_bits : Bool → ℕ → ℕ → ℕ
ecn_bits contained protocol header =
    if contained then if protocol == 0x0800 then header % 4 else if protocol == 0x86dd then header / 16 % 4 else 0 else 0

abbrev pub ecn_by : ℕ → Ecn
ecn_by bits = if bits == 1 then Ect1 else if bits == 2 then Ect0 else if bits == 3 then Ce else NotEct

abbrev pub ecn_of : Step → Ecn
ecn_of step = ecn_by (ecn_bits step.contained step.protocol step.header)

-- the greatest probability at which packets are marked
abbrev pub mark_threshold : MarkLimit → ℕ
mark_threshold Tenth = 10 ^ 11
mark_threshold (Percent percent) = min (percent * 10 ^ 10) (2 ^ 64 - 1)

-- the fate of a picked packet. If `ecn` is off, the threshold is 0
abbrev pub fate_by : Picked → MarkLimit → Fate
fate_by picked.EcnOff marks = fate.NotBelow 0
fate_by picked.HighProbability marks = fate.NotBelow (mark_threshold marks)
fate_by picked.NotCapable marks = fate.NotCapable
fate_by picked.Marked marks = fate.Marked (mark_threshold marks)

-- the cause with the numbers that the kernel compared
abbrev pub own_part : DecidedPacket → LinuxParams → Step → ℕ
own_part packet params step = parts (own_prob params packet.state.prob step.mtu step.size)

abbrev pub cause_by : LinuxCause → DecidedPacket → LinuxParams → Step → Cause
cause_by linux.OverLimit packet params step = cause.NoRoomInPackets packet.length
cause_by linux.BurstTime packet params step = cause.BurstAllowed (nanos packet.state.burst_time)
cause_by linux.LowDelay packet params step = cause.LowDelay (nanos packet.state.qdelay) (nanos params.target) (parts packet.state.prob)
cause_by linux.ShortQueue packet params step = cause.ShortQueue step.backlog step.mtu
cause_by linux.SumBelow packet params step = cause.LittleAccumulated (parts packet.state.accu_prob) (own_part packet params step)
cause_by (linux.SumAbove picked) packet params step =
    cause.PickedBySum (parts packet.state.accu_prob) (own_part packet params step) (fate_by picked params.marks)
cause_by (linux.WordBelow picked) packet params step =
    cause.PickedByWord (parts packet.state.accu_prob) (own_part packet params step) step.word (fate_by picked params.marks)
cause_by linux.WordNotBelow packet params step =
    cause.WordNotBelow (parts packet.state.accu_prob) (own_part packet params step) step.word

-- the verdict
abbrev pub picked_verdict : Picked → Answer
picked_verdict picked.Marked = answer.Marked
picked_verdict _ = answer.DroppedEarly

abbrev pub verdict_of : LinuxCause → Answer
verdict_of linux.OverLimit = answer.DroppedPackets
verdict_of (linux.SumAbove picked) = picked_verdict picked
verdict_of (linux.WordBelow picked) = picked_verdict picked
verdict_of _ = answer.Enqueued

-- the cause of the kernel's decision, if the packet arrived
abbrev pub packet_cause : PacketFate → Option LinuxCause
packet_cause (packet_fate.Arrival cause) = Some cause
packet_cause _ = None

-- ---- the event

-- the tag of a packet: its flow in the upper 32 bits
abbrev pub tag_of : DecidedStep → ℕ
tag_of one = one.before.place * 2 ^ 32

abbrev pub packet_of : DecidedStep → Ecn → Packet
packet_of one ecn = record { tag = tag_of one; size = one.step.packet_length; ecn = ecn }

-- an arrival with its verdict
abbrev pub arrival_with : DecidedStep → LinuxCause → Command × Answer
arrival_with one cause = (Arrive one.step.moment (packet_of one (ecn_of one.step)) one.step.word, verdict_of cause)

abbrev pub cause_in : Option DecidedPacket → Option LinuxCause
cause_in None = None
cause_in (Some packet) = packet_cause packet.fate

abbrev pub arrival_of : DecidedStep → Option (Command × Answer)
arrival_of one = option_map (arrival_with one) (cause_in one.arrival)

-- the results of an update
abbrev pub updated_answer : DecidedStep → Answer
updated_answer one = answer.Updated (nanos one.after.state.qdelay) (parts one.after.state.prob) (nanos one.after.state.burst_time)

-- the command and the answer of a step of a kind that reports have
abbrev pub command_by : Kind → DecidedStep → Option (Command × Answer)
command_by kind.Enqueue one = arrival_of one
command_by kind.Dequeue one = if one.step.is_drop then None else Some (Depart one.step.moment, answer.Left (packet_of one NotEct))
command_by kind.Empty one = Some (Depart one.step.moment, answer.Empty)
command_by kind.Update one = Some (Update one.step.moment, updated_answer one)
command_by kind.Change one = Some (SetParams one.step.moment (params_of one.after.params), answer.Done)
command_by kind.Reset one = Some (Reset one.step.moment, answer.Done)
command_by kind.Destroy one = Some (Reset one.step.moment, answer.Done)
command_by _ one = None

abbrev pub command_of : DecidedStep → Option (Command × Answer)
command_of one = command_by one.step.kind one

-- ---- the numbers around it

-- the packets and the bytes that wait before a step; at an arrival those of the kernel, with the packets that the device returned
abbrev pub waiting_before_by : Option DecidedPacket → DecidedStep → ℕ × ℕ
waiting_before_by (Some packet) one = (packet.length, packet.backlog)
waiting_before_by None one = (one.before.packets, one.before.bytes)

abbrev pub waiting_before : DecidedStep → ℕ × ℕ
waiting_before one = waiting_before_by one.arrival one

-- the packets and the bytes after it
abbrev pub queued_by : Option LinuxCause → DecidedPacket → ℕ × ℕ
queued_by None packet = (packet.length, packet.backlog)
queued_by (Some cause) packet =
    if is_queued cause then (packet.length + 1, packet.backlog + packet.bytes) else (packet.length, packet.backlog)

abbrev pub waiting_after_by : Option DecidedPacket → DecidedStep → ℕ × ℕ
waiting_after_by (Some packet) one = queued_by (packet_cause packet.fate) packet
waiting_after_by None one = (one.after.packets, one.after.bytes)

abbrev pub waiting_after : DecidedStep → ℕ × ℕ
waiting_after one = waiting_after_by one.arrival one

-- the numbers of a controller: after `count` events, at this effective moment, with the last update at `last`
abbrev pub registers_of : StepNumbers → ℕ × ℕ → ℕ → ℕ → ℕ → Registers
registers_of numbers waiting count moment last = record {
  count = count;
  moment = moment;
  packets = waiting.0;
  bytes = waiting.1;
  prob = parts numbers.state.prob;
  old = nanos numbers.state.qdelay_old;
  accu = parts numbers.state.accu_prob;
  burst = nanos numbers.state.burst_time;
  last = last;
  average = 0;
  measuring = false;
  params = params_of numbers.params;
  active = true;
}

-- the last update of the flow, as far as the text has it
abbrev pub setter_of : Updates → Setter
setter_of updates = if updates.count == 0 then setter.Unknown else setter.Event updates.event

-- the wait of a departing packet: by the kernel's moments of its arrival and its departure, or with the rate estimator by those of the rows
abbrev pub wait_of : DecidedStep → ℕ
wait_of one =
    if one.before.params.dq_rate_estimator then one.step.moment - max one.before.since one.updates.opening
    else nanos (one.step.after.dq_tstamp - one.step.enqueued)

abbrev pub waited_by : Kind → DecidedStep → ℕ
waited_by kind.Dequeue one = wait_of one
waited_by _ one = 0

-- the last update after a step
abbrev pub last_by : Kind → DecidedStep → ℕ
last_by kind.Update one = one.moment
last_by _ one = one.updates.moment

-- the cause of an arrival
abbrev pub cause_with : DecidedStep → DecidedPacket → Option LinuxCause → Option Cause
cause_with one packet None = None
cause_with one packet (Some cause) = Some (cause_by cause packet one.before.params one.step)

abbrev pub arrival_cause_by : Option DecidedPacket → DecidedStep → Option Cause
arrival_cause_by None one = None
arrival_cause_by (Some packet) one = cause_with one packet (packet_cause packet.fate)

abbrev pub arrival_cause : DecidedStep → Option Cause
arrival_cause one = arrival_cause_by one.arrival one

-- ---- the explanation

abbrev pub explained_as : DecidedStep → Event → Explained
explained_as one event = record {
  explanation = record {
    number = one.event;
    event = event;
    moment = one.moment;
    before = registers_of one.before (waiting_before one) (one.event - 1) one.moment one.updates.moment;
    delay = nanos one.before.state.qdelay;
    cause = arrival_cause one;
    waited = waited_by one.step.kind one;
    set_by = setter_of one.updates;
    updates = one.updates.count;
    clock = None;
  };
  after = registers_of one.after (waiting_after one) one.event one.moment (last_by one.step.kind one);
  delay = nanos one.after.state.qdelay;
}

abbrev pub explained_with : DecidedStep → Command × Answer → Explained
explained_with one pair = explained_as one (record { caller = 0; command = pair.0; answer = pair.1 })

-- the explanation of a step, if reports have its kind
abbrev pub explained_of : DecidedStep → Option Explained
explained_of one = option_map (explained_with one) (command_of one)
