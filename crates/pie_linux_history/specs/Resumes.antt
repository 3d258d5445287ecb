-- The numbers of a running queue and of its flows by their rows.
use Rattle.std.specs.Prelude.{ℕ, ◌+◌, ◌-◌, ◌^◌, ◌==◌, Bool, true, false, ◌&&◌, if◌then◌else◌, Option, Some, None, get_or, min, not, nat_lt}
use Rattle.pie_linux.specs.Numbers.{full_burst, unset}
use Rattle.pie_linux.specs.declared.{state.LinuxState.LinuxState, stats.LinuxStats.LinuxStats}
use Rattle.pie_linux_history.specs.declared.{step.Kind.Kind, step.Kind.TheVariants.Init, step.Kind.TheVariants.Resume, step.Step.Step, numbers.FlowNumbers.FlowNumbers, numbers.QueueNumbers.QueueNumbers}

-- the field of a number: one higher, and 0 if it is not known
abbrev pub number_field : Option ℕ → ℕ
number_field None = 0
number_field (Some number) = number + 1

abbrev pub known_number : ℕ → Option ℕ
known_number field = if field == 0 then None else if nat_lt (field - 1) (2 ^ 32) then Some (field - 1) else None

-- a memory of 32 bits
abbrev pub memory_at : ℕ → ℕ
memory_at field = if nat_lt field (2 ^ 32) then field else 0

abbrev pub is_resume : Kind → Bool
is_resume Resume = true
is_resume _ = false

-- the numbers of a queue after its first step, by the columns that pie-watch writes
abbrev pub is_init : Kind → Bool
is_init Init = true
is_init _ = false

abbrev pub no_stats : LinuxStats
no_stats = record { packets_in = 0; dropped = 0; overlimit = 0; ecn_mark = 0; maxq = 0 }

-- the state of a new queue or flow
abbrev pub new_state : LinuxState
new_state = record {
  qdelay = 0;
  qdelay_old = 0;
  burst_time = full_burst;
  dq_tstamp = unset;
  prob = 0;
  accu_prob = 0;
  dq_count = unset;
  avg_dq_rate = 0;
  backlog_old = 0;
}

-- the number of flows: at most 65536 of fq_pie, one of pie
abbrev pub first_flows : Step → ℕ
first_flows step = if step.has_flows then min step.x1 65536 else 1

-- of a queue with this handle
abbrev pub first_numbers : ℕ → Step → QueueNumbers
first_numbers handle step = record {
  has_flows = step.has_flows;
  handle = handle;
  flows = first_flows step;
  quantum = step.x2;
  params = step.params;
  stats = if is_init step.kind then no_stats else step.stats;
  length = 0;
  bytes = 0;
  memory = 0;
  memory_limit = step.truesize;
  over_memory = if is_init step.kind && step.has_flows then Some 0 else None;
  cursor = if is_init step.kind && step.has_flows then Some 0 else None;
  drops = 0;
  drop_bytes = 0;
}

-- with the columns of a running fq_pie, which texts without the column `rq` have as 0
abbrev pub resumed : QueueNumbers → Step → QueueNumbers
resumed numbers step = if is_resume step.kind then record numbers {
  memory = memory_at (get_or step.readings 2 0);
  over_memory = known_number (get_or step.readings 0 0);
  cursor = known_number (get_or step.readings 1 0);
} else numbers

-- the numbers without waiting packets, and with this memory
abbrev pub emptied : QueueNumbers → ℕ → QueueNumbers
emptied numbers memory = record numbers { length = 0; bytes = 0; memory = memory; drops = 0; drop_bytes = 0 }

-- the numbers of a flow by its row
abbrev pub resumed_flow : Step → FlowNumbers
resumed_flow step = record { state = step.after; backlog = step.backlog; listed = not (step.x1 == 0) }
