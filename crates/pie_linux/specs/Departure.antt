-- A departing packet (pie_process_dequeue).
use Rattle.std.specs.Prelude.{ℕ, ◌+◌, ◌-◌, ◌/◌, ◌%◌, ◌^◌, Bool, not, ◌&&◌, ◌||◌, ◌==◌, nat_lt, nat_le, if◌then◌else◌}
use Rattle.pie_linux.specs.Numbers.{unset, threshold, sum_64, difference_64, scaled}
use Rattle.pie_linux.specs.declared.params.LinuxParams.{LinuxParams}
use Rattle.pie_linux.specs.declared.state.LinuxState.{LinuxState}
use Rattle.pie_linux.specs.declared.departure.LinuxDeparture.{LinuxDeparture}

-- the ticks from one moment to another, in 32 bits: they wrap after 275 s
abbrev pub elapsed : ℕ → ℕ → ℕ
elapsed since now = difference_64 now since % 2 ^ 32

-- the ticks since the last departure; 0 at the first one, which only starts the burst clock
abbrev pub since_last : LinuxState → ℕ → ℕ
since_last state now = if state.dq_tstamp == unset then 0 else elapsed state.dq_tstamp now

-- without the rate estimator: the delay is the packet's wait, or 0 if it emptied the queue, and the time since the last
-- departure reduces the burst allowance
abbrev pub departed_by_wait : LinuxState → LinuxDeparture → LinuxState
departed_by_wait state departure = record state {
  qdelay = if departure.backlog == 0 then 0 else difference_64 departure.first departure.enqueued;
  burst_time = state.burst_time - since_last state departure.first;
  dq_tstamp = departure.first;
}

-- true if a measurement of the departure rate begins: none runs, and at least 16384 bytes are left
abbrev pub begins : LinuxState → LinuxDeparture → Bool
begins state departure = nat_le threshold departure.backlog && (state.dq_count == unset)

-- the state with that measurement begun; the beginning reads the clock for a second time
abbrev pub begun : LinuxState → LinuxDeparture → LinuxState
begun state departure =
    if begins state departure then record state { dq_tstamp = departure.second; dq_count = 0 } else state

-- the average departure rate, in 1/256 byte for each tick, with one more measurement: the first, or an eighth of it
abbrev pub average : ℕ → ℕ → ℕ
average old rate = if old == 0 then rate else old - old / 8 + rate / 8

-- the next reading of the clock, after the first and that of a beginning
abbrev pub next_reading : LinuxState → LinuxDeparture → ℕ
next_reading state departure = if begins state departure then departure.third else departure.second

-- the end of a measurement of `count` bytes in `time` ticks: the average and the burst allowance change, and the next
-- measurement begins if at least 16384 bytes are left
abbrev pub measured : LinuxState → LinuxDeparture → ℕ → ℕ → ℕ → LinuxState
measured state departure count time again = record state {
  avg_dq_rate = average state.avg_dq_rate (scaled count / time);
  burst_time = state.burst_time - time;
  dq_count = if nat_lt departure.backlog threshold then unset else 0;
  dq_tstamp = if nat_lt departure.backlog threshold then state.dq_tstamp else again;
}

-- a packet that a measurement counts: it ends at 16384 bytes, unless no tick has passed
abbrev pub counted_at : LinuxState → LinuxDeparture → ℕ → ℕ → LinuxState
counted_at state departure count again =
    if nat_lt count threshold || (elapsed state.dq_tstamp departure.first == 0) then record state { dq_count = count }
    else measured state departure count (elapsed state.dq_tstamp departure.first) again

-- with the rate estimator
abbrev pub departed_by_rate : LinuxState → LinuxDeparture → LinuxState
departed_by_rate state departure =
    if (begun state departure).dq_count == unset then state
    else counted_at (begun state departure) departure (sum_64 (begun state departure).dq_count departure.size) (next_reading state departure)

-- true if a measurement ends and the next one begins: it counts 16384 bytes with this packet, a tick has passed, and at least
-- 16384 bytes are left
abbrev pub begins_again : LinuxState → LinuxDeparture → Bool
begins_again state departure =
    not (state.dq_count == unset) && nat_le threshold (sum_64 state.dq_count departure.size)
    && not (elapsed state.dq_tstamp departure.first == 0) && nat_le threshold departure.backlog

-- the readings of the clock that the rate estimator takes at a departure: the first, and one for each beginning. Without the
-- estimator the departure's moment is in the state
abbrev pub readings : LinuxParams → LinuxState → LinuxDeparture → ℕ
readings params state departure =
    if params.dq_rate_estimator
    then 1 + (if begins state departure then 1 else 0) + (if begins_again (begun state departure) departure then 1 else 0)
    else 0

-- the state after a departure
unfoldable pub departed : LinuxParams → LinuxState → LinuxDeparture → LinuxState
departed params state departure =
    if params.dq_rate_estimator then departed_by_rate state departure else departed_by_wait state departure
