-- An update of the probability (pie_calculate_probability), and the restart (pie_vars_init).
use Rattle.std.specs.Prelude.{ℕ, ◌-◌, ◌*◌, ◌/◌, ◌^◌, Bool, not, ◌&&◌, ◌||◌, ◌==◌, nat_lt, nat_le, if◌then◌else◌}
use Rattle.pie_linux.specs.Numbers.{one, unset, full_burst, long_delay, sum_64, difference_64, product_64, scaled}
use Rattle.pie_linux.specs.declared.params.LinuxParams.{LinuxParams}
use Rattle.pie_linux.specs.declared.state.LinuxState.{LinuxState}

-- the state after a restart: the probability and the delays stay (pie_vars_init; pie_reset)
abbrev pub restarted : LinuxState → LinuxState
restarted state = record state {
  burst_time = full_burst;
  dq_tstamp = unset;
  accu_prob = 0;
  dq_count = unset;
  avg_dq_rate = 0;
}

-- the delay of an update: with the rate estimator the backlog by the average rate, otherwise the last departure's
abbrev pub delay_of : LinuxParams → LinuxState → ℕ → ℕ
delay_of params state backlog =
    if params.dq_rate_estimator then (if state.avg_dq_rate == 0 then 0 else scaled backlog / state.avg_dq_rate)
    else state.qdelay

-- the delay of the update before
abbrev pub old_delay_of : LinuxParams → LinuxState → ℕ
old_delay_of params state = if params.dq_rate_estimator then state.qdelay else state.qdelay_old

-- a gain: sixteenths of a probability for each second, as units of 2^-56 for each tick
abbrev pub gain_of : ℕ → ℕ
gain_of sixteenths = product_64 sixteenths (one / 15_625_000) / 16

-- the divisor of the gains at this probability
unfoldable pub divisor_at : ℕ → ℕ
divisor_at prob =
    if nat_le (one / 10) prob then 1
    else if nat_le (one / 100) prob then 2
    else if nat_le (one / 1000) prob then 8
    else if nat_le (one / 10_000) prob then 32
    else if nat_le (one / 100_000) prob then 128
    else if nat_le (one / 1_000_000) prob then 512
    else 2048

-- the step: both gains with their differences of delays, modulo 2^64; from 2^63 on it stands for a negative number
unfoldable pub raw_step : LinuxParams → ℕ → ℕ → ℕ → ℕ
raw_step params prob delay old =
    sum_64 (product_64 (gain_of params.alpha / divisor_at prob) (difference_64 delay params.target))
    (product_64 (gain_of params.beta / divisor_at prob) (difference_64 delay old))

-- true if a step is above 0
abbrev pub is_rise : ℕ → Bool
is_rise step = nat_lt 0 step && nat_lt step (2 ^ 63)

-- the step with the cap: at a probability of at least 0.1, one above 0.02 becomes 0.02
abbrev pub capped : ℕ → ℕ → ℕ
capped prob step =
    if nat_le (one / 10) prob && (nat_lt (one / 50) step && nat_lt step (2 ^ 63)) then one / 100 * 2 else step

-- the step, 0.02 higher at a delay above 250 ms: the cap does not apply to it
abbrev pub raised : ℕ → ℕ → ℕ
raised delay step = if nat_lt long_delay delay then sum_64 step (one / 50) else step

unfoldable pub step_of : LinuxParams → ℕ → ℕ → ℕ → ℕ
step_of params prob delay old = raised delay (capped prob (raw_step params prob delay old))

-- true if a rise exceeds 64 bits
abbrev pub overflows : ℕ → ℕ → Bool
overflows prob step = is_rise step && nat_lt (sum_64 prob step) prob

-- the probability with the step: 1 if a rise exceeds 64 bits, 0 if a fall goes below 0. There is no other bound
abbrev pub stepped : ℕ → ℕ → ℕ
stepped prob step =
    if is_rise step then (if nat_lt (sum_64 prob step) prob then one else sum_64 prob step)
    else (if nat_lt prob (sum_64 prob step) then 0 else sum_64 prob step)

-- true if the probability decays: both delays are 0, no byte waits, and the rise did not exceed 64 bits
abbrev pub decays : ℕ → ℕ → ℕ → Bool → Bool
decays delay old backlog overflow = (delay == 0) && (old == 0) && (backlog == 0) && not overflow

-- the probability after the decay: a 64th less
abbrev pub decayed : Bool → ℕ → ℕ
decayed decays prob = if decays then prob - prob / 64 else prob

-- the probability after an update
unfoldable pub next_prob : LinuxParams → ℕ → ℕ → ℕ → ℕ → ℕ
next_prob params prob delay old backlog =
    let step = step_of params prob delay old in
    decayed (decays delay old backlog (overflows prob step)) (stepped prob step)

-- true if an update restarts: the probability is 0, both delays are below half the target, and an estimator in use has a
-- rate
abbrev pub restarts : LinuxParams → LinuxState → ℕ → ℕ → ℕ → Bool
restarts params state prob delay old =
    nat_lt delay (params.target / 2) && nat_lt old (params.target / 2) && (prob == 0)
    && (not params.dq_rate_estimator || nat_lt 0 state.avg_dq_rate)

-- the state with the numbers of an update
abbrev pub with_update : LinuxParams → LinuxState → ℕ → ℕ → ℕ → ℕ → LinuxState
with_update params state prob delay old backlog = record state {
  prob = prob;
  qdelay = delay;
  qdelay_old = if params.dq_rate_estimator then old else delay;
  backlog_old = backlog;
}

abbrev pub updated_with : LinuxParams → LinuxState → ℕ → ℕ → ℕ → ℕ → LinuxState
updated_with params state prob delay old backlog =
    if restarts params state prob delay old then restarted (with_update params state prob delay old backlog)
    else with_update params state prob delay old backlog

-- the state after an update at this backlog
unfoldable pub updated : LinuxParams → LinuxState → ℕ → LinuxState
updated params state backlog =
    let delay = delay_of params state backlog in
    let old = old_delay_of params state in
    updated_with params state (next_prob params state.prob delay old backlog) delay old backlog
