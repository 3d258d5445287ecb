-- An interval that is summed up event by event: the numbers of a summary's record, in memory of constant size.
use Rattle.std.specs.Prelude.{ℕ, ◌≡◌, ◌+◌, ◌-◌, ◌*◌, ◌^◌, ◌==◌, min, max, Bool, true, List, [], ◌∷◌, ◌++◌, Option, Some, None, count_by, if◌then◌else◌}
use Rattle.pie_aqm.specs.History.{Place, places}
use Rattle.pie_record.specs.declared.clock.Clock.{Clock}
use Rattle.pie_explain.specs.declared.{explanation.Explained.Explained, live_interval.LiveInterval.LiveInterval}
use Rattle.pie_explain.specs.Aggregates.{kept}
use Rattle.pie_explain.specs.Interval.{last_events, last_interval, interval_at, since, starts_interval}
use Rattle.pie_explain.specs.Sums.{meter_in, reached, waits_of}
pub use Rattle.pie_explain.specs.Sums.{HasConditions, meter_input_of}

abbrev pub is_first : Option ℕ → Place Explained → Bool
is_first every place = starts_interval (last_interval every place.before) (interval_at every place.event)

-- the number of intervals of these events, each counted where it begins
abbrev pub intervals_begun : Option ℕ → List Explained → ℕ
intervals_begun every all = kept (count_by (is_first every) (places all))

-- the length of the intervals; below, the number of the interval under way, `None` before the first event
abbrev pub length_of : LiveInterval → Option ℕ
length_of interval = Some interval.every

abbrev pub number_in : LiveInterval → Option ℕ
number_in interval = if interval.begun == 0 then None else Some interval.number

-- the start and the end of the interval under way: both are 0 before the first event. After it the start is the interval's number times its length,
-- and the end one length later, at most 2^64 - 1
pub record Spans (begun number every start end : ℕ) : Type 0 where
  pub starts : start ≡ (if begun == 0 then 0 else number * max every 1)
  pub ends : end ≡ (if begun == 0 then 0 else min (start + max every 1) (2 ^ 64 - 1))

-- the state after these events: the interval of the last one, the number of intervals, and the numbers and the waiting times of the last events that
-- are in one interval
pub record Holds (interval : LiveInterval) (all : List Explained) : Type 0 where
  pub number : number_in interval ≡ last_interval (length_of interval) all
  pub begun : interval.begun ≡ intervals_begun (length_of interval) all
  pub meter : interval.meter ≡ meter_in (last_events (length_of interval) all)
  pub waits : interval.waits ≡ waits_of (last_events (length_of interval) all)
  pub spans : Spans interval.begun interval.number interval.every interval.start interval.end

-- the state before the last of these events is counted, once its interval is under way
pub record Awaits (interval : LiveInterval) (shown : List Explained) (one : Explained) : Type 0 where
  pub number : number_in interval ≡ last_interval (length_of interval) (shown ++ one ∷ [])
  pub begun : interval.begun ≡ intervals_begun (length_of interval) (shown ++ one ∷ [])
  pub meter : interval.meter ≡ reached (since (length_of interval) (Some (interval_at (length_of interval) one)) shown) one
  pub waits : interval.waits ≡ waits_of (since (length_of interval) (Some (interval_at (length_of interval) one)) shown)
  pub spans : Spans interval.begun interval.number interval.every interval.start interval.end

-- the last clock record
abbrev pub clock_of : LiveInterval → Option Clock
clock_of interval = if interval.told == 1 then Some (record { moment = interval.clock_moment; unix = interval.clock_unix }) else None

-- the settings of the opening and the clock record are unchanged
pub record IsSet (before after : LiveInterval) : Type 0 where
  pub every : after.every ≡ before.every
  pub wall : after.wall ≡ before.wall
  pub told : after.told ≡ before.told
  pub clock_moment : after.clock_moment ≡ before.clock_moment
  pub clock_unix : after.clock_unix ≡ before.clock_unix

-- true if the records have a wall-clock time
abbrev pub has_wall : LiveInterval → Bool
has_wall interval = interval.wall == 1
