-- The departures of a rate estimate since it was cleared, in order.
use Rattle.std.specs.Prelude.{ℕ, ◌+◌, ◌-◌, List, sum_by, take, drop, slice_index_or, zero, suc, Bool, [], ◌∷◌, Option, option_map, option_and_then, find, length, nat_le, ◌*◌, ◌/◌, ◌==◌, if◌then◌else◌, max, map, fold, ◌≡◌, ◌^◌, ◌<◌, Some, None, nat_lt}
use Rattle.std.specs.List.{range_with_len}
use Rattle.std.specs.Option.{option_map_or, ForSome}
use Rattle.pie_rate.specs.declared.raw.RawCycle.{RawCycle}
use Rattle.pie_rate.specs.declared.raw.RawRate.{RawRate}

-- a departure: the packet's size, the bytes that remain in the queue, and the moment in nanoseconds
pub record Departure : Type 0 where
  pub size : ℕ
  pub bytes_left : ℕ
  pub moment : ℕ

-- a departure: the packet's size, the bytes that remain in the queue, and the moment
abbrev pub departure : ℕ → ℕ → ℕ → Departure
departure size bytes_left moment = record { size = size; bytes_left = bytes_left; moment = moment }

-- the departure at a position, counted from 0; beyond the end its numbers are 0
abbrev pub departure_at : List Departure → ℕ → Departure
departure_at departures k = slice_index_or departures k (departure 0 0 0)

-- the bytes of these departed packets
abbrev pub bytes_of : List Departure → ℕ
bytes_of departures = sum_by (λ d. d.size) departures

-- the bytes of the departures after position i
abbrev pub bytes_after : List Departure → ℕ → ℕ
bytes_after departures i = bytes_of (drop (i + 1) departures)

-- the bytes of the departures after position i, up to and including position j
abbrev pub bytes_after_to : List Departure → ℕ → ℕ → ℕ
bytes_after_to departures i j = bytes_of (take (j - i) (drop (i + 1) departures))

-- The cycles of departure-rate estimation (after RFC 8033, section 5.2; the conditions for opening and closing a cycle,
-- and its count, are this project's own), found in the whole list of departures at a threshold in bytes.

-- a cycle, by the positions of the departures that open and close it
pub record Cycle : Type 0 where
  pub opened : ℕ
  pub closed : ℕ

-- the first position from `from` on, below `end`, that passes the test
unfoldable pub first_position : (ℕ → Bool) → ℕ → ℕ → Option ℕ
first_position test from end = find test (range_with_len from (end - from))

-- the first departure from position `from` on that leaves at least the threshold in the queue
unfoldable pub first_opening : ℕ → List Departure → ℕ → Option ℕ
first_opening threshold departures from =
    first_position (λ i. nat_le threshold (departure_at departures i).bytes_left) from (length departures)

-- the first departure after position i such that the sizes of the departures after i, up to it, sum to at least the
-- threshold
unfoldable pub first_closing : ℕ → List Departure → ℕ → Option ℕ
first_closing threshold departures i =
    first_position (λ j. nat_le threshold (bytes_after_to departures i j)) (i + 1) (length departures)

-- the first cycle that opens at or after position `from`
unfoldable pub first_cycle : ℕ → List Departure → ℕ → Option Cycle
first_cycle threshold departures from =
    option_and_then (λ i. option_map (λ j. record { opened = i; closed = j }) (first_closing threshold departures i))
    (first_opening threshold departures from)

-- the cycles from position `from` on, at most `most` of them. Each is the first that opens at or after the closing position of the one before it
unfoldable pub cycles_from : ℕ → List Departure → ℕ → ℕ → List Cycle
cycles_from threshold departures zero from = []
cycles_from threshold departures (suc most) from =
    option_map_or (λ cycle. cycle ∷ cycles_from threshold departures most cycle.closed)
    (first_cycle threshold departures from)
    []

-- all cycles. Each closes at a departure of its own, so the number of cycles is at most that of departures
unfoldable pub cycles : ℕ → List Departure → List Cycle
cycles threshold departures = cycles_from threshold departures (length departures) 0

-- the closing position of the last cycle, or `start` without a cycle
abbrev pub last_closed : ℕ → List Cycle → ℕ
last_closed start [] = start
last_closed start (cycle ∷ rest) = last_closed cycle.closed rest

-- the departure that opens the cycle that is still open: the first opening at or after the closing position of the last cycle
unfoldable pub begun : ℕ → List Departure → Option ℕ
begun threshold departures = first_opening threshold departures (last_closed 0 (cycles threshold departures))

-- The average time in which `dq_threshold` bytes depart (RFC 8033, section 5.2).

-- the sample of a cycle: the nanoseconds from the departure that opens it to the departure that closes it, at least 1
abbrev pub sample_of : List Departure → Cycle → ℕ
sample_of departures cycle =
    max 1 ((departure_at departures cycle.closed).moment - (departure_at departures cycle.opened).moment)

-- the samples of the cycles, in order
unfoldable pub samples : ℕ → List Departure → List ℕ
samples threshold departures = map (sample_of departures) (cycles threshold departures)

-- the average after one more sample, whose weight is `threshold` / 65536
abbrev pub averaged : ℕ → ℕ → ℕ → ℕ
averaged threshold average sample = (sample * threshold + average * (65536 - threshold)) / 65536

-- the average of samples: the first sample, changed by each later one in order; 0 without a sample
abbrev pub average_of : ℕ → List ℕ → ℕ
average_of threshold [] = 0
average_of threshold (sample ∷ later) = fold (averaged threshold) sample later

-- the average after these departures
unfoldable pub average : ℕ → List Departure → ℕ
average threshold departures = average_of threshold (samples threshold departures)

-- the average after one more sample, from the average before it, which is 0 if there was no sample
abbrev pub with_sample : ℕ → ℕ → ℕ → ℕ
with_sample threshold average sample = if average == 0 then sample else averaged threshold average sample

-- The model of a rate estimate, and the departures that it represents.

-- an open cycle, and an estimate: their numbers
abbrev pub Begun : Type 0
Begun = RawCycle

abbrev pub Estimate : Type 0
Estimate = RawRate

-- an estimate in range: the average is below 2^60; an open cycle began at a moment and has counted fewer than 65536
-- bytes
abbrev pub IsWithin : Estimate → Type 0
IsWithin e = (e.average < 2 ^ 60) × ForSome e.begun (λ cycle. (cycle.start < 2 ^ 60) × (cycle.count < 65536))

-- the cycle that the departure at position i opens
abbrev pub begun_at : List Departure → ℕ → Begun
begun_at departures i = record { start = (departure_at departures i).moment; count = bytes_after departures i }

-- the abstraction relation: an estimate that was cleared and then received these departures at this threshold
pub record Represents (threshold : ℕ) (departures : List Departure) (estimate : Estimate) : Type 0 where
  pub average : estimate.average ≡ average threshold departures
  pub begun : estimate.begun ≡ option_map (begun_at departures) (begun threshold departures)

-- ---- The step at one more departure (after RFC 8033, section 5.2), from the estimate before it

-- the cycle that a departure opens if no cycle is open
abbrev pub opened_by : ℕ → Departure → Option Begun
opened_by threshold d =
    if nat_lt d.bytes_left threshold then None else Some (record { start = d.moment; count = 0 })

-- the estimate after a departure, from the average and the open cycle before it
abbrev pub step_from : ℕ → ℕ → Departure → Option Begun → Estimate
step_from threshold average d None = record { average = average; begun = opened_by threshold d }
step_from threshold average d (Some cycle) =
    if nat_lt (cycle.count + d.size) threshold
    then record { average = average; begun = Some (record { start = cycle.start; count = cycle.count + d.size }) }
    else record {
      average = with_sample threshold average (max 1 (d.moment - cycle.start));
      begun = opened_by threshold d;
    }

-- the estimate after a departure: an open cycle counts the packet and closes when its count reaches the threshold
abbrev pub after_departure : ℕ → Estimate → Departure → Estimate
after_departure threshold before d = step_from threshold before.average d before.begun
