-- Counts by places, aggregates of a list of numbers, and of the times of a list of events.
use Rattle.std.specs.Prelude.{ℕ, ◌+◌, ◌-◌, ◌*◌, ◌/◌, ◌%◌, ◌^◌, ◌==◌, min, max, List, length, map, slice_index, Option, Some, None, if◌then◌else◌, count_by}
use Rattle.std.specs.List.{filter_map, sum, range_with_len}
use Rattle.pie_aqm.specs.History.{greatest, last_or}
use Rattle.pie_explain.specs.Selection.{time_of}
use Rattle.pie_explain.specs.declared.{explanation.Explained.Explained, aggregates.Bounds.Bounds, aggregates.Peak.Peak, aggregates.Span.Span, aggregates.Total.Total}

-- a count, at most the greatest number of 64 bits
abbrev pub kept : ℕ → ℕ
kept n = min n (2 ^ 64 - 1)

-- the number of elements with this place
abbrev pub count_at : {X : Type 0} → (X → ℕ) → ℕ → List X → ℕ
count_at {X} place wanted all = kept (count_by (λ (one : X). place one == wanted) all)

-- the counts for each of the first `places` places
abbrev pub counts_of : {X : Type 0} → (X → ℕ) → ℕ → List X → List ℕ
counts_of place places all = map (λ wanted. count_at place wanted all) (range_with_len 0 places)

-- the number of numbers, the first, and the last; all 0 if there is none
abbrev pub bounds_of : List ℕ → Bounds
bounds_of numbers = record { count = kept (length numbers); first = slice_index numbers 0; last = last_or 0 numbers }

-- the greatest number, and the last; 0 if there is none
abbrev pub peak_of : List ℕ → Peak
peak_of numbers = record { greatest = greatest numbers; last = last_or 0 numbers }

-- a sum in two parts of 64 bits, and the sum of such parts
abbrev pub total_in : ℕ → Total
total_in all = record { high = all / 2 ^ 64; low = all % 2 ^ 64 }

abbrev pub sum_in : Total → ℕ
sum_in total = total.high * 2 ^ 64 + total.low

-- the sum of numbers, at most the greatest number of 128 bits
abbrev pub total_of : List ℕ → Total
total_of numbers = total_in (min (sum numbers) (2 ^ 128 - 1))

-- the mean of `count` numbers with this sum, rounded down; 0 if `count` is 0
abbrev pub mean_in : ℕ → Total → ℕ
mean_in count total = min (sum_in total / max count 1) (2 ^ 64 - 1)

-- `first`, or `number` if `count` is 0
abbrev pub first_or : ℕ → ℕ → ℕ → ℕ
first_or count first number = if count == 0 then number else first

-- a count, and one more if there is a number
abbrev pub counted_some : ℕ → Option ℕ → ℕ
counted_some count None = count
counted_some count (Some number) = kept (count + 1)

-- a sum with 1 added to its high part, or the greatest sum if that part is at its maximum
abbrev pub carried_over : Total → Total
carried_over total =
    if total.high == 2 ^ 64 - 1 then record { high = total.high; low = 2 ^ 64 - 1 } else record { high = total.high + 1; low = total.low }

-- ---- the span of events

-- the effective moment of an event
abbrev pub moment_at : Explained → ℕ
moment_at all = all.explanation.moment

-- the wall-clock time of an event, if a clock record comes before it
abbrev pub time_at : Explained → Option ℕ
time_at all = time_of all.explanation.clock all.explanation.moment

-- the span of these events
abbrev pub span_of : List Explained → Span
span_of all = record { moments = bounds_of (map moment_at all); times = bounds_of (filter_map time_at all) }
