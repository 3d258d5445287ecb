-- Worked examples of the definitions: each theorem computes. The tests tests/program/summary.py and flows.py cover
-- the output.
use Rattle.pie_explain.proofs.SummaryNames.{◌^◌, Some, None, ⊤, greatest, last_or, Bounds, interval_of, kept, first_up_to, range_of, bounds_of, peak_of, total_in, total_of}
use Rattle.std.specs.Prelude.{ℕ, ◌≡◌, ◌-◌, [], ◌∷◌, map, refl}
use Rattle.pie_explain.specs.{Ranges.end_within, Ranges.range_end, Aggregates.mean_in, Aggregates.sum_in}

-- the definitions that theorems on a worked list unfold
unfoldable worked : Type 0
unfolding greatest last_or range_of range_end
worked = ⊤

-- intervals of 100 ns, of length 0, and no interval
intervals : (map (interval_of (Some 100)) (0 ∷ 99 ∷ 100 ∷ 199 ∷ 250 ∷ []) ≡ 0 ∷ 0 ∷ 1 ∷ 1 ∷ 2 ∷ [])
    × (map (interval_of (Some 0)) (0 ∷ 7 ∷ []) ≡ 0 ∷ 7 ∷ []) × (interval_of None 250 ≡ 0)
intervals = (refl, refl, refl)

-- ---- ranges

-- each of 0 to 99 is a range; above, two digits determine the range, also of 2^60 - 1 and 2^64 - 1
ranges : map range_of (0 ∷ 9 ∷ 10 ∷ 99 ∷ 100 ∷ 109 ∷ 110 ∷ 999 ∷ 1000 ∷ 1_152_921_504_606_846_975 ∷ 18_446_744_073_709_551_615 ∷ [])
    ≡ 0 ∷ 9 ∷ 10 ∷ 99 ∷ 100 ∷ 100 ∷ 101 ∷ 189 ∷ 190 ∷ 1541 ∷ 1638 ∷ []
unfolding worked
ranges = refl

range-ends : map range_end (0 ∷ 9 ∷ 10 ∷ 99 ∷ 100 ∷ 101 ∷ 189 ∷ 190 ∷ 1541 ∷ [])
    ≡ 0 ∷ 9 ∷ 10 ∷ 99 ∷ 109 ∷ 119 ∷ 999 ∷ 1099 ∷ 1_199_999_999_999_999_999 ∷ []
unfolding worked
range-ends = refl

-- three numbers in the second place and two in the fourth: the first three are reached by the second place, the last two by the fourth, and there is
-- no sixth
places-up-to : map (first_up_to (0 ∷ 3 ∷ 0 ∷ 2 ∷ [])) (0 ∷ 1 ∷ 3 ∷ 4 ∷ 5 ∷ 6 ∷ [])
    ≡ Some 0 ∷ Some 1 ∷ Some 1 ∷ Some 3 ∷ Some 3 ∷ None ∷ []
places-up-to = refl

-- the end of a range, at most the greatest of all numbers
ends : (end_within (Some 104) 1000 ≡ 149) × (end_within (Some 104) 140 ≡ 140) × (end_within None 140 ≡ 140)
unfolding worked
ends = (refl, refl, refl)

-- ---- numbers

abbrev bounds : ℕ → ℕ → ℕ → Bounds
bounds count first last = record { count = count; first = first; last = last }

numbers : (bounds_of (5 ∷ 9 ∷ 2 ∷ []) ≡ bounds 3 5 2) × (bounds_of [] ≡ bounds 0 0 0)
    × (peak_of (5 ∷ 9 ∷ 2 ∷ []) ≡ record { greatest = 9; last = 2 }) × (peak_of [] ≡ record { greatest = 0; last = 0 })
unfolding worked
numbers = (refl, refl, refl, refl)

-- a sum stays at 2^128 - 1, a count at 2^64 - 1, and a mean is rounded down
much : (total_of (2 ^ 64 ∷ 3 ∷ []) ≡ record { high = 1; low = 3 }) × (sum_in (total_of ((2 ^ 128 - 1) ∷ 3 ∷ [])) ≡ 2 ^ 128 - 1)
    × (map kept ((2 ^ 64 - 1) ∷ 2 ^ 64 ∷ []) ≡ 18446744073709551615 ∷ 18446744073709551615 ∷ [])
    × (mean_in 3 (total_in 266) ≡ 88) × (mean_in 0 (total_in 0) ≡ 0)
unfolding worked
much = (refl, refl, refl, refl, refl)
