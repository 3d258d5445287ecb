-- Ranges of numbers. The first two decimal digits and the number of digits determine the range. A number below 100
-- is a range of its own, and each further digit has 90 ranges.
use Rattle.std.specs.Prelude.{ℕ, zero, suc, ◌+◌, ◌-◌, ◌*◌, ◌/◌, ◌%◌, ◌^◌, nat_lt, nat_le, if◌then◌else◌, min, List, length, take, Option, Some, None}
use Rattle.std.specs.List.{find, range_with_len, sum}
use Rattle.pie_explain.specs.Aggregates.{counts_of}

-- the range of a number with at most `digits` digits more than two: the range of the number without its last digit,
-- and 90 more
abbrev pub range_within : ℕ → ℕ → ℕ
range_within zero number = number
range_within (suc digits) number = if nat_lt number 100 then number else range_within digits (number / 10) + 90

-- the range of a number, of at most twenty digits
unfoldable pub range_of : ℕ → ℕ
range_of number = range_within 18 number

-- the greatest number of a range
unfoldable pub range_end : ℕ → ℕ
range_end range = if nat_lt range 10 then range else ((range - 10) % 90 + 11) * 10 ^ ((range - 10) / 90) - 1

-- the number of numbers in each range
unfoldable pub ranges_of : List ℕ → List ℕ
ranges_of numbers = counts_of range_of 1720 numbers

-- the first place at which the sum of the counts up to it reaches `rank`
abbrev pub first_up_to : List ℕ → ℕ → Option ℕ
first_up_to counts rank = find (λ place. nat_le rank (sum (take (place + 1) counts))) (range_with_len 0 (length counts))

-- the greatest number of that range, or `greatest` if it is less
abbrev pub end_within : Option ℕ → ℕ → ℕ
end_within None greatest = greatest
end_within (Some range) greatest = min (range_end range) greatest
