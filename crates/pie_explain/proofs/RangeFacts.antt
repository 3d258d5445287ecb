-- Ranges of numbers.
use Rattle.pie_explain.proofs.SummaryNames.{◌≡◌, ◌+◌, ◌-◌, ◌*◌, ◌/◌, ◌<◌, ◌≤◌, arith, ℕ, lit≤, suc, zero, Bool, true, false, List, [], ◌∷◌, ◌++◌, length, refl, sym, ap, ◌∙◌, if◌then◌else◌, min, nat_le, nat_lt, slice_index, slice_set, take, Option, Some, find, replicate, range_with_len, sum, nat_tests, first_up_to, range_of, ranges_of}
use Rattle.std.proofs.Common.{◌^◌}
use Rattle.std.proofs.{lemmas.List.Sums.sum_by_more, Math.Nat.div-div-eq-div-mul, Math.Nat.one-le-pow, Math.Nat.pow-suc}
use Rattle.pie_explain.specs.Ranges.{range_within}
use Rattle.pie_explain.proofs.CountFacts.{counted-push, none-counted}

-- without its last digit, a number has one digit less
pub shorter : (digits number : ℕ) → (digits ≡ 0 → ⊥) → number < 100 * 10 ^ digits → number / 10 < 100 * 10 ^ (digits - 1)
shorter digits number some few = less (10 ^ (digits - 1)) (10 ^ digits) (ap (λ d. 10 ^ d) (omega (arith, some)) ∙ pow-suc 10 (digits - 1)) few
  where
    less : (power longer : ℕ) → longer ≡ power * 10 → number < 100 * longer → number / 10 < 100 * power
    less power longer is below = omega (arith, is, below)

-- the range of a number of two digits and `digits` more, for a power of 10 that separates the two parts: the two
-- digits, and 90 for each other digit
pub range_at : (digits more number power : ℕ) → more ≤ digits → power ≡ 10 ^ more → 10 * power ≤ number → number < 100 * power
    → range_within digits number ≡ number / power + 90 * more
range_at zero zero number power within is from to = omega (arith, ap (λ p. number / p) is)
range_at (suc digits) zero number power within is from to = two (range_within digits (number / 10)) (ap (λ p. number / p) is)
  where
    two : (longer : ℕ) → number / power ≡ number / 1 → (if nat_lt number 100 then number else longer + 90) ≡ number / power + 90 * 0
    two longer whole = grind (arith, nat_tests)
range_at zero (suc more) number power within is from to = absurd (omega arith)
range_at (suc digits) (suc more) number power within is from to =
    by (10 ^ more) (is ∙ pow-suc 10 more) (one-le-pow more 10 (lit≤ tt)) (range_at digits more (number / 10) (10 ^ more) (omega arith) refl)
  where
    by : (less : ℕ) → power ≡ less * 10 → 1 ≤ less
        → (10 * less ≤ number / 10 → number / 10 < 100 * less → range_within digits (number / 10) ≡ number / 10 / less + 90 * more)
        → range_within (suc digits) number ≡ number / power + 90 * suc more
    by less parts some rest =
        let divided : number / 10 / less ≡ number / power = div-div-eq-div-mul number 10 less ∙ ap (λ (p : ℕ). number / p) (omega arith) in
        longer (range_within digits (number / 10)) ∙ ap (λ (n : ℕ). n + 90) (rest (omega (arith, parts, from)) (omega (arith, parts, to)))
        ∙ omega (arith, divided)
      where
        longer : (short : ℕ) → (if nat_lt number 100 then number else short + 90) ≡ short + 90
        longer short = grind (arith, nat_tests)

-- the sum of the counts up to one more place
up-to-more : (counts : List ℕ) (place : ℕ) → place < length counts
    → sum (take (place + 1) counts) ≡ sum (take place counts) + slice_index counts place
up-to-more counts place within = sum_by_more (λ (n : ℕ). n) counts place 0 within

-- a search over a range ends at its first place or continues after it
search-step : (test : ℕ → Bool) (place count : ℕ) → place < count → find test (range_with_len place (count - place))
    ≡ (if test place then Some place else find test (range_with_len (place + 1) (count - (place + 1))))
search-step test place count within = longer (count - (place + 1)) (count - place) (omega arith)
  where
    longer : (rest all : ℕ) → all ≡ suc rest
        → find test (range_with_len place all) ≡ (if test place then Some place else find test (range_with_len (place + 1) rest))
    longer rest all is = rw is refl

-- the search for a rank, from a place on
abbrev pub from_place : List ℕ → ℕ → ℕ → Option ℕ
from_place counts rank place = find (λ p. nat_le rank (sum (take (p + 1) counts))) (range_with_len place (length counts - place))

pub search-ends : (counts : List ℕ) (rank place missing : ℕ) → place < length counts → missing ≡ rank - sum (take place counts)
    → missing ≤ slice_index counts place → first_up_to counts rank ≡ from_place counts rank place → Some place ≡ first_up_to counts rank
search-ends counts rank place missing within left enough so_far =
    let more = up-to-more counts place within in
    let reached : rank ≤ sum (take (place + 1) counts) = omega (arith, more, left, enough) in
    let holds : nat_le rank (sum (take (place + 1) counts)) ≡ true = grind (arith, nat_tests, reached) in
    sym (so_far ∙ search-step (λ p. nat_le rank (sum (take (p + 1) counts))) place (length counts) within
    ∙ ap (λ b. if b then Some place else from_place counts rank (place + 1)) holds)

pub search-continues : (counts : List ℕ) (rank place missing : ℕ) → place < length counts → missing ≡ rank - sum (take place counts)
    → slice_index counts place < missing → first_up_to counts rank ≡ from_place counts rank place
    → (missing - slice_index counts place ≡ rank - sum (take (place + 1) counts)) × (first_up_to counts rank ≡ from_place counts rank (place + 1))
search-continues counts rank place missing within left short so_far =
    let more = up-to-more counts place within in
    let misses : sum (take (place + 1) counts) < rank = omega (arith, more, left, short) in
    let fails : nat_le rank (sum (take (place + 1) counts)) ≡ false = grind (arith, nat_tests, misses) in (
      omega (arith, more, left),
      so_far ∙ search-step (λ p. nat_le rank (sum (take (p + 1) counts))) place (length counts) within
          ∙ ap (λ b. if b then Some place else from_place counts rank (place + 1)) fails,
    )

-- all ranges are empty without a number
pub no_ranges : replicate 1720 0 ≡ ranges_of []
unfolding ranges_of
no_ranges = none-counted range_of 0 1720

-- one more number in its range
pub ranges_push : (at : ℕ) (numbers : List ℕ) (number : ℕ) (old held read : List ℕ) (count : ℕ) → old ≡ ranges_of numbers → held ≡ old → read ≡ old
    → count ≡ min (slice_index read at + 1) 18446744073709551615 → at ≡ range_of number → at < 1720
    → slice_set held at count ≡ ranges_of (numbers ++ number ∷ [])
unfolding ranges_of
ranges_push at numbers number old held read count is held-is read-is count-is here within =
    ap (λ (xs : List ℕ). slice_set xs at count) held-is
    ∙ ap (λ (n : ℕ). slice_set old at n) (count-is ∙ ap (λ (xs : List ℕ). min (slice_index xs at + 1) 18446744073709551615) read-is)
    ∙ counted-push range_of 1720 at numbers number old is here within
