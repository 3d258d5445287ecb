-- Digits of a text, one more at a time: their number, and its value in a unit.
use Rattle.std.proofs.Common.{◌≡◌, ◌+◌, ◌*◌, ◌-◌, ◌<◌, ◌≤◌, arith, ℕ, zero, suc, List, [], ◌∷◌, ◌++◌, length, slice_index, take, sym, ap, ◌∙◌, append-nil}
use Rattle.std.specs.Prelude.{min, false}
use Rattle.std.proofs.lemmas.Bool.Decides.{nat_tests}
use Rattle.std.proofs.lemmas.Nat.{mul-le}
use Rattle.std.proofs.lemmas.List.Sums.{fold-append, fold_more}
use Rattle.pie_units.specs.Number.{number_after, whole_in}
use Rattle.std.specs.Fmt.{char_count, decimal, format_spec, padded_integral}
use Rattle.pie_units.specs.Time.{with_zeros}

-- ---- The number, limited to a maximum

next-min : (n digit most : ℕ) → min (min n most * 10 + digit) most ≡ min (n * 10 + digit) most
next-min n digit most = omega arith

after-min : (n most : ℕ) (digits : List ℕ) → min (number_after (min n most) digits) most ≡ min (number_after n digits) most
unfolding number_after
after-min n most [] = omega arith
after-min n most (d ∷ ds) =
    sym (after-min (min n most * 10 + (d - 48)) most ds) ∙ ap (λ (k : ℕ). min (number_after k ds) most) (next-min n (d - 48) most)
    ∙ after-min (n * 10 + (d - 48)) most ds

-- no digit
pub number_none : (before most : ℕ) → before ≤ most → before ≡ min (number_after before []) most
unfolding number_after
number_none before most small = omega arith

-- one more digit
pub number_more : (before : ℕ) (digits : List ℕ) (i n next most : ℕ) → i < length digits → n ≡ min (number_after before (take i digits)) most
    → next ≡ min (n * 10 + (slice_index digits i - 48)) most → next ≡ min (number_after before (take (i + 1) digits)) most
unfolding number_after
number_more before digits i n next most within n-is is = grind (arith, nat_tests, slice_index, next-min, fold_more)

after-append : (n : ℕ) (xs ys : List ℕ) → number_after n (xs ++ ys) ≡ number_after (number_after n xs) ys
unfolding number_after
after-append n xs ys = fold-append (λ number digit. number * 10 + (digit - 48)) n xs ys

-- digits in three parts
pub number_joined : (whole decimals zeros : List ℕ) (first second third most : ℕ) → first ≡ min (number_after 0 whole) most
    → second ≡ min (number_after first decimals) most → third ≡ min (number_after second zeros) most
    → third ≡ min (number_after 0 (whole ++ decimals ++ zeros)) most
number_joined whole decimals zeros first second third most first-is second-is third-is = grind (arith, nat_tests, after-min, after-append)

-- a number at the maximum is too great
whole-kept : (parts : ℕ) → whole_in (min parts 340282366920938463463374607431768211455) ≡ whole_in parts
whole-kept parts = grind (arith, nat_tests)

-- a number at the maximum is too great in any unit
kept-same : (parts kept product all : ℕ) → kept ≡ min parts 340282366920938463463374607431768211455 → (kept ≡ parts → product ≡ all)
    → (340282366920938463463374607431768211455 ≤ kept → 340282366920938463463374607431768211455 ≤ product)
    → (340282366920938463463374607431768211455 ≤ parts → 340282366920938463463374607431768211455 ≤ all)
    → min product 340282366920938463463374607431768211455 ≡ min all 340282366920938463463374607431768211455
kept-same parts kept product all is same less more = grind arith

product-kept : (parts kept scale : ℕ) → kept ≡ min parts 340282366920938463463374607431768211455
    → min (kept * scale) 340282366920938463463374607431768211455 ≡ min (parts * scale) 340282366920938463463374607431768211455
product-kept parts kept zero is = omega arith
product-kept parts kept (suc scale) is =
    kept-same parts kept (kept * suc scale) (parts * suc scale) is (ap (λ (k : ℕ). k * suc scale)) (times kept) (times parts)
  where
    times : (n : ℕ) → 340282366920938463463374607431768211455 ≤ n → 340282366920938463463374607431768211455 ≤ n * suc scale
    times n most = let all = mul-le n 1 n (suc scale) (omega arith) (omega arith) in omega (arith, all, most)

pub value_kept : (parts kept scale product : ℕ) → kept ≡ min parts 340282366920938463463374607431768211455
    → product ≡ min (kept * scale) 340282366920938463463374607431768211455 → whole_in product ≡ whole_in (parts * scale)
value_kept parts kept scale product kept-is product-is = grind (arith, nat_tests, product-kept, whole-kept)

-- ---- the text of a number with zeros before it

pub some-digits : (digits n : ℕ)
    → padded_integral (format_spec 32 0 4 digits 18446744073709551615) false [] (decimal n) ≡ with_zeros digits n
unfolding padded_integral char_count
some-digits digits n = grind (arith, nat_tests, append-nil)
