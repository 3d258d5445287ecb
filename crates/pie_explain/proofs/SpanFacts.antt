-- Facts about the aggregates of a list of numbers, with one more number.
use Rattle.pie_explain.proofs.SummaryNames.{◌≡◌, ◌≤◌, ◌<◌, ◌+◌, ◌/◌, ◌%◌, ◌==◌, arith, ℕ, suc, Bool, true, false, List, [], ◌∷◌, ◌++◌, append-nil, length, map, refl, subst, sym, ap, ◌∙◌, max, min, slice_index, Option, Some, None, unwrap_or, if◌then◌else◌, cons_option, filter_map, sum, eq-eqb, eqb-true, map_push, filter_map-append, sum_by_push, greatest, last_or, greatest-push, last_or-push, Bounds, kept, bounds_of, peak_of, total_in, total_of}
use Rattle.std.proofs.{lemmas.Bool.false≢true, lemmas.List.length_push}
use Rattle.pie_explain.specs.declared.{aggregates.Peak.Peak, aggregates.Total.Total}
use Rattle.pie_explain.specs.Aggregates.{carried_over, counted_some, first_or}
use Rattle.pie_explain.proofs.CountFacts.{kept-more}

-- ---- aggregates of numbers of events, by one step for a list of numbers

-- the aggregates of an optional number
pub some-of-push : {S X : Type 0} (of : List ℕ → S) (number : X → Option ℕ) (shown : List X) (one : X) {read : Option ℕ} {old now : S}
    → ((numbers : List ℕ) → old ≡ of numbers → now ≡ of (numbers ++ cons_option read [])) → read ≡ number one
    → old ≡ of (filter_map number shown) → now ≡ of (filter_map number (shown ++ one ∷ []))
some-of-push of number shown one step is old-is =
    step (filter_map number shown) old-is
    ∙ ap (λ (r : Option ℕ). of (filter_map number shown ++ cons_option r [])) is
    ∙ ap of (sym (filter_map-append number shown (one ∷ [])))

-- the aggregates of a number of each element
pub each-of-push : {S X : Type 0} (of : List ℕ → S) (number : X → ℕ) (shown : List X) (one : X) {read : ℕ} {old now : S}
    → ((numbers : List ℕ) → old ≡ of numbers → now ≡ of (numbers ++ read ∷ [])) → read ≡ number one
    → old ≡ of (map number shown) → now ≡ of (map number (shown ++ one ∷ []))
each-of-push of number shown one step is old-is =
    step (map number shown) old-is ∙ ap (λ (r : ℕ). of (map number shown ++ r ∷ [])) is ∙ ap of (sym (map_push number shown one))

-- ---- counts, bounds and greatest numbers

-- the first number of a list with one more
first-push : (numbers : List ℕ) (number : ℕ) → first_or (kept (length numbers)) (slice_index numbers 0) number
    ≡ slice_index (numbers ++ number ∷ []) 0
first-push [] number = refl
first-push (first ∷ numbers) number = later (length numbers)
  where
    later : (n : ℕ) → (if kept (suc n) == 0 then number else first) ≡ first
    later n = grind arith

count-push : (numbers : List ℕ) (number : ℕ) → kept (kept (length numbers) + 1) ≡ kept (length (numbers ++ number ∷ []))
count-push numbers number = kept-more (length numbers) 1 18446744073709551615 ∙ ap kept (sym (length_push numbers number))

pub bounds_push : (numbers : List ℕ) (number : ℕ) (old : Bounds) (count first : ℕ) → old ≡ bounds_of numbers
    → count ≡ kept (old.count + 1) → first ≡ first_or old.count old.first number
    → record { count = count; first = first; last = number } ≡ bounds_of (numbers ++ number ∷ [])
bounds_push numbers number old count first is count-is first-is = λ i. record {
  count = (count-is ∙ ap (λ (s : Bounds). kept (s.count + 1)) is ∙ count-push numbers number) i;
  first = (first-is ∙ ap (λ (s : Bounds). first_or s.count s.first number) is ∙ first-push numbers number) i;
  last = sym (last_or-push 0 numbers number) i;
}

-- the last number is at most the greatest
last-from : (number : ℕ) (numbers : List ℕ) → last_or number numbers ≤ max number (greatest numbers)
unfolding last_or greatest
last-from number [] = omega arith
last-from number (first ∷ numbers) = let rest = last-from first numbers in omega (arith, rest)

pub peak_push : (numbers : List ℕ) (number : ℕ) (old : Peak) (most : ℕ) → old ≡ peak_of numbers → most ≡ max old.greatest number
    → record { greatest = most; last = number } ≡ peak_of (numbers ++ number ∷ [])
peak_push numbers number old most is most-is = λ i. record {
  greatest = (most-is ∙ ap (λ (s : Peak). max s.greatest number) is ∙ sym (greatest-push numbers number)) i;
  last = sym (last_or-push 0 numbers number) i;
}

-- the aggregate is unchanged by one more number equal to the last
pub peak_same : (numbers : List ℕ) (number : ℕ) (old : Peak) → old ≡ peak_of numbers → old.last ≡ number → old ≡ peak_of (numbers ++ number ∷ [])
peak_same numbers number old is same =
    let below : old.last ≤ max 0 old.greatest = subst (λ (p : Peak). p.last ≤ max 0 p.greatest) (sym is) (last-from 0 numbers) in
    let most : old.greatest ≡ max old.greatest number = omega (arith, below, same) in
    (λ i. record { greatest = most i; last = same i }) ∙ peak_push numbers number old (max old.greatest number) is refl

pub count-some : (numbers : List ℕ) (read : Option ℕ) (old now : ℕ) → now ≡ counted_some old read → old ≡ kept (length numbers)
    → now ≡ kept (length (numbers ++ cons_option read []))
count-some numbers None old now is old-is = is ∙ old-is ∙ ap (λ (ns : List ℕ). kept (length ns)) (sym (append-nil numbers))
count-some numbers (Some number) old now is old-is = is ∙ ap (λ (n : ℕ). kept (n + 1)) old-is ∙ count-push numbers number

-- the greatest number, with one more if there is one
pub greatest-some : (numbers : List ℕ) (read : Option ℕ) → max (greatest numbers) (unwrap_or read 0) ≡ greatest (numbers ++ cons_option read [])
greatest-some numbers None = omega arith ∙ ap greatest (sym (append-nil numbers))
greatest-some numbers (Some number) = sym (greatest-push numbers number)

-- the last number, with one more if there is one
pub since-push : (before : ℕ) (numbers : List ℕ) (read : Option ℕ)
    → unwrap_or read (last_or before numbers) ≡ last_or before (numbers ++ cons_option read [])
since-push before numbers None = ap (last_or before) (sym (append-nil numbers))
since-push before numbers (Some number) = sym (last_or-push before numbers number)

-- ---- sums in two parts

module _ (numbers : List ℕ) (number : ℕ) (old : Total) (new : ℕ) (is : old ≡ total_of numbers) where
  -- the sum before, and the parts of the sum with one more
  before : ℕ
  before = min (sum numbers) 340282366920938463463374607431768211455

  parts : (old.high ≡ before / 18446744073709551616) × (old.low ≡ before % 18446744073709551616)
      × (before ≤ 340282366920938463463374607431768211455)
  unfolding before
  parts = (ap (λ (t : Total). t.high) is, ap (λ (t : Total). t.low) is, omega arith)
