-- Facts about counts with one more element.
use Rattle.pie_explain.proofs.SummaryNames.{◌≡◌, ◌+◌, ◌<◌, ◌≤◌, ◌==◌, arith, ℕ, zero, suc, Bool, true, false, cond, List, [], ◌∷◌, ◌++◌, map, refl, sym, ap, ◌∙◌, min, count_by, nat_lt, replicate, slice_index, slice_set, if◌then◌else◌, range_with_len, sum, eq-eqb, ne_eqb, nat_tests, sum_by_push, kept}
use Rattle.std.proofs.lemmas.List.Sums.{sum_by-cons}
use Rattle.pie_explain.specs.Aggregates.{count_at, counts_of}

-- a bounded number, with more added
pub kept-more : (n more most : ℕ) → min (min n most + more) most ≡ min (n + more) most
kept-more n more most = omega arith

-- all counts of the empty list are 0
pub none-counted : {X : Type 0} (place : X → ℕ) (first places : ℕ)
    → replicate places 0 ≡ map (λ wanted. count_at place wanted []) (range_with_len first places)
none-counted place first zero = refl
none-counted place first (suc places) = ap (λ (counts : List ℕ). 0 ∷ counts) (none-counted place (first + 1) places)

-- ---- a list over a range, with another value at one place

same-range : (f g : ℕ → ℕ) (first count : ℕ) → ((w : ℕ) → first ≤ w → w < first + count → g w ≡ f w)
    → map f (range_with_len first count) ≡ map g (range_with_len first count)
same-range f g first zero same = refl
same-range f g first (suc count) same =
    rw (
      same first (omega arith) (omega arith),
      same-range f g (first + 1) count (λ w from to. same w (omega (arith, from)) (omega (arith, to))),
    ) refl

set-range : (f g : ℕ → ℕ) (place first count i : ℕ) → i < count → place ≡ first + i → ((w : ℕ) → (place ≡ w → ⊥) → g w ≡ f w)
    → slice_set (map f (range_with_len first count)) i (g place) ≡ map g (range_with_len first count)
set-range f g place first zero i within is same = absurd (omega arith)
set-range f g place first (suc count) zero within is same =
    let here : place ≡ first = omega arith in
    rw (here, same-range f g (first + 1) count (λ w from to. same w (λ e. omega (arith, e, from)))) refl
set-range f g place first (suc count) (suc i) within is same =
    rw (same first (λ e. omega (arith, e)), set-range f g place (first + 1) count i (omega arith) (omega arith) same) refl

index-range : (f : ℕ → ℕ) (first count i : ℕ) → i < count → slice_index (map f (range_with_len first count)) i ≡ f (first + i)
index-range f first zero i within = absurd (omega arith)
index-range f first (suc count) zero within = ap f (omega arith)
index-range f first (suc count) (suc i) within = index-range f (first + 1) count i (omega arith) ∙ ap f (omega arith)

-- ---- counts

count-push : {X : Type 0} (place : X → ℕ) (wanted : ℕ) (shown : List X) (one : X)
    → count_at place wanted (shown ++ one ∷ []) ≡ min (count_at place wanted shown + cond (place one == wanted) 1 0) 18446744073709551615
count-push {X} place wanted shown one =
    ap kept (sum_by_push (λ (e : X). cond (place e == wanted) 1 0) shown one)
    ∙ sym (kept-more (count_by (λ e. place e == wanted) shown) (cond (place one == wanted) 1 0) 18446744073709551615)

-- the count of another place is unchanged
count-other : {X : Type 0} (place : X → ℕ) (shown : List X) (one : X) (wanted : ℕ) → (place one ≡ wanted → ⊥)
    → count_at place wanted (shown ++ one ∷ []) ≡ count_at place wanted shown
count-other {X} place shown one wanted differs =
    count-push place wanted shown one
    ∙ ap (λ (b : Bool). min (count_at place wanted shown + cond b 1 0) 18446744073709551615) (ne_eqb (place one) wanted differs)
    ∙ small (count_by (λ (e : X). place e == wanted) shown)
  where
    small : (n : ℕ) → min (min n 18446744073709551615 + 0) 18446744073709551615 ≡ min n 18446744073709551615
    small n = omega arith

pub counted-push : {X : Type 0} (place : X → ℕ) (places at : ℕ) (shown : List X) (one : X) (old : List ℕ)
    → old ≡ counts_of place places shown
    → at ≡ place one → at < places
    → slice_set old at (min (slice_index old at + 1) 18446744073709551615) ≡ counts_of place places (shown ++ one ∷ [])
counted-push place places at shown one old is here within =
    let before : ℕ → ℕ = λ w. count_at place w shown in
    let after : ℕ → ℕ = λ w. count_at place w (shown ++ one ∷ []) in
    let more : min (slice_index old at + 1) 18446744073709551615 ≡ after at =
    ap (λ (xs : List ℕ). min (slice_index xs at + 1) 18446744073709551615) is
    ∙ ap (λ (n : ℕ). min (n + 1) 18446744073709551615) (index-range before 0 places at within ∙ ap before (omega arith))
    ∙ sym (count-push place at shown one ∙ ap (λ (b : Bool). min (count_at place at shown + cond b 1 0) 18446744073709551615)
    (eq-eqb (place one) at (sym here))) in
    ap (λ (count : ℕ). slice_set old at count) more ∙ ap (λ (counts : List ℕ). slice_set counts at (after at)) is
    ∙ set-range before after at 0 places at within (omega arith) (λ w differs. count-other place shown one w (λ e. differs (here ∙ e)))

-- the counts with one more element, whose place may be after all counted places
pub counted-among : {X : Type 0} (place : X → ℕ) (places at : ℕ) (shown : List X) (one : X) (old : List ℕ)
    → old ≡ counts_of place places shown → at ≡ place one
    → (if nat_lt at places then slice_set old at (min (slice_index old at + 1) 18446744073709551615) else old)
    ≡ counts_of place places (shown ++ one ∷ [])
counted-among place places at shown one old is here = by_test (nat_lt at places) refl
  where
    behind : (at wanted : ℕ) → nat_lt at places ≡ false → wanted < places → at ≡ wanted → ⊥
    behind at wanted test within same = grind (arith, nat_tests)

    by_test : (b : Bool) → nat_lt at places ≡ b → (if b then slice_set old at (min (slice_index old at + 1) 18446744073709551615) else old)
        ≡ counts_of place places (shown ++ one ∷ [])
    by_test true test = counted-push place places at shown one old is here (grind (arith, nat_tests, test))
    by_test false test =
        is ∙ same-range (λ w. count_at place w shown) (λ w. count_at place w (shown ++ one ∷ [])) 0 places
        (λ w from to. count-other place shown one w (λ e. behind at w test (omega (arith, to)) (here ∙ e)))
