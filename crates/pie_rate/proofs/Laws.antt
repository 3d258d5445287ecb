-- The change of each definition when a departure is added at the end of the list.
use Rattle.std.proofs.Common.{◌≡◌, ℕ, zero, suc, ◌+◌, ◌-◌, ◌<◌, ◌≤◌, Bool, true, false, cond, List, [], ◌∷◌, ◌++◌, length, drop, Option, Some}
use Rattle.std.proofs.Common.{None, refl, ap, ◌∙◌, arith, length-drop, map, sym, fold, ◌↔◌, ◌^◌, max}
use Rattle.std.specs.Prelude.{find, nat_le, nat_lt, IfSome, if◌then◌else◌, option_map}
use Rattle.std.specs.List.{range_with_len}
use Rattle.std.specs.Option.{option_or, ForSome}
use Rattle.std.proofs.lemmas.Bool.Decides.{nat_tests}
use Rattle.std.proofs.lemmas.List.{map-append, drop-append-le, get_or_append_left, get_or_push, length_push, take_all, take-append-le, append-nil}
use Rattle.std.proofs.lemmas.List.{drop_all}
use Rattle.std.proofs.lemmas.List.Sums.{sum_by_push, fold-append}
use Rattle.std.proofs.lemmas.List.Folds.{find-append}
use Rattle.std.proofs.Math.Numerals.{add-one}
use Rattle.pie_rate.specs.{Departure, departure, departure_at, bytes_of, bytes_after, bytes_after_to, sample_of, samples, Cycle, first_position}
use Rattle.pie_rate.specs.{first_opening, first_closing, first_cycle, cycles_from, cycles, last_closed, begun, averaged, average_of, average}
use Rattle.pie_rate.specs.{with_sample, IsWithin, Represents, begun_at, after_departure, opened_by, step_from}
use Rattle.pie_rate.specs.Estimate.{Begun, Estimate}

-- one more number at the end of a range
range-push : (a n : ℕ) → range_with_len a (suc n) ≡ range_with_len a n ++ (a + n) ∷ []
range-push a zero = grind arith
range-push a (suc n) = let e : (a + 1) + n ≡ a + suc n = omega arith in rw (← e) (ap (λ xs. a ∷ xs) (range-push (a + 1) n))

-- a search depends only on the tests in its range
find-range-same : (p q : ℕ → Bool) (a n : ℕ) → ((k : ℕ) → a ≤ k → k < a + n → p k ≡ q k) → find p (range_with_len a n) ≡ find q (range_with_len a n)
find-range-same p q a zero same = refl
find-range-same p q a (suc n) same = grind (arith, nat_tests, find-range-same p q (a + 1) n (λ k l h. same k (omega arith) (omega arith)))

-- the result of a search is in the range
find-range-within : (p : ℕ → Bool) (low a n e : ℕ) → low ≤ a → a + n ≤ e → IfSome (find p (range_with_len a n)) (λ k. (low ≤ k) × (k < e))
find-range-within p low a zero e l h = tt
find-range-within p low a (suc n) e l h = let later = find-range-within p low (a + 1) n e (omega arith) (omega arith) in grind (arith, nat_tests)

-- the first position with one more position
first_position-push : (p q : ℕ → Bool) (from end : ℕ) → from ≤ end → ((k : ℕ) → from ≤ k → k < end → p k ≡ q k)
    → first_position p from (end + 1) ≡ option_or (first_position q from end) (cond (p end) (Some end) None)
unfolding first_position
first_position-push p q from end l same = grind (arith, nat_tests, range-push, find-append, find-range-same)

first_position-past : (p : ℕ → Bool) (from end : ℕ) → end ≤ from → first_position p from end ≡ None
unfolding first_position
first_position-past p from end l = let n : end - from ≡ 0 = omega arith in rw n refl

first_position-within : (p : ℕ → Bool) (from end : ℕ) → from ≤ end → IfSome (first_position p from end) (λ k. (from ≤ k) × (k < end))
unfolding first_position
first_position-within p from end l = find-range-within p from from (end - from) end (omega arith) (omega arith)

-- a test and its opposite
turned : (a b : ℕ) (x y : Option ℕ) → cond (nat_le b a) y x ≡ (if nat_lt a b then x else y)
turned a b x y = grind (arith, nat_tests)

module _ (threshold : ℕ) (ds : List Departure) (d : Departure) where
  -- departures and sums, with one more departure
  pub departure_at-push_old : (k : ℕ) → k < length ds → departure_at (ds ++ d ∷ []) k ≡ departure_at ds k
  departure_at-push_old k h = get_or_append_left ds (d ∷ []) _ k h

  pub departure_at-push_new : departure_at (ds ++ d ∷ []) (length ds) ≡ d
  departure_at-push_new = get_or_push ds d _ (length ds) refl

  pub bytes_after-push : (i : ℕ) → i < length ds → bytes_after (ds ++ d ∷ []) i ≡ bytes_after ds i + d.size
  bytes_after-push i h = ap bytes_of (drop-append-le (i + 1) ds (d ∷ []) (omega arith)) ∙ sum_by_push (λ e. e.size) (drop (i + 1) ds) d

  bytes_after_to-push_old : (i k : ℕ) → i < k → k < length ds → bytes_after_to (ds ++ d ∷ []) i k ≡ bytes_after_to ds i k
  bytes_after_to-push_old i k a b = grind (arith, nat_tests, drop-append-le, take-append-le, length-drop)

  bytes_after_to-push_new : (i : ℕ) → i < length ds → bytes_after_to (ds ++ d ∷ []) i (length ds) ≡ bytes_after ds i + d.size
  bytes_after_to-push_new i h = grind (arith, nat_tests, take_all, length-drop, length_push, bytes_after-push)

  -- the departure opens a cycle, or closes the cycle that departure i opened
  abbrev pub opens : Option ℕ
  opens = if nat_lt d.bytes_left threshold then None else Some (length ds)

  abbrev pub closes : ℕ → Option ℕ
  closes i = if nat_lt (bytes_after ds i + d.size) threshold then None else Some (length ds)

  opening-push : (from : ℕ) (o : Option ℕ) → from ≤ length ds → first_opening threshold ds from ≡ o
      → first_opening threshold (ds ++ d ∷ []) from ≡ option_or o opens
  unfolding first_opening
  opening-push from o l e =
      rw (
        length_push ds d,
        ← e,
        ← turned d.bytes_left threshold None (Some (length ds)),
        ← ap (λ (x : Departure). nat_le threshold x.bytes_left) departure_at-push_new,
      )
      (first_position-push (λ i. nat_le threshold (departure_at (ds ++ d ∷ []) i).bytes_left) (λ i. nat_le threshold (departure_at ds i).bytes_left)
      from (length ds) l
      (λ k a b. ap (λ x. nat_le threshold x.bytes_left) (departure_at-push_old k b)))

  closing-push : (i : ℕ) (c : Option ℕ) → i < length ds → first_closing threshold ds i ≡ c
      → first_closing threshold (ds ++ d ∷ []) i ≡ option_or c (closes i)
  unfolding first_closing
  closing-push i c l e =
      rw (length_push ds d, ← e, ← turned (bytes_after ds i + d.size) threshold None (Some (length ds)), ← bytes_after_to-push_new i l)
      (first_position-push (λ j. nat_le threshold (bytes_after_to (ds ++ d ∷ []) i j)) (λ j. nat_le threshold (bytes_after_to ds i j)) (i + 1)
      (length ds) (omega arith)
      (λ k a b. ap (nat_le threshold) (bytes_after_to-push_old i k (omega arith) b)))

  -- no departure opens a cycle at the end of the list, and no departure closes the cycle that the last departure opens
  none_opens : (from : ℕ) → length ds ≤ from → first_opening threshold ds from ≡ None
  unfolding first_opening
  none_opens from l = first_position-past _ from (length ds) l

  none_closes : first_closing threshold (ds ++ d ∷ []) (length ds) ≡ None
  unfolding first_closing
  none_closes = rw (length_push ds d) (first_position-past _ (length ds + 1) (length ds + 1) (omega arith))

  opens_at_end : first_opening threshold (ds ++ d ∷ []) (length ds) ≡ opens
  opens_at_end = opening-push (length ds) None (omega arith) (none_opens (length ds) (omega arith))

  opening-within : (from : ℕ) → from ≤ length ds → IfSome (first_opening threshold ds from) (λ i. (from ≤ i) × (i < length ds))
  unfolding first_opening
  opening-within from l = first_position-within _ from (length ds) l

  closing-within : (i : ℕ) → i < length ds → IfSome (first_closing threshold ds i) (λ j. (i + 1 ≤ j) × (j < length ds))
  unfolding first_closing
  closing-within i l = first_position-within _ (i + 1) (length ds) (omega arith)

  -- the cycle that the departure closes, and the departure whose cycle is open after it, from the one before
  abbrev pub added : Option ℕ → List Cycle
  added None = []
  added (Some i) = if nat_lt (bytes_after ds i + d.size) threshold then [] else (record { opened = i; closed = length ds } ∷ [])

  abbrev pub begins : Option ℕ → Option ℕ
  begins None = opens
  begins (Some i) = if nat_lt (bytes_after ds i + d.size) threshold then Some i else opens

  none_begun : (most from : ℕ) (b : Bool) → first_opening threshold (ds ++ d ∷ []) from ≡ (if b then None else Some (length ds))
      → cycles_from threshold (ds ++ d ∷ []) (suc most) from ≡ []
  unfolding cycles_from first_cycle
  none_begun most from b e = let closes = none_closes in grind (arith, nat_tests)

  one_begun : (most from i : ℕ) (b : Bool) → first_opening threshold (ds ++ d ∷ []) from ≡ Some i
      → first_closing threshold (ds ++ d ∷ []) i ≡ (if b then None else Some (length ds))
      → cycles_from threshold (ds ++ d ∷ []) (suc (suc most)) from ≡ (if b then [] else (record { opened = i; closed = length ds } ∷ []))
  unfolding cycles_from first_cycle
  one_begun most from i b e f =
      let none = none_begun most (length ds) (nat_lt d.bytes_left threshold) opens_at_end in grind (arith, nat_tests)

  begins_at : (from i : ℕ) (b : Bool) → first_opening threshold (ds ++ d ∷ []) from ≡ Some i
      → first_opening threshold (ds ++ d ∷ []) (last_closed from (if b then [] else (record { opened = i; closed = length ds } ∷ [])))
      ≡ (if b then Some i else opens)
  begins_at from i b e = let opening = opens_at_end in grind (arith, nat_tests)

  -- facts about the cycles from a position on when the cycle of departure `begun` is open after them. With one more
  -- departure there are these cycles and the one that it closes, with the same samples. The cycle that is open then is
  -- known. Departure `begun` is within the list, and no departure closes its cycle
  record Grows (most from : ℕ) (cs : List Cycle) (begun : Option ℕ) : Type 0 where
    grown : cycles_from threshold (ds ++ d ∷ []) (suc most) from ≡ cs ++ added begun
    sampled : map (sample_of (ds ++ d ∷ [])) cs ≡ map (sample_of ds) cs
    begins : first_opening threshold (ds ++ d ∷ []) (last_closed from (cs ++ added begun)) ≡ begins begun
    within : IfSome begun (λ i. i < length ds)
    unclosed : IfSome begun (λ i. first_closing threshold ds i ≡ None)

  abbrev GrowsFrom : ℕ → ℕ → Type 0
  GrowsFrom most from =
      let cs = cycles_from threshold ds most from in
      Grows most from cs (first_opening threshold ds (last_closed from cs))

  none_grows : (most from : ℕ) → from ≤ length ds → first_opening threshold ds from ≡ None → Grows most from [] None
  none_grows most from l a =
      let opening = opening-push from None l a in
      record { grown = none_begun most from (nat_lt d.bytes_left threshold) opening; sampled = refl; begins = opening; within = tt; unclosed = tt }

  -- from any position on: no departure opens a cycle, no departure closes the open one, or more cycles follow
  grows : (most from : ℕ) → from ≤ length ds → length ds ≤ from + most → GrowsFrom most from
  unfolding cycles_from first_cycle
  grows zero from l room = let none = none_opens from (omega arith) in rw none (none_grows zero from l none)
  grows (suc most) from l room =
      opening (first_opening threshold ds from) refl (opening-within from l) (λ j low high. grows most j (omega arith) (omega arith))
    where
      closing : (i : ℕ) (c : Option ℕ) → (from ≤ i) × (i < length ds) → first_opening threshold ds from ≡ Some i → first_closing threshold ds i ≡ c
          → IfSome c (λ j. (i + 1 ≤ j) × (j < length ds)) → ((j : ℕ) → from + 1 ≤ j → j < length ds → GrowsFrom most j) → GrowsFrom (suc most) from
      closing i None w a b v later = rw (a, b) (
          let opening = opening-push from (Some i) (omega (arith, w.0)) a in
          let shorter = nat_lt (bytes_after ds i + d.size) threshold in
          rw a (record {
            grown = one_begun most from i shorter opening (closing-push i None w.1 b);
            sampled = refl;
            begins = begins_at from i shorter opening;
            within = w.1;
            unclosed = b;
          })
          )
      closing i (Some j) w a b v later =
          let rest = later j (omega (arith, w.0, v.0)) v.1 in
          let opening = opening-push from (Some i) (omega (arith, w.0)) a in
          rw (a, b) (record {
            grown = rw (opening, closing-push i (Some j) w.1 b) (ap (λ cs. record { opened = i; closed = j } ∷ cs) rest.grown);
            sampled = rw (departure_at-push_old i w.1, departure_at-push_old j v.1, rest.sampled) refl;
            begins = rest.begins;
            within = rest.within;
            unclosed = rest.unclosed;
          })

      opening : (o : Option ℕ) → first_opening threshold ds from ≡ o → IfSome o (λ i. (from ≤ i) × (i < length ds))
          → ((j : ℕ) → from + 1 ≤ j → j < length ds → GrowsFrom most j) → GrowsFrom (suc most) from
      opening None a w later = rw a (rw a (none_grows (suc most) from l a))
      opening (Some i) a w later = closing i (first_closing threshold ds i) w a refl (closing-within i w.1) later

  -- all cycles
  all_grow : Grows (length ds) 0 (cycles threshold ds) (begun threshold ds)
  unfolding cycles begun
  all_grow = grows (length ds) 0 (omega arith) (omega arith)

  cycles-push : cycles threshold (ds ++ d ∷ []) ≡ cycles threshold ds ++ added (begun threshold ds)
  unfolding cycles
  cycles-push = rw (length_push ds d, add-one) all_grow.grown

  pub begun-push : begun threshold (ds ++ d ∷ []) ≡ begins (begun threshold ds)
  unfolding begun
  begun-push = rw cycles-push all_grow.begins

  pub begun-within : IfSome (begun threshold ds) (λ i. i < length ds)
  begun-within = all_grow.within

  pub samples-push : samples threshold (ds ++ d ∷ []) ≡ samples threshold ds ++ map (sample_of (ds ++ d ∷ [])) (added (begun threshold ds))
  unfolding samples
  samples-push = rw (cycles-push, map-append, all_grow.sampled) refl

-- no departure closes the open cycle
pub begun_unclosed : (threshold : ℕ) (ds : List Departure) → IfSome (begun threshold ds) (λ i. first_closing threshold ds i ≡ None)
begun_unclosed threshold ds = (all_grow threshold ds (departure 0 0 0)).unclosed

-- ---- Averages of samples, each above 0

averaged-positive : (threshold average sample : ℕ) → threshold ≤ 65536 → 1 ≤ average → 1 ≤ sample → 1 ≤ averaged threshold average sample
averaged-positive threshold average sample t a s = grind arith

module _ (threshold : ℕ) (ds : List Departure) (t : threshold ≤ 65536) where
  fold-positive : (average : ℕ) (cs : List Cycle) → 1 ≤ average → 1 ≤ fold (averaged threshold) average (map (sample_of ds) cs)
  fold-positive average [] a = a
  fold-positive average (cycle ∷ rest) a =
      let sample = sample_of ds cycle in
      fold-positive (averaged threshold average sample) rest (averaged-positive threshold average sample t a (omega arith))

  -- one more sample
  pub average_of-push : (cs : List Cycle) (sample : ℕ)
      → average_of threshold (map (sample_of ds) cs ++ sample ∷ []) ≡ with_sample threshold (average_of threshold (map (sample_of ds) cs)) sample
  average_of-push [] sample = refl
  average_of-push (cycle ∷ rest) sample = grind (arith, nat_tests, fold-positive, fold-append)

  -- an average of departures is 0 exactly if they make no cycle
  pub average_zero : (average threshold ds ≡ 0) ↔ (cycles threshold ds ≡ [])
  unfolding average samples
  average_zero = by (cycles threshold ds)
    where
      by : (cs : List Cycle) → (average_of threshold (map (sample_of ds) cs) ≡ 0) ↔ (cs ≡ [])
      by [] = (λ e. refl, λ e. refl)
      by (cycle ∷ rest) = let some = fold-positive (sample_of ds cycle) rest (omega arith) in (λ e. absurd (omega arith), λ e. absurd (cc))

-- ---- The estimate after one more departure, for each path through the code

-- a cleared estimate represents no departures
pub none_represented : (threshold : ℕ) → Represents threshold [] (record { average = 0; begun = None })
unfolding average samples cycles cycles_from begun first_opening first_position
none_represented threshold = record { average = refl; begun = refl }

module _ (threshold : ℕ) (ds : List Departure) (d : Departure) where
  begun_at-new : begun_at (ds ++ d ∷ []) (length ds) ≡ record { start = d.moment; count = 0 }
  begun_at-new = grind (arith, nat_tests, drop_all, length_push, departure_at-push_new)

  begun_at-push : (i : ℕ) → i < length ds → begun_at (ds ++ d ∷ []) i
      ≡ record { start = (departure_at ds i).moment; count = bytes_after ds i + d.size }
  begun_at-push i h = rw (departure_at-push_old threshold ds d i h, bytes_after-push threshold ds d i h) refl

  -- the cycle that is open afterwards, if the departure may open one
  begun-opened : begun threshold (ds ++ d ∷ []) ≡ opens threshold ds d
      → opened_by threshold d ≡ option_map (begun_at (ds ++ d ∷ [])) (begun threshold (ds ++ d ∷ []))
  begun-opened e = let new = begun_at-new in rw e (grind (arith, nat_tests))

  sample-new : (i : ℕ) → i < length ds → sample_of (ds ++ d ∷ []) (record { opened = i; closed = length ds })
      ≡ max 1 (d.moment - (departure_at ds i).moment)
  sample-new i w = rw (departure_at-push_new threshold ds d, departure_at-push_old threshold ds d i w) refl

  -- the step of an estimate represents the list with the departure
  pub represents_after : (e : Estimate) → threshold ≤ 65536 → Represents threshold ds e → Represents threshold (ds ++ d ∷ []) (after_departure threshold e d)
  unfolding average samples
  represents_after e t s =
      by (begun threshold ds) (begun-within threshold ds d) s.begun (begun-push threshold ds d) (samples-push threshold ds d)
    where
      -- an open cycle counts the departure without closing, or the departure closes it
      counting : (i : ℕ) (less : Bool) → i < length ds → begun threshold (ds ++ d ∷ []) ≡ (if less then Some i else opens threshold ds d)
          → samples threshold (ds ++ d ∷ []) ≡ samples threshold ds
          ++ map (sample_of (ds ++ d ∷ [])) (if less then [] else (record { opened = i; closed = length ds } ∷ []))
          → Represents threshold (ds ++ d ∷ []) (if less
          then record { average = e.average; begun = Some (record { start = (departure_at ds i).moment; count = bytes_after ds i + d.size }) }
          else record { average = with_sample threshold e.average (max 1 (d.moment - (departure_at ds i).moment)); begun = opened_by threshold d })
      counting i true w begun sampled = record {
        average = s.average ∙ ap (average_of threshold) (sym (sampled ∙ append-nil (samples threshold ds)));
        begun = rw begun (ap Some (sym (begun_at-push i w)));
      }
      counting i false w begun sampled = record {
        average = rw (s.average, ← sample-new i w) (sym (ap (average_of threshold) sampled
            ∙ average_of-push threshold ds t (cycles threshold ds) (sample_of (ds ++ d ∷ []) (record { opened = i; closed = length ds }))));
        begun = begun-opened begun;
      }

      by : (o : Option ℕ) → IfSome o (λ i. i < length ds) → e.begun ≡ option_map (begun_at ds) o
          → begun threshold (ds ++ d ∷ []) ≡ begins threshold ds d o
          → samples threshold (ds ++ d ∷ []) ≡ samples threshold ds ++ map (sample_of (ds ++ d ∷ [])) (added threshold ds d o)
          → Represents threshold (ds ++ d ∷ []) (step_from threshold e.average d e.begun)
      by None w is begun sampled = rw is (record {
        average = s.average ∙ ap (average_of threshold) (sym (sampled ∙ append-nil (samples threshold ds)));
        begun = begun-opened begun;
      })
      by (Some i) w is begun sampled = rw is (counting i (nat_lt (bytes_after ds i + d.size) threshold) w begun sampled)

-- the average stays in its range
with_sample-within : (threshold average sample : ℕ) → threshold ≤ 65536 → average < 2 ^ 60 → sample < 2 ^ 60 → with_sample threshold average sample < 2 ^ 60
with_sample-within threshold average sample t a s =
    let mixed : averaged threshold average sample < 2 ^ 60 = grind arith in grind (arith, nat_tests)

module _ (threshold : ℕ) (d : Departure) (t : threshold ≤ 65536) (m : d.moment < 2 ^ 60) where
  -- the ranges of an open cycle, as a fact about an `Option`
  abbrev Holds : Option Begun → Type 0
  Holds o = IfSome o (λ cycle. (cycle.start < 2 ^ 60) × (cycle.count < 65536))

  to_some : (o : Option Begun) → Holds o → ForSome o (λ cycle. (cycle.start < 2 ^ 60) × (cycle.count < 65536))
  to_some o h = grind (arith, nat_tests)

  within-from : (before : ℕ) (o : Option Begun) → before < 2 ^ 60 → ForSome o (λ cycle. (cycle.start < 2 ^ 60) × (cycle.count < 65536))
      → ((step_from threshold before d o).average < 2 ^ 60) × Holds (step_from threshold before d o).begun
  within-from before o w h = grind (arith, nat_tests, with_sample-within)

  pub within_after : (e : Estimate) → IsWithin e → IsWithin (after_departure threshold e d)
  within_after e w = let h = within-from e.average e.begun w.0 w.1 in (h.0, to_some _ h.1)
