-- The last events of a list with one more.
use Rattle.pie_explain.proofs.SummaryNames.{◌≡◌, ◌==◌, ℕ, Bool, true, false, not, List, [], ◌∷◌, ◌++◌, map, refl, subst, sym, ap, ◌∙◌, Option, Some, None, eq-eqb, Err, Ok, OnOk, Result, eqb-true, map_push, last_or, last_or-push, Explained, last_events, last_interval, interval_at, since, starts_interval, append-nil}
use Rattle.std.proofs.Common.{◌⊎◌, inl, inr, arith, length, true≢false}
use Rattle.std.specs.Prelude.{◌&&◌}
use Rattle.std.proofs.lemmas.List.{length_push}
use Rattle.pie_early.proofs.Laws.{after_last-push_no, after_last-push_yes}
use Rattle.pie_explain.specs.{Report.Extends, Report.Grows, Interval.Keeps, Interval.ends_interval, Interval.is_elsewhere, Summary.IsAbout, Summary.is_lost_or_marked}

-- a list is empty, or has a last element
abbrev Ends : {X : Type 0} → List X → Type 0
Ends {X} xs = (xs ≡ []) ⊎ ((front : List X) × (last : X) × (xs ≡ front ++ last ∷ []))

ends-of : {X : Type 0} (xs : List X) → Ends xs
ends-of [] = inl refl
ends-of (x ∷ xs) = longer x xs (ends-of xs)
  where
    longer : {X : Type 0} (x : X) (xs : List X) → Ends xs → Ends (x ∷ xs)
    longer x xs (inl none) = inr ([], x, ap (λ ys. x ∷ ys) none)
    longer x xs (inr (front, last, is)) = inr (x ∷ front, last, ap (λ ys. x ∷ ys) is)

-- the interval of the last event
pub last_interval-push : (every : Option ℕ) (shown : List Explained) (one : Explained)
    → last_interval every (shown ++ one ∷ []) ≡ Some (interval_at every one)
last_interval-push every shown one =
    ap (λ ps. last_or None ps) (map_push (λ e. Some (interval_at every e)) shown one)
    ∙ last_or-push None (map (λ e. Some (interval_at every e)) shown) (Some (interval_at every one))

-- an event is in its own interval
in_its_own : (every : Option ℕ) (one : Explained) → is_elsewhere every (interval_at every one) one ≡ false
in_its_own every one = ap not (eq-eqb (interval_at every one) (interval_at every one) refl)

-- the last events, with one more
pub last_events-push : (every : Option ℕ) (shown : List Explained) (one : Explained)
    → last_events every (shown ++ one ∷ []) ≡ since every (Some (interval_at every one)) shown ++ one ∷ []
last_events-push every shown one =
    ap (λ p. since every p (shown ++ one ∷ [])) (last_interval-push every shown one)
    ∙ after_last-push_no (is_elsewhere every (interval_at every one)) shown one (in_its_own every one)

-- an event that does not begin an interval is in the one under way
pub under_way : (number : Option ℕ) (interval : ℕ) → starts_interval number interval ≡ false → number ≡ Some interval
under_way None interval same = cc
under_way (Some before) interval same = ap Some (eqb-true before interval (twice (before == interval) same))
  where
    twice : (b : Bool) → not b ≡ false → b ≡ true
    twice true e = refl
    twice false e = sym e

pub not_begun : (number : Option ℕ) (interval : ℕ) → starts_interval number interval ≡ false → ends_interval number interval ≡ false
not_begun None interval same = cc
not_begun (Some before) interval same = same

-- within the interval under way, the last events are those of the interval
pub since_same : (every : Option ℕ) (interval : ℕ) (shown : List Explained) (before : Option ℕ) → before ≡ last_interval every shown
    → starts_interval before interval ≡ false → since every (Some interval) shown ≡ last_events every shown
since_same every interval shown before is same = ap (λ p. since every p shown) (sym (under_way before interval same) ∙ is)

-- a new interval has no events before its first
pub since_begun : (every : Option ℕ) (interval : ℕ) (shown : List Explained) (before : Option ℕ) → before ≡ last_interval every shown
    → starts_interval before interval ≡ true → since every (Some interval) shown ≡ []
since_begun every interval shown before is begun = by_end (ends-of shown)
  where
    by_end : Ends shown → since every (Some interval) shown ≡ []
    by_end (inl none) = rw none refl
    by_end (inr (front, last, whole)) =
        let known : before ≡ Some (interval_at every last) = is ∙ ap (last_interval every) whole ∙ last_interval-push every front last in
        ap (λ all. since every (Some interval) all) whole
        ∙ after_last-push_yes (is_elsewhere every interval) front last (ap (λ b. starts_interval b interval) (sym known) ∙ begun)

-- the state of an interval with one more event
pub keeps-push : (of : List Explained → Type 0) (every number : Option ℕ) (shown : List Explained) (one : Explained)
    → number ≡ Some (interval_at every one) → of (since every (Some (interval_at every one)) shown ++ one ∷ [])
    → Keeps of every number (shown ++ one ∷ [])
keeps-push of every number shown one is taken = record {
  last = is ∙ sym (last_interval-push every shown one);
  kept = subst of (sym (last_events-push every shown one)) taken;
}

-- if the last event has an interval, there are last events
pub some-events : (every : Option ℕ) (interval : ℕ) (shown : List Explained) → last_interval every shown ≡ Some interval → last_events every shown ≡ [] → ⊥
unfolding last_or
some-events every interval shown is empty = by_end (ends-of shown)
  where
    by_end : Ends shown → ⊥
    by_end (inl none) = let never : None ≡ Some interval = sym (ap (last_interval every) none) ∙ is in cc
    by_end (inr (front, last, whole)) =
        let nothing = ap length (sym (last_events-push every front last) ∙ ap (last_events every) (sym whole) ∙ empty) in
        omega (arith, nothing, length_push (since every (Some (interval_at every last)) front) last)

-- ---- a text about an event

-- nothing is said about this event
pub none_about : (packets : Bool) (one : Explained) (page : List ℕ) → (packets && is_lost_or_marked one) ≡ false
    → Grows (IsAbout packets one) [] page page
none_about packets one page none = record { more = []; grown = sym (append-nil page); says = λ _. refl }

pub some_about : {A E : Type 0} (packets : Bool) (one : Explained) (result : Result A E) (page now : List ℕ)
    → (packets && is_lost_or_marked one) ≡ true → OnOk result (Extends page now) → OnOk result (Grows (IsAbout packets one) [] page now)
some_about packets one (Ok value) page now some extends =
    record { more = extends.more; grown = extends.grown; says = λ none. absurd (true≢false (sym some ∙ none)) }
some_about packets one (Err why) page now some extends = tt
