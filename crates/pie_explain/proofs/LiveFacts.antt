-- Facts about an interval that is summed up event by event, with one more event.
use Rattle.pie_explain.proofs.SummaryNames.{◌≡◌, ◌≤◌, ◌<◌, ◌+◌, ◌*◌, ◌-◌, ◌/◌, ◌==◌, arith, ℕ, Bool, true, false, cond, not, List, [], ◌∷◌, ◌++◌, refl, sym, ap, ◌∙◌, min, max, count_by, Option, Some, None, if◌then◌else◌, eq-eqb, ne_eqb, sum_by_push, Place, places, time_of, Explained, LiveInterval, Meter, kept, Holds, clock_of, length_of, number_in, last_events, last_interval, interval_at, since, starts_interval, ranges_of, record_of, summary_text_of, meter_of, reached, sums_of, waits_of, cons_option, timed_by}
use Rattle.std.proofs.lemmas.Nat.{div-mul-add}
use Rattle.pie_explain.specs.{LiveInterval.Awaits, LiveInterval.IsSet, LiveInterval.Spans, LiveInterval.is_first, LiveInterval.intervals_begun, Interval.at_last, Sums.meter_in, SummaryRecord.wait_99}
use Rattle.std.specs.Prelude.{is_some}
use Rattle.std.proofs.Common.{true≢false}
use Rattle.pie_explain.proofs.CountFacts.{kept-more}
use Rattle.pie_explain.proofs.IntervalFacts.{last_events-push, last_interval-push, since_begun, some-events, under_way}
use Rattle.pie_explain.proofs.SumsFacts.{input-moment, times_kept, place_of, places-push, reached_later, reached_none}

-- ---- intervals

-- the number of intervals, with one more event
pub begun-push : (every : Option ℕ) (shown : List Explained) (one : Explained)
    → intervals_begun every (shown ++ one ∷ [])
    ≡ min (intervals_begun every shown + cond (starts_interval (last_interval every shown) (interval_at every one)) 1 0) 18446744073709551615
begun-push every shown one =
    ap (λ ps. kept (count_by (is_first every) ps)) (places-push shown one)
    ∙ ap kept (sum_by_push (λ (place : Place Explained). cond (is_first every place) 1 0) (places shown) (place_of shown one))
    ∙ sym (kept-more (count_by (is_first every) (places shown)) (cond (is_first every (place_of shown one)) 1 0) 18446744073709551615)

-- a moment from an interval's start on, for less than its length
pub within-interval : (number every start end moment : ℕ) → 1 ≤ every → start ≡ number * every
    → end ≡ min (start + every) 18446744073709551615 → start ≤ moment → moment < end → moment / every ≡ number
within-interval number every start end moment some start-is end-is from to =
    let whole : moment ≡ number * every + (moment - start) = omega (arith, start-is, from) in
    let few : moment - start < every = omega (arith, end-is, from, to) in
    ap (λ (m : ℕ). m / every) whole ∙ div-mul-add number every (moment - start) few

-- the bounds of an interval that has begun
pub spans-begun : (begun number every start end : ℕ) → (begun ≡ 0 → ⊥) → start ≡ number * max every 1
    → end ≡ min (start + max every 1) 18446744073709551615 → Spans begun number every start end
spans-begun begun number every start end some start-is end-is = record {
  starts = start-is ∙ sym (ap (λ (b : Bool). if b then 0 else number * max every 1) (ne_eqb begun 0 some));
  ends = end-is ∙ sym (ap (λ (b : Bool). if b then 0 else min (start + max every 1) 18446744073709551615) (ne_eqb begun 0 some));
}

-- a moment from an interval's start on and before its end is in the interval
pub in-interval : (begun number every start end moment : ℕ) → Spans begun number every start end → start ≤ moment → moment < end
    → (begun ≡ 0 → ⊥) × (moment / max every 1 ≡ number)
in-interval begun number every start end moment spans from to = by (begun == 0) refl
  where
    by : (b : Bool) → (begun == 0) ≡ b → (begun ≡ 0 → ⊥) × (moment / max every 1 ≡ number)
    by true none =
        let never : end ≡ 0 = spans.ends ∙ ap (λ (b : Bool). if b then 0 else min (start + max every 1) 18446744073709551615) none in
        absurd (omega (arith, never, to))
    by false some = (
      λ none. absurd (true≢false (sym (eq-eqb begun 0 none) ∙ some)),
      within-interval number (max every 1) start end moment (omega arith)
          (spans.starts ∙ ap (λ (b : Bool). if b then 0 else number * max every 1) some)
          (spans.ends ∙ ap (λ (b : Bool). if b then 0 else min (start + max every 1) 18446744073709551615) some) from to,
    )

-- ---- an interval

-- a number that is known, and a moment in its interval
known-number : (begun number : ℕ) → (begun ≡ 0 → ⊥) → (if begun == 0 then None else Some number) ≡ Some number
known-number begun number some = rw (ne_eqb begun 0 some) refl

pub not-started : (interval : LiveInterval) (p : ℕ) → (interval.begun ≡ 0 → ⊥) → p ≡ interval.number → starts_interval (number_in interval) p ≡ false
not-started interval p some is =
    ap (λ (n : Option ℕ). starts_interval n p) (known-number interval.begun interval.number some)
    ∙ ap not (eq-eqb interval.number p (sym is))

-- an event in the interval under way
pub awaits-same : (interval : LiveInterval) (shown : List Explained) (one : Explained) → Holds interval shown
    → starts_interval (number_in interval) (interval_at (length_of interval) one) ≡ false
    → Awaits interval shown one
awaits-same interval shown one holds same =
    let every : Option ℕ = length_of interval in
    let p : ℕ = interval_at every one in
    let last : last_interval every shown ≡ Some p = sym holds.number ∙ under_way (number_in interval) p same in
    let goes_on : last_events every shown ≡ since every (Some p) shown = ap (λ (number : Option ℕ). since every number shown) last in
    let none_more : starts_interval (last_interval every shown) p ≡ false = ap (λ (b : Option ℕ). starts_interval b p) (sym holds.number) ∙ same in
    record {
      number = holds.number ∙ last ∙ sym (last_interval-push every shown one);
      begun = holds.begun ∙ small (count_by (is_first every) (places shown))
          ∙ ap (λ (b : Bool). min (intervals_begun every shown + cond b 1 0) 18446744073709551615) (sym none_more) ∙ sym (begun-push every shown one);
      meter = holds.meter ∙ reached_later (last_events every shown) one (some-events every p shown last)
          ∙ ap (λ (before : List Explained). reached before one) goes_on;
      waits = holds.waits ∙ ap waits_of goes_on;
      spans = holds.spans;
    }
  where
    small : (n : ℕ) → kept n ≡ min (kept n + 0) 18446744073709551615
    small n = omega arith

-- an event that begins another interval: the interval's number and bounds, the count of intervals, and the numbers
-- before the event
pub awaits-new : (old : LiveInterval) (shown : List Explained) (one : Explained) (number start end begun : ℕ) (meter : Meter) (waits : List ℕ)
    → Holds old shown → number ≡ interval_at (length_of old) one → starts_interval (number_in old) number ≡ true
    → begun ≡ kept (old.begun + 1) → meter ≡ record (meter_of [] []) { first = one.explanation.moment; since = one.explanation.moment } → waits ≡ ranges_of []
    → Spans begun number old.every start end
    → Awaits (record old { number = number; start = start; end = end; begun = begun; meter = meter; waits = waits }) shown one
unfolding waits_of
awaits-new old shown one number start end begun meter waits holds number-is started begun-is empty cleared spans =
    let every : Option ℕ = length_of old in
    let starts-here : starts_interval (number_in old) (interval_at every one) ≡ true = ap (starts_interval (number_in old)) (sym number-is) ∙ started in
    let none : [] ≡ since every (Some (interval_at every one)) shown = sym (since_begun every (interval_at every one) shown (number_in old) holds.number
    starts-here) in
    record {
      number = known-number begun number (λ e. omega (arith, e, begun-is)) ∙ ap Some number-is ∙ sym (last_interval-push every shown one);
      begun = begun-is ∙ ap (λ (n : ℕ). kept (n + 1)) holds.begun
          ∙ ap (λ (b : Bool). min (intervals_begun every shown + cond b 1 0) 18446744073709551615)
          (sym (ap (λ (b : Option ℕ). starts_interval b (interval_at every one)) (sym holds.number) ∙ starts-here))
          ∙ sym (begun-push every shown one);
      meter = empty ∙ reached_none [] one one.explanation.moment (input-moment one) refl ∙ ap (λ (before : List Explained). reached before one) none;
      waits = cleared ∙ ap waits_of none;
      spans = spans;
    }

-- a wall-clock time that is not known
pub unknown_words : (interval : LiveInterval) (moment : ℕ) → (interval.told ≡ 1 → ⊥) → time_of (clock_of interval) moment ≡ None
unknown_words interval moment none = rw (ne_eqb interval.told 1 none) refl

-- a recorded time is the first one; if no time is known, none is recorded
pub clock_kept : (interval : LiveInterval) (times : List ℕ) (moment : ℕ) → interval.told ≡ interval.meter.timed → interval.meter ≡ timed_by interval.meter times
    → interval ≡ record interval { meter = timed_by interval.meter (times ++ cons_option (time_of (clock_of interval) moment) []) }
clock_kept interval times moment same is = λ i. record interval {
  meter = times_kept interval.meter times (time_of (clock_of interval) moment) is
      (λ none. unknown_words interval moment (λ known. omega (arith, known, none, same))) i;
}

pub clock-same : {before after : LiveInterval} → IsSet before after → clock_of before ≡ clock_of after
clock-same set = λ i. if sym set.told i == 1 then Some (record { moment = sym set.clock_moment i; unix = sym set.clock_unix i }) else None

-- an event that is counted in an interval that awaits it
pub holds-taken : (interval : LiveInterval) (shown : List Explained) (one : Explained) (meter : Meter) (waits : List ℕ)
    → Awaits interval shown one
    → meter ≡ meter_in (since (length_of interval) (Some (interval_at (length_of interval) one)) shown ++ one ∷ [])
    → waits ≡ waits_of (since (length_of interval) (Some (interval_at (length_of interval) one)) shown ++ one ∷ [])
    → Holds (record interval { meter = meter; waits = waits }) (shown ++ one ∷ [])
holds-taken interval shown one meter waits awaits meter-is waits-is = record {
  number = awaits.number;
  begun = awaits.begun;
  meter = meter-is ∙ ap meter_in (sym (last_events-push (length_of interval) shown one));
  waits = waits-is ∙ ap waits_of (sym (last_events-push (length_of interval) shown one));
  spans = awaits.spans;
}

pub text_live : (by_wall : Bool) (all : List Explained) (meter : Meter) (waits : List ℕ) (most : ℕ) → meter ≡ meter_in all → waits ≡ waits_of all
    → most ≡ wait_99 waits meter → record_of by_wall meter most ≡ summary_text_of by_wall all
unfolding sums_of
text_live by_wall all meter waits most is waits-are most-is = λ i. record_of by_wall (is i) ((most-is ∙ (λ j. wait_99 (waits-are j) (is j))) i)
