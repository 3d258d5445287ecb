-- The numbers of a list of events with one more.
use Rattle.pie_explain.proofs.SummaryNames.{◌≡◌, ◌+◌, arith, ℕ, suc, List, [], ◌∷◌, ◌++◌, length, map, refl, sym, ap, ◌∙◌, min, Option, None, cons_option, filter_map, sum, map_push, filter_map-append, sum_by_push, Explained, last_or, Meter, kept, ranges_of, time_at, meter_of, reached, timed_by, wait_in, waits_of, Answer, Done, Left, MeterInput, Some, Updated, answer_of, cause_of, meter_input_by, size_in}
use Rattle.pie_event.specs.declared.{cause.CauseName.CauseName, command.Verdict.Verdict, command.Verdict.TheVariants.Enqueued}
use Rattle.pie_explain.specs.declared.meter_input.Conditions.{Conditions}
use Rattle.pie_explain.specs.Sums.{HasConditions, answer_place, awaiting, meter_in, conditions_of_event, meter_input_of}
use Rattle.std.proofs.lemmas.List.{length_push}
pub use Rattle.pie_explain.proofs.SummaryNames.{last_or-push, place_of, places-push}
use Rattle.pie_explain.proofs.CountFacts.{kept-more}
use Rattle.pie_explain.proofs.SpanFacts.{some-of-push}

pub sum-push : {X : Type 0} (number : X → ℕ) (shown : List X) (one : X) {read old now : ℕ}
    → now ≡ min (old + read) 18446744073709551615 → read ≡ number one → old ≡ kept (sum (map number shown))
    → now ≡ kept (sum (map number (shown ++ one ∷ [])))
sum-push number shown one {read} is read-is old-is =
    let grown : sum (map number (shown ++ one ∷ [])) ≡ sum (map number shown) + number one =
    ap sum (map_push number shown one) ∙ sum_by_push (λ (n : ℕ). n) (map number shown) (number one) in
    is ∙ ap (λ n. min (n + read) 18446744073709551615) old-is ∙ ap (λ n. min (kept (sum (map number shown)) + n) 18446744073709551615) read-is
    ∙ kept-more (sum (map number shown)) (number one) 18446744073709551615 ∙ ap kept (sym grown)

pub last-push : {X : Type 0} (number : X → ℕ) (shown : List X) (one : X) → number one ≡ last_or 0 (map number (shown ++ one ∷ []))
last-push number shown one = sym (ap (last_or 0) (map_push number shown one) ∙ last_or-push 0 (map number shown) (number one))

-- the count with one more
pub count-more : {X : Type 0} (shown : List X) (one : X) {old now : ℕ} → now ≡ min (old + 1) 18446744073709551615 → old ≡ kept (length shown)
    → now ≡ kept (length (shown ++ one ∷ []))
count-more shown one is old-is = let longer = length_push shown one in omega (arith, is, old-is, longer)

-- the waits with one more
pub waits-push : (shown : List Explained) (one : Explained) {read : Option ℕ} {old now : List ℕ}
    → ((numbers : List ℕ) → old ≡ ranges_of numbers → now ≡ ranges_of (numbers ++ cons_option read [])) → read ≡ wait_in one
    → old ≡ waits_of shown → now ≡ waits_of (shown ++ one ∷ [])
unfolding waits_of
waits-push shown one step is old-is = some-of-push ranges_of wait_in shown one step is old-is

-- ---- a meter that awaits an event

-- the meter's input for an event has the event's moment
pub input-moment : (one : Explained) → (meter_input_of one).moment ≡ one.explanation.moment
unfolding meter_input_by
input-moment one = by one.explanation.event.answer
  where
    by : (answer : Answer) → (meter_input_by (conditions_of_event one) answer (cause_of one) (size_in one) one.explanation.waited).moment ≡ one.explanation.moment
    by (Left packet) = refl
    by (Updated delay prob burst) = refl
    by _ = refl

-- if there are events before it, the first moment is known
pub reached_later : (shown : List Explained) (one : Explained) → (shown ≡ [] → ⊥) → meter_in shown ≡ reached shown one
unfolding meter_of
reached_later [] one some = absurd (some refl)
reached_later (first ∷ rest) one some = refl

pub reached_more : (shown : List Explained) (one : Explained) → (kept (length shown) ≡ 0 → ⊥) → meter_in shown ≡ reached shown one
reached_more shown one some = reached_later shown one (λ none. some (ap (λ (all : List Explained). kept (length all)) none))

pub reached_none : (shown : List Explained) (one : Explained) (moment : ℕ) → (meter_input_of one).moment ≡ moment → kept (length shown) ≡ 0
    → record (meter_of [] []) { first = moment; since = moment } ≡ reached shown one
unfolding last_or
reached_none [] one moment at none = λ i. record (meter_of [] []) { first = sym at i; since = sym at i }
reached_none (first ∷ rest) one moment at none = absurd (omega (arith, none))

-- a meter before one more event has the times of the events before
pub input-times : (shown : List Explained) (one : Explained) {meter : Meter} → meter ≡ reached shown one
    → meter ≡ timed_by meter (filter_map time_at shown)
unfolding meter_of
input-times shown one is = is ∙ ap (λ (m : Meter). timed_by m (filter_map time_at shown)) (sym is)

-- the first of these times stays, if there is one or no further time is known
pub times_kept : (meter : Meter) (times : List ℕ) (read : Option ℕ) → meter ≡ timed_by meter times → (meter.timed ≡ 0 → read ≡ None)
    → meter ≡ timed_by meter (times ++ cons_option read [])
times_kept meter [] read is none =
    is ∙ ap (λ (r : Option ℕ). timed_by meter (cons_option r [])) (sym (none (ap (λ (m : Meter). m.timed) is)))
times_kept meter (time ∷ times) read is none =
    is ∙ (λ i. record meter { timed = some (length times) (length (times ++ cons_option read [])) i; time = time })
  where
    some : (n m : ℕ) → min (suc n) 1 ≡ min (suc m) 1
    some n m = omega arith

-- the first time that is known is recorded
pub time_noted : (meter : Meter) (times : List ℕ) (time : ℕ) → meter ≡ timed_by meter times → meter.timed ≡ 0
    → record meter { timed = 1; time = time } ≡ timed_by meter (times ++ time ∷ [])
time_noted meter [] time is none = refl
time_noted meter (first ∷ times) time is none =
    let some : meter.timed ≡ min (suc (length times)) 1 = ap (λ (m : Meter). m.timed) is in absurd (omega (arith, some, none))

-- a meter after one more event has the numbers of all events
pub taken : (shown : List Explained) (one : Explained) {event_words : MeterInput} {time : Option ℕ} {old timed now : Meter} → event_words ≡ meter_input_of one
    → time ≡ time_at one → ((times : List ℕ) → old ≡ timed_by old times → timed ≡ timed_by old (times ++ cons_option time []))
    → ((before : List MeterInput) (times : List ℕ) → timed ≡ awaiting before event_words times → now ≡ meter_of (before ++ event_words ∷ []) times)
    → old ≡ reached shown one → now ≡ meter_in (shown ++ one ∷ [])
unfolding meter_of
taken shown one is time-is notes takes reached-is =
    let before = map meter_input_of shown in
    let times = filter_map time_at (shown ++ one ∷ []) in
    takes before times (notes (filter_map time_at shown) (input-times shown one reached-is)
    ∙ (λ i. timed_by (reached-is i) (filter_map time_at shown ++ cons_option (time-is i) []))
    ∙ (λ i. awaiting before (sym is i) (sym (filter_map-append time_at shown (one ∷ [])) i)))
    ∙ (λ i. meter_of (before ++ is i ∷ []) times) ∙ ap (λ all. meter_of all times) (sym (map_push meter_input_of shown one))

-- ---- The meter's input for an event, by its numbers and its answer
