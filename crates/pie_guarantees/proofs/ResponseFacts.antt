-- The decrease of the probability without delay, from any state, and the effect of a lasting delay on it and on the burst allowance.
use Rattle.pie_guarantees.proofs.LawfulFacts.{◌≡◌, ◌≤◌, ◌<◌, ◌+◌, ◌*◌, ◌-◌, ◌/◌, ◌^◌, ℕ, zero, suc, List, [], ◌∷◌, ◌++◌, true, false, refl, sym, ap, ◌∙◌, arith, subst, min, max, nat_tests, clamps, ints, BetweenAny, AllAlong, IsLawful, Elements, RawParams, decayed, decays, next, tuned_step, raw_step, tuning_divisor, next-hold, in-range, effect, is_update, after_call, call_of, ControllerState, Waiting, Command, Update, Answer, Event, Opening, bytes_of, active_after, state_after, params_after, waiting_after, updates_in, KeepsParams, untuned_fall, Bool, nat_lt, if◌then◌else◌, append_assoc, Empty, after_updates, usual, default_profile, effect_of, is_reset, bytes_after, burst_left, untuned_rise, updates_to_a_tenth, probability_after, is_considered, ◌&&◌, IsStep, along_updates, counted_with, sound_at}
use Rattle.pie_guarantees.specs.{FindsNoDelay, HasRecovered, IsLasting, had_room, was_considered}
use Rattle.pie_params.specs.declared.elements.Decay.{Decay}
use Rattle.pie_aqm.specs.Steps as Steps
use Rattle.pie_guarantees.proofs.ProbabilityFacts.{div-mono, divisor-some, fallen-step, next_above, low_none, lows, low_rise, low_tenth, more-times, one-rise}

-- ---- one update

decays-at-none : (choice : Decay) (params : RawParams) → 0 < params.target → decays choice params 0 0 ≡ true
decays-at-none choice params some = grind (arith, nat_tests)

fades-to : (elements : Elements) (params : RawParams) (prob : ℕ) → 0 < params.target
    → next elements params prob 0 0 ≤ (prob - untuned_fall params 0 / tuning_divisor prob) * 98 / 100
unfolding next decayed
fades-to elements params prob some = grind (arith, nat_tests, fallen-step, decays-at-none, ints, clamps)

-- the greatest probability after an update without delay, from one of at most `prob` and `most`, with this divisor
in-row : ℕ → ℕ → ℕ → ℕ → ℕ
in-row fall most divisor prob = (min prob most - fall / divisor) * 98 / 100

-- the decrease in any row of the table of auto-tuning
under : ℕ → ℕ → ℕ
under fall prob =
    max (in-row fall 999_999 2048 prob) (max (in-row fall 9_999_999 512 prob) (max (in-row fall 99_999_999 128 prob)
    (max (in-row fall 999_999_999 32 prob) (max (in-row fall 9_999_999_999 8 prob) (max (in-row fall 99_999_999_999 2 prob)
    (in-row fall 1_000_000_000_000 1 prob))))))

row-grows : (fall most divisor low high : ℕ) → low ≤ high → in-row fall most divisor low ≤ in-row fall most divisor high
unfolding in-row
row-grows fall most divisor low high le = grind (arith, nat_tests, div-mono)

greater : (a b c d : ℕ) → a ≤ c → b ≤ d → max a b ≤ max c d
greater a b c d first second = omega (arith, first, second)

under-grows : (fall low high : ℕ) → low ≤ high → under fall low ≤ under fall high
unfolding under
under-grows fall low high le = grind (arith, nat_tests, greater, row-grows)

row-is : (fall most divisor prob : ℕ) → prob ≤ most → in-row fall most divisor prob ≡ (prob - fall / divisor) * 98 / 100
unfolding in-row
row-is fall most divisor prob low = let is : min prob most ≡ prob = omega (arith, low) in ap (λ (p : ℕ). (p - fall / divisor) * 98 / 100) is

row-falls : (fall most divisor prob : ℕ) → in-row fall most divisor prob ≤ prob
unfolding in-row
row-falls fall most divisor prob = omega arith

under-falls : (fall prob : ℕ) → under fall prob ≤ prob
unfolding under
under-falls fall prob = omega (arith, row-falls)

rows-under : (fall prob : ℕ) → (in-row fall 999_999 2048 prob ≤ under fall prob) × (in-row fall 9_999_999 512 prob ≤ under fall prob)
    × (in-row fall 99_999_999 128 prob ≤ under fall prob) × (in-row fall 999_999_999 32 prob ≤ under fall prob)
    × (in-row fall 9_999_999_999 8 prob ≤ under fall prob) × (in-row fall 99_999_999_999 2 prob ≤ under fall prob)
    × (in-row fall 1_000_000_000_000 1 prob ≤ under fall prob)
unfolding under
rows-under fall prob = (omega arith, omega arith, omega arith, omega arith, omega arith, omega arith, omega arith)

choose : (b : Bool) (P : ℕ → Type 0) (x y : ℕ) → (b ≡ true → P x) → (b ≡ false → P y) → P (if b then x else y)
choose true P x y t f = t refl
choose false P x y t f = f refl

below : (a b : ℕ) → nat_lt a (suc b) ≡ true → a ≤ b
below a b e = grind (arith, nat_tests)

in-its-row : (fall prob : ℕ) → prob ≤ 10 ^ 12 → (prob - fall / tuning_divisor prob) * 98 / 100 ≤ under fall prob
unfolding tuning_divisor
in-its-row fall prob within =
    let rows = rows-under fall prob in
    choose (nat_lt prob (10 ^ 6)) Lies 2048 _ (λ t. row 999_999 2048 (below _ 999_999 t) rows.0)
    (λ f. choose (nat_lt prob (10 ^ 7)) Lies 512 _ (λ t. row 9_999_999 512 (below _ 9_999_999 t) rows.1)
    (λ f. choose (nat_lt prob (10 ^ 8)) Lies 128 _ (λ t. row 99_999_999 128 (below _ 99_999_999 t) rows.2)
    (λ f. choose (nat_lt prob (10 ^ 9)) Lies 32 _ (λ t. row 999_999_999 32 (below _ 999_999_999 t) rows.3)
    (λ f. choose (nat_lt prob (10 ^ 10)) Lies 8 _ (λ t. row 9_999_999_999 8 (below _ 9_999_999_999 t) rows.4)
    (λ f. choose (nat_lt prob (10 ^ 11)) Lies 2 1 (λ t. row 99_999_999_999 2 (below _ 99_999_999_999 t) rows.5)
    (λ f. row (10 ^ 12) 1 within rows.6))))))
  where
    Lies : ℕ → Type 0
    Lies divisor = (prob - fall / divisor) * 98 / 100 ≤ under fall prob

    row : (most divisor : ℕ) → prob ≤ most → in-row fall most divisor prob ≤ under fall prob → Lies divisor
    row most divisor low le = subst (λ (x : ℕ). x ≤ under fall prob) (row-is fall most divisor prob low) le

next-under : (elements : Elements) (params : RawParams) (fall prob most : ℕ) → 0 < params.target → fall ≤ untuned_fall params 0 → prob ≤ most
    → prob ≤ 10 ^ 12 → next elements params prob 0 0 ≤ under fall most
next-under elements params fall prob most some far low within =
    let first = fades-to elements params prob some in
    let more = div-mono fall (untuned_fall params 0) (tuning_divisor prob) (divisor-some prob) far in
    let second = div-mono ((prob - untuned_fall params 0 / tuning_divisor prob) * 98) ((prob - fall / tuning_divisor prob) * 98) 100 (omega arith)
    (omega (arith, more)) in
    let third = in-its-row fall prob within in
    let last = under-grows fall prob most low in omega (arith, first, second, third, last)

-- ---- several updates

-- the greatest probability after n updates without delay, the first of which has any old delay, from any
-- probability
bound : ℕ → ℕ → ℕ
bound fall zero = 10 ^ 12
bound fall (suc zero) = 10 ^ 12
bound fall (suc (suc n)) = under fall (bound fall (suc n))

bound-falls : (fall m n : ℕ) → bound fall (suc m + n) ≤ bound fall (suc m)
unfolding bound
bound-falls fall m zero = let none : suc m + zero ≡ suc m = omega arith in rw none (omega arith)
bound-falls fall m (suc n) =
    let one : suc m + suc n ≡ suc (suc (m + n)) = omega arith in
    let other : suc m + n ≡ suc (m + n) = omega arith in
    let rest = rw other at (bound-falls fall m n) in
    let less = under-falls fall (bound fall (suc (m + n))) in rw one (omega (arith, rest, less))

-- ---- the controller's numbers from call to call

-- after n updates without delay
record Falls (fall n : ℕ) (h : ControllerState) : Type 0 where
  prob : h.control.prob ≤ bound fall n
  old : 1 ≤ n → h.active ≡ true → h.control.old_delay ≡ 0
  off : h.active ≡ false → h.control.burst ≡ h.params.max_burst
  none : h.active ≡ false → h.control.prob ≡ 0
  whole : 2 ≤ n → bound fall n ≡ 0 → h.control.burst ≡ h.params.max_burst
  far : fall ≤ untuned_fall h.params 0

falls-update : (fall n : ℕ) (h : ControllerState) (queued moment : ℕ) → 0 < h.params.target → h.control.prob ≤ 10 ^ 12
    → (h.active ≡ true → Steps.delay_in h queued ≡ 0) → Falls fall n h → Falls fall (suc n) (Steps.updated h queued moment)
unfolding bound
falls-update fall n h queued moment some within free old = grind (arith, nat_tests, next-hold, next-under)

falls-next : (fall n : ℕ) (h : ControllerState) (waiting : List Waiting) (packets : ℕ) (command : Command) → 0 < h.params.target → h.control.prob ≤ 10 ^ 12
    → KeepsParams command → (is_update (effect command Empty) ≡ true → h.active ≡ true → Steps.delay_in h (bytes_of waiting) ≡ 0) → Falls fall n h
    → Falls fall (counted_with command n) (after_call h (call_of waiting packets command))
falls-next fall n h waiting packets (Update moment) some within keeps free old =
    let one : suc n ≡ n + 1 = omega arith in
    subst (λ (k : ℕ). Falls fall k (Steps.updated h (bytes_of waiting) moment)) one
    (falls-update fall n h (bytes_of waiting) moment some within (free refl) old)
falls-next fall n h waiting packets command some within keeps free old = record {
  prob = grind (arith, nat_tests);
  old = λ n on. grind (arith, nat_tests);
  off = λ off. grind (arith, nat_tests);
  none = λ off. grind (arith, nat_tests);
  whole = λ n none. grind (arith, nat_tests);
  far = grind (arith, nat_tests);
}

-- the answer has no effect on the classification of a command as an update
pub same-update : (command : Command) (answer : Answer) → is_update (effect command answer) ≡ is_update (effect command Empty)
same-update command answer = grind (arith, nat_tests)

-- ---- along a lawful history

module _ (fall : ℕ) (opening : Opening) (before between : List Event) where
  falls-after : (n : ℕ) (earlier : List Event) (event : Event) → IsStep opening earlier event → FindsNoDelay opening earlier event
      → Falls fall n (state_after opening earlier) → Falls fall (counted_with event.command n) (state_after opening (earlier ++ event ∷ []))
  falls-after n earlier event step here old =
      let h = state_after opening earlier in
      let target = (in-range h.params step.sound.params).target in
      subst (Falls fall (counted_with event.command n)) (sym step.state)
      (falls-next fall n h (waiting_after opening earlier) opening.limits.packets event.command (omega (arith, target.0)) step.sound.prob
      here.keeps (λ asks on. here.delay (same-update event.command event.answer ∙ asks) on) old)

  recovers : (later : List Event) → IsLawful opening (before ++ between ++ later) → (n : ℕ) → bound fall (suc (suc n)) ≡ 0
      → active_after opening before ≡ true → fall ≤ untuned_fall (params_after opening before) 0 → AllAlong (FindsNoDelay opening) before between
      → suc (suc n) ≤ updates_in between → HasRecovered opening (before ++ between)
  unfolding bound
  recovers later lawful n none on far free many =
      let it = sound_at opening before (between ++ later) (rw (append_assoc before between later) at lawful) in
      let falls = along_updates (λ n history. Falls fall n (state_after opening history)) (FindsNoDelay opening) opening falls-after before between
      later lawful free (record {
        prob = it.0.prob;
        old = λ n on. absurd (omega (arith, n));
        off = λ off. let wrong : true ≡ false = sym on ∙ off in cc;
        none = λ off. let wrong : true ≡ false = sym on ∙ off in cc;
        whole = λ n none. absurd (omega (arith, n));
        far = far;
      }) in
      let split : suc (suc n) + (updates_in between - suc (suc n)) ≡ updates_in between = omega (arith, many) in
      let least = bound-falls fall (suc n) (updates_in between - suc (suc n)) in
      let last : bound fall (suc (suc n) + (updates_in between - suc (suc n))) ≡ 0 = omega (arith, least, none) in
      let zero : bound fall (updates_in between) ≡ 0 = rw split at last in
      let prob = falls.prob in
      record { prob = omega (arith, prob, zero); burst = falls.whole (omega (arith, many)) zero }

pub recovers_by_default : BetweenAny (λ opening before between. active_after opening before ≡ true
    → 1_875_000_000 ≤ untuned_fall (params_after opening before) 0 → AllAlong (FindsNoDelay opening) before between → 182 ≤ updates_in between
    → HasRecovered opening (before ++ between))
unfolding BetweenAny bound under in-row
recovers_by_default opening before between later lawful = recovers 1_875_000_000 opening before between later lawful 180 refl

pub recovers_in_any_case : BetweenAny (λ opening before between. active_after opening before ≡ true → AllAlong (FindsNoDelay opening) before between
    → 1204 ≤ updates_in between → HasRecovered opening (before ++ between))
unfolding BetweenAny bound under in-row
recovers_in_any_case opening before between later lawful on = recovers 0 opening before between later lawful 1202 refl on (omega arith)

-- the bounds are reached
pub as_slow : (after_updates 180 usual default_profile 0 (next usual default_profile 986_448_007_965 0 1) ≡ 1)
    × (after_updates 178 usual default_profile 0 1_000_000_000_000 ≡ 0) × (after_updates 177 usual default_profile 0 1_000_000_000_000 ≡ 1_988_772)
    × (after_updates 1202 usual (record default_profile { alpha = 0; beta = 0 }) 0
    (next usual (record default_profile { alpha = 0; beta = 0 }) 1_000_000_000_000 0 1) ≡ 1)
unfolding after_updates next raw_step tuned_step tuning_divisor decayed
as_slow = (refl, refl, refl, refl)

-- ---- a lasting delay

-- after n updates of a lasting delay, from this burst allowance
record Climbs (least burst n : ℕ) (params : RawParams) (h : ControllerState) : Type 0 where
  same : h.params ≡ params
  prob : lows params least n ≤ h.control.prob
  left : h.control.burst ≤ burst - n * params.t_update
  old : 1 ≤ n → least ≤ h.control.old_delay

climbs-update : (least burst n : ℕ) (h : ControllerState) (queued moment : ℕ) → 0 < h.params.target → h.params.target ≤ least → h.active ≡ true
    → least ≤ Steps.delay_in h queued → h.control.old_delay ≤ Steps.delay_in h queued → Climbs least burst n h.params h
    → Climbs least burst (suc n) h.params (Steps.updated h queued moment)
climbs-update least burst n h queued moment some above on high grown old =
    let low = low_rise h.params least n h.control.prob old.prob in
    let one = (one-rise h.elements h.params h.control.prob least some above).0 in
    let more = next_above h.elements h.params h.control.prob least (Steps.delay_in h queued) h.control.old_delay some above high grown in
    let times = more-times n h.params.t_update in
    let was = old.left in
    record { same = refl; prob = grind (arith, nat_tests); left = grind (arith, nat_tests); old = λ n. grind (arith, nat_tests) }

climbs-next : (least burst n : ℕ) (params : RawParams) (h : ControllerState) (waiting : List Waiting) (packets : ℕ) (command : Command) → 0 < h.params.target
    → h.params.target ≤ least → h.active ≡ true → KeepsParams command → is_reset (effect command Empty) ≡ false
    → (is_update (effect command Empty) ≡ true
    → (least ≤ Steps.delay_in h (bytes_of waiting)) × (h.control.old_delay ≤ Steps.delay_in h (bytes_of waiting)))
    → Climbs least burst n params h → Climbs least burst (counted_with command n) params (after_call h (call_of waiting packets command))
climbs-next least burst n params h waiting packets (Update moment) some above on keeps unreset high old =
    let one : suc n ≡ n + 1 = omega arith in
    subst (λ (p : RawParams). Climbs least burst (n + 1) p (Steps.updated h (bytes_of waiting) moment)) old.same
    (subst (λ (k : ℕ). Climbs least burst k h.params (Steps.updated h (bytes_of waiting) moment)) one
    (climbs-update least burst n h (bytes_of waiting) moment some above on (high refl).0 (high refl).1
    (subst (λ (p : RawParams). Climbs least burst n p h) (sym old.same) old)))
climbs-next least burst n params h waiting packets command some above on keeps unreset high old =
    let prob = old.prob in
    let left = old.left in
    let same = old.same in
    let was = old.old in
    record {
      same = grind (arith, nat_tests);
      prob = grind (arith, nat_tests);
      left = grind (arith, nat_tests);
      old = λ n. grind (arith, nat_tests);
    }

same-reset : (command : Command) (answer : Answer) → is_reset (effect command answer) ≡ is_reset (effect command Empty)
same-reset command answer = grind (arith, nat_tests)

-- ---- along a lawful history

module _ (least : ℕ) (opening : Opening) (before between : List Event) where
  abbrev ClimbsTo : ℕ → List Event → Type 0
  ClimbsTo n history = Climbs least (burst_left opening before) n (params_after opening before) (state_after opening history)

  climbs-along : (params_after opening before).target ≤ least → (n : ℕ) (earlier : List Event) (event : Event) → IsStep opening earlier event
      → IsLasting least opening earlier event → ClimbsTo n earlier → ClimbsTo (counted_with event.command n) (earlier ++ event ∷ [])
  climbs-along above n earlier event step here old =
      let h = state_after opening earlier in
      let target = (in-range h.params step.sound.params).target in
      let update = same-update event.command event.answer in
      subst (Climbs least (burst_left opening before) (counted_with event.command n) (params_after opening before)) (sym step.state)
      (climbs-next least (burst_left opening before) n (params_after opening before) h (waiting_after opening earlier) opening.limits.packets
      event.command (omega (arith, target.0)) (subst (λ (p : RawParams). p.target ≤ least) (sym old.same) above) here.active here.keeps
      (sym (same-reset event.command event.answer) ∙ here.unreset) (λ asks. (here.delay (update ∙ asks), here.grows (update ∙ asks))) old)

  climbs-after : (later : List Event) → IsLawful opening (before ++ between ++ later) → (params_after opening before).target ≤ least
      → AllAlong (IsLasting least opening) before between → ClimbsTo (updates_in between) (before ++ between)
  climbs-after later lawful above lasts =
      along_updates ClimbsTo (IsLasting least opening) opening (climbs-along above) before between later lawful lasts (record {
        same = refl;
        prob = let none = low_none (params_after opening before) least in omega (arith, none);
        left = omega arith;
        old = λ n. absurd (omega (arith, n));
      })

pub tenth_reached : (least : ℕ) → BetweenAny (λ opening before between. (params_after opening before).target ≤ least
    → 2048 ≤ untuned_rise (params_after opening before) least → AllAlong (IsLasting least opening) before between
    → updates_to_a_tenth (params_after opening before) least ≤ updates_in between → 10 ^ 11 ≤ probability_after opening (before ++ between))
unfolding BetweenAny
tenth_reached least opening before between later lawful above steep lasts many =
    let climbs = (climbs-after least opening before between later lawful above lasts).prob in
    let tenth = low_tenth (params_after opening before) least steep (updates_in between) many in omega (arith, climbs, tenth)

pub burst_used : (least : ℕ) → BetweenAny (λ opening before between. (params_after opening before).target ≤ least
    → AllAlong (IsLasting least opening) before between
    → burst_left opening before ≤ updates_in between * (params_after opening before).t_update → burst_left opening (before ++ between) ≡ 0)
unfolding BetweenAny
burst_used least opening before between later lawful above lasts many =
    let left = (climbs-after least opening before between later lawful above lasts).left in omega (arith, left, many)

considers : (h : ControllerState) (bytes : ℕ) → h.active ≡ true → h.control.burst ≡ 0 → 0 < h.params.target → h.params.target ≤ h.control.old_delay
    → 2 * h.params.mean_pkt < bytes → (h.active && is_considered h.params h.control bytes) ≡ true
unfolding is_considered
considers h bytes on none some high long = grind (arith, nat_tests)

pub all_considered : (least : ℕ) (opening : Opening) (before : List Event) (between : List Event) (event : Event) (later : List Event)
    → IsLawful opening (before ++ between ++ event ∷ later) → (params_after opening before).target ≤ least
    → AllAlong (IsLasting least opening) before between → 0 < updates_in between
    → burst_left opening before ≤ updates_in between * (params_after opening before).t_update → active_after opening (before ++ between) ≡ true
    → 2 * (params_after opening before).mean_pkt < bytes_after opening (before ++ between) → had_room (effect_of event) ≡ true
    → was_considered opening (before ++ between) event ≡ true
unfolding BetweenAny
all_considered least opening before between event later lawful above lasts some many on long room =
    let h = state_after opening (before ++ between) in
    let climbs = climbs-after least opening before between (event ∷ later) lawful above lasts in
    let sound = (sound_at opening (before ++ between) (event ∷ later) lawful).0 in
    let target = (in-range h.params sound.params).target in
    let old = climbs.old some in
    let none = burst_used least opening before between (event ∷ later) lawful above lasts many in
    let high = subst (λ (p : RawParams). p.target ≤ h.control.old_delay) (sym climbs.same) (omega (arith, above, old)) in
    let bytes = subst (λ (p : RawParams). 2 * p.mean_pkt < bytes_after opening (before ++ between)) (sym climbs.same) long in
    let is = considers h (bytes_after opening (before ++ between)) on none (omega (arith, target.0)) high bytes in
    rw room is
