-- The relation of the next probability to the delay, and its change by updates at one delay.
use Rattle.pie_guarantees.proofs.LawfulFacts.{◌≡◌, ◌≤◌, ◌<◌, ◌+◌, ◌*◌, ◌/◌, ◌^◌, ℕ, true, false, arith, ℤ, pos, ◌-ℤ◌, ◌*ℤ◌, ◌≤ℤ◌, int_div, nat_tests, clamps, ints, le-div, mul-le, div-mul-le_self, Elements, Step, is_capped, decayed, decays, next, raw_step, tuned_step, tuning_divisor, ◌-◌, zero, suc, refl, ap, ◌∙◌, min, lt-mul-div-succ, after_updates, next-hold, least_rise, untuned_fall, untuned_rise, updates_from, updates_to_a_tenth, ◌⊎◌, List, [], ◌∷◌, ◌++◌, Bool, BetweenAny, sym, cond, if◌then◌else◌, subst, le_of_mul-le-mul_right, pow-suc, usual, default_profile, bytes_of, effect, effect_of, is_update, after_call, ControllerState, state_of, Waiting, Command, Answer, Event, Opening, call_of, delay_after, state_after, params_after, waiting_after, is_reset, KeepsParams, updates_in, AllAlong, IsActiveUpdate, IsSteady, old_delay_after, probability_after, AtEachHistory, length, All, fold, All-head, All-tail, div-le_of_le-mul, average_of, averaged, IsBetween, delay_of, append-nil, bytes_after, average_after, samples_after, threshold-holds, average, IsStep, along, counted-cons, sound_at}
use Rattle.pie_params.specs.declared.raw.RawParams.{RawParams}
use Rattle.pie_params.specs.declared.elements.Decay.{Decay}
use Rattle.pie_aqm.specs.Steps as Steps
use Rattle.pie_params.specs.declared.elements.Delay.{Delay}
use Rattle.pie_params.specs.declared.elements.Delay.TheVariants.{Rate}

pub div-mono : (a b d : ℕ) → 0 < d → a ≤ b → a / d ≤ b / d
div-mono a b d some le = le-div (a / d) b d some (omega (arith, div-mul-le_self a d, le))

mul-mono : (g : ℕ) (x y : ℤ) → x ≤ℤ y → (pos g *ℤ x) ≤ℤ (pos g *ℤ y)
mul-mono g x y le = grind (arith, ints, mul-le)

div-mono-int : (x y : ℤ) (d : ℕ) → 0 < d → x ≤ℤ y → int_div x (pos d) ≤ℤ int_div y (pos d)
div-mono-int x y d some le = grind (arith, ints, div-mono)

raw-mono : (params : RawParams) (old old' delay more : ℕ) → delay ≤ more → (pos delay -ℤ pos old) ≤ℤ (pos more -ℤ pos old')
    → raw_step params delay old ≤ℤ raw_step params more old'
unfolding raw_step
raw-mono params old old' delay more le change =
    let a = mul-mono params.alpha (pos delay -ℤ pos params.target) (pos more -ℤ pos params.target) (omega (arith, ints)) in
    omega (arith, ints, a, mul-mono params.beta (pos delay -ℤ pos old) (pos more -ℤ pos old') change)

-- for a delay that stays at the target the step is 0
raw-zero : (params : RawParams) → raw_step params params.target params.target ≡ pos 0
unfolding raw_step
raw-zero params = let none : pos params.target -ℤ pos params.target ≡ pos 0 = omega (arith, ints) in rw none (omega (arith, ints))

pub divisor-some : (prob : ℕ) → 0 < tuning_divisor prob
unfolding tuning_divisor
divisor-some prob = grind (arith, nat_tests)

tuned-mono : (step : Step) (prob : ℕ) (x y : ℤ) → x ≤ℤ y → tuned_step step prob x ≤ℤ tuned_step step prob y
unfolding tuned_step
tuned-mono step prob x y le =
    let quotients = div-mono-int x y (tuning_divisor prob) (divisor-some prob) le in grind (arith, nat_tests, ints, clamps)

-- ---- the next probability

-- a higher delay never gives a lower next probability, if all other numbers are equal
pub next_mono : (elements : Elements) (params : RawParams) (prob old delay more : ℕ) → delay ≤ more
    → next elements params prob delay old ≤ next elements params prob more old
unfolding next decayed
next_mono elements params prob old delay more le =
    let t = tuned-mono elements.step prob (raw_step params delay old) (raw_step params more old)
    (raw-mono params old old delay more le (omega (arith, ints))) in
    grind (arith, nat_tests, ints, clamps)

-- ---- increase and decrease

tuned-zero : (step : Step) (prob : ℕ) → tuned_step step prob (pos 0) ≡ pos 0
unfolding tuned_step
tuned-zero step prob = grind (arith, nat_tests, ints, clamps)

tuned-up : (step : Step) (prob : ℕ) (params : RawParams) (delay old : ℕ) → params.target ≤ delay → old ≤ delay
    → pos 0 ≤ℤ tuned_step step prob (raw_step params delay old)
tuned-up step prob params delay old above risen =
    let raw = raw-mono params params.target old params.target delay above (omega (arith, ints)) in
    rw (raw-zero params, tuned-zero step prob) at
    (tuned-mono step prob (raw_step params params.target params.target) (raw_step params delay old) raw)

tuned-down : (step : Step) (prob : ℕ) (params : RawParams) (delay old : ℕ) → delay ≤ params.target → delay ≤ old
    → tuned_step step prob (raw_step params delay old) ≤ℤ pos 0
tuned-down step prob params delay old below fallen =
    let raw = raw-mono params old params.target delay params.target below (omega (arith, ints)) in
    rw (raw-zero params, tuned-zero step prob) at
    (tuned-mono step prob (raw_step params delay old) (raw_step params params.target params.target) raw)

-- the probability does not decay at the target or above it
pub none_decays : (choice : Decay) (params : RawParams) (delay old : ℕ) → 0 < params.target → params.target ≤ delay
    → decays choice params delay old ≡ false
none_decays choice params delay old some above = grind (arith, nat_tests)

pub next_up : (elements : Elements) (params : RawParams) (prob delay old : ℕ) → prob ≤ 10 ^ 12 → 0 < params.target → params.target ≤ delay
    → old ≤ delay → prob ≤ next elements params prob delay old
unfolding next decayed
next_up elements params prob delay old within some above risen =
    let t = tuned-up elements.step prob params delay old above risen in
    rw (none_decays elements.decay params delay old some above) (grind (arith, ints, clamps))

-- a delay at the target or above it, which is not below another such delay and has not fallen, gives no lower probability than that one, unchanged
pub next_above : (elements : Elements) (params : RawParams) (prob least delay old : ℕ) → 0 < params.target → params.target ≤ least → least ≤ delay
    → old ≤ delay → next elements params prob least least ≤ next elements params prob delay old
unfolding next decayed
next_above elements params prob least delay old some above le risen =
    let t = tuned-mono elements.step prob (raw_step params least least) (raw_step params delay old)
    (raw-mono params least old least delay le (omega (arith, ints))) in
    rw (none_decays elements.decay params least least some above, none_decays elements.decay params delay old some (omega (arith, above, le)))
    (grind (arith, ints, clamps))

pub next_down : (elements : Elements) (params : RawParams) (prob delay old : ℕ) → delay ≤ params.target → delay ≤ old
    → next elements params prob delay old ≤ prob
unfolding next decayed
next_down elements params prob delay old below fallen =
    let t = tuned-down elements.step prob params delay old below fallen in grind (arith, nat_tests, ints, clamps)

pub next_capped : (elements : Elements) (params : RawParams) (prob delay old : ℕ) → is_capped elements.step ≡ true → 10 ^ 11 ≤ prob
    → next elements params prob delay old ≤ prob + 20_000_000_000
unfolding next decayed tuned_step
next_capped elements params prob delay old capped large = grind (arith, nat_tests, ints, clamps)

-- if the probability decays, the delay is at most the target
pub decays_low : (choice : Decay) (params : RawParams) (delay old : ℕ) → decays choice params delay old ≡ true → delay ≤ params.target
decays_low choice params delay old is = grind (arith, nat_tests)

-- if the probability decays and the delay has not risen, the next probability is at most 98 hundredths of it
pub next_decays : (elements : Elements) (params : RawParams) (prob delay old : ℕ) → decays elements.decay params delay old ≡ true → delay ≤ old
    → next elements params prob delay old * 100 ≤ prob * 98
unfolding next decayed
next_decays elements params prob delay old is fallen =
    let t = tuned-down elements.step prob params delay old (decays_low elements.decay params delay old is) fallen in
    grind (arith, nat_tests, ints, clamps)

-- ---- updates at one delay, by the table of auto-tuning

first-divisor : tuning_divisor 0 ≡ 2048
unfolding tuning_divisor
first-divisor = refl

-- a higher probability is divided by less
divisor-falls : (low high : ℕ) → low ≤ high → tuning_divisor high ≤ tuning_divisor low
unfolding tuning_divisor
divisor-falls low high le = grind (arith, nat_tests)

-- ---- one update

raw-above : (params : RawParams) (delay : ℕ) → params.target ≤ delay → raw_step params delay delay ≡ pos (untuned_rise params delay)
unfolding raw_step
raw-above params delay above = grind (arith, ints)

raw-below : (params : RawParams) (delay : ℕ) → delay ≤ params.target → raw_step params delay delay ≡ pos 0 -ℤ pos (untuned_fall params delay)
unfolding raw_step
raw-below params delay below = grind (arith, ints)

-- a quotient of a negative number is rounded toward zero
quotient-below : (n d : ℕ) → int_div (pos 0 -ℤ pos n) (pos d) ≡ pos 0 -ℤ pos (n / d)
quotient-below n d = grind (arith, ints)

tuned-below : (step : Step) (prob n : ℕ) → tuned_step step prob (pos 0 -ℤ pos n) ≡ pos 0 -ℤ pos (n / tuning_divisor prob)
unfolding tuned_step
tuned-below step prob n = let q = quotient-below n (tuning_divisor prob) in grind (arith, nat_tests, ints, clamps)

-- a rise is at least `least_rise`, and at most the tuned rise
pub one-rise : (elements : Elements) (params : RawParams) (prob delay : ℕ) → 0 < params.target → params.target ≤ delay
    → (min (10 ^ 12) (prob + least_rise params delay prob) ≤ next elements params prob delay delay)
    × (next elements params prob delay delay ≤ prob + untuned_rise params delay / tuning_divisor prob)
unfolding next decayed tuned_step
one-rise elements params prob delay some above = grind (arith, nat_tests, none_decays, raw-above, ints, clamps)

pub fallen-step : (elements : Elements) (params : RawParams) (prob delay : ℕ) → delay ≤ params.target
    → tuned_step elements.step prob (raw_step params delay delay) ≡ pos 0 -ℤ pos (untuned_fall params delay / tuning_divisor prob)
fallen-step elements params prob delay below = grind (arith, nat_tests, raw-below, tuned-below)

one-fall : (elements : Elements) (params : RawParams) (prob delay : ℕ) → delay ≤ params.target → 0 < next elements params prob delay delay
    → next elements params prob delay delay + untuned_fall params delay / tuning_divisor prob ≤ prob
unfolding next decayed
one-fall elements params prob delay below some = let t = fallen-step elements params prob delay below in grind (arith, nat_tests, ints, clamps)

one-fall-most : (elements : Elements) (params : RawParams) (prob delay : ℕ) → prob ≤ 10 ^ 12 → decays elements.decay params delay delay ≡ false
    → delay ≤ params.target → prob ≤ next elements params prob delay delay + untuned_fall params delay / tuning_divisor prob
unfolding next decayed
one-fall-most elements params prob delay within still below = grind (arith, nat_tests, fallen-step, ints, clamps)

-- ---- several updates

-- a smaller divisor gives a greater quotient
div-more : (n d e : ℕ) → 0 < e → e ≤ d → n / d ≤ n / e
div-more n d e some le = grind (arith, nat_tests, le-div, div-mul-le_self, mul-le)

-- from a higher probability, a rise is at least as large
rise-grows : (params : RawParams) (delay low high : ℕ) → low ≤ high → least_rise params delay low ≤ least_rise params delay high
rise-grows params delay low high le = grind (arith, nat_tests, div-more, divisor-some, divisor-falls)

pub more-times : (n rise : ℕ) → suc n * rise ≡ rise + n * rise
more-times n rise = grind arith

-- the distance of n steps
enough : (far by : ℕ) → 0 < by → far ≤ (far / by + 1) * by
enough far by some = let rest = lt-mul-div-succ far some in omega (arith, rest)

module _ (params : RawParams) (delay : ℕ) where
  -- the least probability after n updates, from any probability, if the delay does not fall
  pub lows : ℕ → ℕ
  lows zero = 0
  lows (suc n) = min (10 ^ 12) (lows n + least_rise params delay (lows n))

  pub low_none : lows 0 ≡ 0
  unfolding lows
  low_none = refl

  pub low_rise : (n prob : ℕ) → lows n ≤ prob → lows (suc n) ≤ min (10 ^ 12) (prob + least_rise params delay prob)
  unfolding lows
  low_rise n prob le = let more = rise-grows params delay (lows n) prob le in omega (arith, le, more)

  lows-within : (n : ℕ) → lows n ≤ 10 ^ 12
  unfolding lows
  lows-within n = grind (arith, nat_tests)

  lows-rise : (m n : ℕ) → (lows m ≤ lows (m + n)) × (min (10 ^ 12) (lows m + n * least_rise params delay (lows m)) ≤ lows (m + n))
  unfolding lows
  lows-rise m zero = let none : m + zero ≡ m = omega arith in rw none (omega arith, omega arith)
  lows-rise m (suc n) =
      let one : m + suc n ≡ suc (m + n) = omega arith in
      let rest = lows-rise m n in
      let more = rise-grows params delay (lows m) (lows (m + n)) rest.0 in
      let times = more-times n (least_rise params delay (lows m)) in
      let within = lows-within m in rw one (omega (arith, rest.0, within), omega (arith, rest.1, more, times))

  module _ (steep : 2048 ≤ untuned_rise params delay) where
    rise-some : (low : ℕ) → 0 < least_rise params delay low
    rise-some low = grind (arith, nat_tests, le-div, divisor-some, divisor-falls, first-divisor)

    -- if n updates reach this value, more updates reach further
    further : (m low high : ℕ) → high ≤ 10 ^ 12 → low ≤ lows m → high ≤ lows (m + updates_from params delay low high)
    further m low high top there =
        let far = (lows-rise m (updates_from params delay low high)).1 in
        let steps = enough (high - low) (least_rise params delay low) (rise-some low) in
        let more = mul-le (updates_from params delay low high) (least_rise params delay low) (updates_from params delay low high)
        (least_rise params delay (lows m)) (omega arith) (rise-grows params delay low (lows m) there) in
        omega (arith, far, steps, more, there, top)

    first-row : 10 ^ 6 ≤ lows (updates_from params delay 0 (10 ^ 6))
    first-row =
        let none : 0 + updates_from params delay 0 (10 ^ 6) ≡ updates_from params delay 0 (10 ^ 6) = omega arith in
        rw none at (further 0 0 (10 ^ 6) (omega arith) (omega arith))

    pub low_tenth : (n : ℕ) → updates_to_a_tenth params delay ≤ n → 10 ^ 11 ≤ lows n
    low_tenth n many =
        let split : updates_to_a_tenth params delay + (n - updates_to_a_tenth params delay) ≡ n = omega (arith, many) in
        let tenth = further _ (10 ^ 10) (10 ^ 11) (omega arith) (further _ (10 ^ 9) (10 ^ 10) (omega arith)
        (further _ (10 ^ 8) (10 ^ 9) (omega arith) (further _ (10 ^ 7) (10 ^ 8) (omega arith)
        (further _ (10 ^ 6) (10 ^ 7) (omega arith) first-row)))) in
        let stays = rw split at (lows-rise (updates_to_a_tenth params delay) (n - updates_to_a_tenth params delay)).0 in
        omega (arith, tenth, stays)

module _ (elements : Elements) (params : RawParams) (delay : ℕ) where
  -- after one update, and after n updates
  abbrev once : ℕ → ℕ
  once prob = next elements params prob delay delay

  abbrev after : ℕ → ℕ → ℕ
  after n prob = after_updates n elements params delay prob

  once-within : (prob : ℕ) → once prob ≤ 10 ^ 12
  once-within prob = next-hold elements params prob delay delay

  pub after_both : (m n prob : ℕ) → after (m + n) prob ≡ after n (after m prob)
  unfolding after_updates
  after_both zero n prob = let none : 0 + n ≡ n = omega arith in ap (λ (k : ℕ). after k prob) none
  after_both (suc m) n prob =
      let one : suc m + n ≡ suc (m + n) = omega arith in ap (λ (k : ℕ). after k prob) one ∙ after_both m n (once prob)

  module _ (some : 0 < params.target) (above : params.target ≤ delay) where
    -- the probability never falls; each update increases it by at least the first and at most the second amount
    rises : (n rise most prob : ℕ) → rise ≤ least_rise params delay prob → prob ≤ 10 ^ 12
        → (prob ≤ after n prob) × (min (10 ^ 12) (prob + n * rise) ≤ after n prob)
        × (after n prob ≤ most → after n prob ≤ prob + n * (untuned_rise params delay / tuning_divisor most))
    unfolding after_updates
    rises zero rise most prob least within = (omega arith, omega arith, λ below. omega arith)
    rises (suc n) rise most prob least within =
        let up = next_up elements params prob delay delay within some above (omega arith) in
        let grows = rise-grows params delay prob (once prob) up in
        let rest = rises n rise most (once prob) (omega (arith, least, grows)) (once-within prob) in
        let one = (one-rise elements params prob delay some above).0 in
        let times = more-times n rise in (
          omega (arith, up, rest.0),
          omega (arith, one, rest.1, times, least),
          λ below.
              let more = div-more (untuned_rise params delay) (tuning_divisor prob) (tuning_divisor most) (divisor-some most)
              (divisor-falls prob most (omega (arith, up, rest.0, below))) in
              let one = (one-rise elements params prob delay some above).1 in
              let times = more-times n (untuned_rise params delay / tuning_divisor most) in
              let later = rest.2 below in omega (arith, one, later, more, times),
        )

    pub rises_at_least : (n prob : ℕ) → prob ≤ 10 ^ 12 → min (10 ^ 12) (prob + n * least_rise params delay prob) ≤ after n prob
    rises_at_least n prob within = (rises n (least_rise params delay prob) 0 prob (omega arith) within).1

    pub rises_at_most : (n prob most : ℕ) → prob ≤ 10 ^ 12 → after n prob ≤ most
        → after n prob ≤ prob + n * (untuned_rise params delay / tuning_divisor most)
    rises_at_most n prob most within below = (rises n 0 most prob (omega arith) within).2 below

  module _ (below : delay ≤ params.target) where
    -- the probability never rises; each update decreases it by at least the first amount, and, if it does not decay, by at most the second
    falls : (n fall least prob : ℕ) → (after n prob ≤ prob)
        × (0 < least → least ≤ after n prob → after n prob + n * (untuned_fall params delay / tuning_divisor least) ≤ prob)
        × (prob ≤ 10 ^ 12 → decays elements.decay params delay delay ≡ false → untuned_fall params delay / tuning_divisor prob ≤ fall
        → prob ≤ after n prob + n * fall)
    unfolding after_updates
    falls zero fall least prob = grind (arith, nat_tests)
    falls (suc n) fall least prob =
        let rest = falls n fall least (once prob) in
        grind (arith, nat_tests, next_down, one-fall, div-more, divisor-some, divisor-falls, more-times, one-fall-most, once-within)

    pub stays_down : (n prob : ℕ) → after n prob ≤ prob
    stays_down n prob = (falls n 0 0 prob).0

    pub falls_at_least : (n prob least : ℕ) → 0 < least → least ≤ after n prob
        → after n prob + n * (untuned_fall params delay / tuning_divisor least) ≤ prob
    falls_at_least n prob least = (falls n 0 least prob).1

    pub falls_at_most : (n prob : ℕ) → prob ≤ 10 ^ 12 → decays elements.decay params delay delay ≡ false
        → prob ≤ after n prob + n * (untuned_fall params delay / tuning_divisor prob)
    falls_at_most n prob within still = (falls n (untuned_fall params delay / tuning_divisor prob) 0 prob).2 within still (omega arith)

  -- ---- the increase to a tenth

  module _ (some : 0 < params.target) (above : params.target ≤ delay) where
    low-after : (n prob : ℕ) → prob ≤ 10 ^ 12 → lows params delay n ≤ after n prob
    unfolding after_updates lows
    low-after zero prob within = omega arith
    low-after (suc n) prob within =
        let one : n + 1 ≡ suc n = omega arith in
        let last = rw one at (after_both n 1 prob) in
        let rise = (one-rise elements params (after n prob) delay some above).0 in
        let low = low_rise params delay n (after n prob) (low-after n prob within) in rw last (omega (arith, rise, low))

    pub reaches_a_tenth : 2048 ≤ untuned_rise params delay → (n prob : ℕ) → prob ≤ 10 ^ 12 → updates_to_a_tenth params delay ≤ n
        → 10 ^ 11 ≤ after n prob
    reaches_a_tenth steep n prob within many =
        let low = low-after n prob within in let tenth = low_tenth params delay steep n many in omega (arith, low, tenth)

-- The relation of the probability to the delay, at each event of a lawful history, and the bounds of the estimated delay.

pub elements-is : (opening : Opening) (history : List Event) → (state_after opening history).elements ≡ opening.choices.elements
unfolding state_after state_of
elements-is opening history = refl

-- ---- an update of an active controller

updated-prob : (h : ControllerState) (waiting : List Waiting) (packets : ℕ) (command : Command) (answer : Answer) → is_update (effect command answer) ≡ true
    → h.active ≡ true
    → (after_call h (call_of waiting packets command)).control.prob
    ≡ next h.elements h.params h.control.prob (Steps.delay_in h (bytes_of waiting)) h.control.old_delay
updated-prob h waiting packets command answer asks on = grind (arith, nat_tests)

pub prob-next : (opening : Opening) (before : List Event) (event : Event) → IsStep opening before event → IsActiveUpdate opening before event
    → probability_after opening (before ++ event ∷ [])
    ≡ next opening.choices.elements (params_after opening before) (probability_after opening before) (delay_after opening before)
    (old_delay_after opening before)
prob-next opening before event step active = grind (arith, nat_tests, updated-prob, elements-is)

-- ---- any other event

-- a command that is no update of an active controller leaves the probability unchanged or resets it
pub stays-or-zero : (h : ControllerState) (waiting : List Waiting) (packets : ℕ) (command : Command) (answer : Answer)
    → (is_update (effect command answer) ≡ false) ⊎ (h.active ≡ false)
    → (after_call h (call_of waiting packets command)).control.prob ≤ h.control.prob
stays-or-zero h waiting packets command answer other = grind (arith, nat_tests)

-- ---- an unchanged delay

-- the controller after an event while the delay is steady: its parameters, and its probability
record Next (delay : ℕ) (elements : Elements) (h g : ControllerState) (updates : Bool) : Type 0 where
  params : g.params ≡ h.params
  prob : g.control.prob ≡ (if updates then next elements h.params h.control.prob delay delay else h.control.prob)

same-next : (delay : ℕ) (h : ControllerState) (waiting : List Waiting) (packets : ℕ) (command : Command) (answer : Answer) → KeepsParams command
    → is_reset (effect command answer) ≡ false → h.active ≡ true
    → (is_update (effect command answer) ≡ true → Steps.delay_in h (bytes_of waiting) ≡ delay)
    → (is_update (effect command answer) ≡ true → h.control.old_delay ≡ delay)
    → Next delay h.elements h (after_call h (call_of waiting packets command)) (is_update (effect command answer))
same-next delay h waiting packets command answer keeps unreset on now old = grind (arith, nat_tests)

one-update : (updates : Bool) (n : ℕ) (elements : Elements) (params : RawParams) (delay prob : ℕ)
    → after_updates n elements params delay (if updates then next elements params prob delay delay else prob)
    ≡ after_updates (cond updates 1 0 + n) elements params delay prob
unfolding after_updates
one-update true n elements params delay prob = grind (arith, nat_tests, after_updates)
one-update false n elements params delay prob = grind (arith, nat_tests, after_updates)

pub steadily : (delay : ℕ) → BetweenAny (λ opening before between. AllAlong (IsSteady delay opening) before between
    → probability_after opening (before ++ between)
    ≡ after_updates (updates_in between) opening.choices.elements (params_after opening before) delay (probability_after opening before))
unfolding BetweenAny after_updates
steadily delay opening before between later lawful steady =
    sym (along Comes (IsSteady delay opening) opening stays before between later lawful steady refl)
  where
    -- the remaining updates lead from the present probability to the final one
    Comes : List Event → List Event → Type 0
    Comes earlier left =
        after_updates (updates_in between) opening.choices.elements (params_after opening before) delay (probability_after opening before)
        ≡ after_updates (updates_in left) opening.choices.elements (params_after opening earlier) delay (probability_after opening earlier)

    stays : (earlier : List Event) (event : Event) (left : List Event) → IsStep opening earlier event → IsSteady delay opening earlier event
        → Comes earlier (event ∷ left) → Comes (earlier ++ event ∷ []) left
    stays earlier event left step here so =
        let h = state_after opening earlier in
        let moved : Next delay opening.choices.elements h (state_after opening (earlier ++ event ∷ [])) (is_update (effect_of event)) =
        subst (λ (e : Elements). Next delay e h (state_after opening (earlier ++ event ∷ [])) (is_update (effect_of event)))
        (elements-is opening earlier)
        (subst (λ (g : ControllerState). Next delay h.elements h g (is_update (effect_of event))) (sym step.state)
        (same-next delay h (waiting_after opening earlier) opening.limits.packets event.command event.answer here.keeps here.unreset here.active
        here.delay_now here.delay_old)) in
        rw (
          moved.params,
          moved.prob,
          one-update (is_update (effect_of event)) (updates_in left) opening.choices.elements h.params delay h.control.prob,
          ← counted-cons event left,
        ) so

fades-more : (x y p a b : ℕ) → x * a ≤ y * b → y * 100 ≤ p * 98 → x * (a * 100) ≤ p * (b * 98)
fades-more x y p a b rest one =
    let first : x * a * 100 ≤ y * b * 100 = mul-le (x * a) 100 (y * b) 100 rest (omega arith) in
    let second : y * 100 * b ≤ p * 98 * b = mul-le (y * 100) b (p * 98) b one (omega arith) in
    grind arith

faded-after : (n : ℕ) (elements : Elements) (params : RawParams) (delay prob : ℕ) → decays elements.decay params delay delay ≡ true
    → after_updates n elements params delay prob * 100 ^ n ≤ prob * 98 ^ n
unfolding after_updates
faded-after zero elements params delay prob is = omega arith
faded-after (suc n) elements params delay prob is =
    let rest = faded-after n elements params delay (next elements params prob delay delay) is in
    grind (arith, nat_tests, next_decays, pow-suc, fades-more)

pub fades_with_updates : (delay : ℕ) → BetweenAny (λ opening before between. AllAlong (IsSteady delay opening) before between
    → decays opening.choices.elements.decay (params_after opening before) delay delay ≡ true
    → probability_after opening (before ++ between) * 100 ^ updates_in between ≤ probability_after opening before * 98 ^ updates_in between)
unfolding BetweenAny
fades_with_updates delay opening before between later lawful steady is = rw (steadily delay opening before between later lawful steady)
    (faded-after (updates_in between) opening.choices.elements (params_after opening before) delay (probability_after opening before) is)

-- a hundred and fourteen times 98 hundredths are less than a tenth
hundred-fourteen : 98 ^ 114 * 10 ≤ 100 ^ 114
hundred-fourteen = omega arith

pub a_tenth_is_left : (n : ℕ) (elements : Elements) (params : RawParams) (delay : ℕ) (prob : ℕ)
    → decays elements.decay params delay delay ≡ true → 114 ≤ n → after_updates n elements params delay prob * 10 ≤ prob
a_tenth_is_left n elements params delay prob is many =
    let split : 114 + (n - 114) ≡ n = omega (arith, many) in
    let low = decays_low elements.decay params delay delay is in
    let less : after_updates n elements params delay prob ≤ after_updates 114 elements params delay prob =
    subst (λ (k : ℕ). after_updates k elements params delay prob ≤ after_updates 114 elements params delay prob) split
    (rw (after_both elements params delay 114 (n - 114) prob)
    (stays_down elements params delay low (n - 114) (after_updates 114 elements params delay prob))) in
    let faded = faded-after 114 elements params delay prob is in
    let left = share (after_updates 114 elements params delay prob) prob (98 ^ 114) (100 ^ 114) (omega arith) faded hundred-fourteen in
    omega (arith, less, left)
  where
    share : (x p a b : ℕ) → 0 < b → x * b ≤ p * a → a * 10 ≤ b → x * 10 ≤ p
    share x p a b some faded tenth =
        let one : p * (a * 10) ≤ p * b = mul-le p (a * 10) p b (omega arith) tenth in
        let both : x * 10 * b ≤ p * b = grind (arith, one, faded) in
        le_of_mul-le-mul_right both some

-- with the defaults: from 0 at twice the target, and from 1 without delay
pub exactly : (after_updates 162 usual default_profile 30_000_000 0 ≡ 100_178_833_003)
    × (after_updates 161 usual default_profile 30_000_000 0 ≡ 99_241_333_003)
    × (after_updates 87 usual default_profile 0 1_000_000_000_000 ≡ 96_421_179_148)
    × (after_updates 86 usual default_profile 0 1_000_000_000_000 ≡ 100_263_958_315)
    × (after_updates 157 usual default_profile 30_000_000 (next usual default_profile 0 30_000_000 0) ≡ 100_185_241_696)
    × (after_updates 156 usual default_profile 30_000_000 (next usual default_profile 0 30_000_000 0) ≡ 99_247_741_696)
unfolding after_updates next raw_step tuned_step tuning_divisor decayed
exactly = (refl, refl, refl, refl, refl, refl)

-- from a tenth on a rise is capped
pub at_a_tenth : (next usual default_profile 99_999_999_999 1_000_000_000 0 ≡ 786_562_499_999)
    × (next usual default_profile 100_000_000_000 1_000_000_000 0 ≡ 120_000_000_000)
unfolding next raw_step tuned_step tuning_divisor decayed
at_a_tenth = (refl, refl)

-- ---- the estimated delay: a weighted average lies between its two values

parts : (n t u : ℕ) → t + u ≡ 65536 → n * 65536 ≡ n * t + n * u
parts n t u whole = let both : n * (t + u) ≡ n * t + n * u = grind arith in rw whole at both

-- one more sample
weighted : (t u least most sample before : ℕ) → t + u ≡ 65536 → IsBetween least most sample → IsBetween least most before
    → IsBetween least most ((sample * t + before * u) / 65536)
weighted t u least most sample before whole s b =
    let low = parts least t u whole in
    let high = parts most t u whole in
    let a = mul-le least t sample t s.0 (omega arith) in
    let c = mul-le least u before u b.0 (omega arith) in
    let d = mul-le sample t most t s.1 (omega arith) in
    let e = mul-le before u most u b.1 (omega arith) in (
      le-div least (sample * t + before * u) 65536 (omega arith) (omega (arith, a, c, low)),
      div-le_of_le-mul 65536 (let le : sample * t + before * u ≤ 65536 * most = omega (arith, d, e, high) in le),
    )

between-later : (t least most : ℕ) → t ≤ 65536 → (first : ℕ) (later : List ℕ) → IsBetween least most first → All (IsBetween least most) later
    → IsBetween least most (fold (averaged t) first later)
between-later t least most small first [] so all = so
between-later t least most small first (sample ∷ later) so all =
    let here = All-head (IsBetween least most) sample later all in
    let whole : t + (65536 - t) ≡ 65536 = omega arith in
    between-later t least most small (averaged t first sample) later
    (weighted t (65536 - t) least most sample first whole here so)
    (All-tail (IsBetween least most) sample later all)

between-all : (t least most : ℕ) (times : List ℕ) → t ≤ 65536 → 0 < length times → All (IsBetween least most) times
    → IsBetween least most (average_of t times)
between-all t least most [] small some all = absurd (omega arith)
between-all t least most (first ∷ later) small some all =
    between-later t least most small first later (All-head (IsBetween least most) first later all) (All-tail (IsBetween least most) first later all)

none-sampled : (t : ℕ) (times : List ℕ) → length times ≡ 0 → average_of t times ≡ 0
none-sampled t times none = grind (arith, nat_tests)

delay-between : (bytes average threshold least most : ℕ) → 0 < threshold → IsBetween least most average
    → IsBetween (min (2 ^ 40) (bytes * least / threshold)) (bytes * most / threshold) (delay_of bytes average threshold)
unfolding delay_of
delay-between bytes average threshold least most some between = grind (arith, nat_tests, div-mono, mul-le)

-- ---- after a lawful history

pub average_between : (least most : ℕ) → AtEachHistory (λ opening history. 0 < length (samples_after opening history)
    → All (IsBetween least most) (samples_after opening history) → IsBetween least most (average_after opening history))
unfolding AtEachHistory state_after state_of average
average_between least most opening history lawful some all =
    let sound = (sound_at opening history [] (rw (append-nil history) lawful)).0 in
    between-all (params_after opening history).dq_threshold least most (samples_after opening history)
    (threshold-holds (params_after opening history) sound.params).1 some all

pub no_average : AtEachHistory (λ opening history. length (samples_after opening history) ≡ 0 → average_after opening history ≡ 0)
unfolding AtEachHistory state_after state_of average
no_average opening history lawful none = none-sampled (params_after opening history).dq_threshold (samples_after opening history) none

pub estimate_between : (least most : ℕ) → AtEachHistory (λ opening history. opening.choices.elements.delay ≡ Rate → 0 < length (samples_after opening history) → All (IsBetween least most) (samples_after opening history)
    → IsBetween (min (2 ^ 40) (bytes_after opening history * least / (params_after opening history).dq_threshold))
    (bytes_after opening history * most / (params_after opening history).dq_threshold) (delay_after opening history))
unfolding AtEachHistory
estimate_between least most opening history lawful rate some all =
    let h = state_after opening history in
    let sound = (sound_at opening history [] (rw (append-nil history) lawful)).0 in
    let threshold = (threshold-holds h.params sound.params).0 in
    let by : h.elements.delay ≡ Rate = ap (λ (e : Elements). e.delay) (elements-is opening history) ∙ rate in
    subst (λ (d : Delay). IsBetween (min (2 ^ 40) (bytes_after opening history * least / h.params.dq_threshold))
    (bytes_after opening history * most / h.params.dq_threshold)
    (Steps.delay_by d h.waited (delay_of (bytes_after opening history) h.rate.average h.params.dq_threshold))) (sym by)
    (delay-between (bytes_after opening history) h.rate.average h.params.dq_threshold least most (omega (arith, threshold))
    (average_between least most opening history lawful some all))
