-- The change of the accumulated probability when an event is added at the end of the list.
pub use Rattle.std.proofs.Common.{Bool, List, [], ap, arith, cond, false, refl, sym, true, ℕ, ◌*◌, ◌++◌, ◌+◌, ◌<◌, ◌∙◌, ◌∷◌, ◌≡◌, ◌≤◌}
pub use Rattle.std.proofs.lemmas.Bool.{ne_eqb}
pub use Rattle.std.proofs.lemmas.Bool.Decides.{nat_tests}
pub use Rattle.std.specs.Prelude.{if◌then◌else◌}
pub use Rattle.pie_control.specs.History.{ControlState}
pub use Rattle.pie_early.specs.Cause.{fate_of}
pub use Rattle.pie_early.specs.Decision.{a_fifth, accu_after, accu_at, always_picked, choice_at, choice_of, effective_prob_of, no_pick_below, picked_choice, EarlyEvent, arrival, cleared, Represents}
unfoldable pub use Rattle.pie_early.specs.Decision.{is_considered, is_picked, accumulated}
pub use Rattle.pie_early.specs.declared.decision.Offered.{Offered}
pub use Rattle.pie_early.specs.declared.early.Choice.{Choice}
pub use Rattle.pie_early.specs.declared.early.Choice.TheVariants.{Drop, Enqueue}
pub use Rattle.pie_params.specs.Params.{accumulates}
pub use Rattle.pie_params.specs.declared.elements.Elements.{Elements}
pub use Rattle.pie_params.specs.declared.elements.Picking.{Picking}
pub use Rattle.pie_params.specs.declared.elements.Picking.TheVariants.{Derandomized, Random}
pub use Rattle.pie_params.specs.declared.raw.RawParams.{RawParams}
pub use Rattle.pie_queue.specs.declared.ecn.Ecn.{Ecn}
use Rattle.std.proofs.Common.{zero, suc, ◌-◌, not, length, drop, filter, replicate, add-one, append_assoc, ◌↔◌, ◌&&◌, ◌/◌}
use Rattle.std.specs.Prelude.{sum_by, IsTrue}
use Rattle.std.specs.List.{after_last, suffix_len}
use Rattle.std.proofs.lemmas.List.{drop-append-le, drop_all, length_push, reverse-append, replicate_more}
use Rattle.std.proofs.lemmas.List.Elements.{filter-append}
use Rattle.std.proofs.lemmas.List.Sums.{sum_by-append, suffix_len-le-length}
use Rattle.pie_early.specs.Decision.{is_clearing, joins, prob_of, is_pick, IsPicked, chosen}
use Rattle.pie_event.specs.Cause.{verdict_of}
use Rattle.pie_early.specs.Cause.{considered_cause, early_cause}
use Rattle.std.proofs.Math.Nat.{div-le_of_le-mul}

suffix_len-push : {X : Type 0} (p : X → Bool) (xs : List X) (x : X) → suffix_len p (xs ++ x ∷ []) ≡ cond (p x) (1 + suffix_len p xs) 0
suffix_len-push p xs x = rw reverse-append refl

-- nothing is after the last element that passes, if that is the added one
pub after_last-push_yes : {X : Type 0} (p : X → Bool) (xs : List X) (x : X) → p x ≡ true → after_last p (xs ++ x ∷ []) ≡ []
after_last-push_yes p xs x e =
    let none : suffix_len (λ y. not (p y)) (xs ++ x ∷ []) ≡ 0 = suffix_len-push (λ y. not (p y)) xs x
    ∙ ap (λ b. cond (not b) (1 + suffix_len (λ y. not (p y)) xs) 0) e in
    drop_all _ (xs ++ x ∷ []) (omega arith)

-- otherwise the added element is appended to the elements after the last one that passes
pub after_last-push_no : {X : Type 0} (p : X → Bool) (xs : List X) (x : X) → p x ≡ false → after_last p (xs ++ x ∷ []) ≡ after_last p xs ++ x ∷ []
after_last-push_no p xs x e =
    let one : suffix_len (λ y. not (p y)) (xs ++ x ∷ []) ≡ 1 + suffix_len (λ y. not (p y)) xs = suffix_len-push (λ y. not (p y)) xs x
    ∙ ap (λ b. cond (not b) (1 + suffix_len (λ y. not (p y)) xs) 0) e in
    let bound = suffix_len-le-length (λ y. not (p y)) xs in
    let at : length (xs ++ x ∷ []) - suffix_len (λ y. not (p y)) (xs ++ x ∷ [])
    ≡ length xs - suffix_len (λ y. not (p y)) xs = omega (arith, length_push xs x) in
    ap (λ n. drop n (xs ++ x ∷ [])) at ∙ drop-append-le _ xs (x ∷ []) (omega arith)

pub accumulated-clearing : (events : List EarlyEvent) (event : EarlyEvent) → is_clearing event ≡ true → accumulated (events ++ event ∷ []) ≡ 0
unfolding accumulated
accumulated-clearing events event e = rw (after_last-push_yes is_clearing events event e) refl

considered_sum : (event : EarlyEvent) (b : Bool) → sum_by prob_of (cond b (event ∷ []) []) ≡ cond b (prob_of event) 0
considered_sum event b = grind (arith, nat_tests)

pub accumulated-push : (events : List EarlyEvent) (event : EarlyEvent) → is_clearing event ≡ false
    → accumulated (events ++ event ∷ []) ≡ accumulated events + cond (joins event) (prob_of event) 0
unfolding accumulated
accumulated-push events event e =
    let kept = filter joins (after_last is_clearing events) in
    rw (after_last-push_no is_clearing events event e, filter-append)
    (sum_by-append prob_of (filter joins (after_last is_clearing events)) (filter joins (event ∷ []))
    ∙ ap (λ n. sum_by prob_of (filter joins (after_last is_clearing events)) + n)
    (considered_sum event (joins event)))

-- after a clearing event and n more queued arrivals, each considered at one probability, the sum is n times this
-- probability
pub accumulated-run : (before : List EarlyEvent) (clearing : EarlyEvent) (n prob : ℕ) → is_clearing clearing ≡ true → 0 < prob
    → accumulated (before ++ clearing ∷ replicate n (arrival true prob Derandomized Enqueue)) ≡ n * prob
accumulated-run before clearing zero prob e some = accumulated-clearing before clearing e ∙ omega arith
accumulated-run before clearing (suc n) prob e some =
    let y : EarlyEvent = arrival true prob Derandomized Enqueue in
    let quiet : is_clearing (arrival true prob Derandomized Enqueue) ≡ false = ne_eqb prob 0 (λ z. omega arith) in
    let more : before ++ clearing ∷ replicate (suc n) (arrival true prob Derandomized Enqueue)
    ≡ (before ++ clearing ∷ replicate n (arrival true prob Derandomized Enqueue)) ++ arrival true prob Derandomized Enqueue ∷ []
    = simp (append_assoc, replicate_more, add-one) in
    rw more (accumulated-push (before ++ clearing ∷ replicate n (arrival true prob Derandomized Enqueue)) (arrival true prob Derandomized Enqueue) quiet
    ∙ ap (λ k. k + prob) (accumulated-run before clearing n prob e some) ∙ omega arith)

-- the accumulated probability after one more event
abbrev pub accu_next : ℕ → EarlyEvent → ℕ
accu_next held event = if is_clearing event then 0 else if joins event then held + prob_of event else held

pub represents-next : (events : List EarlyEvent) (held : ℕ) (event : EarlyEvent) → Represents events held → Represents (events ++ event ∷ []) (accu_next held event)
represents-next events held event shown = by (is_clearing event) refl
  where
    by : (clears : Bool) → is_clearing event ≡ clears
        → (if clears then 0 else if joins event then held + prob_of event else held) ≡ accumulated (events ++ event ∷ [])
    by true is = sym (accumulated-clearing events event is)
    by false is = let sum = accumulated-push events event is in grind (arith, nat_tests)

-- ---- The tests of the decision as facts

picked_facts : (picking : Picking) (params : RawParams) (control : ControlState) (prob bytes word accu : ℕ)
    → (is_considered params control bytes && is_picked picking prob (accu + prob) word) ≡ true
    → IsPicked picking params control prob bytes word accu
unfolding is_considered is_picked
picked_facts picking params control prob bytes word accu e = record {
  no_burst = grind (arith, nat_tests);
  above_two_packets = grind (arith, nat_tests);
  not_low_delay = grind (arith, nat_tests);
  some_prob = grind (arith, nat_tests);
  enough = λ on. grind (arith, nat_tests);
  by_sum_or_word = grind (arith, nat_tests);
}

picked_from : (picking : Picking) (params : RawParams) (control : ControlState) (prob bytes word accu : ℕ)
    → IsPicked picking params control prob bytes word accu
    → (is_considered params control bytes && is_picked picking prob (accu + prob) word) ≡ true
unfolding is_considered is_picked
picked_from picking params control prob bytes word accu p =
    let enough = p.enough in grind (arith, nat_tests, p.no_burst, p.above_two_packets, p.not_low_delay, p.some_prob, p.by_sum_or_word)

-- the choice is a pick exactly if the packet is picked
pub is_pick-at : (params : RawParams) (prob : ℕ) (ecn : Ecn) (b : Bool) → is_pick (cond b (picked_choice params prob ecn) Enqueue) ≡ b
is_pick-at params prob ecn b = grind (arith, nat_tests)

module _ (picking : Picking) (params : RawParams) (control : ControlState) (prob bytes : ℕ) (ecn : Ecn) (word accu : ℕ) where
  -- a packet is marked or dropped exactly if it is picked
  pub picked : (choice : Choice) → choice ≡ choice_at picking params control prob bytes ecn word accu
      → IsTrue (is_pick choice) ↔ IsPicked picking params control prob bytes word accu
  picked choice e =
      let same : is_pick choice ≡ (is_considered params control bytes && is_picked picking prob (accu + prob) word)
      = ap is_pick e ∙ is_pick-at params control.prob ecn (is_considered params control bytes && is_picked picking prob (accu + prob) word) in (
        λ t. picked_facts picking params control prob bytes word accu (sym same ∙ t),
        λ p. same ∙ picked_from picking params control prob bytes word accu p,
      )

-- if probabilities accumulate, the sum grows by the probability of a considered arrival that is not picked
pub grown : (picking : Picking) (params : RawParams) (control : ControlState) (prob bytes : ℕ) (ecn : Ecn) (word accu after : ℕ) (choice : Choice)
    → picking ≡ Derandomized → is_considered params control bytes ≡ true → 0 < prob → choice ≡ Enqueue
    → choice ≡ choice_at picking params control prob bytes ecn word accu → after ≡ accu_at picking params control prob bytes word accu
    → after ≡ accu + prob
grown picking params control prob bytes ecn word accu after choice accumulates considered some queued chosen is = grind (arith, nat_tests)

-- ---- The accumulated probability after an arrival, and the events that it represents

-- the accumulated probability stays below 8.5
pub accu_below : (picking : Picking) (params : RawParams) (control : ControlState) (prob bytes word held : ℕ) → held < always_picked
    → accu_at picking params control prob bytes word held < always_picked
unfolding is_picked
accu_below picking params control prob bytes word held h = grind (arith, nat_tests)

-- the accumulated probability is the look-back's after the arrival
arrival-is : (picking : Picking) (params : RawParams) (control : ControlState) (prob bytes word held : ℕ) (ecn : Ecn)
    → accu_at picking params control prob bytes word held
    ≡ accu_next held (arrival (is_considered params control bytes) prob picking (choice_at picking params control prob bytes ecn word held))
arrival-is picking params control prob bytes word held ecn =
    rw (is_pick-at params control.prob ecn (is_considered params control bytes && is_picked picking prob (held + prob) word))
    (grind (arith, nat_tests))

pub represents_arrival : (picking : Picking) (params : RawParams) (control : ControlState) (prob bytes word held : ℕ) (events : List EarlyEvent) (ecn : Ecn)
    → Represents events held
    → Represents (events ++ arrival (is_considered params control bytes) prob picking (choice_at picking params control prob bytes ecn word held) ∷ [])
    (accu_at picking params control prob bytes word held)
represents_arrival picking params control prob bytes word held events ecn shown =
    arrival-is picking params control prob bytes word held ecn
    ∙ represents-next events held (arrival (is_considered params control bytes) prob picking (choice_at picking params control prob bytes ecn word held))
    shown

-- the look-back after a clear
pub represents_cleared : (events : List EarlyEvent) (held : ℕ) → held ≡ 0 → Represents (events ++ cleared ∷ []) held
represents_cleared events held is = is ∙ sym (accumulated-clearing events cleared refl)

-- ---- The name of the cause, and its verdict

module _ (elements : Elements) (params : RawParams) (parts : ControlState) (offered : Offered) (accu : ℕ) where
  -- the cause of a considered arrival
  pub cause_considered : is_considered params parts offered.bytes ≡ true → early_cause elements params parts offered accu
      ≡ considered_cause elements.picking (effective_prob_of elements params parts offered) accu (fate_of params parts.prob offered.ecn) offered.word
  unfolding early_cause is_considered
  cause_considered e = grind (arith, nat_tests)

  -- the verdict of the cause is that of the choice
  pub cause_verdict : verdict_of (early_cause elements params parts offered accu) ≡ chosen (choice_of elements params parts offered accu)
  unfolding early_cause considered_cause is_considered is_picked
  cause_verdict = grind (arith, nat_tests)

-- ---- Bounds of a scaled probability

-- a part of a whole is at most the whole
pub scaled_below : (prob size whole : ℕ) → size < whole → prob * size / whole ≤ prob
scaled_below prob size whole less = div-le_of_le-mul whole (grind arith)
