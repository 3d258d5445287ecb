-- Examples of the definitions: each theorem computes. bindings/c/rows.c has rows for the bounds of considered, picked
-- and marked arrivals.
use Rattle.pie_early.proofs.Laws.{Elements, Random, ControlState, Ecn, Offered, Enqueue, Drop, a_fifth, accu_after, always_picked, choice_of, is_considered, is_picked, no_pick_below, arrival, accumulated}
use Rattle.std.specs.Prelude.{◌≡◌, ℕ, ◌^◌, ◌*◌, ◌-◌, true, [], ◌∷◌, map, refl}
use Rattle.pie_fixed.specs.declared.TheConstants.{ALWAYS_PICKED, ONE}
use Rattle.pie_params.specs.Params.{default_profile, usual}
use Rattle.pie_params.specs.declared.elements.Size.TheVariants.{Unscaled, Scaled}
use Rattle.pie_queue.specs.declared.ecn.Ecn.TheVariants.{NotEct, Ect0}
use Rattle.pie_early.specs.declared.early.TheConstants.{LOW_PROB, NO_PICK_BELOW}
use Rattle.pie_early.specs.Decision.{effective_prob}

-- the bounds in the definitions and in the code: 0.2, 0.85 and 8.5
one : ONE ≡ 10 ^ 12
one = refl

fifth : (a_fifth * 5 ≡ ONE) × (LOW_PROB ≡ a_fifth)
fifth = (refl, refl)

never : (no_pick_below * 100 ≡ 85 * ONE) × (NO_PICK_BELOW ≡ no_pick_below)
never = (refl, refl)

always : (always_picked * 10 ≡ 85 * ONE) × (ALWAYS_PICKED ≡ always_picked)
always = (refl, refl)

-- a controller with no burst allowance
abbrev control : ℕ → ℕ → ControlState
control prob old = record { prob = prob; old_delay = old; burst = 0; last = 0 }

-- a packet of `size` bytes at a queue of `bytes` bytes, with its random word
abbrev packet : ℕ → ℕ → Ecn → ℕ → Offered
packet size bytes ecn word = record { bytes = bytes; size = size; ecn = ecn; word = word }

-- ---- Random picking: the word alone decides, and nothing accumulates

abbrev random : Elements
random = record usual { picking = Random }

-- 2^64 / 10, rounded up, is the first word that is not below the probability 0.1
picks_at_random : map (λ word. choice_of random default_profile (control (10 ^ 11) 15000000) (packet 1024 3000 NotEct word) 0)
    (1_844_674_407_370_955_161 ∷ 1_844_674_407_370_955_162 ∷ []) ≡ Drop ∷ Enqueue ∷ []
unfolding is_considered is_picked
picks_at_random = refl

adds_nothing : (accu_after random default_profile (control (10 ^ 11) 15000000) (packet 1024 3000 NotEct (2 ^ 64 - 1)) 0 ≡ 0)
    × (accu_after random default_profile (control 0 15000000) (packet 1024 3000 NotEct 0) 0 ≡ 0)
    × (choice_of random default_profile (control 0 15000000) (packet 1024 3000 NotEct 0) 0 ≡ Enqueue)
    × (accumulated (arrival true (10 ^ 11) Random Enqueue ∷ arrival true (10 ^ 11) Random Enqueue ∷ []) ≡ 0)
unfolding accumulated is_considered is_picked
adds_nothing = (refl, refl, refl, refl)

-- ---- Scaled sizes: the probability of a packet smaller than the mean is reduced in proportion, rounded down

abbrev scaled : Elements
scaled = record usual { size = Scaled }

counts_as : (map (λ size. effective_prob Scaled default_profile size (10 ^ 11)) (1 ∷ 512 ∷ 1023 ∷ 1024 ∷ 65535 ∷ [])
    ≡ 97_656_250 ∷ 50_000_000_000 ∷ 99_902_343_750 ∷ 100_000_000_000 ∷ 100_000_000_000 ∷ [])
    × (effective_prob Scaled default_profile 64 15 ≡ 0) × (effective_prob Unscaled default_profile 64 15 ≡ 15)
counts_as = (refl, refl, refl)

-- at half the mean size, half the probability is added to the sum and compared with the word. An effective probability
-- of 0 clears the sum, as probability 0 does. The probability itself decides between mark and drop
scales : (accu_after scaled default_profile (control (10 ^ 11) 15000000) (packet 512 3000 NotEct 0) 5 ≡ 50_000_000_005)
    × (accu_after scaled default_profile (control 15 15000000) (packet 64 3000 NotEct 0) 5 ≡ 0)
    × (map (λ word. choice_of scaled default_profile (control (10 ^ 11) 15000000) (packet 512 3000 NotEct word) 850_000_000_000)
    (922_337_203_685_477_580 ∷ 922_337_203_685_477_581 ∷ []) ≡ Drop ∷ Enqueue ∷ [])
    × (choice_of scaled default_profile (control (10 ^ 11) 15000000) (packet 512 3000 Ect0 0) 850_000_000_000 ≡ Drop)
unfolding is_considered is_picked
scales = (refl, refl, refl, refl)
