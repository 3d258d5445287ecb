-- Examples of the definitions: each theorem computes. tests/rows and bindings/c/rows.c have rows for the state after
-- updates and resets.
use Rattle.std.proofs.Common.{◌≡◌, ℕ, ◌*◌, ◌-◌, ◌^◌, [], ◌∷◌, refl}
use Rattle.std.specs.Prelude.{pos, map, true, false}
use Rattle.pie_fixed.specs.declared.TheConstants.{ONE}
use Rattle.pie_control.specs.declared.update.TheConstants.{CAPPED_FROM, LARGEST_STEP, MAX_DELAY}
use Rattle.pie_params.specs.declared.raw.RawParams.{RawParams}
use Rattle.pie_params.specs.Params.{default_profile, usual}
use Rattle.pie_params.specs.declared.elements.Decay.TheVariants.{Half}
use Rattle.pie_params.specs.declared.elements.Step.TheVariants.{Uncapped}
use Rattle.pie_control.specs.{delay_of, ControlEvent, idled, update_at, probability, last_delay, granted_burst, is_calm_after, raw_step, tuning_divisor, tuned_step, decayed, next}

-- values of the constants: the greatest delay is 2 ^ 40 nanoseconds, the cap begins at 0.1, and the largest step is
-- 0.02
constants : (MAX_DELAY ≡ 2 ^ 40) × (ONE ≡ 10 ^ 12) × (CAPPED_FROM * 10 ≡ ONE) × (LARGEST_STEP ≡ pos (2 * 10 ^ 10))
constants = (refl, refl, refl, refl)

-- the divisors of auto-tuning, below and at each bound (RFC 8033, section 5.5)
divisors : (map (λ n. tuning_divisor (10 ^ n - 1)) (6 ∷ 7 ∷ 8 ∷ 9 ∷ 10 ∷ 11 ∷ 12 ∷ []) ≡ 2048 ∷ 512 ∷ 128 ∷ 32 ∷ 8 ∷ 2 ∷ 1 ∷ [])
    × (map (λ n. tuning_divisor (10 ^ n)) (6 ∷ 7 ∷ 8 ∷ 9 ∷ 10 ∷ 11 ∷ 12 ∷ []) ≡ 512 ∷ 128 ∷ 32 ∷ 8 ∷ 2 ∷ 1 ∷ 1 ∷ [])
unfolding tuning_divisor
divisors = (refl, refl)

delays : (delay_of 49152 14_000_000 16384 ≡ 42_000_000) × (delay_of 49152 0 16384 ≡ 0) × (delay_of (2 ^ 30) (2 ^ 59) 1024 ≡ 1_099_511_627_776)
unfolding delay_of
delays = (refl, refl, refl)

-- the next probability with the default elements; bindings/c/rows.c has rows for it
abbrev next_of : ℕ → ℕ → ℕ → ℕ
next_of prob delay old = next usual default_profile prob delay old

-- the next probability without the cap: the whole step, tuned by 1 and by 2
abbrev uncapped_next : ℕ → ℕ
uncapped_next prob = next (record usual { step = Uncapped }) default_profile prob 60_000_000 15_000_000

uncapped : map uncapped_next (100_000_000_000 ∷ 99_999_999_999 ∷ 990_000_000_000 ∷ []) ≡ 161_875_000_000 ∷ 130_937_499_999 ∷ 10 ^ 12 ∷ []
unfolding next raw_step tuning_divisor tuned_step decayed
uncapped = refl

-- the next probability with the decay below half the target. The step reduces a probability of 1 by 1.9 per cent, and
-- the decay by another 2 per cent, up to the last nanosecond below half the target. If either delay is half the target,
-- only the step applies
abbrev half_of : ℕ → ℕ → ℕ
half_of delay old = next (record usual { decay = Half }) default_profile (10 ^ 12) delay old

decays_below_half : (half_of 7_499_999 7_499_999 ≡ 979_081_249_877) × (half_of 7_500_000 7_499_999 ≡ 999_062_501_250)
    × (half_of 7_499_999 7_500_000 ≡ 999_062_498_625) × (half_of 0 0 ≡ next_of (10 ^ 12) 0 0)
unfolding next raw_step tuning_divisor tuned_step decayed
decays_below_half = (refl, refl, refl, refl)

-- an update under load
abbrev load : ℕ → ControlEvent
load moment = update_at default_profile usual 30_000_000 moment

-- a calm update, here with a smaller `max_burst`, refills the burst allowance
abbrev calm : ControlEvent
calm = update_at (record default_profile { max_burst = 40_000_000 }) usual 1_000_000 3

grants : (granted_burst default_profile (load 1 ∷ calm ∷ []) ≡ 150_000_000) × (granted_burst default_profile (calm ∷ load 1 ∷ []) ≡ 40_000_000)
unfolding granted_burst next raw_step tuning_divisor tuned_step decayed
grants = (refl, refl)

-- without a weight on the change of the delay, the probability stays 0 below the target, and an update is calm exactly
-- if both delays are below half the target
abbrev by_level : RawParams
by_level = record default_profile { beta = 0 }

calm_after : (is_calm_after [] by_level usual 7_499_999 ≡ true) × (is_calm_after [] by_level usual 7_500_000 ≡ false)
    × (is_calm_after (update_at by_level usual 7_500_000 1 ∷ []) by_level usual 0 ≡ false)
    × (is_calm_after (update_at by_level usual 7_499_999 1 ∷ idled 2 ∷ []) by_level usual 7_499_999 ≡ true)
    × (is_calm_after [] default_profile usual 7_499_999 ≡ false)
unfolding probability last_delay next raw_step tuning_divisor tuned_step decayed
calm_after = (refl, refl, refl, refl, refl)
