-- Examples of the definitions, worked out by hand.
use Rattle.std.proofs.Common.{◌≡◌, ◌*◌, ◌^◌, ◌∷◌, [], refl}
use Rattle.std.specs.Prelude.{true, false, Some, None, map}
use Rattle.pie_fixed.specs.declared.TheConstants.{ONE}
use Rattle.pie_params.specs.declared.raw.Field.TheVariants.{Target, TUpdate, DqThreshold}
use Rattle.pie_params.specs.Params.{default_profile, limit_for, profile_for, first_bad, is_dq_threshold}

-- `ONE`, the bound of the marking threshold, is the probability 1
one : ONE ≡ 10 ^ 12
one = refl

-- the defaults: target and t_update 15 ms, max_burst 150 ms, alpha 1/8 and beta 5/4 per second (RFC 8033, sections 4.2
-- and 4.4), sizes that are powers of two, and no mark from the probability 0.1 on (section 5.1)
defaults : (default_profile.target ≡ 15 * 10 ^ 6) × (default_profile.t_update ≡ 15 * 10 ^ 6) × (default_profile.max_burst ≡ 150 * 10 ^ 6)
    × (default_profile.alpha * 8 ≡ 1000) × (default_profile.beta * 4 ≡ 5 * 1000) × (default_profile.mean_pkt ≡ 2 ^ 10)
    × (default_profile.limit_bytes ≡ 2 ^ 18) × (default_profile.mark_ecnth * 10 ≡ ONE) × (default_profile.dq_threshold ≡ 2 ^ 14)
defaults = (refl, refl, refl, refl, refl, refl, refl, refl, refl)

-- the limits are 200 ms from 1 Mbit/s on; at 500 kbit/s, 25000 bytes are 400 ms
rates : (profile_for 0 ≡ default_profile) × (profile_for 1_000_000_001 ≡ record default_profile { limit_bytes = 25_000_001 })
    × (profile_for 500_000 ≡ record default_profile { limit_bytes = 25_000 }) × (limit_for 1 ≡ 25_000)
    × (limit_for 1_000_000 ≡ 25_000) × (limit_for 1_000_001 ≡ 25_001) × (limit_for (10 ^ 7) ≡ 250_000)
    × (profile_for (10 ^ 11) ≡ record default_profile { limit_bytes = 2 ^ 30 })
rates = (refl, refl, refl, refl, refl, refl, refl, refl)

-- the first bad field; of two, the one that is checked first
first_bads : map first_bad (default_profile ∷ record default_profile { target = 1 } ∷ record default_profile { dq_threshold = 3000 }
    ∷ record default_profile { target = 1; dq_threshold = 3000 } ∷ record default_profile { dq_threshold = 3000; t_update = 0 } ∷ [])
    ≡ None ∷ Some Target ∷ Some DqThreshold ∷ Some Target ∷ Some TUpdate ∷ []
first_bads = refl

powers : map is_dq_threshold (512 ∷ 1024 ∷ 65536 ∷ 131072 ∷ []) ≡ false ∷ true ∷ true ∷ false ∷ []
powers = refl
