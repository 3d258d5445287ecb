-- The nine parameters: their names, defaults and ranges; and the optional elements of RFC 8033.
use Rattle.std.specs.Prelude.{Bool, true, false, ℕ, List, codes, ◌*◌, ◌^◌, ◌==◌, max, min, if◌then◌else◌, ◌+◌, ◌≤◌, ◌&&◌, ◌||◌, nat_le, not, IsTrue, Option, find, [], ◌∷◌}
use Rattle.pie_params.specs.declared.elements.Elements.{Elements}
use Rattle.pie_params.specs.declared.elements.Decay.TheVariants.{Zero}
use Rattle.pie_params.specs.declared.elements.Delay.TheVariants.{Rate}
use Rattle.pie_params.specs.declared.elements.Picking.{Picking}
use Rattle.pie_params.specs.declared.elements.Picking.TheVariants.{Derandomized, Random}
use Rattle.pie_params.specs.declared.elements.Step.{Step}
use Rattle.pie_params.specs.declared.elements.Step.TheVariants.{Capped, Uncapped}
use Rattle.pie_params.specs.declared.elements.Size.TheVariants.{Unscaled}
use Rattle.pie_params.specs.declared.raw.Field.{Field}
use Rattle.pie_params.specs.declared.raw.Field.TheVariants.{Target, TUpdate, MaxBurst, Alpha, Beta, MeanPkt, LimitBytes, MarkEcnth, DqThreshold}
use Rattle.std.specs.Int.{div_ceil}
use Rattle.pie_params.specs.declared.raw.RawParams.{RawParams}
use Rattle.pie_fixed.specs.declared.TheConstants.{ONE}
use Rattle.pie_params.specs.declared.checked.Params.TheInside.{Inside}

-- ---- Optional elements of RFC 8033, as choices (section 5).

-- the default choices
abbrev pub usual : Elements
usual = record { delay = Rate; picking = Derandomized; step = Capped; size = Unscaled; decay = Zero }

-- true if probabilities accumulate
abbrev pub accumulates : Picking → Bool
accumulates Derandomized = true
accumulates Random = false

-- true if a rise is capped
abbrev pub is_capped : Step → Bool
is_capped Capped = true
is_capped Uncapped = false

-- ---- Names of the parameters' fields.

-- the name of a field in `RawParams`, as bytes
abbrev pub field_name : Field → List ℕ
field_name Target = codes "target"
field_name TUpdate = codes "t_update"
field_name MaxBurst = codes "max_burst"
field_name Alpha = codes "alpha"
field_name Beta = codes "beta"
field_name MeanPkt = codes "mean_pkt"
field_name LimitBytes = codes "limit_bytes"
field_name MarkEcnth = codes "mark_ecnth"
field_name DqThreshold = codes "dq_threshold"

-- ---- Default parameters.

-- the defaults of RFC 8033 if it states one (sections 4.2 and 4.4), otherwise this project's own
abbrev pub default_profile : RawParams
default_profile = record {
  target = 15_000_000;
  t_update = 15_000_000;
  max_burst = 150_000_000;
  alpha = 125;
  beta = 1250;
  mean_pkt = 1024;
  limit_bytes = 262_144;
  mark_ecnth = 100_000_000_000;
  dq_threshold = 16384;
}

-- the limit of a queue for a link of `rate` bits per second, in bytes: 200 ms at this rate, at least 25000 bytes and at
-- most the greatest limit of its range; for rate 0, which is unknown, the default limit
abbrev pub limit_for : ℕ → ℕ
limit_for rate = if rate == 0 then default_profile.limit_bytes else min (max (div_ceil rate 40) 25_000) (2 ^ 30)

-- the defaults for a link of `rate` bits per second, with the limit for this rate
abbrev pub profile_for : ℕ → RawParams
profile_for rate = record default_profile { limit_bytes = limit_for rate }

-- ---- Ranges of the parameters, the first field out of its range, and the record of checked parameters.

-- a power of two from 1024 to 65536
abbrev pub is_dq_threshold : ℕ → Bool
is_dq_threshold n =
    (n == 2 ^ 10) || (n == 2 ^ 11) || (n == 2 ^ 12) || (n == 2 ^ 13) || (n == 2 ^ 14) || (n == 2 ^ 15) || (n == 2 ^ 16)

-- true if the field is in its range
abbrev pub is_in_range : RawParams → Field → Bool
is_in_range raw Target = nat_le 2 raw.target && nat_le raw.target (10 ^ 10)
is_in_range raw TUpdate = nat_le 1 raw.t_update && nat_le raw.t_update (10 ^ 10)
is_in_range raw MaxBurst = nat_le raw.max_burst (10 ^ 12)
is_in_range raw Alpha = nat_le raw.alpha (10 ^ 6)
is_in_range raw Beta = nat_le raw.beta (10 ^ 6)
is_in_range raw MeanPkt = nat_le 1 raw.mean_pkt && nat_le raw.mean_pkt 65535
is_in_range raw LimitBytes = nat_le 1 raw.limit_bytes && nat_le raw.limit_bytes (2 ^ 30)
is_in_range raw MarkEcnth = nat_le raw.mark_ecnth ONE
is_in_range raw DqThreshold = is_dq_threshold raw.dq_threshold

-- the fields, in the order of the checks
abbrev pub checked_fields : List Field
checked_fields = Target ∷ TUpdate ∷ MaxBurst ∷ Alpha ∷ Beta ∷ MeanPkt ∷ LimitBytes ∷ MarkEcnth ∷ DqThreshold ∷ []

-- the first field that is out of its range, in that order
abbrev pub first_bad : RawParams → Option Field
first_bad raw = find (λ field. not (is_in_range raw field)) checked_fields

-- parameters whose fields are each in range
pub record IsInRange (raw : RawParams) : Type 0 where
  pub target : (2 ≤ raw.target) × (raw.target ≤ 10 ^ 10)
  pub t_update : (1 ≤ raw.t_update) × (raw.t_update ≤ 10 ^ 10)
  pub max_burst : raw.max_burst ≤ 10 ^ 12
  pub alpha : raw.alpha ≤ 10 ^ 6
  pub beta : raw.beta ≤ 10 ^ 6
  pub mean_pkt : (1 ≤ raw.mean_pkt) × (raw.mean_pkt ≤ 65535)
  pub limit_bytes : (1 ≤ raw.limit_bytes) × (raw.limit_bytes ≤ 2 ^ 30)
  pub mark_ecnth : raw.mark_ecnth ≤ ONE
  pub dq_threshold : IsTrue (is_dq_threshold raw.dq_threshold)

-- the record that checked parameters represent
abbrev pub raw_params : Inside → RawParams
raw_params p = record {
  target = p.target;
  t_update = p.t_update;
  max_burst = p.max_burst;
  alpha = p.alpha;
  beta = p.beta;
  mean_pkt = p.mean_pkt;
  limit_bytes = p.limit_bytes;
  mark_ecnth = p.mark_ecnth;
  dq_threshold = p.below_threshold + 1;
}
