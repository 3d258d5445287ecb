-- Examples of the definitions, worked out by hand.
use Rattle.std.proofs.Common.{◌≡◌, ℕ, ◌+◌, ◌<◌, ◌^◌, refl, lit<, arith}
use Rattle.std.specs.Prelude.{pos, negsuc}
use Rattle.pie_fixed.specs.declared.TheConstants.{ALWAYS_PICKED, MAX_ACCU, MAX_GAIN, MAX_NANOS, ONE}
use Rattle.pie_fixed.specs.Fixed.{Picks, bounded_of}

-- values of the constants that clauses name: the probability 1; 1000 per second in thousandths; the latest moment; the
-- accumulated probabilities 8.5 and 9.5
one : ONE ≡ 10 ^ 12
one = refl

max_gain : MAX_GAIN ≡ 10 ^ 6
max_gain = refl

max_nanos : MAX_NANOS + 1 ≡ 2 ^ 60
max_nanos = refl

always_picked : ALWAYS_PICKED ≡ 8_500_000_000_000
always_picked = refl

max_accu : MAX_ACCU ≡ 9_500_000_000_000
max_accu = refl

-- at the probability 0.1 the words up to 1844674407370955161 pick
picked : Picks 100_000_000_000 1_844_674_407_370_955_161
picked = lit< tt

not_picked : Picks 100_000_000_000 1_844_674_407_370_955_162 → ⊥
not_picked h = omega arith

never_at_zero : (word : ℕ) → Picks 0 word → ⊥
never_at_zero word h = omega arith

always_at_one : (word : ℕ) → word < 2 ^ 64 → Picks 1_000_000_000_000 word
always_at_one word h = omega arith

bounds : (bounded_of (negsuc 0) ≡ 0) × (bounded_of (pos 50) ≡ 50) × (bounded_of (pos 1_000_000_000_001) ≡ 1_000_000_000_000)
bounds = (refl, refl, refl)
