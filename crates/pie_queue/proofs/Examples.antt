-- Examples of the definitions, worked out by hand: each theorem computes.
use Rattle.std.proofs.Common.{ℕ, ◌≡◌, ◌+◌, ◌*◌, ◌^◌, [], ◌∷◌, refl, arith}
use Rattle.pie_queue.specs.declared.ecn.Ecn.TheVariants.{NotEct}
use Rattle.pie_queue.specs.declared.packet.TheConstants.{MAX_SIZE}
use Rattle.pie_queue.specs.declared.packet.Waiting.{Waiting}
use Rattle.pie_queue.specs.Queue.{IsSize, bytes_of}

abbrev waiting : ℕ → Waiting
waiting size = record { packet = record { tag = 0; size = size; ecn = NotEct }; since = 7 }

-- no packet has 0 bytes in sum, and sizes are added
sums : (bytes_of [] ≡ 0) × (bytes_of (waiting 1500 ∷ []) ≡ 1500) × (bytes_of (waiting 100 ∷ waiting 65535 ∷ waiting 1 ∷ []) ≡ 65636)
sums = (refl, refl, refl)

-- sizes from 1 to 65535 are accepted, and no others
sizes : IsSize 1 × IsSize 65_535 × (IsSize 0 → ⊥) × (IsSize 65_536 → ⊥)
sizes = ((omega arith, omega arith), (omega arith, omega arith), λ taken. omega (arith, taken.0), λ taken. omega (arith, taken.1))

max_size : MAX_SIZE + 1 ≡ 2 ^ 16
max_size = refl

-- the greatest sum, of 2 ^ 20 packets of 65535 bytes, is below 2 ^ 36
greatest_sum : 65535 * 2 ^ 20 + 2 ^ 20 ≡ 2 ^ 36
greatest_sum = refl
