-- Bounds of products.
use Rattle.std.proofs.Common.{ℕ, ◌≤◌, ◌*◌, ◌/◌, arith}
use Rattle.std.proofs.lemmas.Nat.{mul-le, div-add-mod'}

-- a packet of at most one MTU has at most the probability
pub own_below : (size prob mtu : ℕ) → size ≤ mtu → size * (prob / mtu) ≤ prob
own_below size prob mtu small = omega (arith, mul-le size (prob / mtu) mtu (prob / mtu) small (omega arith), div-add-mod' prob mtu)
