-- Facts about a byte queue's list and sum at an arrival and at a departure.
use Rattle.std.proofs.Common.{◌≡◌, ◌≤◌, ◌<◌, ◌+◌, ◌*◌, ◌^◌, ℕ, List, [], ◌∷◌, ◌++◌, length, drop, refl, arith, length-append, length-drop}
use Rattle.std.specs.Prelude.{All, slice_get, Some}
use Rattle.std.proofs.lemmas.List.Sums.{sum_by-cons, sum_by-le}
use Rattle.std.proofs.lemmas.List.Elements.{All-append, All-drop, All-cons, All-nil}
use Rattle.pie_queue.specs.declared.packet.Waiting.{Waiting}
use Rattle.pie_queue.specs.Queue.{IsQueue, HasSize, IsSize, bytes_of}

-- the sum fits in 36 bits
pub bytes_bound : (waiting : List Waiting) → length waiting ≤ 2 ^ 20 → All HasSize waiting → bytes_of waiting ≤ 65535 * 2 ^ 20
bytes_bound waiting few sizes =
    let sum = sum_by-le (λ (entry : Waiting). entry.packet.size) 65535 waiting (λ k d within. (sizes k d within).1) in
    omega (arith, sum)

-- the sum without the oldest packet
pub bytes-drop : (entries : List Waiting) (entry : Waiting) → slice_get entries 0 ≡ Some entry
    → bytes_of entries ≡ entry.packet.size + bytes_of (drop 1 entries)
bytes-drop [] entry first = cc
bytes-drop (e ∷ entries) entry first =
    let same : e ≡ entry = cc in rw (sum_by-cons (λ (w : Waiting). w.packet.size) e entries, same) refl

pub IsQueue-drop : (entries : List Waiting) (capacity : ℕ) → IsQueue (record { waiting = entries; capacity = capacity })
    → IsQueue (record { waiting = drop 1 entries; capacity = capacity })
IsQueue-drop entries capacity kept = record {
  ring = kept.ring;
  within = let fewer = length-drop 1 entries in let all = kept.within in omega (arith, fewer);
  sizes = All-drop HasSize 1 entries kept.sizes;
}
