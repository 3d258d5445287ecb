-- The model of a byte queue: the waiting packets, in order, and the capacity of the ring. The codepoints of the ECN
-- field.
use Rattle.std.specs.Prelude.{ℕ, List, ◌≤◌, ◌^◌, length, sum_by, All, Bool, true, false}
use Rattle.pie_queue.specs.declared.packet.Waiting.{Waiting}
use Rattle.pie_queue.specs.declared.ecn.Ecn.{Ecn}
use Rattle.pie_queue.specs.declared.ecn.Ecn.TheVariants.{NotEct, Ect1, Ect0, Ce}

-- the waiting packets, the oldest first, and the greatest number of packets
pub record Queue : Type 0 where
  pub waiting : List Waiting
  pub capacity : ℕ

-- the sum of the sizes of these packets
abbrev pub bytes_of : List Waiting → ℕ
bytes_of entries = sum_by (λ entry. entry.packet.size) entries

-- a size that a packet in a queue may have
abbrev pub IsSize : ℕ → Type 0
IsSize size = (1 ≤ size) × (size ≤ 65535)

-- holds if the waiting packet has such a size
abbrev pub HasSize : Waiting → Type 0
HasSize entry = IsSize entry.packet.size

-- the invariant of a byte queue: the packets are within the ring's capacity, and each has a permitted size
pub record IsQueue (queue : Queue) : Type 0 where
  pub ring : queue.capacity ≤ 2 ^ 20
  pub within : length queue.waiting ≤ queue.capacity
  pub sizes : All HasSize queue.waiting

-- ---- Codepoints of the ECN field (RFC 3168, section 5).

-- the two bits of a codepoint
abbrev pub bits_of : Ecn → ℕ
bits_of NotEct = 0
bits_of Ect1 = 1
bits_of Ect0 = 2
bits_of Ce = 3

-- true if the endpoints understand a mark, that is, not for Not-ECT
abbrev pub is_capable : Ecn → Bool
is_capable NotEct = false
is_capable Ect1 = true
is_capable Ect0 = true
is_capable Ce = true
