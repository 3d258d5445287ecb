-- The rules about the queue: a change of the limit, memory, flows and the timer's rounds.
use Rattle.std.specs.Prelude.{ℕ, ◌+◌, ◌-◌, ◌*◌, ◌/◌, ◌%◌, ◌^◌, Bool, ◌&&◌, ◌==◌, nat_lt, nat_le, if◌then◌else◌, min, Option, Some, None}
use Rattle.pie_linux.specs.Numbers.{sum_32}

-- the packets that a change of the limit drops from the front (pie_change, fq_pie_change)
abbrev pub excess : ℕ → ℕ → ℕ
excess length limit = length - limit

-- the packets of its own that such a change drops: the packets that the device returned are counted too, and dropped first
-- (qdisc_dequeue_internal)
abbrev pub own_excess : ℕ → ℕ → ℕ → ℕ
own_excess length returned limit = excess (sum_32 length returned) limit - returned

-- true if memory counts as exceeded before a packet of this true size. Nothing is dropped (fq_pie_qdisc_enqueue)
abbrev pub is_over_memory : ℕ → ℕ → ℕ → Bool
is_over_memory usage limit truesize = nat_lt (sum_32 limit truesize) usage

-- the flow that a packet's priority names: a class of the queue's handle, from 1 to the number of flows (fq_pie_classify)
abbrev pub named_flow : ℕ → ℕ → ℕ → Option ℕ
named_flow priority handle flows =
    if (priority / 2 ^ 16 * 2 ^ 16 == handle) && (nat_lt 0 (priority % 2 ^ 16) && nat_le (priority % 2 ^ 16) flows)
    then Some (priority % 2 ^ 16 - 1) else None

-- the flow of a hash (fq_pie_hash)
abbrev pub flow_of : ℕ → ℕ → ℕ
flow_of hash flows = hash * flows / 2 ^ 32

-- a flow's backlog after a packet was queued: a flow that waits in no list begins at 0, after the decision
-- (fq_pie_qdisc_enqueue)
abbrev pub flow_backlog : Bool → ℕ → ℕ → ℕ
flow_backlog listed backlog size = sum_32 (if listed then backlog else 0) size

-- the flows of a round of the timer from this one on: at most 2048 (fq_pie_timer)
abbrev pub round_of : ℕ → ℕ → ℕ
round_of flows cursor = min (flows - cursor) 2048

-- the first flow of the next round (fq_pie_timer)
abbrev pub next_cursor : ℕ → ℕ → ℕ
next_cursor flows cursor = if nat_lt (cursor + round_of flows cursor) flows then cursor + round_of flows cursor else 0
