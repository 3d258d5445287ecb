-- The decision on an arriving packet (pie_qdisc_enqueue, fq_pie_qdisc_enqueue): early drop, marks, and the counters.
use Rattle.std.specs.Prelude.{ℕ, ◌*◌, ◌/◌, ◌%◌, ◌^◌, Bool, true, false, not, ◌&&◌, ◌||◌, ◌==◌, nat_lt, nat_le, if◌then◌else◌, min, max}
use Rattle.pie_linux.specs.Numbers.{one, sum_32, sum_64, product_64}
use Rattle.pie_linux.specs.declared.params.LinuxParams.{LinuxParams}
use Rattle.pie_linux.specs.declared.params.MarkLimit.{MarkLimit}
use Rattle.pie_linux.specs.declared.params.MarkLimit.TheVariants.{Tenth, Percent}
use Rattle.pie_linux.specs.declared.state.LinuxState.{LinuxState}
use Rattle.pie_linux.specs.declared.arrival.LinuxArrival.{LinuxArrival}
use Rattle.pie_linux.specs.declared.stats.LinuxStats.{LinuxStats}
use Rattle.pie_linux.specs.declared.cause.LinuxCause.{LinuxCause}
use Rattle.pie_linux.specs.declared.cause.LinuxCause.TheVariants.{OverLimit, BurstTime, LowDelay, ShortQueue, SumBelow, SumAbove, WordBelow, WordNotBelow}
use Rattle.pie_linux.specs.declared.cause.Picked.{Picked}
use Rattle.pie_linux.specs.declared.cause.Picked.TheVariants.{EcnOff, HighProbability, NotCapable, Marked}

-- ---- early drop (pie_drop_early)

-- the device's MTU with the link header, at least 1 and at most 2^20
abbrev pub mtu_of : ℕ → ℕ
mtu_of mtu = max 1 (min mtu (2 ^ 20))

-- true while delay and probability are low: the delay is below half the target and the probability below 0.2
abbrev pub is_low : LinuxParams → LinuxState → Bool
is_low params state = nat_lt state.qdelay (params.target / 2) && nat_lt state.prob (one / 5)

-- the packet's own probability: with `bytemode`, for at most one MTU, in proportion to its length; the quotient comes
-- first
abbrev pub own_prob : LinuxParams → ℕ → ℕ → ℕ → ℕ
own_prob params prob mtu size =
    if params.bytemode && nat_le size (mtu_of mtu) then size * (prob / mtu_of mtu) else prob

-- the accumulated probability with the packet's own; 0 if its own is 0
abbrev pub accumulated : ℕ → ℕ → ℕ
accumulated accu own = if own == 0 then 0 else sum_64 accu own

-- the cause of a decision by the accumulated probability `sum` and the random word, of which the upper 56 bits count
abbrev pub summed_cause : ℕ → ℕ → ℕ → Picked → LinuxCause
summed_cause own sum word picked =
    if nat_lt sum (one / 100 * 85) then SumBelow
    else if nat_le (one / 2 * 17) sum then SumAbove picked
    else if nat_lt (word / 256) own then WordBelow picked
    else WordNotBelow

-- the packet's own probability, and the accumulated one with it
abbrev pub own_of : LinuxParams → LinuxState → LinuxArrival → ℕ
own_of params state arrival = own_prob params state.prob arrival.mtu arrival.size

abbrev pub sum_of : LinuxParams → LinuxState → LinuxArrival → ℕ
sum_of params state arrival = accumulated state.accu_prob (own_of params state arrival)

-- the cause of the decision on a packet that the limit admits
unfoldable pub early_cause : LinuxParams → LinuxState → LinuxArrival → Picked → LinuxCause
early_cause params state arrival picked =
    if nat_lt 0 state.burst_time then BurstTime
    else if is_low params state then LowDelay
    else if nat_lt arrival.backlog (2 * mtu_of arrival.mtu) then ShortQueue
    else summed_cause (own_of params state arrival) (sum_of params state arrival) arrival.word picked

-- ---- marks in place of drops

-- the greatest probability at which packets are marked: 0.1 (pie_qdisc_enqueue), or fq_pie's `ecn_prob` per cent
-- (fq_pie_qdisc_enqueue)
abbrev pub marked_up_to : MarkLimit → ℕ
marked_up_to Tenth = one / 10
marked_up_to (Percent percent) = product_64 (one / 100) percent

-- true for pie's limit, false for fq_pie's
abbrev pub is_pie : MarkLimit → Bool
is_pie Tenth = true
is_pie (Percent _) = false

-- true if a packet can be marked, from the protocol behind its VLAN tags, the first two bytes of its network header, and a
-- flag that is true if its first part contains the header. CE already set counts as a mark (INET_ECN_set_ce)
abbrev pub is_markable : ℕ → ℕ → Bool → Bool
is_markable protocol header contained =
    if not contained then false
    else if protocol == 0x0800 then not (header % 4 == 0)
    else if protocol == 0x86dd then not (header / 16 % 4 == 0)
    else false

-- true for the types of VLAN tags, 802.1Q and 802.1ad (eth_type_vlan)
abbrev pub is_tag : ℕ → Bool
is_tag protocol = (protocol == 0x8100) || (protocol == 0x88a8)

-- ---- the decision

-- the fate of a picked packet: marked if `ecn` is on, the probability at most the limit for marks, and the packet
-- markable; otherwise dropped, with the first of the three reasons
abbrev pub fate_of : LinuxParams → LinuxState → LinuxArrival → Picked
fate_of params state arrival =
    if not params.ecn then EcnOff
    else if nat_lt (marked_up_to params.marks) state.prob then HighProbability
    else if not arrival.markable then NotCapable
    else Marked

-- the cause of the decision. The limit comes first, in packets
unfoldable pub enqueue_cause : LinuxParams → LinuxState → LinuxArrival → LinuxCause
enqueue_cause params state arrival =
    if nat_le params.limit arrival.length then OverLimit
    else early_cause params state arrival (fate_of params state arrival)

-- true for the fate of a marked packet
abbrev pub is_mark : Picked → Bool
is_mark Marked = true
is_mark _ = false

-- true if the packet is marked
abbrev pub is_marked : LinuxCause → Bool
is_marked (SumAbove picked) = is_mark picked
is_marked (WordBelow picked) = is_mark picked
is_marked _ = false

-- true if the packet is queued, marked or not
abbrev pub is_queued : LinuxCause → Bool
is_queued (SumAbove picked) = is_mark picked
is_queued (WordBelow picked) = is_mark picked
is_queued OverLimit = false
is_queued _ = true

-- true if the decision drew a random word
abbrev pub draws : LinuxCause → Bool
draws (WordBelow _) = true
draws WordNotBelow = true
draws _ = false

-- the accumulated probability after a decision with this cause, from the one before it and the sum: 0 after a drop and
-- after a pick by the word, unchanged after the three early returns, otherwise the sum, also after a mark by the sum
abbrev pub accu_after : LinuxCause → ℕ → ℕ → ℕ
accu_after OverLimit accu sum = 0
accu_after BurstTime accu sum = accu
accu_after LowDelay accu sum = accu
accu_after ShortQueue accu sum = accu
accu_after SumBelow accu sum = sum
accu_after (SumAbove picked) accu sum = if is_mark picked then sum else 0
accu_after (WordBelow _) accu sum = 0
accu_after WordNotBelow accu sum = sum

-- the state after a decision
abbrev pub enqueued : LinuxParams → LinuxState → LinuxArrival → LinuxState
enqueued params state arrival =
    record state { accu_prob = accu_after (enqueue_cause params state arrival) state.accu_prob (sum_of params state arrival) }

-- true if the limit dropped the packet
abbrev pub is_over_limit : LinuxCause → Bool
is_over_limit OverLimit = true
is_over_limit _ = false

-- 1 for true
abbrev pub one_if : Bool → ℕ
one_if b = if b then 1 else 0

-- the greatest length after an arrival at this length, if it counts
abbrev pub greatest : Bool → ℕ → ℕ → ℕ
greatest keeps maxq length = if keeps then max maxq length else maxq

-- the counters after a decision with this cause at a queue of `length` packets. Only pie keeps the greatest length
abbrev pub counted : MarkLimit → LinuxStats → LinuxCause → ℕ → LinuxStats
counted marks stats cause length = record {
  packets_in = sum_32 stats.packets_in (one_if (is_queued cause));
  dropped = sum_32 stats.dropped (one_if (not (is_queued cause)));
  overlimit = sum_32 stats.overlimit (one_if (is_over_limit cause));
  ecn_mark = sum_32 stats.ecn_mark (one_if (is_marked cause));
  maxq = greatest (is_queued cause && is_pie marks) stats.maxq length;
}
