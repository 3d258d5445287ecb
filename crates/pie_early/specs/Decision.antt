-- Decisions of early drop: the considered arrivals, the effective probability of each, the picked arrivals, and the
-- choice for a picked packet (RFC 8033, sections 4.1, 5.1 and 5.4; the comparison with a random word of 64 bits is this
-- project's own).
use Rattle.std.specs.Prelude.{◌≡◌, ℕ, ◌+◌, ◌*◌, ◌/◌, ◌^◌, ◌<◌, ◌≤◌, ◌⊎◌, Bool, true, false, not, ◌&&◌, ◌||◌, ◌==◌, nat_lt, nat_le, if◌then◌else◌, List, filter, sum_by}
use Rattle.pie_fixed.specs.Fixed.{Picks}
use Rattle.pie_params.specs.declared.raw.RawParams.{RawParams}
use Rattle.pie_params.specs.declared.elements.Elements.{Elements}
use Rattle.pie_params.specs.declared.elements.Picking.{Picking}
use Rattle.pie_params.specs.declared.elements.Picking.TheVariants.{Derandomized, Random}
use Rattle.pie_params.specs.declared.elements.Size.{Size}
use Rattle.pie_params.specs.declared.elements.Size.TheVariants.{Unscaled, Scaled}
use Rattle.pie_params.specs.Params.{accumulates}
use Rattle.pie_control.specs.History.{ControlState}
use Rattle.pie_queue.specs.declared.ecn.Ecn.{Ecn}
use Rattle.pie_queue.specs.Queue.{is_capable}
use Rattle.pie_early.specs.declared.decision.Offered.{Offered}
use Rattle.pie_early.specs.declared.early.Choice.{Choice}
use Rattle.pie_early.specs.declared.early.Choice.TheVariants.{Enqueue, Mark, Drop}
use Rattle.pie_event.specs.declared.command.Verdict.{Verdict}
use Rattle.pie_event.specs.declared.command.Verdict.TheVariants.{Enqueued, Marked, DroppedEarly}
use Rattle.std.specs.List.{after_last}

-- 0.2, 0.85 and 8.5, in units of 10^-12
abbrev pub a_fifth : ℕ
a_fifth = 200_000_000_000

abbrev pub no_pick_below : ℕ
no_pick_below = 850_000_000_000

abbrev pub always_picked : ℕ
always_picked = 8_500_000_000_000

-- true if an arrival is considered: the burst allowance is 0, the queue holds more than two packets of the mean size,
-- and the old delay is at least half the target or the probability at least 0.2
unfoldable pub is_considered : RawParams → ControlState → ℕ → Bool
is_considered params control bytes =
    (control.burst == 0) && nat_lt (2 * params.mean_pkt) bytes
    && not (nat_lt (2 * control.old_delay) params.target && nat_lt control.prob a_fifth)

-- the effective probability for a packet of this size: if sizes are scaled and the packet is smaller than the mean, in
-- proportion to its size, rounded down
abbrev pub effective_prob : Size → RawParams → ℕ → ℕ → ℕ
effective_prob Unscaled params size prob = prob
effective_prob Scaled params size prob = if nat_lt size params.mean_pkt then prob * size / params.mean_pkt else prob

-- true if the random word, as a fraction of 2^64, is below this probability
abbrev pub is_below : ℕ → ℕ → Bool
is_below word prob = nat_lt (word * 10 ^ 12) (prob * 2 ^ 64)

-- true if a considered arrival is picked, from its probability, the sum of that and the accumulated probability, and a
-- random word. At probability 0 it is not picked. If probabilities accumulate, it is not picked while the sum is below
-- 0.85 and always picked if the sum is at least 8.5. Otherwise the random word decides
unfoldable pub is_picked : Picking → ℕ → ℕ → ℕ → Bool
is_picked Derandomized prob sum word =
    not (prob == 0) && nat_le no_pick_below sum && (nat_le always_picked sum || is_below word prob)
is_picked Random prob sum word = not (prob == 0) && is_below word prob

-- the accumulated probability including this one
abbrev pub joined : Picking → ℕ → ℕ → ℕ
joined Derandomized accu prob = accu + prob
joined Random accu prob = accu

-- the choice for a picked packet: marked if its endpoints understand a mark and the probability is below the
-- parameter's, otherwise dropped
abbrev pub picked_choice : RawParams → ℕ → Ecn → Choice
picked_choice params prob ecn = if is_capable ecn && nat_lt prob params.mark_ecnth then Mark else Drop

-- the choice for an arrival that fits into the queue, at the effective probability `prob`. Whether a picked packet is
-- marked depends on the probability itself
abbrev pub choice_at : Picking → RawParams → ControlState → ℕ → ℕ → Ecn → ℕ → ℕ → Choice
choice_at picking params control prob bytes ecn word accu =
    if is_considered params control bytes && is_picked picking prob (accu + prob) word
    then picked_choice params control.prob ecn
    else Enqueue

-- the accumulated probability after such an arrival: unchanged if it is not considered; 0 if it is considered at
-- probability 0 or picked; otherwise it grows by the probability
abbrev pub accu_at : Picking → RawParams → ControlState → ℕ → ℕ → ℕ → ℕ → ℕ
accu_at picking params control prob bytes word accu =
    if not (is_considered params control bytes) then accu
    else if (prob == 0) || is_picked picking prob (accu + prob) word then 0
    else joined picking accu prob

-- the effective probability for this arrival
abbrev pub effective_prob_of : Elements → RawParams → ControlState → Offered → ℕ
effective_prob_of elements params control offered = effective_prob elements.size params offered.size control.prob

-- the choice for this arrival, and the accumulated probability after it
abbrev pub choice_of : Elements → RawParams → ControlState → Offered → ℕ → Choice
choice_of elements params control offered accu =
    choice_at elements.picking params control (effective_prob_of elements params control offered) offered.bytes offered.ecn offered.word accu

-- the accumulated probability after one more arrival (5.4)
abbrev pub accu_after : Elements → RawParams → ControlState → Offered → ℕ → ℕ
accu_after elements params control offered accu =
    accu_at elements.picking params control (effective_prob_of elements params control offered) offered.bytes offered.word accu

-- the conditions for a pick as facts: the arrival is considered and picked, at the effective probability `prob`
pub record IsPicked (picking : Picking) (params : RawParams) (control : ControlState) (prob bytes word accu : ℕ) : Type 0 where
  pub no_burst : control.burst ≡ 0
  pub above_two_packets : 2 * params.mean_pkt < bytes
  pub not_low_delay : (params.target ≤ 2 * control.old_delay) ⊎ (a_fifth ≤ control.prob)
  pub some_prob : 0 < prob
  pub enough : accumulates picking ≡ true → no_pick_below ≤ accu + prob
  pub by_sum_or_word : ((accumulates picking ≡ true) × (always_picked ≤ accu + prob)) ⊎ Picks prob word

-- true for the choice of a picked packet
abbrev pub is_pick : Choice → Bool
is_pick Enqueue = false
is_pick Mark = true
is_pick Drop = true

-- the verdict on an arrival with this choice
abbrev pub chosen : Choice → Verdict
chosen Enqueue = Enqueued
chosen Mark = Marked
chosen Drop = DroppedEarly

-- Inputs of an `Early`: arrivals and clears, in order.

-- an arrival that was not a tail drop: a flag that is true if it was considered, its effective probability, the method of
-- picking, and the choice
pub record Arrival : Type 0 where
  pub considered : Bool
  pub prob : ℕ
  pub picking : Picking
  pub choice : Choice

-- an arrival, or a clear from a tail drop or a reset
pub data EarlyEvent : Type 0 where
  arrived : Arrival → EarlyEvent
  cleared : EarlyEvent

-- an arrival: considered or not, with its effective probability, the picking and the choice
abbrev pub arrival : Bool → ℕ → Picking → Choice → EarlyEvent
arrival considered prob picking choice = arrived (record { considered = considered; prob = prob; picking = picking; choice = choice })

-- true for an event that clears the accumulated probability: a clear, a marked or dropped arrival, or an arrival that
-- is considered at probability 0
abbrev pub is_clearing : EarlyEvent → Bool
is_clearing cleared = true
is_clearing (arrived a) = is_pick a.choice || (a.considered && (a.prob == 0))

-- true for a considered arrival whose probability accumulates
abbrev pub joins : EarlyEvent → Bool
joins cleared = false
joins (arrived a) = a.considered && accumulates a.picking

-- the effective probability of an arrival
abbrev pub prob_of : EarlyEvent → ℕ
prob_of cleared = 0
prob_of (arrived a) = a.prob

-- The accumulated probability as a look-back over all inputs (RFC 8033, section 5.4).

-- the sum of the probabilities at the considered arrivals after the last clearing event, as far as they accumulate
unfoldable pub accumulated : List EarlyEvent → ℕ
accumulated events = sum_by prob_of (filter joins (after_last is_clearing events))

-- the abstraction relation: the accumulated probability after these events
abbrev pub Represents : List EarlyEvent → ℕ → Type 0
Represents events held = held ≡ accumulated events
