-- The cause of the decision on an arrival that fits into the queue: the first case of the rules that holds, with the
-- numbers that it compares (RFC 8033, sections 4.1, 4.4, 5.1 and 5.4; the comparison with a random word of 64 bits is
-- this project's own).
use Rattle.std.specs.Prelude.{ℕ, ◌+◌, ◌*◌, ◌==◌, not, ◌&&◌, nat_lt, nat_le, if◌then◌else◌}
use Rattle.pie_params.specs.declared.raw.RawParams.{RawParams}
use Rattle.pie_params.specs.declared.elements.Elements.{Elements}
use Rattle.pie_params.specs.declared.elements.Picking.{Picking}
use Rattle.pie_params.specs.Params.{accumulates}
use Rattle.pie_control.specs.History.{ControlState}
use Rattle.pie_queue.specs.declared.ecn.Ecn.{Ecn}
use Rattle.pie_queue.specs.Queue.{is_capable}
use Rattle.pie_event.specs.declared.cause.Cause.{Cause}
use Rattle.pie_event.specs.declared.cause.Cause.TheVariants.{BurstAllowed, LowDelay, ShortQueue, NoProbability, LittleAccumulated, PickedBySum, PickedByWord, WordNotBelow}
use Rattle.pie_event.specs.declared.cause.Fate.{Fate}
use Rattle.pie_event.specs.declared.cause.Fate.TheVariants.{Marked, NotCapable, NotBelow}
use Rattle.pie_early.specs.declared.decision.Offered.{Offered}
use Rattle.pie_early.specs.Decision.{a_fifth, always_picked, effective_prob_of, is_below, no_pick_below}

-- the reason why a picked packet is marked or dropped
abbrev pub fate_of : RawParams → ℕ → Ecn → Fate
fate_of params prob ecn =
    if not (is_capable ecn) then NotCapable
    else if nat_lt prob params.mark_ecnth then Marked params.mark_ecnth
    else NotBelow params.mark_ecnth

-- the cause of the decision on a considered arrival, at this effective probability. At probability 0 nothing is picked.
-- If probabilities accumulate and the sum with this one is below 0.85 or at least 8.5, the sum decides. Otherwise the
-- random word decides
unfoldable pub considered_cause : Picking → ℕ → ℕ → Fate → ℕ → Cause
considered_cause picking prob accu fate word =
    if prob == 0 then NoProbability
    else if accumulates picking && nat_lt (accu + prob) no_pick_below then LittleAccumulated accu prob
    else if accumulates picking && nat_le always_picked (accu + prob) then PickedBySum accu prob fate
    else if is_below word prob then PickedByWord accu prob word fate
    else WordNotBelow accu prob word

-- the cause of the decision on an arrival that fits into the queue: three cases that are not considered, then the
-- considered ones
unfoldable pub early_cause : Elements → RawParams → ControlState → Offered → ℕ → Cause
early_cause elements params parts offered accu =
    if nat_lt 0 parts.burst then BurstAllowed parts.burst
    else if nat_lt (2 * parts.old_delay) params.target && nat_lt parts.prob a_fifth then LowDelay parts.old_delay params.target parts.prob
    else if nat_le offered.bytes (2 * params.mean_pkt) then ShortQueue offered.bytes params.mean_pkt
    else considered_cause elements.picking (effective_prob_of elements params parts offered) accu (fate_of params parts.prob offered.ecn) offered.word
