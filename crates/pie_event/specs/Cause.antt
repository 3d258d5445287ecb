-- The answer to an arrival with a verdict, the names of causes, and the verdict of a cause.
use Rattle.std.specs.Prelude.{Bool, true, false, ℕ, List, [], ◌∷◌, codes}
use Rattle.pie_event.specs.declared.command.Answer.{Answer}
use Rattle.pie_event.specs.declared.command.Answer.TheVariants as answer
use Rattle.pie_event.specs.declared.command.Verdict.{Verdict}
use Rattle.pie_event.specs.declared.command.Verdict.TheVariants.{Enqueued, Marked, DroppedEarly, DroppedBytes, DroppedPackets}
use Rattle.pie_event.specs.declared.cause.Cause.{Cause}
use Rattle.pie_event.specs.declared.cause.Cause.TheVariants as cause
use Rattle.pie_event.specs.declared.cause.Fate.TheVariants as fate
use Rattle.pie_event.specs.declared.cause.CauseName.{CauseName}
use Rattle.pie_event.specs.declared.cause.CauseName.TheVariants.{NoRoomInBytes, NoRoomInPackets, Inactive, BurstAllowed, LowDelay, ShortQueue, NoProbability, LittleAccumulated, PickedBySumMarked, PickedBySumNotCapable, PickedBySumNotBelow, PickedByWordMarked, PickedByWordNotCapable, PickedByWordNotBelow, WordNotBelow}

-- ---- The verdict on an arriving packet, and the answer to its arrival.

-- true if the packet is queued
abbrev pub is_queued : Verdict → Bool
is_queued Enqueued = true
is_queued Marked = true
is_queued _ = false

-- the answer to an arrival with this verdict
abbrev pub answer_of : Verdict → Answer
answer_of Enqueued = answer.Enqueued
answer_of Marked = answer.Marked
answer_of DroppedEarly = answer.DroppedEarly
answer_of DroppedBytes = answer.DroppedBytes
answer_of DroppedPackets = answer.DroppedPackets

-- ---- Names of causes.

-- the name of a cause; for a picked packet it depends on the fate
abbrev pub name_of : Cause → CauseName
name_of (cause.NoRoomInBytes bytes size limit) = NoRoomInBytes
name_of (cause.NoRoomInPackets packets) = NoRoomInPackets
name_of cause.Inactive = Inactive
name_of (cause.BurstAllowed burst) = BurstAllowed
name_of (cause.LowDelay old_delay target prob) = LowDelay
name_of (cause.ShortQueue bytes mean_pkt) = ShortQueue
name_of cause.NoProbability = NoProbability
name_of (cause.LittleAccumulated accu prob) = LittleAccumulated
name_of (cause.PickedBySum accu prob (fate.Marked threshold)) = PickedBySumMarked
name_of (cause.PickedBySum accu prob fate.NotCapable) = PickedBySumNotCapable
name_of (cause.PickedBySum accu prob (fate.NotBelow threshold)) = PickedBySumNotBelow
name_of (cause.PickedByWord accu prob word (fate.Marked threshold)) = PickedByWordMarked
name_of (cause.PickedByWord accu prob word fate.NotCapable) = PickedByWordNotCapable
name_of (cause.PickedByWord accu prob word (fate.NotBelow threshold)) = PickedByWordNotBelow
name_of (cause.WordNotBelow accu prob word) = WordNotBelow

-- all names, in the order of the decision
abbrev pub cause_names : List CauseName
cause_names =
    NoRoomInBytes ∷ NoRoomInPackets ∷ Inactive ∷ BurstAllowed ∷ LowDelay ∷ ShortQueue ∷ NoProbability ∷ LittleAccumulated
    ∷ PickedBySumMarked ∷ PickedBySumNotCapable ∷ PickedBySumNotBelow ∷ PickedByWordMarked ∷ PickedByWordNotCapable ∷ PickedByWordNotBelow
    ∷ WordNotBelow ∷ []

-- the position of a name in `cause_names`
abbrev pub place_of_cause : CauseName → ℕ
place_of_cause NoRoomInBytes = 0
place_of_cause NoRoomInPackets = 1
place_of_cause Inactive = 2
place_of_cause BurstAllowed = 3
place_of_cause LowDelay = 4
place_of_cause ShortQueue = 5
place_of_cause NoProbability = 6
place_of_cause LittleAccumulated = 7
place_of_cause PickedBySumMarked = 8
place_of_cause PickedBySumNotCapable = 9
place_of_cause PickedBySumNotBelow = 10
place_of_cause PickedByWordMarked = 11
place_of_cause PickedByWordNotCapable = 12
place_of_cause PickedByWordNotBelow = 13
place_of_cause WordNotBelow = 14

-- the keyword of a name
unfoldable pub word_of_cause : CauseName → List ℕ
word_of_cause NoRoomInBytes = codes "no_room_in_bytes"
word_of_cause NoRoomInPackets = codes "no_room_in_packets"
word_of_cause Inactive = codes "inactive"
word_of_cause BurstAllowed = codes "burst_allowed"
word_of_cause LowDelay = codes "low_delay"
word_of_cause ShortQueue = codes "short_queue"
word_of_cause NoProbability = codes "no_probability"
word_of_cause LittleAccumulated = codes "little_accumulated"
word_of_cause PickedBySumMarked = codes "picked_by_sum"
word_of_cause PickedBySumNotCapable = codes "picked_by_sum_not_capable"
word_of_cause PickedBySumNotBelow = codes "picked_by_sum_not_below"
word_of_cause PickedByWordMarked = codes "picked_by_word"
word_of_cause PickedByWordNotCapable = codes "picked_by_word_not_capable"
word_of_cause PickedByWordNotBelow = codes "picked_by_word_not_below"
word_of_cause WordNotBelow = codes "word_not_below"

-- ---- The verdict on an arrival, from its cause.

-- the verdict of a cause with this name
abbrev pub verdict_named : CauseName → Verdict
verdict_named NoRoomInBytes = DroppedBytes
verdict_named NoRoomInPackets = DroppedPackets
verdict_named PickedBySumMarked = Marked
verdict_named PickedByWordMarked = Marked
verdict_named PickedBySumNotCapable = DroppedEarly
verdict_named PickedBySumNotBelow = DroppedEarly
verdict_named PickedByWordNotCapable = DroppedEarly
verdict_named PickedByWordNotBelow = DroppedEarly
verdict_named _ = Enqueued

-- the verdict of a cause
abbrev pub verdict_of : Cause → Verdict
verdict_of cause = verdict_named (name_of cause)
