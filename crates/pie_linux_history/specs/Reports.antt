-- Reports about the rows of a text: the selected events of its decided steps, the selected packets that these decided, and the text about them.
use Rattle.std.specs.Prelude.{ℕ, ◌+◌, ◌≡◌, ◌++◌, ◌==◌, ◌&&◌, ◌||◌, ⊤, [], ◌∷◌, Bool, true, false, Option, Some, None, List, if◌then◌else◌, map, nat_lt, not, suc, zero}
use Rattle.std.specs.List.{cons_option, filter_map, sum_by}
use Rattle.std.specs.Io.KnownBytes.{Appends}
use Rattle.pie_linux.specs.Enqueue.{is_queued, one_if}
use Rattle.pie_linux.specs.declared.{cause.LinuxCause.LinuxCause, cause.LinuxCause.TheVariants.SumAbove, cause.LinuxCause.TheVariants.WordBelow, cause.Picked.Picked}
use Rattle.pie_linux.specs.declared.cause.Picked.TheVariants as picked
use Rattle.pie_explain.specs.Selection.{is_from, is_to, picks}
use Rattle.pie_explain.specs.declared.{choice.EventChoice.EventChoice, explanation.Explained.Explained, selection.Selection.Selection}
use Rattle.pie_explain.specs.declared.choice.EventChoice.TheVariants as choice
use Rattle.pie_linux_history.specs.declared.{decided.DecidedStep.DecidedStep, explained.DecidedPacket.DecidedPacket, explained.ExplainedPacket.ExplainedPacket, explained.Fate.Fate, explained.Fate.TheVariants.Arrival, reports.Beside.Beside}
use Rattle.pie_linux_history.specs.declared.reports.Beside.TheVariants as beside
use Rattle.pie_linux_history.specs.{Decided.decided_in, Decided.decided_of, Decided.dropped_in, Decided.for_each, Decided.number_of, Decided.plain, Event.explained_of, Event.tag_of, LookBack.Entry}

-- a text of which `says` holds was appended to the output
pub record Writes (says : List ℕ → Type 0) (before now : Option (List ℕ)) : Type 0 where
  pub text : List ℕ
  pub says_it : says text
  pub written : Appends before now text

-- ---- events

-- the explanation, if its event is selected. A step has no wall-clock time
abbrev pub if_picked : Selection → Option Explained → Option Explained
if_picked selection None = None
if_picked selection (Some one) =
    if picks selection one.explanation.number one.explanation.moment None one.explanation.event then Some one else None

abbrev pub selected : Selection → DecidedStep → Option Explained
selected selection one = if_picked selection (explained_of one)

-- the explanations of the selected steps, in order
unfoldable pub all_selected : Selection → List DecidedStep → List Explained
all_selected selection steps = filter_map (selected selection) steps

-- ---- packets

abbrev pub is_marked_by : Picked → Bool
is_marked_by picked.Marked = true
is_marked_by _ = false

abbrev pub is_marked : LinuxCause → Bool
is_marked (SumAbove picked) = is_marked_by picked
is_marked (WordBelow picked) = is_marked_by picked
is_marked _ = false

-- true if a packet with this fate is chosen. Only an arrival has a tag and a mark, and each packet that no arrival decided is lost
abbrev pub chooses_packet : EventChoice → Fate → DecidedStep → Bool
chooses_packet choice.All fate one = true
chooses_packet (choice.After first) fate one = nat_lt first one.event
chooses_packet (choice.Number event) fate one = event == one.event
chooses_packet (choice.Tag tag) (Arrival cause) one = tag == tag_of one
chooses_packet choice.Marked (Arrival cause) one = is_marked cause
chooses_packet choice.Lost (Arrival cause) one = not (is_queued cause)
chooses_packet choice.Lost fate one = true
chooses_packet _ fate one = false

abbrev pub selects : Selection → DecidedStep → DecidedPacket → Bool
selects selection one packet =
    chooses_packet selection.which packet.fate one && (is_from selection.from one.moment None && is_to selection.to one.moment None)

abbrev pub explained_packet : DecidedStep → DecidedPacket → ExplainedPacket
explained_packet one packet = record {
  event = one.event;
  queue = one.queue;
  step = one.step.number;
  moment = one.step.moment;
  flow = one.step.flow;
  packet = packet;
}

abbrev pub packet_if : Selection → DecidedStep → DecidedPacket → Option ExplainedPacket
packet_if selection one packet = if selects selection one packet then Some (explained_packet one packet) else None

-- the selected packets of a decided step: those that waited and were dropped, in order, and the one that arrived
abbrev pub packets_by : Selection → Option DecidedStep → List DecidedPacket → List ExplainedPacket
packets_by selection None dropped = []
packets_by selection (Some one) dropped = filter_map (packet_if selection one) (dropped ++ cons_option one.arrival [])

abbrev pub packets_in : Selection → List Entry → Entry → List ExplainedPacket
packets_in selection entries entry = packets_by selection (decided_in entries entry) (dropped_in entries entry)

-- the selected packets of the decided steps of rows, in order
abbrev pub packets_of : Selection → List Entry → List ExplainedPacket
packets_of selection entries = for_each (packets_in selection) [] entries

-- a text for each element, one after another
unfoldable pub IsTexts : {A : Type 0} → (A → List ℕ → Type 0) → List A → List ℕ → Type 0
IsTexts is [] text = text ≡ []
IsTexts is (one ∷ rest) text = (first : List ℕ) × (more : List ℕ) × is one first × IsTexts is rest more × (text ≡ first ++ more)

-- these packets were explained
pub record ReportsThese (is : ExplainedPacket → List ℕ → Type 0) (packets : List ExplainedPacket) (count : ℕ) (text : List ℕ) : Type 0 where
  pub says : IsTexts is packets text
  pub counted : count ≡ number_of packets

-- the selected packets of rows were explained
abbrev pub ReportsPackets : (ExplainedPacket → List ℕ → Type 0) → Selection → ℕ → List Entry → List ℕ → Type 0
ReportsPackets is selection count entries text = ReportsThese is (packets_of selection entries) count text

-- ---- events with texts beside them

-- true for an arrival that was dropped or marked
abbrev pub is_lost_or_marked : Fate → Bool
is_lost_or_marked (Arrival cause) = is_marked cause || not (is_queued cause)
is_lost_or_marked _ = false

-- the number of texts beside the event of a selected step with this arrival
abbrev pub texts_beside : Beside → Option DecidedPacket → ℕ
texts_beside beside.Queue arrival = 1
texts_beside beside.Packets (Some packet) = one_if (is_lost_or_marked packet.fate)
texts_beside _ _ = 0

abbrev pub texts_if : Beside → DecidedStep → Option Explained → ℕ
texts_if beside one None = 0
texts_if beside one (Some explained) = texts_beside beside one.arrival

abbrev pub texts_of : Beside → Selection → DecidedStep → ℕ
texts_of beside selection one = texts_if beside one (selected selection one)

-- their number before the first event: the name of the column of the queue
abbrev pub texts_before : Beside → ℕ
texts_before beside.Queue = 1
texts_before _ = 0

unfoldable pub all_texts : Beside → Selection → List DecidedStep → ℕ
all_texts beside selection steps = texts_before beside + sum_by (texts_of beside selection) steps

-- a text with this number of texts within it
unfoldable pub IsWoven : ℕ → List ℕ → List ℕ → Type 0
IsWoven zero plain text = text ≡ plain
IsWoven (suc count) plain text = (first : List ℕ) × (words : List ℕ) × (more_plain : List ℕ) × (more : List ℕ)
    × IsWoven count more_plain more × (plain ≡ first ++ more_plain) × (text ≡ first ++ (words ++ more))

-- the text of a report of these events, with the texts beside them
pub record SaysEvents (says : List Explained → List ℕ → Type 0) (beside : Beside) (selection : Selection) (steps : List DecidedStep) (text : List ℕ) : Type 0 where
  pub plain : List ℕ
  pub says_it : says (all_selected selection steps) plain
  pub woven : IsWoven (all_texts beside selection steps) plain text

-- a report received the selected events of the decided steps of these rows, and this is its text so far
pub record ReportsEvents (shows : List Explained → Type 0) (says : List Explained → List ℕ → Type 0) (beside : Beside) (selection : Selection) (count : ℕ) (entries : List Entry) (text : List ℕ) : Type 0 where
  pub steps : List DecidedStep
  pub are : map plain steps ≡ decided_of entries
  pub shown : shows (all_selected selection steps)
  pub text_is : SaysEvents says beside selection steps text
  pub counted : count ≡ number_of (all_selected selection steps)

-- this is the whole text of a report that received `count` selected events of the decided steps of these rows, with the texts beside them
abbrev pub IsReport : (List Explained → List ℕ → Type 0) → Beside → Selection → ℕ → List Entry → List ℕ → Type 0
IsReport whole beside selection count entries text = ReportsEvents (λ all. ⊤) whole beside selection count entries text
