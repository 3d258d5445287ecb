-- The result of an explanation: as the audit's, or an error if no event was explained.
use Rattle.std.specs.Prelude.{◌≡◌, ◌==◌, ◌≤◌, nat_le, ◌&&◌, ◌++◌, Ok, if◌then◌else◌}
use Rattle.pie_explain.specs.Names.{ℕ, nat_lt, List, length, Bool, true, false, Option, Some, None, Result, Err, Appends, append_known, TraceFault, Line, Finding, AuditsFrom, AuditorView, count_after, Explained, Setter, Selection, is_whole, Start, Origin}
use Rattle.pie_record.specs.{Field.is_io_or_memory, Text.Row}
use Rattle.pie_audit.specs.declared.{auditor.Finding.TheVariants.Clean, replay.Replay.Replay}
use Rattle.pie_audit.specs.{Replay.Replays, Replay.finding_from, Beginnings.TextProcessedBy}
use Rattle.pie_explain.specs.declared.{fault.ExplainFault.ExplainFault, fault.ExplainFault.TheVariants.Trace, fault.ExplainFault.TheVariants.Differs, fault.ExplainFault.TheVariants.Earlier, fault.ExplainFault.TheVariants.NoEvent, fault.ExplainFault.TheVariants.NoTag, fault.ExplainFault.TheVariants.NoneWithin, choice.EventChoice.EventChoice, choice.EventChoice.TheVariants.Number, choice.EventChoice.TheVariants.Tag, choice.EventChoice.TheVariants.Lost, choice.EventChoice.TheVariants.Marked, choice.EventChoice.TheVariants.All, choice.EventChoice.TheVariants.After}
use Rattle.pie_explain.specs.Explanations.{explanations_since}
use Rattle.pie_audit.specs.declared.auditor.Finding.TheVariants as finding

-- the error for an event that is not in the text. `before` is the number of events before the text, and `events`
-- the number up to its end
abbrev pub no_event : ℕ → ℕ → ℕ → ExplainFault
no_event before event events = if nat_lt 0 event && nat_le event before then Earlier event before else NoEvent event events

-- the result if no event was explained, by the selection (`whole` if it has no bounds), the number of events before
-- the text, and the number up to its end
abbrev pub none_picked : Bool → EventChoice → ℕ → ℕ → Result ℕ ExplainFault
none_picked true (Number event) before events = Err (no_event before event events)
none_picked true (Tag tag) before events = Err (NoTag tag)
none_picked false (Number event) before events = Err NoneWithin
none_picked false (Tag tag) before events = Err NoneWithin
none_picked whole Lost before events = Ok 0
none_picked whole Marked before events = Ok 0
none_picked whole All before events = Ok 0
none_picked whole (After first) before events = Ok 0

-- the result by the number of events before the text, the number of explained events, and the finding of the audit
abbrev pub answered : Selection → ℕ → ℕ → Finding → Result ℕ ExplainFault
answered selection before explained (finding.Differs event) = Err (Differs event)
answered selection before explained (Clean events) = if explained == 0 then none_picked (is_whole selection) selection.which before events else Ok explained

-- the result for a fault
abbrev pub traced : TraceFault → Result ℕ ExplainFault
traced why = Err (Trace why)

-- the result for these lines after `origin` and the fault after them. `start` gives the number of events before the
-- text
abbrev pub answer_since : Selection → Start → Origin → List Line → Option TraceFault → Result ℕ ExplainFault
answer_since selection start origin lines (Some why) = Err (Trace why)
answer_since selection start origin lines None =
    answered selection start.events (length (explanations_since start origin selection lines)) (finding_from origin lines)

-- the result agrees with the audit of the text: with its fault, or its first difference, or it is clean
abbrev pub IsAsAudited : Result Finding TraceFault → Result ℕ ExplainFault → Type 0
IsAsAudited audited (Err (Trace why)) = is_io_or_memory why ≡ false → audited ≡ Err why
IsAsAudited audited (Err (Differs event)) = audited ≡ Ok (finding.Differs event)
IsAsAudited audited (Err (NoEvent event events)) = audited ≡ Ok (Clean events)
IsAsAudited audited other = (events : ℕ) × (audited ≡ Ok (Clean events))

-- ---- the state of an explanation

-- the state after these lines: the report received the explanations of the chosen events after `start`, a text of them
-- was appended to the output, and they were counted
pub record Explains (start : Start) (origin : Origin) (selection : Selection) (tale : List Explained → List ℕ → Type 0)
    (shows : List Explained → Type 0) (lines : List Line) (auditor : AuditorView) (set_by : Setter) (explained : ℕ) (before now : Option (List ℕ))
    : Type 0 where
  pub follows : Replays start origin lines auditor set_by
  pub counted : explained ≡ length (explanations_since start origin selection lines)
  pub few : explained ≤ count_after origin lines
  pub shown : shows (explanations_since start origin selection lines)
  pub text : List ℕ
  pub says : tale (explanations_since start origin selection lines) text
  pub written : Appends before now text

-- the state after these lines: of a replay, the number of explained events, and the page, of which the writer's contents
-- grew from `before` to `now`
abbrev pub IsExplaining : Selection → (List Explained → List ℕ → Type 0) → (List Explained → Type 0) → Start → Origin → List Line → Replay → ℕ → List ℕ
    → Option (List ℕ) → Option (List ℕ) → Type 0
IsExplaining selection tale shows start origin lines replay explained page before now = (start.events ≡ replay.before)
    × Explains start origin selection tale shows lines replay.auditor replay.set_by explained before (append_known now page)

-- more lines were explained: if the old state is that after some lines, the new one is that after them and these lines
pub record ExplainsMore (selection : Selection) (tale : List Explained → List ℕ → Type 0) (showed shows : List Explained → Type 0)
    (was replay : Replay) (counted explained : ℕ) (old_page page : List ℕ) (old out : Option (List ℕ)) (more : List Line) : Type 0 where
  pub explains : (start : Start) (origin : Origin) (first : List Line) (before : Option (List ℕ))
      → IsExplaining selection tale showed start origin first was counted old_page before old
      → IsExplaining selection tale shows start origin (first ++ more) replay explained page before out

-- the output: a whole text for the chosen events of the text
abbrev pub IsExplanationText : Selection → (List Explained → List ℕ → Type 0) → Start → Origin → List Line → List ℕ → Type 0
IsExplanationText selection whole start origin lines text = whole (explanations_since start origin selection lines) text

-- all lines were read, and the explained events were counted
abbrev pub HasExplained : Selection → Start → Origin → List Line → Replay → ℕ → Type 0
HasExplained selection start origin lines replay explained = (start.events ≡ replay.before) × AuditsFrom origin replay.auditor lines
    × (explained ≡ length (explanations_since start origin selection lines))

-- the result is the first fault of the text's beginning. Otherwise result and explanations are those of the beginning's
-- core for the lines, whatever numbers it has. If the text names the event that set the probability correctly, they are
-- those of every history that the text continues, restricted to the events of the text
abbrev pub ExplainsText : Selection → (List Explained → List ℕ → Type 0) → List Row → Result ℕ ExplainFault → Option (List ℕ) → Option (List ℕ) → Type 0
ExplainsText selection whole rows result old now =
    TextProcessedBy (λ why. Err (Trace why)) (answer_since selection) (IsExplanationText selection whole) rows result old now
