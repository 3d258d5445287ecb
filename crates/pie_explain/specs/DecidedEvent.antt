-- The decision of the rules at the place of an event, whatever a text records there.
use Rattle.std.specs.Prelude.{ℕ, Bool, true, false, List, [], Option, Some, None, Result, Ok, Err, map, ◌≡◌, ◌+◌, ◌<◌, ◌∷◌, ◌++◌}
use Rattle.pie_audit.specs.{Replay.AuditorView, Replay.difference_from, Replay.finding_from, Replay.events_of, Replay.Origin, Replay.at_core, Replay.at_opening, Replay.count_after, Replay.Replays, Replay.setter_in, Replay.Start, Replay.setter_from_start, Replay.start_after, Replay.start_at, Beginnings.BeginsBy, Text.BeginsAtCore, Text.finding_at, Text.text_fault, Text.text_lines}
use Rattle.pie_audit.specs.declared.{auditor.Finding.Finding, auditor.Finding.TheVariants.Clean, auditor.Finding.TheVariants.Differs}
use Rattle.pie_book.specs.{Core.CoreView, Core.answer_in, Core.core_along, Decision.decision, Decision.refusal_by_rule, Decision.wait_of, Book.refused_or, Book.step_in}
use Rattle.pie_event.specs.Event.{effect}
use Rattle.pie_event.specs.declared.{command.Answer.Answer, command.Command.Command, command.Event.Event, opening.Opening.Opening, refusal.Refusal.Refusal, command.Setter.Setter}
use Rattle.pie_excerpt.specs.Beginning.{Beginning, beginning_of}
use Rattle.pie_record.specs.{Field.is_io_or_memory, HistoryLines.RemainingLines, HistoryLines.is_event, HistoryLines.latest_clock, Text.Row}
use Rattle.pie_record.specs.declared.{clock.Clock.Clock, fault.TraceFault.TraceFault, history_record.Line.Line, history_record.Line.TheVariants.Valid}
use Rattle.pie_explain.specs.Explanation.{ended_after, explanation_after}
use Rattle.pie_explain.specs.declared.{decided_event.DecidedEvent.DecidedEvent, decided_event.EventDecision.EventDecision, decided_event.EventDecision.TheVariants.Answered, decided_event.EventDecision.TheVariants.OutOfRange, decided_event.EventDecision.TheVariants.Refused}

-- the result of the rules for a command after these events: its refusal, otherwise its answer
abbrev pub result_after : Origin → List Event → Command → Result Answer Refusal
result_after (at_opening opening) events command = refused_or (refusal_by_rule opening events command) (decision opening events command)
result_after (at_core opening core set_by) events command = step_in (core_along core events) command

-- an event with this answer in place of its own
abbrev pub with_answer : Event → Answer → Event
with_answer event answer = record event { answer = answer }

-- the decision on an event with this number after these events, by the result of the rules for its command
abbrev pub decision_by : Origin → List Event → ℕ → Event → Setter → Option Clock → Result Answer Refusal → EventDecision
decision_by origin events number event set_by clock (Ok answer) =
    Answered (ended_after origin (events ++ with_answer event answer ∷ [])
    (explanation_after origin events number (with_answer event answer) set_by clock))
decision_by origin events number event set_by clock (Err why) = Refused why

-- the time in the queue of the packet that departs at this effective moment, if a core decides this command
abbrev pub wait_if_decided : CoreView → Command → ℕ → ℕ
wait_if_decided core command now = wait_of (effect command (answer_in core command)) now core.waiting

-- the decision on the event of a line after these lines. `start` gives the knowledge of the text about the event that
-- set the probability
abbrev pub decision_at : Start → Origin → List Line → Line → EventDecision
decision_at start origin before (Valid event) =
    decision_by origin (events_of before) (count_after origin before + 1) event (setter_from_start start (setter_in origin before)) (latest_clock before)
    (result_after origin (events_of before) event.command)
decision_at start origin before _ = OutOfRange

-- the event of these lines that has this number, if no event before it differs, and the decision of the rules at its
-- place
pub record IsDecided (start : Start) (origin : Origin) (lines : List Line) (number : ℕ) (decided : DecidedEvent) : Type 0 where
  pub before : List Line
  pub later : List Line
  pub split : lines ≡ before ++ decided.recorded ∷ later
  pub event : is_event decided.recorded ≡ true
  pub agree : difference_from origin before ≡ None
  pub counted : number ≡ count_after origin before + 1
  pub decision : decided.decision ≡ decision_at start origin before decided.recorded

-- the last event that is decided again: the first that differs, otherwise the last one
abbrev pub last_decided : Finding → ℕ
last_decided (Clean events) = events
last_decided (Differs event) = event

-- an event with this number is none of those that are decided again in these lines: if it comes after the lines `first`,
-- the last of those comes before it
abbrev pub IsPast : Origin → List Line → List Line → ℕ → Type 0
IsPast origin first lines number =
    difference_from origin first ≡ None → count_after origin first < number → last_decided (finding_from origin lines) < number

-- the result of `decide_event`, unless the reader or memory failed. An event: the beginning has no fault, and the decision
-- is the one by the core of the beginning, whatever its numbers are, and by every history that the text continues. No
-- event: the text has no fault, the audit does not find that the event with this number differs, and the event comes
-- before the text, after its last event, or after the first event that differs. Otherwise the first fault of the text
abbrev pub DecidesEvent : List Row → ℕ → Result (Option DecidedEvent) TraceFault → Type 0
DecidesEvent rows number (Ok (Some decided)) =
    ((opening : Opening) (core : CoreView) (set_by : Option ℕ) → BeginsAtCore rows opening core set_by
    → IsDecided (start_at core set_by) (at_core opening core set_by) (text_lines rows) number decided)
    × ((opening : Opening) (past : List Event) (set_by : Option ℕ) → BeginsBy rows opening past set_by
    → IsDecided (start_after set_by past) (at_opening opening) (map Valid past ++ text_lines rows) number decided)
    × ((why : TraceFault) → beginning_of rows ≡ Err why → ⊥)
DecidesEvent rows number (Ok None) =
    (text_fault rows ≡ None) × ((begun : Beginning) → beginning_of rows ≡ Ok begun → finding_at begun rows ≡ Differs number → ⊥)
    × ((begun : Beginning) → beginning_of rows ≡ Ok begun → begun.core.count < number → last_decided (finding_at begun rows) < number)
DecidesEvent rows number (Err why) = is_io_or_memory why ≡ false → text_fault rows ≡ Some why

-- ---- a reader of lines

-- the event with this number among the remaining lines was read, the events before it were decided again, and none
-- of them differs
pub record HasReached (start : Start) (origin : Origin) (first : List Line) (all : RemainingLines) (number : ℕ) (auditor : AuditorView) (set_by : Setter)
    (line : Line) : Type 0 where
  pub seen : List Line
  pub later : List Line
  pub split : all.lines ≡ seen ++ line ∷ later
  pub event : is_event line ≡ true
  pub replays : Replays start origin (first ++ seen) auditor set_by
  pub agree : auditor.differs ≡ None
  pub counted : number ≡ count_after origin (first ++ seen) + 1

-- the result of reading up to the event with this number
abbrev pub ReadsTo : Start → Origin → List Line → RemainingLines → ℕ → AuditorView → Setter → Line → Result Bool TraceFault → Type 0
ReadsTo start origin first all number auditor set_by line (Ok true) = HasReached start origin first all number auditor set_by line
ReadsTo start origin first all number auditor set_by line (Ok false) =
    (all.fault ≡ None) × (difference_from origin first ≡ None → difference_from origin (first ++ all.lines) ≡ Some number → ⊥)
    × IsPast origin first (first ++ all.lines) number
ReadsTo start origin first all number auditor set_by line (Err why) = is_io_or_memory why ≡ false → all.fault ≡ Some why

-- the result for the remaining lines, if the lines `first` come before them
abbrev pub DecidesAfter : Start → Origin → List Line → RemainingLines → ℕ → Result (Option DecidedEvent) TraceFault → Type 0
DecidesAfter start origin first all number (Ok (Some decided)) = IsDecided start origin (first ++ all.lines) number decided
DecidesAfter start origin first all number (Ok None) =
    (all.fault ≡ None) × (difference_from origin first ≡ None → difference_from origin (first ++ all.lines) ≡ Some number → ⊥)
    × IsPast origin first (first ++ all.lines) number
DecidesAfter start origin first all number (Err why) = is_io_or_memory why ≡ false → all.fault ≡ Some why
