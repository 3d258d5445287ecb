-- A queue after the rows of a text, by looking back over them: the last row `init` or `resume` of its name, and each later step of this name up to the
-- first that differs.
use Rattle.std.specs.Prelude.{ℕ, ◌+◌, ◌%◌, ◌^◌, ◌++◌, ◌∷◌, ◌||◌, if◌then◌else◌, List, [], length, take, filter, max, nat_le, not, Bool, true, false, Option, Some, None, is_some, Result, Ok}
use Rattle.std.specs.List.{filter_map, fold, sum_by}
use Rattle.std.specs.Option.{ok_or, option_or}
use Rattle.std.specs.Str.{bytes_eq}
use Rattle.pie_linux.specs.Enqueue.{one_if}
use Rattle.pie_record.specs.{Text.Row, Field.and_then}
use Rattle.pie_record.specs.declared.fault.RecordFault.{RecordFault}
use Rattle.pie_record.specs.declared.fault.RecordFault.TheVariants as flaw
use Rattle.pie_linux_history.specs.declared.{columns.Columns.Columns, explained.DecidedPacket.DecidedPacket, explained.Decision.Decision, explained.Input.Input, queues.StepsCounts.StepsCounts, step.Kind.Kind, step.QueueName.QueueName, step.Step.Step}
use Rattle.pie_linux_history.specs.declared.explained.Input.TheVariants as input
use Rattle.pie_linux_history.specs.declared.step.Kind.TheVariants as kind
use Rattle.pie_linux_history.specs.{Columns.field_or, Columns.handle_of, Columns.lost_in, Columns.queue_name, Columns.step_in, Queue.Stepped, Queue.is_part, Queue.last_after, Queue.next_dropped, Queue.next_step, Queue.opened, Queue.opening_difference, Queue.unchanged, Views.QueueView}

-- ---- rows

-- a row: the number of steps of a queue that the recorder lost, a step of a queue, or a row of another queue than the chosen one
pub data Entry : Type 0 where
  Lost : (queue : QueueName) → (count : ℕ) → Entry
  Took : (queue : QueueName) → (step : Step) → Entry
  Skipped : Entry

abbrev pub entry_after : Columns → Row → Option (QueueName × ℕ) → Result Entry RecordFault
entry_after columns row (Some lost) = Ok (Lost lost.0 lost.1)
entry_after columns row None = and_then (step_in columns row) (λ step. and_then (ok_or (queue_name (field_or row columns.queue)) flaw.Word) (λ queue. Ok (Took queue step)))

-- the bytes of a name
abbrev pub name_of : QueueName → List ℕ
name_of queue = if nat_le queue.len 64 then take queue.len queue.bytes else []

-- the name of the queue of a row
abbrev pub queue_by : Columns → Row → Result (Option (QueueName × ℕ)) RecordFault → List ℕ
queue_by columns row (Ok (Some lost)) = name_of lost.0
queue_by columns row _ = field_or row columns.queue

-- true for a row of another queue than the chosen one
abbrev pub is_other : Option (List ℕ) → Columns → Row → Bool
is_other None columns row = false
is_other (Some name) columns row = not (bytes_eq (queue_by columns row (lost_in row)) name)

unfoldable pub entry_in : Option (List ℕ) → Columns → Row → Result Entry RecordFault
entry_in chosen columns row =
    if is_other chosen columns row then Ok Skipped else and_then (lost_in row) (entry_after columns row)

-- true for a row of the queue with exactly this name
abbrev pub is_of : List ℕ → Entry → Bool
is_of name (Lost queue count) = bytes_eq (name_of queue) name
is_of name (Took queue step) = bytes_eq (name_of queue) name
is_of name Skipped = false

-- ---- the rows of a queue

-- true for a row `init` or `resume`
abbrev pub is_opening : Kind → Bool
is_opening kind.Init = true
is_opening kind.Resume = true
is_opening _ = false

-- true for a row from which a queue is taken anew, or is lost
abbrev pub begins : Entry → Bool
begins (Lost queue count) = true
begins (Took queue step) = is_opening step.kind
begins Skipped = false

abbrev pub step_of : Entry → Option Step
step_of (Took queue step) = Some step
step_of _ = None

-- the last element that passes a test, with those after it
unfoldable pub since_last : {A : Type 0} → (A → Bool) → List A → Option (A × List A)
since_last test [] = None
since_last test (first ∷ rest) = option_or (since_last test rest) (if test first then Some (first, rest) else None)

abbrev pub opening_of : Option (Entry × List Entry) → Option (Step × List Step)
opening_of (Some (Took queue step, later)) = Some (step, filter_map step_of later)
opening_of _ = None

-- the last row `init` or `resume` of this name, with the later steps of this name: none if there is no such row, or if steps of this name were lost after it
unfoldable pub steps_of : List ℕ → List Entry → Option (Step × List Step)
steps_of name entries = opening_of (since_last begins (filter (is_of name) entries))

-- ---- the queue

-- a queue, the number of its last step, and true if a step since its first row differs: the rows up to its next first row are not decided
pub record Followed : Type 0 where
  pub last : ℕ
  pub queue : QueueView
  pub differs : Bool

abbrev pub begun : List ℕ → Step → Followed
begun name step = record { last = step.number; queue = opened (handle_of name) step; differs = is_some (opening_difference step) }

-- the next step of a queue: after a difference it changes nothing
abbrev pub next_of : Followed → Step → Stepped
next_of was step = if was.differs then unchanged was.queue else next_step was.last was.queue step

abbrev pub follow : Followed → Step → Followed
follow was step = record {
  last = if was.differs then was.last else last_after was.last step;
  queue = (next_of was step).queue;
  differs = was.differs || is_some (next_of was step).decision.difference;
}

abbrev pub followed_by : List ℕ → Option (Step × List Step) → Option Followed
followed_by name None = None
followed_by name (Some (first, later)) = Some (fold follow (begun name first) later)

-- the queue with this name after the rows
unfoldable pub followed : List ℕ → List Entry → Option Followed
followed name entries = followed_by name (steps_of name entries)

-- ---- the decision of a row after others

-- the decision of a step of a queue: none without the queue
abbrev pub decision_by : Step → Option Followed → Option Decision
decision_by step None = None
decision_by step (Some was) = Some (next_of was step).decision

abbrev pub dropped_by_step : Step → Option Followed → List DecidedPacket
dropped_by_step step None = []
dropped_by_step step (Some was) = if was.differs then [] else next_dropped was.last was.queue step

-- ---- the moment

abbrev pub later_of : ℕ → Entry → ℕ
later_of moment (Took queue step) = max moment step.moment
later_of moment _ = moment

-- the effective moment after these rows: the latest of their steps
unfoldable pub latest : List Entry → ℕ
latest entries = fold later_of 0 entries

-- ---- counts

abbrev pub is_step : Entry → Bool
is_step (Took queue step) = not (is_part step.kind)
is_step _ = false

abbrev pub step_count : Entry → ℕ
step_count one = one_if (is_step one)

abbrev pub lost_steps : Entry → ℕ
lost_steps (Lost queue count) = count
lost_steps _ = 0

-- the input that a row after these ones lacks
abbrev pub lack_by : Option Decision → Option Input
lack_by None = None
lack_by (Some decision) = decision.lacks

abbrev pub lack_in : List Entry → Entry → Option Input
lack_in entries (Took queue step) =
    if is_opening step.kind then None else lack_by (decision_by step (followed (name_of queue) entries))
lack_in entries _ = None

abbrev pub is_lack : Input → Option Input → Bool
is_lack input.Returned (Some input.Returned) = true
is_lack input.Protocol (Some input.Protocol) = true
is_lack input.Change (Some input.Change) = true
is_lack _ _ = false

-- the rows among `rows`, which follow others, that lack this input
unfoldable pub lack_count : Input → List Entry → List Entry → ℕ
lack_count which before [] = 0
lack_count which before (one ∷ rest) = one_if (is_lack which (lack_in before one)) + lack_count which (before ++ one ∷ []) rest

-- the counts with one more step that lacks an input
abbrev pub lack_counted : StepsCounts → Option Input → StepsCounts
lack_counted counts None = counts
lack_counted counts (Some input.Returned) = record counts { without_returned = (counts.without_returned + 1) % 2 ^ 64 }
lack_counted counts (Some input.Protocol) = record counts { without_protocol = (counts.without_protocol + 1) % 2 ^ 64 }
lack_counted counts (Some input.Change) = record counts { without_change = (counts.without_change + 1) % 2 ^ 64 }

-- the rows, the steps, the lost steps, and the steps that lack an input, in 64 bits
abbrev pub counts_of : List Entry → StepsCounts
counts_of entries = record {
  events = length entries % 2 ^ 64;
  steps = sum_by step_count entries % 2 ^ 64;
  lost = sum_by lost_steps entries % 2 ^ 64;
  without_returned = lack_count input.Returned [] entries % 2 ^ 64;
  without_protocol = lack_count input.Protocol [] entries % 2 ^ 64;
  without_change = lack_count input.Change [] entries % 2 ^ 64;
}
