-- The rows of a text in order up to the first fault, the differences among them, and the finding.
-- specs/LookBack.antt defines the queue of each step.
use Rattle.std.specs.Prelude.{ℕ, ◌+◌, ◌%◌, ◌^◌, ◌≡◌, ◌++◌, ◌∷◌, if◌then◌else◌, List, [], Bool, false, Option, Some, None, IfSome, Result, Ok, Err, take}
use Rattle.std.specs.List.{cons_option}
use Rattle.pie_record.specs.{Text.Row, Field.fault_at, Field.is_io_or_memory}
use Rattle.pie_record.specs.declared.fault.RecordFault.{RecordFault}
use Rattle.pie_record.specs.declared.fault.TraceFault.TheVariants as fault
use Rattle.pie_linux_history.specs.declared.{columns.Columns.Columns, difference.Difference.Difference, explained.Decision.Decision, fault.StepsFault.StepsFault, fault.StepsFault.TheVariants.NoStart, fault.StepsFault.TheVariants.Trace, queues.StepDifference.StepDifference, queues.StepsCounts.StepsCounts, step.QueueName.QueueName, step.Step.Step, text.Differences.Differences, text.StepsFinding.StepsFinding, text.StepsFinding.TheVariants.Clean, text.StepsFinding.TheVariants.Differs}
use Rattle.pie_linux_history.specs.{Columns.columns_of, Decided.for_each, Decided.number_of, Queue.opening_difference, LookBack.Entry, LookBack.Took, LookBack.counts_of, LookBack.decision_by, LookBack.entry_in, LookBack.followed, LookBack.is_opening, LookBack.name_of}

-- the number of the next event or record
abbrev pub next : ℕ → ℕ
next number = (number + 1) % 2 ^ 64

-- the difference of an event
abbrev pub difference_at : ℕ → QueueName → Step → Option Difference → Option StepDifference
difference_at event queue step None = None
difference_at event queue step (Some difference) = Some (record { event = event; queue = queue; step = step.number; difference = difference })

-- the result of a step with this decision: its queue has no first row, or its first number that differs. Its record has the next number
abbrev pub judged : ℕ → QueueName → Step → Option Decision → Result (Option StepDifference) StepsFault
judged event queue step None = Err (NoStart (next event) queue step.number)
judged event queue step (Some decision) = Ok (difference_at event queue step decision.difference)

-- the result of a row after these ones, as this event. A first row is compared with that of a new queue
abbrev pub verdict_of : List Entry → ℕ → Entry → Result (Option StepDifference) StepsFault
verdict_of entries event (Took queue step) =
    if is_opening step.kind then Ok (difference_at event queue step (opening_difference step)) else judged event queue step (decision_by step (followed (name_of queue) entries))
verdict_of entries event _ = Ok None

abbrev pub verdict : List Entry → ℕ → Result Entry RecordFault → Result (Option StepDifference) StepsFault
verdict entries event (Err what) = Err (Trace (fault_at (next event) what))
verdict entries event (Ok entry) = verdict_of entries event entry

-- these rows and the next one
abbrev pub with_entry : List Entry → Result Entry RecordFault → List Entry
with_entry entries (Err what) = entries
with_entry entries (Ok entry) = entries ++ entry ∷ []

-- the difference of a row, if it has one
abbrev pub found_in : Result (Option StepDifference) StepsFault → List StepDifference
found_in (Ok found) = cons_option found []
found_in (Err why) = []

abbrev pub difference_in : List Entry → Entry → List StepDifference
difference_in entries entry = found_in (verdict_of entries (next (counts_of entries).events) entry)

-- the differences of rows, in order
abbrev pub differences_of : List Entry → List StepDifference
differences_of entries = for_each difference_in [] entries

-- clean if and only if there is no difference, and otherwise the first one and their number
abbrev pub finding_by : StepsCounts → List StepDifference → StepsFinding
finding_by counts [] = Clean counts
finding_by counts (first ∷ rest) = Differs first (number_of (first ∷ rest))

-- the number of all of these differences, and the first 100
pub record HasFound (found : Differences) (all : List StepDifference) : Type 0 where
  pub count_is : found.count ≡ number_of all
  pub first_are : found.first.items ≡ take 100 all

-- the rows up to the first fault, and it; otherwise those of later rows
abbrev pub Outcome : Type 0
Outcome = List Entry × Result StepsFinding StepsFault

abbrev pub first_of_both : List Entry → Result (Option StepDifference) StepsFault → Outcome → Outcome
first_of_both entries (Ok found) later = later
first_of_both entries (Err why) later = (entries, Err why)

-- the rows after others up to the first fault, and the finding: the first fault, and otherwise that of the differences of all rows. With a chosen queue
-- the rows of other queues are skipped
unfoldable pub outcome_after : Option (List ℕ) → Columns → List Entry → List Row → Outcome
outcome_after chosen columns entries [] = (entries, Ok (finding_by (counts_of entries) (differences_of entries)))
outcome_after chosen columns entries (row ∷ rows) =
    first_of_both entries (verdict entries (next (counts_of entries).events) (entry_in chosen columns row))
    (outcome_after chosen columns (with_entry entries (entry_in chosen columns row)) rows)

abbrev pub outcome_by : Option (List ℕ) → Result Columns StepsFault → List Row → Outcome
outcome_by chosen (Err why) rows = ([], Err why)
outcome_by chosen (Ok columns) rows = outcome_after chosen columns [] rows

-- the outcome of a text of these records, whose first one names the columns
abbrev pub outcome_of : Option (List ℕ) → List Row → Outcome
outcome_of chosen [] = ([], Err (Trace fault.NoOpen))
outcome_of chosen (names ∷ rows) = outcome_by chosen (columns_of names) rows

-- the finding of an audit
abbrev pub finding_of : Option (List ℕ) → List Row → Result StepsFinding StepsFault
finding_of chosen rows = (outcome_of chosen rows).1

-- the reader, the writer or memory failed
abbrev pub is_failure : StepsFault → Bool
is_failure (Trace why) = is_io_or_memory why
is_failure _ = false

-- true if a result is a failure of the reader, of the writer or of the memory
abbrev pub has_failed : {A : Type 0} → Result A StepsFault → Bool
has_failed (Err why) = is_failure why
has_failed _ = false

-- the columns were read from the first row; the rows that remain
abbrev pub ReadsColumns : List Row → Result Columns StepsFault → Option (List Row) → Type 0
ReadsColumns [] result later = result ≡ Err (Trace fault.NoOpen)
ReadsColumns (names ∷ rows) result later = (result ≡ columns_of names) × (later ≡ Some rows)

-- the first row of a text named these columns
abbrev pub Begins : Option (List ℕ) → Option (List Row) → Columns → Option (List Row) → Type 0
Begins chosen all columns later =
    IfSome all (λ rows. (rest : List Row) × (later ≡ Some rest) × (outcome_of chosen rows ≡ outcome_after chosen columns [] rest))

-- rows were read after others with this result: exactly those of the outcome, if the rows are known
pub record Ends (has : List Entry → Type 0) (outcome : List Row → Outcome) (rows : Option (List Row)) (result : Result StepsFinding StepsFault) : Type 0 where
  pub entries : List Entry
  pub has_them : has entries
  pub same : IfSome rows (λ all. outcome all ≡ (entries, result))
