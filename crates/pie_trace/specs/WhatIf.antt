-- The result and the output of a history that is decided again, and the state of the code that decides it.
use Rattle.pie_trace.specs.Names.{Appends, AuditsFrom, Beginning, Err, List, None, Ok, Option, RepresentsAfter, Result, Row, Some, TraceFault, Version, ℕ, [], beginning_of, difference_from, events_of, false, fault_from, is_io_or_memory, latest_clock, rows_text, take, text_fault}
use Rattle.pie_audit.specs.Replay.{Begins}
use Rattle.pie_trace.specs.Other.{Point, counts_of, other_rows, point_at_end, read_from, stats_at}
use Rattle.pie_trace.specs.Runs.{HasOutcome, Pass}
use Rattle.pie_trace.specs.declared.{alteration.Alteration.Alteration, decider.Decider.Decider, decider.Outcome.Outcome, decider.WhatIfEnd.WhatIfEnd, other_history.Start.Start, what_if_fault.WhatIfFault.WhatIfFault}
use Rattle.std.specs.Prelude.{if◌then◌else◌, ◌++◌, ◌+◌, ◌^◌, ◌≡◌}
use Rattle.pie_trace.specs.declared.decider.Outcome.TheVariants as outcome
use Rattle.pie_trace.specs.declared.what_if_fault.WhatIfFault.TheVariants as fault

-- ---- the result

-- the statistics of both histories, each with those before the text; the number of events before the change, and the numbers
-- of omitted commands
abbrev pub both_ends : Point → WhatIfEnd
both_ends point = record {
  own = stats_at point.origin (events_of point.lines);
  other = stats_at point.origin point.events;
  before = point.before;
  omitted = counts_of point.omitted;
}

-- the end by the first event that differs, if there is one
abbrev pub end_by : Option ℕ → Point → Outcome
end_by (Some event) point = outcome.Differs event
end_by None point = if point.begun then outcome.Done (both_ends point) else outcome.NoEvents

-- the end after all lines
abbrev pub end_at : Point → Outcome
end_at point = end_by (difference_from point.origin point.lines) point

-- ---- the state of the code

-- the auditor has read the lines, the core has decided the events, and the omitted ones were counted
pub record IsAt (decider : Decider) (point : Point) : Type 0 where
  pub audits : AuditsFrom point.origin decider.auditor point.lines
  pub represents : RepresentsAfter point.origin decider.core point.events
  pub begun : decider.begun ≡ point.begun
  pub before : decider.before ≡ point.before
  pub omitted : decider.omitted ≡ counts_of point.omitted
  pub clock : decider.clock ≡ latest_clock point.lines

-- ---- the passes

-- the pass over the remaining records, of which the first has this number
abbrev pub rest_pass : Alteration → Version → ℕ → Decider → List Row → Pass Point Outcome
rest_pass alteration version number decider rows = record {
  found = fault_from version (2 ^ 32) number rows;
  can_precede = IsAt decider;
  gives = λ point. Some (end_at (point_at_end alteration point (read_from version number rows)));
  text = λ point. rows_text (other_rows alteration point (read_from version number rows));
}

-- ---- a text

-- a state before the first line of a text with this beginning. Its lines and its events are those of a history that the
-- beginning's core represents, or there are none of either after the core itself
pub record Precedes (begun : Beginning) (point : Point) : Type 0 where
  pub begins : Begins point.origin begun.core point.lines
  pub represents : RepresentsAfter point.origin begun.core point.events
  pub begun_later : point.begun ≡ false
  pub before_none : point.before ≡ 0
  pub omitted_none : point.omitted ≡ []

abbrev pub CanPrecede : List Row → Point → Type 0
CanPrecede rows point = (begun : Beginning) → beginning_of rows ≡ Ok begun → Precedes begun point

-- the result for a text with this beginning
abbrev pub end_after : Alteration → Point → Result Beginning TraceFault → Option Outcome
end_after alteration point (Err why) = None
end_after alteration point (Ok begun) = Some (end_at (point_at_end alteration point (read_from begun.version (begun.records_read + 1) begun.left)))

-- the records of the other history for a text with this beginning: those of the beginning as they were read, and then those
-- of the lines
abbrev pub rows_after : Alteration → Point → List Row → Result Beginning TraceFault → List Row
rows_after alteration point rows (Err why) = []
rows_after alteration point rows (Ok begun) = take begun.records_read rows ++ other_rows alteration point (read_from begun.version (begun.records_read + 1) begun.left)

-- the other history's text
unfoldable pub other_text : Alteration → Point → List Row → List ℕ
other_text alteration point rows = rows_text (rows_after alteration point rows (beginning_of rows))

-- the pass over a text: its first fault; otherwise the result, and the text of the other history
abbrev pub whole_pass : Alteration → List Row → Pass Point Outcome
whole_pass alteration rows = record {
  found = text_fault rows;
  can_precede = CanPrecede rows;
  gives = λ point. end_after alteration point (beginning_of rows);
  text = λ point. other_text alteration point rows;
}

-- the result and the output of a history that is decided again
abbrev pub IsDecidedAgain : Alteration → List Row → Result WhatIfEnd WhatIfFault → Option (List ℕ) → Option (List ℕ) → Type 0
IsDecidedAgain alteration rows (Ok end) before now = HasOutcome (whole_pass alteration rows) (Ok (outcome.Done end)) before now
IsDecidedAgain alteration rows (Err (fault.Differs event)) before now = HasOutcome (whole_pass alteration rows) (Ok (outcome.Differs event)) before now
IsDecidedAgain alteration rows (Err fault.NoEvents) before now = HasOutcome (whole_pass alteration rows) (Ok outcome.NoEvents) before now
IsDecidedAgain alteration rows (Err (fault.Trace why)) before now = HasOutcome (whole_pass alteration rows) (Err why) before now

-- ---- the beginning of a text

-- the beginning was read and written, and the decider is in each possible state before the first line
pub record HasStarted (rows : List Row) (start : Start) (left : Option (List Row)) (before now : Option (List ℕ)) : Type 0 where
  pub begun : Beginning
  pub remain : left ≡ Some begun.left
  pub found : beginning_of rows ≡ Ok begun
  pub version : start.version ≡ begun.version
  pub read : start.records_read ≡ begun.records_read
  pub at : (point : Point) → Precedes begun point → IsAt start.decider point
  pub written : Appends before now (rows_text (take begun.records_read rows))

-- the start, or the first fault of the beginning; nothing is then written
abbrev pub StartsBy : List Row → Result Start TraceFault → Option (List Row) → Option (List ℕ) → Option (List ℕ) → Type 0
StartsBy rows (Ok start) left before now = HasStarted rows start left before now
StartsBy rows (Err why) left before now = is_io_or_memory why ≡ false → (beginning_of rows ≡ Err why) × Appends before now []
