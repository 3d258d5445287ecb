-- Definitions from lower crates that this crate's definitions, code and proofs use.
pub use Rattle.pie_audit.specs.{Replay.AuditorView, Replay.Audits, Replay.AuditsFrom, Replay.LinePlace, Replay.finding, Replay.finding_from, Replay.first_difference, Replay.Replays, Replay.next_number, Replay.setter_in, Replay.Start, Replay.from_opening, Replay.setter_from_start, Replay.start_after, Replay.start_at, Text.Finds, Text.IsFound, Text.IsFoundFrom}
pub use Rattle.pie_audit.specs.Text.{BeginsAtCore, IsTextFrom, remaining_of, whole_finding}
pub use Rattle.pie_audit.specs.Replay.{IsAccepted, Origin, RepresentsAfter, at_core, at_opening, count_after, opening_in}
pub use Rattle.pie_audit.specs.Beginnings.{BeginningsDetermine, BegunBy, TextProcessedBy, whole_lines}
pub use Rattle.pie_audit.specs.declared.{auditor.Finding.Finding, auditor.Finding.TheVariants.Clean, auditor.Finding.TheVariants.Differs}
pub use Rattle.pie_book.specs.{Snapshot.snapshot_of, Core.CoreView, Core.Represents, Decision.IsLegal, Snapshot.MayOpen}
pub use Rattle.pie_book.specs.declared.snapshot.CoreSnapshot.{CoreSnapshot}
pub use Rattle.pie_event.specs.Event.{are_in_range, opening_refusal}
pub use Rattle.pie_event.specs.declared.{command.Event.Event, opening.Limits.Limits, opening.Opening.Opening, command.Setter.Setter}
pub use Rattle.pie_excerpt.specs.{Beginning.Continues, Beginning.is_set_within, Preamble.WaitingFits, Preamble.queued_row}
pub use Rattle.pie_excerpt.specs.Beginning.{IsWritten, resume_with, resumed_rows, rows_from}
pub use Rattle.pie_queue.specs.declared.packet.Waiting.{Waiting}
pub use Rattle.pie_record.specs.{Field.is_io_or_memory, ReadBack.EventFits, Text.Row, Text.records_of, Text.text_of, Write.change_event, Write.line_rows}
pub use Rattle.pie_record.specs.HistoryLines.{IsRecordOf, RemainingLines, events_in, history_lines, latest_clock}
pub use Rattle.pie_record.specs.declared.{clock.Clock.Clock, fault.TraceFault.TraceFault, history_record.Line.Line}
pub use Rattle.pie_record.specs.declared.history_record.Line.TheVariants.{Invalid, Note, Valid}
pub use Rattle.std.specs.{Io.KnownBytes.Appends, Io.KnownBytes.append_known, Option.is_some}
pub use Rattle.std.specs.List.{cons_option, filter_map, find, flat_map}
pub use Rattle.std.specs.Prelude.{All, Bool, Err, IfErr, IfOk, IfSome, List, None, Ok, OnOk, Option, Result, Some, [], false, length, map, min, nat_le, nat_lt, not, suc, true, zero, ℕ, ⊤}
unfoldable pub use Rattle.pie_audit.specs.{Replay.difference_from, Replay.events_of, Replay.line_places, Text.text_fault, Text.text_lines}
unfoldable pub use Rattle.pie_book.specs.{Core.core_along, History.waiting_after}
unfoldable pub use Rattle.pie_excerpt.specs.Preamble.{resume_row}
unfoldable pub use Rattle.pie_record.specs.{HistoryLines.event_count, Text.rows_text}
