-- Definitions from lower crates that this crate's definitions, code and proofs use.
pub use Rattle.pie_audit.specs.declared.auditor.Finding.TheVariants.{Clean, Differs}
pub use Rattle.pie_book.specs.{Book.state_after_calls, Core.CoreView, Core.Represents, Decision.IsLegal, Decision.IsLegalAt, Decision.answer_by, Decision.decision, Decision.refusal_by_rule, Decision.active_after, Snapshot.Ends, Snapshot.ExcerptView, Snapshot.core_of_excerpt}
pub use Rattle.pie_book.specs.declared.snapshot.CoreSnapshot.{CoreSnapshot}
pub use Rattle.pie_event.specs.{Event.opening_refusal, Event.CommandFits, Event.ParamsFit}
pub use Rattle.pie_event.specs.declared.{command.Answer.Answer, command.Command.Command, command.Event.Event, opening.Opening.Opening, refusal.OpenRefusal.TheVariants.Memory, command.Setter.Setter}
pub use Rattle.pie_event.specs.declared.command.Command.TheVariants.{Arrive, Reset, Update}
pub use Rattle.pie_excerpt.specs.Beginning.{Beginning, Continues, IsWritten, beginning_at, excerpt_rows, rows_from}
pub use Rattle.pie_params.specs.Params.{first_bad}
pub use Rattle.pie_record.specs.{Field.IsOfInput, Field.IsWriteOrMemory, Field.is_io_or_memory, ReadBack.EventFits, ReadBack.IsHistoryText, Text.HasField, Text.Row, Text.TakesRow, Text.records_of, Write.event_row, Write.written_rows}
pub use Rattle.pie_record.specs.HistoryLines.{IsRecordOf, LinesView, RemainingLines, reader_state_after_record, remaining_after_opening, remaining_from, repeated_record}
pub use Rattle.pie_record.specs.declared.{fault.TraceFault.TraceFault, history_record.Line.Line, version.Version.TheVariants.Three, version.Version.Version}
pub use Rattle.pie_record.specs.declared.history_reader.ReaderState.TheVariants.{Faulted, Going}
pub use Rattle.pie_record.specs.declared.history_record.Line.TheVariants.{Invalid, Note, Valid}
pub use Rattle.std.proofs.Common.{rules}
pub use Rattle.std.specs.{Io.KnownBytes.Appends, List.filter_map, List.find, List.last_or, Option.is_some}
pub use Rattle.std.specs.Prelude.{All, Bool, Decides, Err, IfErr, IfOk, IfSome, List, None, Ok, OnOk, Option, Result, Some, [], false, length, map, min, nat_lt, not, option_map, take, true, unwrap_or, ℕ, ⊤}
pub use Rattle.pie_record.specs.HistoryLines.{Reads, ReadsOn, Remains}
unfoldable pub use Rattle.pie_book.specs.History.{waiting_after}
unfoldable pub use Rattle.pie_excerpt.specs.Beginning.{beginning_of}
unfoldable pub use Rattle.pie_record.specs.{FirstRecord.opening_of, FirstRecord.version_of, ReadBack.AreLinesOf, Text.rows_text}
unfoldable pub use Rattle.pie_record.specs.HistoryLines.{event_count, fault_from, history_opening, latest_clock, lines_from}
