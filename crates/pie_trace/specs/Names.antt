-- Definitions from lower crates that this crate's definitions, code and proofs use.
pub use Rattle.pie_audit.specs.{Replay.AuditsFrom, Replay.Origin, Replay.RepresentsAfter, Replay.at_core, Replay.at_opening, Text.IsFound, Text.text_finding, declared.auditor.Finding.TheVariants.Clean}
pub use Rattle.pie_book.specs.{Book.BookRepresents, Book.BookView, Core.CoreView, Core.Represents, Core.answer_in, Core.core_after, Core.refusal_of, Core.registers_of, Book.Progress, Book.Step, Book.fold_outcome, Book.outcome, Book.start, Book.apply_in, Book.event_of, Decision.decision, Decision.refusal_by_rule, Decision.stats_after}
pub use Rattle.pie_event.specs.Event.{caller_moment, opening_refusal}
pub use Rattle.pie_event.specs.declared.{command.Answer.Answer, command.Command.Command, command.Event.Event, opening.Opening.Opening, refusal.FoldRefusal.FoldRefusal, refusal.Refusal.Refusal, registers.Registers.Registers, registers.Stats.Stats}
pub use Rattle.pie_event.specs.declared.command.Command.TheVariants.{Arrive, Depart, Reset, SetParams, Update}
pub use Rattle.pie_event.specs.declared.opening.Mode.TheVariants.{Bounded, Rolling}
pub use Rattle.pie_excerpt.specs.{Beginning.Beginning, Beginning.Continues, Beginning.begun_by_opening, Preamble.queued_row}
pub use Rattle.pie_params.specs.{Params.first_bad, declared.raw.RawParams.RawParams}
pub use Rattle.pie_record.specs.{Command.code_of, Command.code_of_fold, Command.code_of_params, Field.IsWriteOrMemory, Field.NoIoOrMemoryFailed, Field.after_flush, Field.fault_at, Field.is_io_or_memory, Field.and_then, Field.is_kind, Field.unix_at, ReadBack.Begins, ReadBack.IsHistoryText, Text.HasField, Text.Row, Text.records_of, Text.text_of, Write.command_fields, Write.event_row, Write.version_two_row}
pub use Rattle.pie_record.specs.HistoryLines.{RemainingLines, event_count, events_in, fault_from, history_lines, line_in, lines_from, remaining_after_opening}
pub use Rattle.pie_record.specs.declared.{fault.RecordFault.RecordFault, fault.TraceFault.TraceFault, first_record.FirstKind.FirstKind, history_record.Line.Line, trace_record.Request.Request, version.Version.Version}
pub use Rattle.pie_record.specs.declared.history_record.Line.TheVariants.{Invalid, Note, Valid}
pub use Rattle.pie_record.specs.declared.trace_record.Request.TheVariants.{Apply, BadParams, Clock, Fold, Show, Tally}
pub use Rattle.pie_record.specs.declared.version.Version.TheVariants.{One, Three, Two}
pub use Rattle.pie_units.specs.declared.utc.When.{When, TheVariants.Moment, TheVariants.Unix}
pub use Rattle.std.specs.{Io.KnownBytes.Appends, Io.KnownBytes.append_known, List.filter_map, Option.option_map_or}
pub use Rattle.std.specs.Prelude.{All, Bool, Err, IfErr, IfOk, IfSome, List, None, Ok, OnOk, Option, Result, Some, [], codes, cond, count_by, drop, false, is_none, length, map, min, nat_le, nat_lt, not, take, true, unwrap_or, ℕ, ⊤}
unfoldable pub use Rattle.pie_audit.specs.{Replay.difference_from, Replay.events_of, Text.text_fault}
unfoldable pub use Rattle.pie_book.specs.{Core.core_along, Decision.registers_after, Book.progress_after}
unfoldable pub use Rattle.pie_excerpt.specs.Beginning.{beginning_of}
unfoldable pub use Rattle.pie_record.specs.{Command.request_of, Text.rows_text}
unfoldable pub use Rattle.pie_record.specs.Command.{answer_fields, folded_row, refused_row, shown_row, tallied_row}
unfoldable pub use Rattle.pie_record.specs.FirstRecord.{first_kind, opening_of, version_of}
unfoldable pub use Rattle.pie_record.specs.HistoryLines.{after_opening, history_opening, history_version, latest_clock, line_of, shown_line}
