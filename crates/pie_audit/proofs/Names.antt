-- Definitions from lower crates that the files of this folder use.
pub use Rattle.pie_aqm.specs.History.{Place, after}
pub use Rattle.pie_audit.specs.{All, Answer, Appends, AreLegal, AuditorView, AuditsFrom, Beginning, Begins, BeginsAtCore, BegunBy, Continues, CanBeMade, Clean, Command, CoreSnapshot, CoreView, Differs, Err, Event, EventFits, Finds, FindsAfter, Replays, ReplaysFrom, ReplaysText, Going, HasField, IfErr, IfOk, IfSome, Invalid, IsAccepted, IsTextAfter, IsFirstWrong, IsFound, IsHistoryText, IsLegal, IsLegalAt, IsSetterAfter, IsWriteOrMemory, IsWrong, Line, LinePlace, LinesRead, LinesView, Reads, ReadsOn, ReadsWith, Remains, AuditsMore, NoIoOrMemoryFailedBy, None, Note, Ok, OnOk, Opening, Option, ParamsFit, ProcessedBy, RemainingLines, Represents, RepresentsAfter, Result, Row, Setter, Some, TakesRow, TextProcessedBy, Three, TraceFault, Valid, Version, active_after, after_line, agrees_after, at_core, at_opening, count_after, counted_with, decision, differs, differs_from, event_in, event_row, fault_after, finding, finding_after, finding_at, finding_by, finding_from, first_difference, first_setter, is_active_after, is_active_at, is_io_or_memory, is_same_answer, is_some, lines_after, min, most_events, nat_lt, opening_refusal, option_map, records_of, refusal_by_rule, remaining_after_opening, remaining_of, remaining_from, IsTextFrom, core_of_excerpt, rows_from, same_answers, setter_after, setter_by, setter_from_start, setter_in, setter_with, start_after, start_at, text_finding, judged, written_rows, ⊤, Replay.Origin, Replay.Start}
pub use Rattle.pie_audit.specs.declared.auditor.Finding.{Finding}
pub use Rattle.pie_book.specs.{Snapshot.snapshot_of, Core.answer_in, Core.core_after, Core.refusal_of, Decision.refusal_with, Book.refused_or}
pub use Rattle.pie_event.specs.{Event.setter_from, declared.command.Command.TheVariants.Depart, declared.command.Command.TheVariants.Update, declared.refusal.Refusal.Refusal, declared.registers.Registers.Registers}
pub use Rattle.pie_excerpt.specs.{Beginning.IsWellBegun, Beginning.beginning_at, Beginning.opened_at, Beginning.begun_at, Beginning.resume_with}
pub use Rattle.pie_record.specs.declared.version.Version.TheVariants.{One, Two}
pub use Rattle.pie_queue.specs.declared.packet.Waiting.{Waiting}
pub use Rattle.pie_record.specs.{Field.after_flush, HistoryLines.Gives, HistoryLines.is_event, ReadBack.TextsAreReadBack, Text.Took}
pub use Rattle.pie_record.specs.declared.clock.Clock.{Clock}
pub use Rattle.std.proofs.{KnownBytes.Appends-nil, lemmas.Bool.Decides.nat_tests, lemmas.List.Folds.find-append, lemmas.List.Sums.sum_by-append, lemmas.List.Sums.sum_by_push, lemmas.Option.IfSome_then}
pub use Rattle.std.proofs.Common.{Bool, List, [], ap, append_assoc, arith, cond, false, inl, inr, length, length-append, map, not, refl, rules, subst, sym, take, true, ℕ, ◌&&◌, ◌++◌, ◌+◌, ◌-◌, ◌<◌, ◌^◌, ◌∙◌, ◌∷◌, ◌≡◌, ◌≤◌}
pub use Rattle.std.proofs.lemmas.List.{append-nil, length-map, map-append}
pub use Rattle.std.proofs.lemmas.List.Elements.{All-head, All-map, All-nil, All-pop, All-push, All-tail, filter_map-append}
pub use Rattle.std.specs.{Option.option_or, Prelude.if◌then◌else◌, Prelude.◌||◌}
unfoldable pub use Rattle.pie_aqm.specs.History.{places}
unfoldable pub use Rattle.pie_audit.specs.{AreLinesOf, agrees, agrees_in, difference_from, event_count, events_of, text_fault, text_lines, history_opening, line_places, opening_of, beginning_of, rows_text, setter_among, version_of}
unfoldable pub use Rattle.pie_book.specs.{Core.core_along, Decision.registers_after}
unfoldable pub use Rattle.pie_excerpt.specs.Preamble.{queued_row, resume_row}
unfoldable pub use Rattle.pie_record.specs.HistoryLines.{after_opening, history_version}
