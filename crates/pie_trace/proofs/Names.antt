-- Definitions from lower crates that the files of this folder use.
pub use Rattle.pie_audit.specs.{Replay.AreLegal, Replay.CanBeMade, Text.text_finding, declared.auditor.Finding.Finding}
pub use Rattle.pie_book.specs.Decision.{IsLegal, decision, is_refused_full, or_full, refusal_by_rule}
pub use Rattle.pie_book.specs.Book.{event_of, tail_length_with_one, recorded, refused_or}
pub use Rattle.pie_event.specs.declared.{command.Command.Command, opening.Limits.Limits, opening.Mode.Mode}
pub use Rattle.pie_excerpt.specs.Beginning.{Beginning, opened_at}
pub use Rattle.pie_params.specs.Params.{first_bad}
pub use Rattle.pie_record.proofs.InputFacts.{event_count-cons, kind-first, latest_clock-made, latest_clock-push, line_in-flaw, line_in-line, line_in-long, reads-one, records_left-written, rows_text-cons, same-before-three, tested}
pub use Rattle.pie_record.specs.{Field.and_then, Field.number_at, FirstRecord.first_fields, FirstRecord.kind_word, FirstRecord.opening_read, ReadBack.TextsAreReadBack, Text.TakesRow, Text.Took, declared.first_record.Draft.Draft}
pub use Rattle.pie_record.proofs.{TextFacts.lost-later, TextFacts.contents-read}
pub use Rattle.pie_trace.specs.{Answer, Appends, Apply, BadParams, Begins, BookRepresents, BookView, Bounded, Clean, Clock, CoreView, Err, Event, FirstKind, RecordFault, Fold, FoldRefusal, HasField, HasOutcome, HaveSameLines, IfErr, IfOk, IfSome, IsAt, IsHistoryText, IsWriteOrMemory, Line, NoIoOrMemoryFailed, None, Ok, OnOk, One, Opening, Option, Progress, Promises, Refusal, Registers, RemainingLines, Replies, Represents, Request, Result, Rolling, Row, Show, Some, Stats, Tally, Three, TraceFault, Two, Version, after, append_known, apply_in, after_flush, code_of, core_after, end_at, end_left, events_in, fault_at, fold_outcome, fold_reply, history_row, is_io_or_memory, is_kind, later_records_pass, later_rows, line_in, line_of_reply, lines_left, migrated_text, migrated_version, migration_pass, opening_refusal, outcome, progress_at_end, queued_row, records_of, refused, refused_count, registers_of, reply, reply_to_command, reply_to_fold, request_in, resumed_progress, rows_left, rows_without_fault, run_by, runs_on, start, stats_after, text_of, whole_begun, HistoryText.Reply, declared.run.RunEnd.RunEnd}
pub use Rattle.std.proofs.{Math.Seq.take-append_seam, lemmas.Bool.eqb-true, lemmas.Bool.le-ltb, lemmas.Bool.lt-ltb, lemmas.Bool.Decides.nat_tests, lemmas.Fmt.decimal_digit, lemmas.List.append-nil, lemmas.List.length-drop, lemmas.List.take-append-drop, lemmas.List.Concat.flat_map-append, lemmas.List.Sums.sum_by-cons, lemmas.Option.IfSome_then, lemmas.Result.MatchResult-weaker, lemmas.Result.on_ok_weaker}
pub use Rattle.std.proofs.Common.{Bool, List, [], ap, append_assoc, arith, drop, false, if◌then◌else◌, length, length-append, map, refl, rules, subst, suc, sym, take, true, zero, ℕ, ◌++◌, ◌+◌, ◌-◌, ◌<◌, ◌==◌, ◌^◌, ◌∙◌, ◌∷◌, ◌≡◌, ◌≢◌, ◌≤◌}
pub use Rattle.std.proofs.KnownBytes.{Appends-nil, Appends-trans, Keeps-refl, append_known-grown}
pub use Rattle.std.proofs.lemmas.List.Elements.{All-append, All-cons, All-nil, filter_map-append}
pub use Rattle.std.specs.{List.filter_map, Prelude.All, Prelude.OnErr, Prelude.codes, Prelude.nat_lt, Prelude.option_map, Prelude.⊤}
unfoldable pub use Rattle.csv.specs.Records.{field_at}
unfoldable pub use Rattle.pie_excerpt.specs.{Beginning.beginning_of, Preamble.resume_of}
unfoldable pub use Rattle.pie_record.specs.{Command.command_kind, Field.number, ReadBack.AreLinesOf, Write.command_fields}
unfoldable pub use Rattle.pie_record.specs.FirstRecord.{draft_at, limits_at, version_one_fields}
unfoldable pub use Rattle.pie_record.specs.HistoryLines.{event_count, fault_from, lines_from}
unfoldable pub use Rattle.pie_trace.specs.{after_opening, answer_fields, before_fault, end_of, fault_of, first_fault, first_in_two, first_kind, folded_row, history_events, history_fault, history_opening, history_rows, history_text, history_version, later_in_two, line_of, lines_of_replies, migrated, opening_of, progress_after, record_fault, refused_row, registers_after, replies, request_of, requests_of, rows_text, run_lines, shown_line, shown_row, steps_of, tallied_row, text_left, version_of}
