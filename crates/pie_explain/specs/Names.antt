-- Definitions from lower crates that this crate's definitions, code and proofs use.
pub use Rattle.std.specs.{Io.KnownBytes.Appends, Io.KnownBytes.append_known, List.filter_map}
pub use Rattle.std.specs.Prelude.{Bool, Err, List, None, Option, Result, Some, [], false, length, nat_lt, option_map, true, ℕ}
pub use Rattle.pie_audit.specs.Replay.{AuditorView, AuditsFrom, difference_from, events_of, Origin, RepresentsAfter, at_core, at_opening, count_after, setter_in, Start, from_opening, setter_from_start}
pub use Rattle.pie_book.specs.Core.{core_along}
pub use Rattle.pie_audit.specs.declared.auditor.Finding.{Finding}
pub use Rattle.pie_event.specs.declared.{command.Event.Event, opening.Opening.Opening, command.Setter.Setter}
pub use Rattle.pie_explain.specs.Selection.{is_whole, picks}
pub use Rattle.pie_explain.specs.Explanation.{ended_after, explanation_after, moment_after, moment_at, moment_of, with_after, with_core}
pub use Rattle.pie_explain.specs.Report.{Grows}
unfoldable pub use Rattle.pie_explain.specs.Explanation.{explanation, explanation_in}
pub use Rattle.pie_explain.specs.declared.{selection.Selection.Selection, explanation.Explained.Explained, explanation.Explanation.Explanation}
pub use Rattle.pie_record.specs.HistoryLines.{event_count, is_event, latest_clock}
pub use Rattle.pie_record.specs.declared.{fault.TraceFault.TraceFault, history_record.Line.Line, history_record.Line.TheVariants.Valid}
