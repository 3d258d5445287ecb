-- Definitions from lower crates that the files of this folder use.
pub use Rattle.std.proofs.Common.{append_assoc, ◌-◌, ◌^◌, Bool, List, None, Option, Some, [], ap, false, refl, rules, sym, true, ℕ, ◌++◌, ◌+◌, ◌∙◌, ◌∷◌, ◌≡◌}
pub use Rattle.std.proofs.{lemmas.Bool.Decides.nat_tests, lemmas.List.append-nil}
pub use Rattle.std.specs.Option.{is_some, option_or}
pub use Rattle.std.specs.Prelude.{Ok, if◌then◌else◌, map, min, nat_le, ◌&&◌}
pub use Rattle.pie_explain.specs.{AuditorView, AuditsFrom, Event, Line, Valid, Opening, Setter, Start, event_count, events_of, from_opening, moment_of, Origin, RepresentsAfter, at_core, at_opening, count_after, difference_from, ended_after, explanation_after, moment_after, core_along, moment_at, setter_in, with_after, with_core, HasExplained, IsExplaining, IsExplanationText, answer_since, traced, no_event, picks, setter_from_start, explanation_of, explanation_if}
unfoldable pub use Rattle.pie_explain.specs.{explanation, explanation_in, explanations_since}
pub use Rattle.pie_explain.specs.Names.{Explanation, Selection}
pub use Rattle.pie_record.specs.HistoryLines.{clock_in_line}
pub use Rattle.pie_record.specs.declared.clock.Clock.{Clock}
pub use Rattle.pie_audit.proofs.{AuditorFacts.along-push, AuditorFacts.count-push, AuditorFacts.difference-push, AuditorFacts.event_count-append, AuditorFacts.few-may, AuditorFacts.is-since, AuditorFacts.latest_clock-push, AuditorFacts.line_places-push, AuditorFacts.made-count, AuditorFacts.none-before, AuditorFacts.none_of, AuditorFacts.place_of, ProcessorFacts.begun-fails, ProcessorFacts.processed-failed, ProcessorFacts.processed-fault, ProcessorFacts.processed-text, ProcessorFacts.processed-visited}
pub use Rattle.pie_audit.specs.Text.{reads-more, reads-none}
