-- Definitions from lower crates that the files of this folder use.
pub use Rattle.pie_audit.proofs.AuditorFacts.{Audits-finding, IsAmong, count-push, event_count-append, few_lines, made-count, named-within, stands-count}
pub use Rattle.pie_audit.proofs.LegalFacts.{all-made, difference-push, difference_here, event_count-push, events_of-none, first_difference-push, legal-clean, legal-of-clean, line_places-push, made-events, none_of}
pub use Rattle.pie_audit.proofs.ProcessorFacts.{begins-goes, begun-fails, begun-found, begun-of, one-value, processed-fault, processed-found, processed-text, processed-visited, text-past}
pub use Rattle.pie_audit.specs.{Replay.agrees, Replay.event_in, Replay.finding_by, Replay.agrees_after}
pub use Rattle.pie_audit.specs.Text.{FindsAfter, IsTextAfter, lines_after}
pub use Rattle.pie_book.specs.Snapshot.{core_of}
pub use Rattle.pie_cut.specs.{All, AreSegments, Clean, Clock, CoreSnapshot, CoreView, Differs, EndView, Err, Event, Finding, IsCut, IsFound, IsInSegments, IsText, Limits, Line, LinePlace, None, Ok, Opening, Option, Origin, Result, Row, Some, Start, TraceFault, Valid, Waiting, append_known, at_core, at_opening, cons_option, count_after, end_place, finding, finding_from, first_difference, first_place, flat_map, from_opening, has_begun, is_past, is_past_at, is_reached_at, is_some, kept, moment_in, next_number, past_by, place_after, position_at, position_by, queued_row, RepresentsAfter, reached_by, records_of, rows_from, resume_with, segment, set_by_after, setter_field_of, snapshot_of, start_after, start_at, text_of, up_to, Represents, are_in_range, latest_clock, opening_refusal, whole_lines, within}
pub use Rattle.pie_cut.specs.declared.{joint_audit.Joined.Joined, joint_audit.Joint.Joint, span.Position.Position, span.Span.Span}
pub use Rattle.pie_cut.specs.declared.joint_audit.Joint.TheVariants.{Gap, Unlike}
pub use Rattle.pie_event.specs.Event.{CommandFits}
pub use Rattle.pie_excerpt.proofs.BackFacts.{packets-some, text-back}
pub use Rattle.pie_excerpt.specs.{Beginning.Beginning, Preamble.ResumeFits, declared.resume.Resume.Resume}
pub use Rattle.pie_explain.proofs.ExplainFacts.{all-written, appends-more, appends-page, by-lines, moment-represents}
pub use Rattle.pie_record.proofs.InputFacts.{LineFits, event_count-cons, field-reads, latest_clock-none, latest_clock-push, line-again, lines-fit, lines_from-failed, lines_from-line, lines_from-none, reads-one}
pub use Rattle.pie_record.specs.{Text.HasField, Write.line_rows, Write.line_unless_note, Write.without_notes}
pub use Rattle.pie_record.specs.HistoryLines.{clock_in_line, events_in, is_event, lines_from, remaining_from}
pub use Rattle.pie_record.specs.declared.{version.Version.Version, version.Version.TheVariants.Three}
pub use Rattle.std.proofs.{Math.Nat.add-mul, lemmas.Bool.Decides.nat_tests, lemmas.List.append-nil, lemmas.List.length-map, lemmas.List.take_more_same, lemmas.List.Concat.flat_map-append, lemmas.List.Folds.find-append, lemmas.Option.IfSome_then, lemmas.Option.same_Some, lemmas.Option.slice_get-get_or, lemmas.Result.on_ok_weaker}
pub use Rattle.std.proofs.Common.{Bool, List, [], add-one, ap, append_assoc, arith, cond, false, if◌then◌else◌, inl, inr, length, length-append, map, max, refl, rules, subst, suc, sym, take, true, zero, ℕ, ◌*◌, ◌++◌, ◌+◌, ◌-◌, ◌<◌, ◌^◌, ◌∙◌, ◌∷◌, ◌≡◌, ◌≤◌}
pub use Rattle.std.proofs.KnownBytes.{Appends-nil, Appends-trans, Keeps-refl, append_known-grown}
pub use Rattle.std.proofs.lemmas.List.Elements.{All-append, All-cons, All-head, All-map, All-nil, All-tail, filter_map-append}
pub use Rattle.std.specs.{List.filter_map, List.find, Option.option_or}
pub use Rattle.std.specs.Prelude.{nat_le, nat_lt, not, slice_get, ◌&&◌, ◌==◌, ◌||◌, ◌⊎◌}
unfoldable pub use Rattle.pie_cut.specs.{chosen, difference_from, event_count, events_of, text_fault, text_lines, line_places, resume_row, rows_text, core_along}
unfoldable pub use Rattle.pie_excerpt.specs.Beginning.{beginning_of}
unfoldable pub use Rattle.pie_record.specs.ReadBack.{AreLinesOf}
