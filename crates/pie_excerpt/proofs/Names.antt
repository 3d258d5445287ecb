-- Definitions from lower crates that the files of this folder use.
pub use Rattle.pie_aqm.specs.Steps.{ControllerState}
pub use Rattle.pie_excerpt.specs.{Beginning.Beginning, IfErr, IfOk, Result, TraceFault, is_io_or_memory, All, Appends, Err, Ok, Option, Resume, Row, Some, Waiting, WaitingFits, append_known, begun_at, opened_at, codes, ecn_word, state_numbers, opened_numbers, resume_refusal, resume_with, setter_field, snapshot_row, text_of, choices_of}
pub use Rattle.pie_params.specs.declared.{elements.Decay.Decay, elements.Decay.TheVariants.Half, elements.Decay.TheVariants.Zero}
pub use Rattle.pie_record.specs.{FirstRecord.Checked, FirstRecord.first_fields, FirstRecord.kind_word, FirstRecord.opening_by, FirstRecord.opening_read, Text.Took, declared.first_record.FirstKind.FirstKind}
pub use Rattle.pie_record.proofs.TextFacts.{All-none, decimal_plain, decimal_plain_long, plain_append, row-added, text-none, text-onto, text-plain}
pub use Rattle.pie_record.specs.Plain.{ending}
pub use Rattle.std.proofs.{lemmas.Bool.eqb-true, lemmas.Bool.Decides.nat_tests, lemmas.List.append-nil, lemmas.List.Concat.flat_map-append}
pub use Rattle.std.proofs.Common.{Bool, List, [], add-one, ap, append_assoc, arith, drop, false, if◌then◌else◌, length, map, refl, rules, subst, suc, sym, take, true, zero, ℕ, ◌++◌, ◌+◌, ◌-◌, ◌<◌, ◌==◌, ◌^◌, ◌∙◌, ◌∷◌, ◌≡◌, ◌≤◌}
pub use Rattle.std.proofs.KnownBytes.{Appends-nil, Appends-trans, Keeps-refl, append_known-grown}
pub use Rattle.std.proofs.lemmas.List.Elements.{All-cons, All-head, All-more, All-tail}
pub use Rattle.std.proofs.lemmas.Option.{get_or_from_slice_get, slice_get_within}
pub use Rattle.std.specs.Prelude.{decimal, unwrap_or}
unfoldable pub use Rattle.csv.specs.Reading.{strip_bom}
unfoldable pub use Rattle.pie_excerpt.specs.{chosen_at, core_from, fault_within, field_at, later_at, number, numbers_at, packet_at, params_at, queued_of, queued_row, resume_of, resume_row, beginning_of, opening_of, version_of, rows_text, with_queue}
unfoldable pub use Rattle.pie_record.specs.FirstRecord.{draft_at, first_kind, limits_at, one_of_two}
