-- The names of other crates and libraries that definitions, code and proofs of this crate use, in one place.
pub use Rattle.std.specs.Fmt.{decimal}
unfoldable pub use Rattle.std.specs.Fmt.{digits}
pub use Rattle.std.specs.Io.KnownBytes.{Appends, Consumes, IsAtEnd, Keeps, append_known, prepend_known}
pub use Rattle.std.specs.List.{cons_option, filter_map, find, flat_map, last_or}
pub use Rattle.std.specs.Option.{ok_or, option_and_then, option_or}
pub use Rattle.std.specs.Prelude.{All, Bool, Err, IfErr, IfOk, IfSome, List, None, Ok, OnOk, Option, Result, Some, Vec, [], codes, cond, count_by, drop, false, get_or, if◌then◌else◌, length, map, min, nat_le, nat_lt, not, option_map, refl, suc, true, zero, ℕ, ⊤, ◌&&◌, ◌++◌, ◌+◌, ◌-◌, ◌<◌, ◌==◌, ◌^◌, ◌||◌, ◌∷◌, ◌≡◌, ◌≤◌, ◌⊎◌, ◌*◌, ◌≢◌}
pub use Rattle.std.specs.Str.{all_ascii_digits, bytes_eq}
pub use Rattle.std.specs.Str.Parse.{digits_value, digits_value_after}
pub use Rattle.csv.specs.Machine.{Read, field_after, fields_after, is_end, step}
unfoldable pub use Rattle.csv.specs.Machine.{next_record}
pub use Rattle.csv.specs.Reading.{NextIs, ReadRecord, ReadsNext, Ready, default_config, has_failed, is_flexible, pending_of, reader_config, reader_state, reader_trim, records_next, source_of}
unfoldable pub use Rattle.csv.specs.Reading.{records_from, strip_bom}
pub use Rattle.csv.specs.Records.{fields_of}
unfoldable pub use Rattle.csv.specs.Records.{field_at}
pub use Rattle.csv.specs.Writing.{default_writer, needs_quotes, read_back, row_text, with_flexible, field_text, needs_byte}
unfoldable pub use Rattle.csv.specs.Writing.{escaped, fields_text, is_blank}
pub use Rattle.csv.specs.declared.{parser.State.State, reader.Reader.Reader}
pub use Rattle.pie_event.specs.Event.{fits, are_of_version_two, opening_refusal, AnswerFits, CommandFits, PacketFits, ParamsFit, RegistersFit, StatsFit}
pub use Rattle.pie_event.specs.declared.{command.Answer.Answer, command.Command.Command, command.Event.Event, opening.Choices.Choices, opening.Limits.Limits, opening.Mode.Mode, opening.Opening.Opening, opening.Profile.Profile, refusal.OpenRefusal.OpenRefusal, registers.Registers.Registers, registers.Stats.Stats, command.Verdict.Verdict}
pub use Rattle.pie_event.specs.declared.command.Answer.TheVariants.{Done, DroppedBytes, DroppedEarly, DroppedPackets, Empty, Enqueued, Left, Marked, Updated}
pub use Rattle.pie_event.specs.declared.command.Command.TheVariants.{Arrive, Depart, Reset, SetParams, Update}
pub use Rattle.pie_event.specs.declared.opening.Mode.TheVariants.{Bounded, Rolling}
pub use Rattle.pie_params.specs.declared.{elements.Decay.Decay, elements.Delay.Delay, elements.Elements.Elements, elements.Picking.Picking, elements.Size.Size, elements.Step.Step, raw.Field.Field, raw.RawParams.RawParams}
pub use Rattle.pie_queue.specs.declared.{ecn.Ecn.Ecn, packet.Packet.Packet}
pub use Rattle.pie_params.specs.Params.{accumulates, is_capped, usual, default_profile, first_bad}
pub use Rattle.pie_params.specs.declared.elements.Decay.TheVariants.{Half, Zero}
pub use Rattle.pie_params.specs.declared.elements.Delay.TheVariants.{Rate, Stamp}
pub use Rattle.pie_params.specs.declared.elements.Picking.TheVariants.{Derandomized, Random}
pub use Rattle.pie_params.specs.declared.elements.Size.TheVariants.{Scaled, Unscaled}
pub use Rattle.pie_params.specs.declared.elements.Step.TheVariants.{Capped, Uncapped}
pub use Rattle.pie_record.specs.declared.{clock.Clock.Clock, command.CommandFields.CommandFields, command.BadChange.BadChange, command.CommandKind.CommandKind, fault.RecordFault.RecordFault, fault.TraceFault.TraceFault, first_record.Draft.Draft, first_record.FirstKind.FirstKind, history_record.Line.Line, trace_record.Request.Request, version.Version.Version}
pub use Rattle.pie_record.specs.declared.version.Version.TheVariants.{One, Three, Two}
pub use Rattle.pie_event.specs.Cause.{answer_of}
pub use Rattle.pie_record.specs.declared.history_record.Line.TheVariants.{Valid}
