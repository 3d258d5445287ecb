-- Definitions from lower crates that this crate's definitions, code and proofs use.
pub use Rattle.csv.specs.Writing.{needs_quotes}
pub use Rattle.pie_book.specs.Snapshot.{AreQueued, snapshot_of, MayOpen, ResumingView, SnapshotRepresents, begun_with, core_of, end_refusal, queue_refusal, resume_refusal, with_packet}
pub use Rattle.pie_book.specs.{Core.CoreView, Core.Represents, Core.first_core, Snapshot.ExcerptView, declared.snapshot.CoreSnapshot.CoreSnapshot}
pub use Rattle.pie_event.specs.{Event.opening_refusal, Event.CommandFits, Event.StatsFit}
pub use Rattle.pie_event.specs.declared.{command.Event.Event, opening.Choices.Choices, opening.Opening.Opening, refusal.EndRefusal.EndRefusal, refusal.QueueRefusal.QueueRefusal, refusal.ResumeRefusal.ResumeRefusal, registers.Stats.Stats}
pub use Rattle.pie_excerpt.specs.declared.resume.Resume.{Resume}
pub use Rattle.pie_params.specs.{Params.first_bad, declared.raw.RawParams.RawParams}
pub use Rattle.pie_queue.specs.declared.{packet.Packet.Packet, packet.Waiting.Waiting}
pub use Rattle.pie_rate.specs.declared.{raw.RawCycle.RawCycle, raw.RawRate.RawRate}
pub use Rattle.pie_record.specs.{Command.counted, Command.flag, Field.IsOfInput, Field.IsWriteOrMemory, Field.fault_at, Field.is_io_or_memory, Field.and_then, Field.is_kind, Field.most_u128, Field.most_u64, Field.number_at, FirstRecord.checked_opening, ReadBack.AllSmall, ReadBack.LimitsFit, ReadBack.NineFit, Text.HasField, Text.Row, Text.records_of, Text.rows_setup, Text.text_of, Field.ecn_word, Field.mode_word, Write.chosen_row, Write.decay_row, Write.event_row, Write.nine_of}
pub use Rattle.pie_record.specs.declared.version.{Version.Version, Version.TheVariants.Three}
pub use Rattle.pie_record.specs.declared.{fault.RecordFault.RecordFault, fault.TraceFault.TraceFault, first_record.Draft.Draft}
pub use Rattle.pie_record.specs.Plain.{are_plain, onto}
pub use Rattle.std.specs.{Fmt.decimal, Io.KnownBytes.Appends, Io.KnownBytes.append_known, Option.ok_or, Option.option_and_then}
pub use Rattle.std.specs.Prelude.{All, Bool, Err, IfErr, IfOk, IfSome, List, None, Ok, OnOk, Option, Result, Some, [], codes, false, get_or, length, map, nat_le, option_map, suc, take, true, zero, ℕ, ⊤}
unfoldable pub use Rattle.csv.specs.Records.{field_at}
unfoldable pub use Rattle.pie_book.specs.History.{waiting_after}
unfoldable pub use Rattle.pie_record.specs.{FirstRecord.opening_of, FirstRecord.version_of, Field.number, Field.numbers_at, Field.packet_at, Field.params_at, FirstRecord.chosen_at, Text.rows_text}
