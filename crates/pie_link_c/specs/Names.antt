-- Names of lower crates that definitions, code and proofs of this crate import.
pub use Rattle.std.specs.Arc.{arc_value}
pub use Rattle.std.specs.Option.{option_map_or}
pub use Rattle.std.specs.declared.alloc.Global.{Global}
pub use Rattle.pie_abi.specs.Structs.{arrived_event, bare_event, opening_in, after_writing, count_written}
unfoldable pub use Rattle.pie_abi.specs.Structs.{opening_refusal, are_in_range}
pub use Rattle.pie_abi.specs.declared.event.PieEvent.{PieEvent}
pub use Rattle.pie_abi.specs.declared.opening.PieOpening.{PieOpening}
pub use Rattle.pie_params.specs.declared.raw.RawParams.{RawParams}
pub use Rattle.pie_book.specs.Snapshot.{Ends, ExcerptView, has_room}
pub use Rattle.pie_event.specs.declared.command.Answer.{Answer}
pub use Rattle.pie_event.specs.declared.command.Answer.TheVariants.{Done, DroppedBytes, DroppedEarly, DroppedPackets, Empty, Enqueued, Left, Marked, Updated}
pub use Rattle.pie_event.specs.declared.command.Command.{Command}
pub use Rattle.pie_event.specs.declared.command.Command.TheVariants.{SetParams}
pub use Rattle.pie_event.specs.declared.command.Event.{Event}
pub use Rattle.pie_event.specs.declared.opening.Opening.{Opening}
pub use Rattle.pie_event.specs.declared.refusal.Refusal.{Refusal}
pub use Rattle.pie_link.specs.Entries.{Reply, always, has_left_or_updated, number_of}
pub use Rattle.pie_link.specs.declared.entry.Told.{Told}
unfoldable pub use Rattle.pie_link.specs.Callers.{AnswersWithin, TriesToAnswer, TriesToFoldInto}
unfoldable pub use Rattle.pie_link.specs.Headline.{KeepsOneHistory}
pub use Rattle.pie_link.specs.Callers.{CallerView, LinkView, HasSameNumbers, WasBusy}
pub use Rattle.pie_link.specs.declared.entry.Tried.{Tried}
pub use Rattle.pie_link.specs.declared.entry.Tried.TheVariants.{Busy, Refused}
pub use Rattle.pie_link_c.specs.declared.excerpt.ExcerptText.{ExcerptText}
pub use Rattle.pie_link_c.specs.declared.event_results.EventCall.{EventCall}
pub use Rattle.pie_link_c.specs.declared.event_results.EventCall.TheVariants.{Arrive, Depart, Reset, Update}
pub use Rattle.pie_lock.specs.Rule.{IsBeside, IsBothOf, first_pass, highest_alone, without_highest}
pub use Rattle.pie_queue.specs.Queue.{bits_of}
pub use Rattle.pie_record.specs.Text.{text_of}
pub use Rattle.pie_record.specs.Write.{event_row}
