-- Names from lower crates that the definitions and contracts use.
pub use Rattle.pie_params.specs.declared.raw.RawParams.{RawParams}
pub use Rattle.pie_params.specs.declared.elements.Elements.{Elements}
pub use Rattle.pie_queue.specs.declared.packet.Packet.{Packet}
pub use Rattle.pie_queue.specs.declared.packet.Waiting.{Waiting}
pub use Rattle.pie_event.specs.declared.opening.Profile.{Profile}
pub use Rattle.pie_event.specs.declared.opening.Profile.TheVariants.{One, Two}
pub use Rattle.pie_event.specs.declared.command.Verdict.{Verdict}
pub use Rattle.pie_event.specs.declared.command.Command.{Command}
pub use Rattle.pie_event.specs.declared.command.Command.TheVariants.{Arrive, Depart, Update, Reset, SetParams}
pub use Rattle.pie_event.specs.declared.command.Answer.{Answer}
pub use Rattle.pie_event.specs.declared.command.Answer.TheVariants.{Enqueued, Marked, DroppedEarly, DroppedBytes, DroppedPackets, Empty, Left, Updated, Done}
pub use Rattle.pie_event.specs.declared.command.Event.{Event}
pub use Rattle.pie_event.specs.declared.opening.Mode.{Mode}
pub use Rattle.pie_event.specs.declared.opening.Mode.TheVariants.{Bounded, Rolling}
pub use Rattle.pie_event.specs.declared.opening.Opening.{Opening}
pub use Rattle.pie_event.specs.declared.refusal.Refusal.{Refusal}
pub use Rattle.pie_event.specs.declared.registers.Stats.{Stats}
pub use Rattle.pie_event.specs.declared.registers.Registers.{Registers}
pub use Rattle.pie_aqm.specs.declared.verdict.ArrivingPacket.{ArrivingPacket}
pub use Rattle.pie_aqm.specs.Steps.{ControllerState}
pub use Rattle.pie_queue.specs.Queue.{IsSize, bytes_of}
pub use Rattle.pie_params.specs.Params.{first_bad, usual}
pub use Rattle.pie_event.specs.Cause.{answer_of, verdict_of}
pub use Rattle.pie_event.specs.Event.{Effect, admission, arrival_effect, effect, effect_of, departed, departure, departure_effect, dropped_bytes, dropped_early, dropped_packets, fits, found_none, caller_moment, is_arrival, is_update, marked, nothing, queued, set, updated, was_reset, with_ce, are_in_range, last_moment, opening_of, opening_refusal, AnswerFits, CommandFits, ParamsFit, RegistersFit, StatsFit}
pub use Rattle.pie_event.specs.declared.opening.Limits.{Limits}
pub use Rattle.pie_event.specs.declared.refusal.OpenRefusal.{OpenRefusal}
pub use Rattle.pie_aqm.specs.Calls.{Call, HasThreshold, after_call}
pub use Rattle.pie_aqm.specs.History.{Place, up_to}
pub use Rattle.pie_control.specs.History.{ControlState}
unfoldable pub use Rattle.pie_aqm.specs.History.{greatest, places}
