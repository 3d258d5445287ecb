-- The choice of the events to explain.
use Rattle.std.specs.Prelude.{ℕ, ◌==◌, nat_lt, Bool, true, false, Option, Some, None}
use Rattle.std.specs.Option.{option_map_or}
use Rattle.pie_queue.specs.declared.packet.Packet.{Packet}
use Rattle.pie_event.specs.declared.{command.Command.Command, command.Command.TheVariants.Arrive, command.Answer.Answer, command.Answer.TheVariants.DroppedEarly, command.Answer.TheVariants.DroppedBytes, command.Answer.TheVariants.DroppedPackets, command.Answer.TheVariants.Left, command.Event.Event}
use Rattle.pie_event.specs.declared.command.Answer.TheVariants as answer
use Rattle.pie_explain.specs.declared.{choice.EventChoice.EventChoice, choice.EventChoice.TheVariants.Number, choice.EventChoice.TheVariants.Tag, choice.EventChoice.TheVariants.Lost, choice.EventChoice.TheVariants.Marked, choice.EventChoice.TheVariants.All, choice.EventChoice.TheVariants.After}

-- the packet that left
abbrev pub packet_left : Answer → Option Packet
packet_left (Left packet) = Some packet
packet_left _ = None

-- the packet that arrived, otherwise the one that left
abbrev pub packet_in : Command → Answer → Option Packet
packet_in (Arrive moment packet word) answer = Some packet
packet_in _ answer = packet_left answer

-- the packet of an event
abbrev pub packet_of : Event → Option Packet
packet_of event = packet_in event.command event.answer

-- true if the event's packet has this tag
abbrev pub has_tag : ℕ → Event → Bool
has_tag tag event = option_map_or (λ (p : Packet). p.tag == tag) (packet_of event) false

-- true if the answer is a drop
abbrev pub is_lost : Answer → Bool
is_lost DroppedEarly = true
is_lost DroppedBytes = true
is_lost DroppedPackets = true
is_lost _ = false

-- true if the answer is a mark
abbrev pub is_marked : Answer → Bool
is_marked answer.Marked = true
is_marked _ = false

-- true if the event with this number is chosen
abbrev pub chooses : EventChoice → ℕ → Event → Bool
chooses (Number wanted) number event = wanted == number
chooses (Tag tag) number event = has_tag tag event
chooses Lost number event = is_lost event.answer
chooses Marked number event = is_marked event.answer
chooses All number event = true
chooses (After first) number event = nat_lt first number
