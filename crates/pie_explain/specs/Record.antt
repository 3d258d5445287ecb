-- The CSV record of an explanation, and the output of several.
use Rattle.std.specs.Prelude.{ℕ, Bool, true, false, List, [], ◌∷◌, ◌++◌, Option, Some, None, codes, option_map, ◌≡◌, if◌then◌else◌}
use Rattle.std.specs.Fmt.{decimal}
use Rattle.pie_queue.specs.declared.packet.Packet.{Packet}
use Rattle.pie_event.specs.declared.{cause.Cause.Cause, command.Command.Command, command.Command.TheVariants.Arrive, command.Command.TheVariants.Depart, command.Command.TheVariants.Update, command.Command.TheVariants.Reset, command.Command.TheVariants.SetParams, command.Answer.Answer, command.Answer.TheVariants.Enqueued, command.Answer.TheVariants.Marked, command.Answer.TheVariants.DroppedEarly, command.Answer.TheVariants.DroppedBytes, command.Answer.TheVariants.DroppedPackets, command.Answer.TheVariants.Empty, command.Answer.TheVariants.Left, command.Answer.TheVariants.Updated, command.Answer.TheVariants.Done, registers.Registers.Registers}
use Rattle.pie_event.specs.{Cause.name_of, Cause.word_of_cause, Event.caller_moment, Event.setter_number}
use Rattle.pie_record.specs.declared.words.Kind.TheVariants as kind
use Rattle.pie_record.specs.declared.words.AnswerKeyword.TheVariants as keyword
use Rattle.pie_record.specs.Field.{ecn_word, word_of_kind, word_of_answer}
use Rattle.pie_record.specs.Plain.{onto}
use Rattle.pie_units.specs.Time.{utc_text}
use Rattle.pie_explain.specs.declared.{explanation.Explained.Explained, explanation.Explanation.Explanation}
use Rattle.pie_explain.specs.Selection.{time_of}
use Rattle.pie_explain.specs.Choice.{packet_of}
use Rattle.pie_explain.specs.Report.{IsBegun}

-- ---- keywords

-- the kind of a command, as in a history
abbrev pub kind_word : Command → List ℕ
kind_word (Arrive moment packet word) = word_of_kind kind.Arrive
kind_word (Depart moment) = word_of_kind kind.Depart
kind_word (Update moment) = word_of_kind kind.Update
kind_word (Reset moment) = word_of_kind kind.Reset
kind_word (SetParams moment params) = word_of_kind kind.Params

-- the keyword of an answer, as in a history; the one for an update, for which a history has none, is this record's own
abbrev pub verdict_word : Answer → List ℕ
verdict_word Enqueued = word_of_answer keyword.Enqueue
verdict_word Marked = word_of_answer keyword.Mark
verdict_word DroppedEarly = word_of_answer keyword.Early
verdict_word DroppedBytes = word_of_answer keyword.Bytes
verdict_word DroppedPackets = word_of_answer keyword.Packets
verdict_word Empty = word_of_answer keyword.Empty
verdict_word (Left packet) = word_of_answer keyword.Left
verdict_word (Updated delay prob burst) = codes "updated"
verdict_word Done = word_of_answer keyword.Done

-- the keyword of an arrival's cause; empty for another event
abbrev pub cause_word : Option Cause → List ℕ
cause_word None = []
cause_word (Some cause) = word_of_cause (name_of cause)

-- ---- the record

-- the ECN field of an event's packet, as in a history; empty if there is none
abbrev pub ecn_field : Option Packet → List ℕ
ecn_field None = []
ecn_field (Some packet) = ecn_word packet.ecn

-- a number; empty if there is none
abbrev pub number_field : Option ℕ → List ℕ
number_field None = []
number_field (Some n) = decimal n

-- the random word of an arrival
abbrev pub word_of : Command → Option ℕ
word_of (Arrive moment packet word) = Some word
word_of _ = None

-- the waiting time of the packet that left
abbrev pub wait_where : Answer → ℕ → Option ℕ
wait_where (Left packet) waited = Some waited
wait_where _ waited = None

-- 1 if the controller is active, otherwise 0
abbrev pub active_field : Bool → List ℕ
active_field true = codes "1"
active_field false = codes "0"

-- the event, the moment of its command, and its effective moment
abbrev pub head_fields : Explanation → List (List ℕ)
head_fields explanation =
    decimal explanation.number ∷ kind_word explanation.event.command ∷ decimal explanation.event.caller ∷ decimal (caller_moment explanation.event.command)
    ∷ decimal explanation.moment ∷ []

-- the tag and the size of the event's packet
abbrev pub packet_fields : Option Packet → List (List ℕ)
packet_fields packet = number_field (option_map (λ p. p.tag) packet) ∷ number_field (option_map (λ p. p.size) packet) ∷ []

-- a controller's numbers: bytes, packets and delay, which mostly change from one event to the next, and the others, which often stay unchanged
abbrev pub steady_fields : ℕ → ℕ → ℕ → List (List ℕ)
steady_fields prob accu burst = decimal prob ∷ decimal accu ∷ decimal burst ∷ []

abbrev pub register_fields : Registers → ℕ → List (List ℕ)
register_fields registers delay =
    decimal registers.bytes ∷ decimal registers.packets ∷ decimal delay ∷ steady_fields registers.prob registers.accu registers.burst

-- the verdict of the event, its cause, and the numbers before it
abbrev pub condition_fields : Explanation → List (List ℕ)
condition_fields explanation = verdict_word explanation.event.answer ∷ cause_word explanation.cause ∷ register_fields explanation.before explanation.delay

-- the other fields of the event and of the controller before it
abbrev pub more_fields : Explanation → List (List ℕ)
more_fields explanation =
    ecn_field (packet_of explanation.event) ∷ number_field (word_of explanation.event.command) ∷ number_field (wait_where explanation.event.answer explanation.waited)
    ∷ active_field explanation.before.active ∷ number_field (setter_number explanation.set_by) ∷ []

-- the twenty-seven fields except the last, the controller's activity after the event
abbrev pub most_fields : Explained → List (List ℕ)
most_fields all =
    head_fields all.explanation ++ packet_fields (packet_of all.explanation.event) ++ condition_fields all.explanation ++ more_fields all.explanation
    ++ register_fields all.after all.delay

-- the wall-clock time; empty if it is unknown
abbrev pub wall_field : Option ℕ → List ℕ
wall_field None = []
wall_field (Some unix) = utc_text unix

-- the end of a record: the wall-clock time of the effective moment as a last field if `by_wall`, and a line feed
abbrev pub end_of : Bool → Explained → List ℕ
end_of false all = codes "\n"
end_of true all = codes "," ++ wall_field (time_of all.explanation.clock all.explanation.moment) ++ codes "\n"

-- the record of an explanation: none of its fields has a comma, a quote or a line's end in it
unfoldable pub explanation_text : Bool → Explained → List ℕ
explanation_text by_wall all = onto (most_fields all) (active_field all.after.active ++ end_of by_wall all)

-- the names of the fields of a record
abbrev pub field_names : List ℕ
field_names =
    codes "number,kind,caller,moment,effective_moment,tag,size,verdict,cause,bytes,packets,delay,probability,accumulated_probability,burst_allowance,"
    ++ codes "ecn,word,waited,active,set_by,bytes_after,packets_after,delay_after,probability_after,accumulated_probability_after,"
    ++ codes "burst_allowance_after,active_after"

-- the header row of these names, with wall-clock times or without
abbrev pub header_of : List ℕ → Bool → List ℕ
header_of names by_wall = names ++ (if by_wall then codes ",wall\n" else codes "\n")

-- the header row of the records of events
unfoldable pub header : Bool → List ℕ
header by_wall = header_of field_names by_wall

-- a text is the header row, and the record of each of these events
abbrev pub IsRecords : Bool → List Explained → List ℕ → Type 0
IsRecords by_wall = IsBegun (header by_wall) (λ place text. text ≡ explanation_text by_wall place.event)
