-- Promises of bursts, excerpts and readings at a port. A burst is several events of the port's caller, one after
-- another, in one turn.
use Rattle.std.specs.Prelude.{ℕ, ◌≡◌, ◌==◌, ◌⊎◌, Bool, true, false, List, [], ◌∷◌, map, length, Option, Some, None, Ok, Err, if◌then◌else◌, ◌+◌, Result, slice_get, ◌-◌, ◌^◌, min}
use Rattle.pie_link_c.specs.Names.{Command, Reply, AnswersWithin, CallerView, HasSameNumbers, WasBusy, PieEvent, EventCall, Update, option_map_or, Ends, ExcerptView, has_room, text_of, Tried, Busy, Refused, Opening, PieOpening, opening_refusal, after_writing, count_written, ExcerptText, Event, Refusal, Told}
use Rattle.pie_event.specs.declared.command.Command.TheVariants as command
use Rattle.pie_link_c.specs.Calls.{AtPort, refusal_code, answered_event, command_in, has_bad_ecn, event_with_code, packet_in, under}
use Rattle.pie_event.specs.declared.refusal.TooSmall.{TooSmall}
use Rattle.pie_excerpt.specs.Beginning.{excerpt_rows}
use Rattle.pie_link.specs.Callers.{TriesToFillExcerpt, TriesToRead}
use Rattle.pie_event.specs.declared.registers.Registers.{Registers}
use Rattle.pie_event.specs.declared.registers.Stats.{Stats}
use Rattle.pie_abi.specs.Structs.{stats_of}
use Rattle.pie_link_c.specs.declared.readings.PieRegisters.{PieRegisters}
use Rattle.pie_link_c.specs.declared.readings.PieTotals.{PieTotals}

-- ---- an event of a burst

-- the call of an event of a burst; any burst may contain updates
abbrev pub call_of_event : EventCall → PieEvent → EventCall
call_of_event call e = if e.kind == 3 then Update else call

-- the command of an event. For an invalid ECN field it is an arrival of no bytes, which is always refused and changes
-- nothing
abbrev pub command_unless : Bool → EventCall → PieEvent → Command
command_unless true call e = command.Arrive e.moment (record (packet_in e) { size = 0 }) e.word
command_unless false call e = command_in call e

abbrev pub command_by : EventCall → PieEvent → Command
command_by call e = command_unless (has_bad_ecn (call_of_event call e) e) (call_of_event call e) e

-- the event after a result, with the caller's number
abbrev pub replied : EventCall → ℕ → PieEvent → Reply → PieEvent
replied call caller e (Ok reply) = under caller (answered_event call e reply.answer)
replied call caller e (Err why) = under caller (event_with_code call e (refusal_code why))

-- the event after a result, unless its ECN field is invalid
abbrev pub event_answered_unless : Bool → EventCall → ℕ → PieEvent → Reply → PieEvent
event_answered_unless true call caller e reply = under caller (event_with_code call e 111)
event_answered_unless false call caller e reply = replied call caller e reply

abbrev pub event_answered : EventCall → ℕ → PieEvent → Reply → PieEvent
event_answered call caller e reply = event_answered_unless (has_bad_ecn (call_of_event call e) e) (call_of_event call e) caller e reply

-- the events after these results: each has its own, and the events after them are unchanged
abbrev pub events_answered : EventCall → ℕ → List PieEvent → List Reply → List PieEvent
events_answered call caller [] replies = []
events_answered call caller (e ∷ es) [] = e ∷ es
events_answered call caller (e ∷ es) (reply ∷ replies) = event_answered call caller e reply ∷ events_answered call caller es replies

-- `done` of the events, with that caller's number, were decided with these results, and are now `now`
pub record Took (call : EventCall) (caller number : ℕ) (events now : List PieEvent) (done : ℕ) (replies : List Reply) : Type 0 where
  pub events_are : now ≡ events_answered call caller events replies
  pub counted : done ≡ length replies
  pub same : number ≡ caller

-- ---- a burst

-- the burst was decided: each event after those before it, with no event of another caller between; `count` events were
-- decided
pub record IsAnswered (call : EventCall) (budget : Option ℕ) (continues : Reply → Bool) (before : CallerView) (events : List PieEvent) (count code : ℕ)
    (written : List PieEvent) (after : CallerView) : Type 0 where
  pub replies : List Reply
  pub answered : AnswersWithin budget continues before.lock before (map (command_by call) events) [] replies after
  pub stays : HasSameNumbers before after
  pub written_is : written ≡ events_answered call before.first events replies
  pub counted : count ≡ length replies
  pub done : code ≡ 0

-- the link was busy, and nothing was done. A burst of no events never finds the link busy
pub record WasNotTried (before : CallerView) (events : List PieEvent) (count code : ℕ) (written : List PieEvent) (after : CallerView) : Type 0 where
  pub busy : WasBusy before after
  pub stays : written ≡ events
  pub counted : count ≡ 0
  pub some : events ≡ [] → ⊥
  pub code_is : code ≡ 121

-- the result of a burst at an open port
abbrev pub IsTriedAll : EventCall → Option ℕ → (Reply → Bool) → CallerView → List PieEvent → ℕ → ℕ → List PieEvent → CallerView → Type 0
IsTriedAll call budget continues before events count code written after =
    IsAnswered call budget continues before events count code written after ⊎ WasNotTried before events count code written after

-- the results of a burst of calls at a link
abbrev pub TriesAll : EventCall → Option ℕ → (Reply → Bool) → Option CallerView → List PieEvent → ℕ → ℕ → List PieEvent → Option CallerView → Type 0
TriesAll call budget continues port events count code written after =
    AtPort port code after ((written ≡ events) × (count ≡ 0)) (λ before now. IsTriedAll call budget continues before events count code written now)

-- the budget of a number of bytes; the greatest number is no budget
abbrev pub budget_of : ℕ → Option ℕ
budget_of bytes = if bytes == 18446744073709551615 then None else Some bytes

-- ---- Promises of the calls for an excerpt: the end of the history with its preamble, in memory that was taken beforehand,
-- and its text.

-- ---- room

-- the refusal of memory for excerpts, out of memory aside; 0 if there is none
abbrev pub room_refusal : Option ExcerptText → PieOpening → ℕ
room_refusal (Some text) o = 127
room_refusal None o = opening_refusal o

-- the excerpt has room for the excerpts of every link with this opening, and no events
pub record IsEmpty (opening : Opening) (text : ExcerptText) : Type 0 where
  pub opened : text.excerpt.opening ≡ opening
  pub room : has_room text.excerpt opening.limits ≡ true
  pub none : text.excerpt.events ≡ []
  pub ends : Ends text.excerpt []
  pub unwritten : text.written ≡ 0

-- the excerpt is open, and P holds of it
abbrev pub IsOpenWith : (ExcerptText → Type 0) → Option ExcerptText → Type 0
IsOpenWith P excerpt = (text : ExcerptText) × (excerpt ≡ Some text) × P text

-- ---- an excerpt of a link

-- the code of filling an excerpt
abbrev pub excerpt_code : Result (Unit {0}) (Tried TooSmall) → ℕ
excerpt_code (Ok done) = 0
excerpt_code (Err Busy) = 121
excerpt_code (Err (Refused why)) = 129

-- the number of written records: 0 after the excerpt was filled
abbrev pub written_after : Result (Unit {0}) (Tried TooSmall) → ℕ → ℕ
written_after (Ok done) written = 0
written_after (Err why) written = written

-- an open port's excerpt is one of its link, or the link was busy, or there is too little room; with the code of this
-- result
pub record IsFilledAt (before : CallerView) (text : ExcerptText) (code : ℕ) (after : CallerView) (filled : ExcerptText) : Type 0 where
  pub reply : Result (Unit {0}) (Tried TooSmall)
  pub tried : TriesToFillExcerpt before.lock before reply text.excerpt filled.excerpt after
  pub stays : HasSameNumbers before after
  pub code_is : code ≡ excerpt_code reply
  pub written : filled.written ≡ written_after reply text.written

-- if one of the two is closed, the call returns 122, and both are unchanged
abbrev pub TriesToFill : Option CallerView → Option ExcerptText → ℕ → Option CallerView → Option ExcerptText → Type 0
TriesToFill None text code after filled = (code ≡ 122) × (after ≡ None) × (filled ≡ text)
TriesToFill (Some before) None code after filled = (code ≡ 122) × (after ≡ Some before) × (filled ≡ None)
TriesToFill (Some before) (Some text) code after filled =
    (now : CallerView) × (left : ExcerptText) × (after ≡ Some now) × (filled ≡ Some left) × IsFilledAt before text code now left

-- ---- the text of an excerpt

-- the record at a place: the `resume` record, those of the packets in the queue, and those of the events; none after
-- these
abbrev pub record_text : ExcerptView → ℕ → List ℕ
record_text excerpt place = option_map_or text_of (slice_get (excerpt_rows excerpt) place) []

-- the next record is written completely or not at all; nothing of a closed excerpt
abbrev pub WritesNext : Option ExcerptText → List ℕ → ℕ → List ℕ → Option ExcerptText → Type 0
WritesNext None out count written after = (count ≡ 0) × (written ≡ out) × (after ≡ None)
WritesNext (Some text) out count written after =
    (count ≡ count_written (record_text text.excerpt text.written) out) × (written ≡ after_writing (record_text text.excerpt text.written) out)
    × (after ≡ Some (record text { written = if count == 0 then text.written else text.written + 1 }))

-- ---- Promises of a reading at a port, and the form of registers and statistics in a caller's struct.

-- ---- readings in a struct

abbrev pub bit : Bool → ℕ
bit true = 1
bit false = 0

-- the registers, with the number of events and the due moment of the next update
abbrev pub registers_of : Told Registers → PieRegisters
registers_of reply = record {
  count = reply.number;
  moment = reply.answer.moment;
  packets = reply.answer.packets;
  bytes = reply.answer.bytes;
  prob = reply.answer.prob;
  old_delay = reply.answer.old;
  accu = reply.answer.accu;
  burst = reply.answer.burst;
  last = reply.answer.last;
  due = min (reply.answer.last + reply.answer.params.t_update) (2 ^ 64 - 1);
  average = reply.answer.average;
  measuring = bit reply.answer.measuring;
  active = bit reply.answer.active;
  params = reply.answer.params;
}

-- the statistics, with the number of events
abbrev pub totals_of : Told Stats → PieTotals
totals_of reply = record { count = reply.number; stats = stats_of reply.answer }

-- ---- a reading

abbrev pub read_code : {A : Type 0} → Result (Told A) (Tried Refusal) → ℕ
read_code (Ok reply) = 0
read_code (Err why) = 121

-- the caller's struct after a reading; unchanged if the link was busy
abbrev pub read_into : {A B : Type 0} → (Told A → B) → B → Result (Told A) (Tried Refusal) → B
read_into struct_of held (Ok reply) = struct_of reply
read_into struct_of held (Err why) = held

module _ {A B : Type 0} (value_after : Opening → List Event → A) (struct_of : Told A → B) where
  -- the reading of an open port's caller, or the link was busy; with the code and the struct of this result
  pub record IsReadInto (before : CallerView) (held : B) (code : ℕ) (written : B) (after : CallerView) : Type 0 where
    pub reply : Result (Told A) (Tried Refusal)
    pub tried : TriesToRead value_after before.lock before reply after
    pub stays : HasSameNumbers before after
    pub code_is : code ≡ read_code reply
    pub filled : written ≡ read_into struct_of held reply

  -- the result of a reading at a link: its code, and the fields of the struct
  abbrev pub TriesToReadInto : Option CallerView → B → ℕ → B → Option CallerView → Type 0
  TriesToReadInto port held code written after = AtPort port code after (written ≡ held) (λ before now. IsReadInto before held code written now)
