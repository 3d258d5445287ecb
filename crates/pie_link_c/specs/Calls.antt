-- Codes of the calls at a port, commands of a caller's events, the fields that a call writes, and the promises of the
-- calls.
use Rattle.std.specs.Prelude.{ℕ, Bool, false, nat_lt, Result, Ok, Err, ◌≡◌, ◌≢◌, ◌==◌, ◌+◌, ◌⊎◌, ◌↔◌, true, Option, Some, None, if◌then◌else◌}
use Rattle.pie_link_c.specs.Names.{bits_of, Answer, Enqueued, Marked, DroppedEarly, DroppedBytes, DroppedPackets, Empty, Left, Updated, Done, Command, Refusal, Told, Tried, Busy, Refused, PieEvent, arrived_event, bare_event, EventCall, Arrive, Depart, Update, Reset, first_pass, without_highest, highest_alone, IsBeside, IsBothOf, SetParams, number_of, TriesToAnswer, CallerView, LinkView, HasSameNumbers, PieOpening, RawParams, opening_in, opening_refusal, are_in_range}
use Rattle.pie_queue.specs.declared.packet.Packet.{Packet}
use Rattle.pie_event.specs.declared.command.Command.TheVariants as command
use Rattle.pie_abi.specs.Structs.{ecn_at}
use Rattle.pie_event.specs.declared.refusal.Refusal.TheVariants.{Moment, Size, TooSoon, Exhausted, HistoryFull}

-- ---- codes

-- the code of an answer
abbrev pub answer_code : Answer → ℕ
answer_code Enqueued = 0
answer_code Marked = 1
answer_code DroppedEarly = 2
answer_code DroppedBytes = 3
answer_code DroppedPackets = 4
answer_code Empty = 5
answer_code (Left packet) = 0
answer_code (Updated delay prob burst) = 0
answer_code Done = 0

-- the code of a refusal: the number in its record plus 100
abbrev pub refusal_code : Refusal → ℕ
refusal_code Moment = 101
refusal_code Size = 102
refusal_code (TooSoon due) = 103
refusal_code Exhausted = 104
refusal_code HistoryFull = 105

-- the code of a call that may be busy
abbrev pub code_of : Result (Told Answer) (Tried Refusal) → ℕ
code_of (Ok reply) = answer_code reply.answer
code_of (Err Busy) = 121
code_of (Err (Refused why)) = refusal_code why

-- ---- commands

-- the packet of an event
abbrev pub packet_in : PieEvent → Packet
packet_in e = record { tag = e.tag; size = e.size; ecn = ecn_at e.ecn }

-- the command of a call for an event
abbrev pub command_in : EventCall → PieEvent → Command
command_in Arrive e = command.Arrive e.moment (packet_in e) e.word
command_in Depart e = command.Depart e.moment
command_in Update e = command.Update e.moment
command_in Reset e = command.Reset e.moment

-- the call is an arrival and the event's ECN field is invalid
abbrev pub has_bad_ecn : EventCall → PieEvent → Bool
has_bad_ecn Arrive e = nat_lt 3 e.ecn
has_bad_ecn _ e = false

-- ---- fields that a call writes

-- the event with this code as its answer: the packet of an arrival is unchanged, and fields that other calls do not
-- use are 0
abbrev pub event_with_code : EventCall → PieEvent → ℕ → PieEvent
event_with_code Arrive e code = arrived_event e code
event_with_code Depart e code = bare_event 2 e code
event_with_code Update e code = bare_event 3 e code
event_with_code Reset e code = bare_event 4 e code

-- the event with an answer: a departure's packet, an update's numbers
abbrev pub answered_event : EventCall → PieEvent → Answer → PieEvent
answered_event call e (Left packet) = record (event_with_code call e 0) { tag = packet.tag; size = packet.size; ecn = bits_of packet.ecn }
answered_event call e (Updated delay prob burst) = record (event_with_code call e 0) { delay = delay; prob = prob; burst = burst }
answered_event call e answer = event_with_code call e (answer_code answer)

-- the event with the caller's number
abbrev pub under : ℕ → PieEvent → PieEvent
under caller e = record e { caller = caller }

-- the event after a call with this result; unchanged if the link was busy
abbrev pub filled : EventCall → ℕ → PieEvent → Result (Told Answer) (Tried Refusal) → PieEvent
filled call caller e (Ok reply) = under caller (answered_event call e reply.answer)
filled call caller e (Err Busy) = e
filled call caller e (Err (Refused why)) = under caller (event_with_code call e (refusal_code why))

-- ---- Promises of the calls at a port. In contracts an open port is its caller.

-- ---- opening

-- the refusal of an opening, out of memory aside; 0 if there is none
abbrev pub open_refusal : Option CallerView → PieOpening → ℕ → ℕ
open_refusal (Some caller) o callers = 127
open_refusal None o callers = if opening_refusal o == 0 then (if callers == 0 then 124 else 0) else opening_refusal o

-- the port has all numbers of a new link, for which `KeepsHistory` holds, and an empty front
pub record IsOpened (KeepsHistory : LinkView → Type 0) (o : PieOpening) (callers : ℕ) (port : Option CallerView) : Type 0 where
  pub link : LinkView
  pub opened : port ≡ Some (first_pass link callers)
  pub origin : link.origin ≡ Some (opening_in o)
  pub numbers : link.numbers ≡ callers
  pub kept : KeepsHistory link

-- ---- a call for one event

-- a call at a port: a closed port returns the code of a closed port, 122, and changes nothing; for an open one `comes` relates its caller
-- before and after
unfoldable pub AtPort : Option CallerView → ℕ → Option CallerView → Type 0 → (CallerView → CallerView → Type 0) → Type 0
AtPort None code after stays comes = (code ≡ 122) × stays × (after ≡ None)
AtPort (Some before) code after stays comes = (now : CallerView) × (after ≡ Some now) × comes before now

-- the command of an open port's caller was decided, or the link was busy; with the code and the event of this result
pub record IsTried (command : Command) (fills : Result (Told Answer) (Tried Refusal) → PieEvent) (before : CallerView) (code : ℕ) (written : PieEvent)
    (after : CallerView) : Type 0 where
  pub reply : Result (Told Answer) (Tried Refusal)
  pub tried : TriesToAnswer before.lock before command reply after
  pub stays : HasSameNumbers before after
  pub code_is : code ≡ code_of reply
  pub filled : written ≡ fills reply

-- the event's call; an ECN field above 3 is refused before it
abbrev pub IsTriedUnless : Bool → EventCall → CallerView → PieEvent → ℕ → PieEvent → CallerView → Type 0
IsTriedUnless true call before e code written after =
    (code ≡ 111) × (written ≡ under before.first (event_with_code call e 111)) × (after ≡ before)
IsTriedUnless false call before e code written after = IsTried (command_in call e) (filled call before.first e) before code written after

-- the result of one call at a link: its code, and each field of the event
abbrev pub Tries : EventCall → Option CallerView → PieEvent → ℕ → PieEvent → Option CallerView → Type 0
Tries call port e code written after =
    AtPort port code after (written ≡ e) (λ before now. IsTriedUnless (has_bad_ecn call e) call before e code written now)

-- ---- new parameters

-- the event after a call for new parameters with this result
abbrev pub set_event : ℕ → PieEvent → Result (Told Answer) (Tried Refusal) → PieEvent
set_event caller e (Ok reply) = under caller (bare_event 5 e (answer_code reply.answer))
set_event caller e (Err Busy) = e
set_event caller e (Err (Refused why)) = under caller (bare_event 5 e (refusal_code why))

-- parameters out of their ranges are refused before the call
abbrev pub IsSetIfInRange : Bool → RawParams → CallerView → PieEvent → ℕ → PieEvent → CallerView → Type 0
IsSetIfInRange false params before e code written after = (code ≡ 107) × (written ≡ under before.first (bare_event 5 e 107)) × (after ≡ before)
IsSetIfInRange true params before e code written after = IsTried (SetParams e.moment params) (set_event before.first e) before code written after

-- the result of new parameters at a link
abbrev pub TriesToSet : RawParams → Option CallerView → PieEvent → ℕ → PieEvent → Option CallerView → Type 0
TriesToSet params port e code written after =
    AtPort port code after (written ≡ e) (λ before now. IsSetIfInRange (are_in_range params) params before e code written now)

-- ---- ports

-- the result of sharing an open port with a closed one: the new port has the highest number, the old one the others,
-- and both have the same front. Or the port has only one number, or there is no memory: then nothing has changed
pub record IsShared (before : CallerView) (code : ℕ) (port new : Option CallerView) : Type 0 where
  pub shared : code ≡ 0 → (port ≡ Some (without_highest before)) × (new ≡ Some (highest_alone before))
  pub kept : code ≢ 0 → (port ≡ Some before) × (new ≡ None)
  pub one : (code ≡ 125) ↔ (before.limit ≡ before.first + 1)
  pub codes : (code ≡ 0) ⊎ (code ≡ 125) ⊎ (code ≡ 123)

-- the result of splitting a port; a refused share loses no number
abbrev pub Shares : Option CallerView → Option CallerView → ℕ → Option CallerView → Option CallerView → Type 0
Shares None other code port new = (code ≡ 122) × (port ≡ None) × (new ≡ other)
Shares (Some before) (Some other) code port new = (code ≡ 127) × (port ≡ Some before) × (new ≡ Some other)
Shares (Some before) None code port new = IsShared before code port new

-- the result of gathering two open ports: one has both ranges and the longer front, and the other is closed; or the
-- ranges are not adjacent, and nothing has changed
pub record IsGathered (before other : CallerView) (code : ℕ) (port left : Option CallerView) : Type 0 where
  pub both : code ≡ 0 → (left ≡ None) × ((now : CallerView) × (port ≡ Some now) × IsBothOf number_of before other now)
  pub kept : code ≢ 0 → (port ≡ Some before) × (left ≡ Some other)
  pub beside : (code ≡ 0) ↔ IsBeside before other
  pub codes : (code ≡ 0) ⊎ (code ≡ 126)

-- the result of joining two ports
abbrev pub Gathers : Option CallerView → Option CallerView → ℕ → Option CallerView → Option CallerView → Type 0
Gathers None other code port left = (code ≡ 122) × (port ≡ None) × (left ≡ other)
Gathers (Some before) None code port left = (code ≡ 122) × (port ≡ Some before) × (left ≡ None)
Gathers (Some before) (Some other) code port left = IsGathered before other code port left

-- if both ports are open, they belong to one link
abbrev pub AreOfOneLink : Option CallerView → Option CallerView → Type 0
AreOfOneLink (Some port) (Some other) = other.lock ≡ port.lock
AreOfOneLink _ _ = Unit {0}

-- the code of closing a port or an excerpt
abbrev pub close_code : {A : Type 0} → Option A → ℕ
close_code (Some held) = 0
close_code None = 122
