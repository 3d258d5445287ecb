-- The numbers and structs of the libraries for C: choices, packets, verdicts, parameters, openings, events and
-- statistics; and the caller's bytes after a call that writes a text.
use Rattle.std.specs.Prelude.{ℕ, ◌^◌, ◌-◌, ◌+◌, ◌/◌, ◌%◌, ◌==◌, if◌then◌else◌, ◌||◌, Bool, nat_lt, Option, Some, None, is_none, not, Result, Ok, Err, List, ◌++◌, drop, length, nat_le}
use Rattle.pie_params.specs.declared.elements.Elements.{Elements}
use Rattle.pie_params.specs.declared.elements.Decay.{Decay}
use Rattle.pie_params.specs.declared.elements.Decay.TheVariants.{Half, Zero}
use Rattle.pie_params.specs.declared.elements.Delay.{Delay}
use Rattle.pie_params.specs.declared.elements.Delay.TheVariants.{Rate, Stamp}
use Rattle.pie_params.specs.declared.elements.Picking.{Picking}
use Rattle.pie_params.specs.declared.elements.Picking.TheVariants.{Derandomized, Random}
use Rattle.pie_params.specs.declared.elements.Step.{Step}
use Rattle.pie_params.specs.declared.elements.Step.TheVariants.{Capped, Uncapped}
use Rattle.pie_params.specs.declared.elements.Size.{Size}
use Rattle.pie_params.specs.declared.elements.Size.TheVariants.{Unscaled, Scaled}
use Rattle.pie_event.specs.declared.opening.Profile.{Profile}
use Rattle.pie_event.specs.declared.opening.Profile.TheVariants.{One, Two}
use Rattle.pie_abi.specs.declared.event.PieEvent.{PieEvent}
use Rattle.pie_queue.specs.declared.ecn.Ecn.{Ecn}
use Rattle.pie_queue.specs.declared.ecn.Ecn.TheVariants.{NotEct, Ect1, Ect0, Ce}
use Rattle.pie_event.specs.declared.command.Verdict.{Verdict}
use Rattle.pie_event.specs.declared.command.Verdict.TheVariants.{Enqueued, Marked, DroppedEarly, DroppedBytes, DroppedPackets}
use Rattle.pie_params.specs.declared.raw.Field.{Field}
use Rattle.pie_params.specs.declared.raw.Field.TheVariants.{Target, TUpdate, MaxBurst, Alpha, Beta, MeanPkt, LimitBytes, MarkEcnth, DqThreshold}
use Rattle.pie_params.specs.declared.raw.RawParams.{RawParams}
use Rattle.pie_params.specs.Params.{first_bad}
use Rattle.pie_event.specs.Event as book
use Rattle.pie_event.specs.declared.opening.Limits.{Limits}
use Rattle.pie_event.specs.declared.opening.Mode.{Mode}
use Rattle.pie_event.specs.declared.opening.Mode.TheVariants.{Bounded, Rolling}
use Rattle.pie_event.specs.declared.opening.Opening.{Opening}
use Rattle.pie_abi.specs.declared.opening.PieOpening.{PieOpening}
use Rattle.pie_event.specs.declared.registers.Stats.{Stats}
use Rattle.pie_abi.specs.declared.stats.PieStats.{PieStats}

-- ---- Choices of an opening, from their numbers, and the latest moment.

-- the latest moment
abbrev pub last_moment : ℕ
last_moment = 2 ^ 60 - 1

-- a profile by its number, and its number
abbrev pub profile_of : ℕ → Profile
profile_of number = if number == 2 then Two else One

abbrev pub profile_number : Profile → ℕ
profile_number One = 1
profile_number Two = 2

-- the optional elements by their flags, 1, 2, 4, 8 and 16, and their flags
abbrev pub delay_of : ℕ → Delay
delay_of choices = if choices % 2 == 1 then Stamp else Rate

-- the optional elements that the flags in `choices` select
unfoldable pub elements_of : ℕ → Elements
elements_of choices = record {
  delay = delay_of choices;
  picking = if (choices / 2) % 2 == 1 then Random else Derandomized;
  step = if (choices / 4) % 2 == 1 then Uncapped else Capped;
  size = if (choices / 8) % 2 == 1 then Scaled else Unscaled;
  decay = if (choices / 16) % 2 == 1 then Half else Zero;
}

abbrev pub delay_flag : Delay → ℕ
delay_flag Rate = 0
delay_flag Stamp = 1

abbrev pub picking_flag : Picking → ℕ
picking_flag Derandomized = 0
picking_flag Random = 2

abbrev pub step_flag : Step → ℕ
step_flag Capped = 0
step_flag Uncapped = 4

abbrev pub size_flag : Size → ℕ
size_flag Unscaled = 0
size_flag Scaled = 8

abbrev pub decay_flag : Decay → ℕ
decay_flag Zero = 0
decay_flag Half = 16

unfoldable pub choices_of : Elements → ℕ
choices_of e = delay_flag e.delay + picking_flag e.picking + step_flag e.step + size_flag e.size + decay_flag e.decay

-- ---- Events after a call has filled in its results.

-- an arrival with this return code
abbrev pub arrived_event : PieEvent → ℕ → PieEvent
arrived_event e answer = record e { kind = 1; answer = answer; delay = 0; prob = 0; burst = 0; reserved = 0 }

-- a departure of a packet with this return code
abbrev pub left_event : PieEvent → ℕ → PieEvent
left_event e answer = record e { kind = 2; answer = answer; word = 0; delay = 0; prob = 0; burst = 0; reserved = 0 }

-- any other event with this return code: an event without a packet
abbrev pub bare_event : ℕ → PieEvent → ℕ → PieEvent
bare_event kind e answer =
    record e { kind = kind; answer = answer; tag = 0; word = 0; delay = 0; prob = 0; burst = 0; size = 0; ecn = 0; reserved = 0 }

-- ---- The meaning of a packet's numbers, and the number of a verdict.

-- true if a packet's size is outside 1 to 65535 bytes
abbrev pub is_bad_size : ℕ → Bool
is_bad_size size = (size == 0) || nat_lt 65535 size

-- the ECN field with these two bits (RFC 3168, section 5)
abbrev pub ecn_at : ℕ → Ecn
ecn_at bits = if bits == 0 then NotEct else if bits == 1 then Ect1 else if bits == 2 then Ect0 else Ce

-- the ECN field with these bits, if they are two (RFC 3168, section 5)
abbrev pub ecn_from : ℕ → Option Ecn
ecn_from bits =
    if bits == 0 then Some NotEct else if bits == 1 then Some Ect1 else if bits == 2 then Some Ect0 else if bits == 3 then Some Ce else None

-- the number of a verdict
abbrev pub verdict_number : Verdict → ℕ
verdict_number Enqueued = 0
verdict_number Marked = 1
verdict_number DroppedEarly = 2
verdict_number DroppedBytes = 3
verdict_number DroppedPackets = 4

-- ---- The numbers of the parameters' fields, and the test of their ranges.

-- the number of a field, counted from 1 in the order of the checks
abbrev pub field_number : Field → ℕ
field_number Target = 1
field_number TUpdate = 2
field_number MaxBurst = 3
field_number Alpha = 4
field_number Beta = 5
field_number MeanPkt = 6
field_number LimitBytes = 7
field_number MarkEcnth = 8
field_number DqThreshold = 9

-- the number of the field out of its range; 0 without one
abbrev pub bad_number : Option Field → ℕ
bad_number None = 0
bad_number (Some field) = field_number field

-- true if all parameters are in their ranges
unfoldable pub are_in_range : RawParams → Bool
are_in_range params = is_none (first_bad params)

-- ---- The opening with a caller's numbers, and its refusals.

-- the limits of the history
abbrev pub limits_of : PieOpening → Limits
limits_of o = record { packets = o.packets; tail = o.tail; events = o.events }

-- the behaviour of a full event log
abbrev pub mode_of : ℕ → Mode
mode_of number = if number == 1 then Rolling else Bounded

-- the code of the refusal of an opening; 0 if it is accepted
unfoldable pub opening_refusal : PieOpening → ℕ
opening_refusal o =
    if not (are_in_range o.params) then 107
    else if nat_lt last_moment o.moment then 101
    else if not ((o.profile == 1) || (o.profile == 2)) then 113
    else if nat_lt 31 o.choices then 117
    else if nat_lt 1 o.mode || not (book.are_in_range (limits_of o)) then 120
    else 0

-- the opening of the history
abbrev pub opening_in : PieOpening → Opening
opening_in o = book.opening_of (limits_of o) o.params o.moment (mode_of o.mode) (profile_of o.profile) (elements_of o.choices)

-- the opening of the history, or the code of its refusal
abbrev pub opening_of : PieOpening → Result Opening ℕ
opening_of o = if opening_refusal o == 0 then Ok (opening_in o) else Err (opening_refusal o)

-- ---- Statistics in the layout of C.

-- the statistics in the layout of C, with the sum of the times in the queue as two words
abbrev pub stats_of : Stats → PieStats
stats_of s = record {
  arrivals = s.arrivals;
  enqueued = s.enqueued;
  marked = s.marked;
  early = s.early;
  over_bytes = s.over_bytes;
  over_packets = s.over_packets;
  left = s.left;
  left_bytes = s.left_bytes;
  empty = s.empty;
  updates = s.updates;
  resets = s.resets;
  changes = s.changes;
  largest_queue = s.largest_queue;
  largest_delay = s.largest_delay;
  waited = s.waited % 2 ^ 64;
  waited_high = s.waited / 2 ^ 64;
}

-- ---- The caller's bytes after a call that writes a text.

-- the number of bytes written: all, or 0 if there is too little room
abbrev pub count_written : List ℕ → List ℕ → ℕ
count_written text out = if nat_le (length text) (length out) then length text else 0

-- the bytes after the call: the text followed by the rest, or unchanged
abbrev pub after_writing : List ℕ → List ℕ → List ℕ
after_writing text out = if nat_le (length text) (length out) then text ++ drop (length text) out else out
