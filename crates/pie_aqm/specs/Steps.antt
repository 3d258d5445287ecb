-- The state of a controller, its soundness, its opening, and its events.
pub use Rattle.pie_params.specs.declared.raw.RawParams.{RawParams}
pub use Rattle.pie_params.specs.declared.elements.Elements.{Elements}
pub use Rattle.pie_params.specs.declared.elements.Delay.{Delay}
pub use Rattle.pie_params.specs.declared.elements.Delay.TheVariants.{Rate, Stamp}
pub use Rattle.pie_params.specs.declared.elements.Picking.{Picking}
pub use Rattle.pie_params.specs.declared.elements.Picking.TheVariants.{Derandomized, Random}
pub use Rattle.pie_params.specs.declared.elements.Step.TheVariants.{Capped, Uncapped}
pub use Rattle.pie_params.specs.declared.elements.Size.{Size}
pub use Rattle.pie_params.specs.declared.elements.Size.TheVariants.{Unscaled, Scaled}
pub use Rattle.pie_rate.specs.Estimate.{Departure, departure, Begun, Estimate}
pub use Rattle.pie_control.specs.History.{ControlEvent, ControlState}
pub use Rattle.pie_early.specs.Decision.{EarlyEvent, chosen}
pub use Rattle.pie_early.specs.declared.decision.Offered.{Offered}
pub use Rattle.pie_early.specs.declared.early.Choice.{Choice}
pub use Rattle.pie_early.specs.declared.early.Choice.TheVariants.{Enqueue, Mark, Drop}
pub use Rattle.pie_event.specs.declared.opening.Profile.{Profile}
pub use Rattle.pie_event.specs.declared.opening.Profile.TheVariants.{One, Two}
pub use Rattle.pie_aqm.specs.declared.verdict.ArrivingPacket.{ArrivingPacket}
pub use Rattle.pie_event.specs.declared.command.Verdict.{Verdict}
use Rattle.std.specs.Prelude.{◌≡◌, ℕ, ◌^◌, ◌<◌, ◌≤◌, Bool, true, nat_le, nat_lt, not, is_none, Option, Some, None, find, List, [], ◌∷◌, ⊤, ◌+◌, ◌-◌, ◌*◌, ◌==◌, max, ◌&&◌, false, min, option_map, if◌then◌else◌}
use Rattle.pie_params.specs.Params.{first_bad}
use Rattle.pie_aqm.specs.declared.raw.RawController.{RawController}
use Rattle.pie_event.specs.declared.registers.Register.{Register}
use Rattle.pie_event.specs.declared.registers.Register.TheVariants as register
use Rattle.pie_rate.specs.Estimate.{after_departure}
use Rattle.pie_control.specs.History.{delay_of, burst_after, ends_calm, next}
use Rattle.pie_early.specs.Cause.{early_cause}
use Rattle.pie_early.specs.Decision.{accu_after, choice_of}
use Rattle.pie_event.specs.declared.cause.Cause.{Cause}
use Rattle.pie_event.specs.declared.cause.Cause.TheVariants.{NoRoomInBytes, NoRoomInPackets, Inactive}
use Rattle.pie_event.specs.declared.command.Verdict.TheVariants.{DroppedBytes, DroppedPackets}
use Rattle.pie_event.specs.Cause.{is_queued}

-- the state of a controller: profile, optional elements, parameters in force, effective moment, activity, estimate of
-- the departure rate, the last departed packet's time in the queue, state of the control law, and accumulated
-- probability
abbrev pub ControllerState : Type 0
ControllerState = RawController

-- an open cycle in range: it opened at or before `now` and has counted fewer bytes than the threshold
abbrev pub IsWithin : ℕ → ℕ → Option Begun → Type 0
IsWithin threshold now None = ⊤
IsWithin threshold now (Some cycle) = (cycle.start ≤ now) × (cycle.count < threshold)

-- a sound state: each number is in its range, and the numbers agree. No moment is later than the effective one, and in
-- profile one the controller is active
pub record IsSound (h : ControllerState) : Type 0 where
  pub params : first_bad h.params ≡ None
  pub moment : h.moment < 2 ^ 60
  pub prob : h.control.prob ≤ 10 ^ 12
  pub old_delay : h.control.old_delay ≤ 2 ^ 40
  pub burst : h.control.burst ≤ 10 ^ 12
  pub last : h.control.last ≤ h.moment
  pub accu : h.accu < 8_500_000_000_000
  pub average : h.rate.average < 2 ^ 60
  pub cycle : IsWithin h.params.dq_threshold h.moment h.rate.begun
  pub waited : h.waited ≤ 2 ^ 40
  pub active : h.profile ≡ One → h.active ≡ true

-- ---- Soundness of each number of a state

-- true if an open cycle opened at or before `now`; below, true if it has counted fewer bytes than the threshold
abbrev pub began_by : ℕ → Option Begun → Bool
began_by now None = true
began_by now (Some cycle) = nat_le cycle.start now

abbrev pub counts_below : ℕ → Option Begun → Bool
counts_below threshold None = true
counts_below threshold (Some cycle) = nat_lt cycle.count threshold

-- true if the activity is possible: in profile one a controller is active
abbrev pub fits_profile : Profile → Bool → Bool
fits_profile One active = active
fits_profile Two active = true

-- true if the number is in its range and agrees with the numbers before it
abbrev pub is_sound_at : ControllerState → Register → Bool
is_sound_at h register.Params = is_none (first_bad h.params)
is_sound_at h register.Moment = nat_le h.moment 1152921504606846975
is_sound_at h register.Prob = nat_le h.control.prob (10 ^ 12)
is_sound_at h register.OldDelay = nat_le h.control.old_delay (2 ^ 40)
is_sound_at h register.Accu = nat_lt h.accu 8_500_000_000_000
is_sound_at h register.Burst = nat_le h.control.burst (10 ^ 12)
is_sound_at h register.Last = nat_le h.control.last h.moment
is_sound_at h register.Average = nat_le h.rate.average 1152921504606846975
is_sound_at h register.CycleStart = began_by h.moment h.rate.begun
is_sound_at h register.CycleCount = counts_below h.params.dq_threshold h.rate.begun
is_sound_at h register.Waited = nat_le h.waited (2 ^ 40)
is_sound_at h register.Active = fits_profile h.profile h.active

-- the numbers, in the order of the checks
abbrev pub checked_registers : List Register
checked_registers =
    register.Params ∷ register.Moment ∷ register.Prob ∷ register.OldDelay ∷ register.Accu ∷ register.Burst ∷ register.Last ∷ register.Average
    ∷ register.CycleStart ∷ register.CycleCount ∷ register.Waited ∷ register.Active ∷ []

-- the first number that is not sound
unfoldable pub first_unsound : ControllerState → Option Register
first_unsound h = find (λ register. not (is_sound_at h register)) checked_registers

-- ---- The opening of a controller, and its events in order.

-- the opening of a controller
pub record Opened : Type 0 where
  pub profile : Profile
  pub elements : Elements
  pub params : RawParams
  pub moment : ℕ

-- an arrival, with its verdict, the packet's size, and the bytes in the queue before and after it; a departure of a
-- packet of this size that leaves these bytes and arrived at this moment; a departure that found no packet; an update,
-- with the bytes in the queue; a reset; new parameters. The last number is the caller's moment
pub data ControllerEvent : Type 0 where
  Arrived : Verdict → ℕ → ℕ → ℕ → ℕ → ControllerEvent
  Departed : ℕ → ℕ → ℕ → ℕ → ControllerEvent
  Advanced : ℕ → ControllerEvent
  Updated : ℕ → ℕ → ControllerEvent
  Reset : ℕ → ControllerEvent
  Changed : RawParams → ℕ → ControllerEvent

-- the caller's moment
abbrev pub moment_of : ControllerEvent → ℕ
moment_of (Arrived verdict size before after moment) = moment
moment_of (Departed size bytes_left since moment) = moment
moment_of (Advanced moment) = moment
moment_of (Updated queued moment) = moment
moment_of (Reset moment) = moment
moment_of (Changed params moment) = moment

-- the new parameters, if the event sets them
abbrev pub params_set : ControllerEvent → Option RawParams
params_set (Changed params moment) = Some params
params_set _ = None

-- The rules: the state of a controller after each call, from the state before it (RFC 8033, sections 4.1, 4.2, 4.4, 5.1
-- to 5.5, and Appendix A for tail drop; the conditions for switching in profile two are this project's own).

-- the effective moment: the greatest up to now
abbrev pub now_at : ControllerState → ℕ → ℕ
now_at h moment = max h.moment moment

-- no sample of the departure rate, and no open cycle
abbrev pub no_estimate : Estimate
no_estimate = record { average = 0; begun = None }

-- ---- Opening, reset and new parameters

-- true if the controller is active at its opening: in profile one
abbrev pub opens_active : Profile → Bool
opens_active One = true
opens_active Two = false

-- the state at an opening: probability, delays and estimate are 0, and the burst allowance is `max_burst`
abbrev pub opened : Profile → Elements → RawParams → ℕ → ControllerState
opened profile elements params moment = record {
  profile = profile;
  elements = elements;
  params = params;
  moment = moment;
  active = opens_active profile;
  rate = no_estimate;
  waited = 0;
  control = record { prob = 0; old_delay = 0; burst = params.max_burst; last = moment };
  accu = 0;
}

-- the control law after a reset, which keeps the moment of the last update
abbrev pub renewed : RawParams → ControlState → ControlState
renewed params control = record control { prob = 0; old_delay = 0; burst = params.max_burst }

-- the state after a reset of the control law, the estimate, the last packet's time in the queue and the accumulated
-- probability
abbrev pub anew : ControllerState → ControllerState
anew h = record h { rate = no_estimate; waited = 0; control = renewed h.params h.control; accu = 0 }

-- the state after a reset, which keeps the activity
abbrev pub reset : ControllerState → ℕ → ControllerState
reset h moment = record (anew h) { moment = now_at h moment }

-- the state after new parameters, which clear the estimate
abbrev pub changed : ControllerState → RawParams → ℕ → ControllerState
changed h params moment = record h { params = params; moment = now_at h moment; rate = no_estimate }

-- ---- Arrivals

-- an arriving packet as the input of early drop
abbrev pub offered : ArrivingPacket → Offered
offered a = record { bytes = a.queued; size = a.size; ecn = a.ecn; word = a.word }

-- the choice of early drop. An inactive controller considers no packet and queues each
abbrev pub choice : ControllerState → ArrivingPacket → Choice
choice h a = if h.active then choice_of h.elements h.params h.control (offered a) h.accu else Enqueue

-- tail drop: the first value if the queue has no room for the packet's bytes, the second if the ring has no room for
-- another packet, otherwise the third
abbrev pub by_room : {X : Type 0} → ℕ → ArrivingPacket → X → X → X → X
by_room limit a no_bytes no_packet room = if nat_lt limit (a.queued + a.size) then no_bytes else if a.is_full then no_packet else room

-- the verdict: tail drop by bytes, then by packets, otherwise the choice of early drop
unfoldable pub verdict : ControllerState → ArrivingPacket → Verdict
verdict h a = by_room h.params.limit_bytes a DroppedBytes DroppedPackets (chosen (choice h a))

-- the cause, with `packets` waiting packets: the limit in bytes, the limit in packets, an inactive controller, then the
-- cases of early drop, each with the numbers that it compares (RFC 8033, Appendix A; the limit in packets is this
-- project's own)
unfoldable pub cause : ControllerState → ArrivingPacket → ℕ → Cause
cause h a packets =
    by_room h.params.limit_bytes a (NoRoomInBytes a.queued a.size h.params.limit_bytes) (NoRoomInPackets packets)
    (if h.active then early_cause h.elements h.params h.control (offered a) h.accu else Inactive)

-- the accumulated probability after an arrival: 0 after a tail drop, unchanged while the controller is inactive
unfoldable pub accu_left : ControllerState → ArrivingPacket → ℕ
accu_left h a = by_room h.params.limit_bytes a 0 0 (if h.active then accu_after h.elements h.params h.control (offered a) h.accu else h.accu)

-- the bytes in the queue after the verdict
abbrev pub bytes_with : Verdict → ℕ → ℕ → ℕ
bytes_with verdict queued size = if is_queued verdict then queued + size else queued

-- true if the controller is activated: it is inactive, and three times the bytes in the queue after the verdict reach
-- the limit
abbrev pub activates : Bool → ℕ → ℕ → Bool
activates active limit bytes = not active && nat_le limit (3 * bytes)

abbrev pub turns_on : ControllerState → ℕ → Bool
turns_on h bytes = activates h.active h.params.limit_bytes bytes

-- the state after activation, which is a reset
abbrev pub woken : ControllerState → ℕ → ControllerState
woken h bytes = if turns_on h bytes then record (anew h) { active = true } else h

-- the state after the verdict
abbrev pub judged : ControllerState → ArrivingPacket → ℕ → ControllerState
judged h a moment = record h { moment = now_at h moment; accu = accu_left h a }

-- the state after an arrival
abbrev pub arrived : ControllerState → ArrivingPacket → ℕ → ControllerState
arrived h a moment = woken (judged h a moment) (bytes_with (verdict h a) a.queued a.size)

-- ---- Departures

-- true if the departure rate is measured: the controller is active, and the delay comes from the rate
abbrev pub measures : Bool → Delay → Bool
measures active Rate = active
measures active Stamp = false

-- true if the time of a departed packet in the queue is kept: the controller is active, and the delay comes from time
-- stamps
abbrev pub keeps_wait : Bool → Delay → Bool
keeps_wait active Rate = false
keeps_wait active Stamp = active

-- the time in the queue of a packet that departs at `now`, arrived at `since` and leaves `bytes_left` bytes; 0 if the
-- queue is empty afterwards (RFC 8033, section 4.3; the maximum is this project's own)
abbrev pub wait_of : ℕ → ℕ → ℕ → ℕ
wait_of bytes_left since now = if bytes_left == 0 then 0 else min (2 ^ 40) (now - since)

-- the state after the departure of a packet of `size` bytes that arrived at `since` and leaves `bytes_left` bytes
abbrev pub departed : ControllerState → ℕ → ℕ → ℕ → ℕ → ControllerState
departed h size bytes_left since moment = record h {
  moment = now_at h moment;
  rate = if measures h.active h.elements.delay then after_departure h.params.dq_threshold h.rate (departure size bytes_left (now_at h moment))
      else h.rate;
  waited = if keeps_wait h.active h.elements.delay then wait_of bytes_left since (now_at h moment) else h.waited;
}

-- a state whose threshold above 65536 bytes is replaced by 65536, for unchecked numbers
abbrev pub capped : ControllerState → ControllerState
capped h = record h { params = record h.params { dq_threshold = min h.params.dq_threshold 65536 } }

-- ---- Departures with the smallest changes

-- the count of the open cycle of the departure rate with a departed packet of `size` bytes that leaves it open
abbrev pub count_below : ℕ → ℕ → Option Begun → Option ℕ
count_below threshold size None = None
count_below threshold size (Some cycle) = if nat_lt (cycle.count + size) threshold then Some (cycle.count + size) else None

-- the bytes that the open cycle has counted after a departure that leaves it open; none if no cycle is open, or if the departure closes it
unfoldable pub count_kept_open : ControllerState → ℕ → Option ℕ
count_kept_open h size =
    if measures h.active h.elements.delay then count_below (min h.params.dq_threshold 65536) size h.rate.begun else None

-- the cycle with this count; below, the state with this count and the moment
abbrev pub counting : ℕ → Begun → Begun
counting count cycle = record cycle { count = count }

-- the state after a departure that leaves its cycle open: only the count and the moment change
abbrev pub with_count : ControllerState → ℕ → ℕ → ControllerState
with_count h count moment = record h {
  moment = now_at h moment;
  rate = record h.rate { begun = option_map (counting count) h.rate.begun };
}

-- true if departures are measured, no cycle is open, and a departure that leaves this many bytes opens none
unfoldable pub is_between_cycles : ControllerState → ℕ → Bool
is_between_cycles h bytes_left =
    measures h.active h.elements.delay && is_none h.rate.begun && nat_lt bytes_left (min h.params.dq_threshold 65536)

-- the state after a departure that found no packet
abbrev pub advanced : ControllerState → ℕ → ControllerState
advanced h moment = record h { moment = now_at h moment }

-- ---- Updates

-- the due moment, from which on an update is not too soon
abbrev pub due_of : RawParams → ControlState → ℕ
due_of params control = control.last + params.t_update

-- the moment from which the next update is not too soon
abbrev pub due : ControllerState → ℕ
due h = due_of h.params h.control

-- true if an update is too soon: the effective moment, `before` until now, is before the due moment
abbrev pub is_before_due : ℕ → ℕ → ℕ → Bool
is_before_due before due moment = nat_lt (max before moment) due

-- true if an update at this moment is refused as too soon
abbrev pub is_too_soon : ControllerState → ℕ → Bool
is_too_soon h moment = is_before_due h.moment (due h) moment

-- the queueing delay: from the departure rate, or the time that the last departed packet spent in the queue
abbrev pub delay_by : Delay → ℕ → ℕ → ℕ
delay_by Rate waited estimate = estimate
delay_by Stamp waited estimate = waited

-- the queueing delay of `queued` bytes
abbrev pub delay_in : ControllerState → ℕ → ℕ
delay_in h queued = delay_by h.elements.delay h.waited (delay_of queued h.rate.average h.params.dq_threshold)

-- the delay that an update returns: 0 while the controller is inactive
abbrev pub delay_answered : ControllerState → ℕ → ℕ
delay_answered h queued = if h.active then delay_in h queued else 0

-- the state of the control law after an update with this delay at this moment
abbrev pub control_updated : Elements → RawParams → ControlState → ℕ → ℕ → ControlState
control_updated elements params before delay now = record {
  prob = next elements params before.prob delay before.old_delay;
  old_delay = delay;
  burst = burst_after elements params before delay;
  last = now;
}

-- the state of the control law after an update; for an inactive controller only the moment changes
abbrev pub control_after : ControllerState → ℕ → ℕ → ControlState
control_after h queued now =
    if h.active then control_updated h.elements h.params h.control (delay_in h queued) now else record h.control { last = now }

-- true if an update with `queued` bytes in the queue is calm
abbrev pub is_calm : ControllerState → ℕ → Bool
is_calm h queued =
    ends_calm h.params (next h.elements h.params h.control.prob (delay_in h queued) h.control.old_delay) (delay_in h queued)
    h.control.old_delay

-- true if an active controller stays active after an update: in profile two not after a calm one
abbrev pub stays_active : Profile → Bool → Bool
stays_active One calm = true
stays_active Two calm = not calm

-- the state after an update
abbrev pub updated : ControllerState → ℕ → ℕ → ControllerState
updated h queued moment = record h {
  moment = now_at h moment;
  active = h.active && stays_active h.profile (is_calm h queued);
  control = control_after h queued (now_at h moment);
}
