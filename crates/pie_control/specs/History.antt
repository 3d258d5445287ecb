-- The model of a `Control`: the numbers that its readers return.
use Rattle.std.specs.Prelude.{◌^◌, ◌<◌, ◌≤◌, ℕ, ◌*◌, ◌/◌, min, List, [], ◌∷◌, ℤ, pos, ◌+ℤ◌, ◌-ℤ◌, ◌*ℤ◌, Bool, ◌&&◌, ◌==◌, nat_le, nat_lt, int_div, if◌then◌else◌, ◌≡◌, ◌-◌, reverse, sum_by}
use Rattle.pie_control.specs.declared.raw.RawControl.{RawControl}
use Rattle.pie_control.specs.declared.update.TheConstants.{MAX_DELAY}
use Rattle.pie_params.specs.declared.raw.RawParams.{RawParams}
use Rattle.pie_params.specs.declared.elements.Elements.{Elements}
use Rattle.std.specs.Int.{int_min}
use Rattle.pie_fixed.specs.Fixed.{bounded_of}
use Rattle.pie_params.specs.declared.elements.Decay.{Decay}
use Rattle.pie_params.specs.declared.elements.Decay.TheVariants.{Half, Zero}
use Rattle.pie_params.specs.declared.elements.Step.{Step}
use Rattle.pie_params.specs.Params.{is_capped}

-- the probability, the old delay, the burst allowance and the moment of the last update
abbrev pub ControlState : Type 0
ControlState = RawControl

-- parts that are each in range
pub record IsWithin (parts : ControlState) : Type 0 where
  pub prob : parts.prob ≤ 10 ^ 12
  pub old_delay : parts.old_delay ≤ 2 ^ 40
  pub burst : parts.burst ≤ 10 ^ 12
  pub last : parts.last < 2 ^ 60

-- The queueing delay, estimated from the departure rate (RFC 8033, section 5.2).

-- the bytes in the queue, times the average time in which `threshold` bytes depart, divided by `threshold`
unfoldable pub delay_of : ℕ → ℕ → ℕ → ℕ
delay_of bytes average threshold = min MAX_DELAY (bytes * average / threshold)

-- Inputs of a `Control`: updates, idle updates and resets, in order.

-- an update: the parameters in force, the optional elements, its delay and its moment
pub record Update : Type 0 where
  pub params : RawParams
  pub elements : Elements
  pub delay : ℕ
  pub moment : ℕ

-- an update, an idle update at this moment, or a reset under the parameters in force
pub data ControlEvent : Type 0 where
  updated : Update → ControlEvent
  idled : ℕ → ControlEvent
  reset : RawParams → ControlEvent

-- an update with the parameters in force, the elements, its delay and its moment
abbrev pub update_at : RawParams → Elements → ℕ → ℕ → ControlEvent
update_at params elements delay moment = updated (record { params = params; elements = elements; delay = delay; moment = moment })

-- the moments of the updates and of the idle updates; the events are the newest first
abbrev pub all_moments : List ControlEvent → List ℕ
all_moments [] = []
all_moments (updated u ∷ earlier) = u.moment ∷ all_moments earlier
all_moments (idled moment ∷ earlier) = moment ∷ all_moments earlier
all_moments (reset _ ∷ earlier) = all_moments earlier

-- the updates after the last reset, without idle updates; the events are the newest first
abbrev pub updates_after_reset : List ControlEvent → List Update
updates_after_reset [] = []
updates_after_reset (updated u ∷ earlier) = u ∷ updates_after_reset earlier
updates_after_reset (idled _ ∷ earlier) = updates_after_reset earlier
updates_after_reset (reset _ ∷ _) = []

-- The probability after an update (RFC 8033, sections 4.2 and 5.5).

-- the change of the probability before auto-tuning: alpha times the difference of delay and target, plus beta times the
-- change of the delay
unfoldable pub raw_step : RawParams → ℕ → ℕ → ℤ
raw_step params delay old =
    (pos params.alpha *ℤ (pos delay -ℤ pos params.target)) +ℤ (pos params.beta *ℤ (pos delay -ℤ pos old))

-- the divisor of auto-tuning, from the probability before the update
unfoldable pub tuning_divisor : ℕ → ℕ
tuning_divisor prob =
    if nat_lt prob (10 ^ 6) then 2048 else
    (if nat_lt prob (10 ^ 7) then 512 else
    (if nat_lt prob (10 ^ 8) then 128 else
    (if nat_lt prob (10 ^ 9) then 32 else
    (if nat_lt prob (10 ^ 10) then 8 else
    (if nat_lt prob (10 ^ 11) then 2 else 1)))))

-- the change after auto-tuning: divided toward zero; if steps are capped and the probability is at least 0.1, at most
-- 0.02
unfoldable pub tuned_step : Step → ℕ → ℤ → ℤ
tuned_step choice prob step =
    let tuned = int_div step (pos (tuning_divisor prob)) in
    if is_capped choice && nat_le (10 ^ 11) prob then int_min tuned (pos 20_000_000_000) else tuned

-- true if the delay and the old delay are both below half the target
abbrev pub are_below_half : RawParams → ℕ → ℕ → Bool
are_below_half params delay old = nat_lt (2 * delay) params.target && nat_lt (2 * old) params.target

-- true if the probability decays at these delays: both are 0, or both are below half the target
abbrev pub decays : Decay → RawParams → ℕ → ℕ → Bool
decays Zero params delay old = (delay == 0) && (old == 0)
decays Half params delay old = are_below_half params delay old

-- the sum after the decay: 98 per cent, rounded toward zero
unfoldable pub decayed : Bool → ℤ → ℤ
decayed decays sum = if decays then int_div (sum *ℤ pos 98) (pos 100) else sum

-- the probability after an update, from the elements, the probability before it, the delay and the old delay
unfoldable pub next : Elements → RawParams → ℕ → ℕ → ℕ → ℕ
next elements params prob delay old =
    let step = tuned_step elements.step prob (raw_step params delay old) in
    bounded_of (decayed (decays elements.decay params delay old) (pos prob +ℤ step))

-- The state of the control law as a look-back over all its inputs (RFC 8033, sections 4.2 and 4.4). Every list of
-- updates here is the newest first.

-- the delay of the newest update; 0 without an update
abbrev pub newest_delay : List Update → ℕ
newest_delay [] = 0
newest_delay (u ∷ _) = u.delay

-- the newest of these moments; `start` without a moment
abbrev pub newest_moment : ℕ → List ℕ → ℕ
newest_moment start [] = start
newest_moment start (moment ∷ _) = moment

-- the probability after these updates, from 0 on, each with its own delay and the delay of the update before it
abbrev pub probability_along : List Update → ℕ
probability_along [] = 0
probability_along (u ∷ earlier) = next u.elements u.params (probability_along earlier) u.delay (newest_delay earlier)

-- true if an update is calm: the probability after it is 0, and its delay and the old delay are each below half the
-- target
abbrev pub ends_calm : RawParams → ℕ → ℕ → ℕ → Bool
ends_calm params prob delay old = (prob == 0) && are_below_half params delay old

-- true if an update after these earlier ones is calm
abbrev pub is_calm : Update → List Update → Bool
is_calm u earlier = ends_calm u.params (probability_along (u ∷ earlier)) u.delay (newest_delay earlier)

-- the updates after the last reset or calm update; the events are the newest first
abbrev pub updates_after_refill : List ControlEvent → List Update
updates_after_refill [] = []
updates_after_refill (reset _ ∷ _) = []
updates_after_refill (idled _ ∷ earlier) = updates_after_refill earlier
updates_after_refill (updated u ∷ earlier) =
    if is_calm u (updates_after_reset earlier) then [] else (u ∷ updates_after_refill earlier)

-- the `max_burst` in force at the last reset or calm update, or at the opening if there was none; the events are the
-- newest first
abbrev pub burst_after_refill : RawParams → List ControlEvent → ℕ
burst_after_refill opening [] = opening.max_burst
burst_after_refill opening (reset params ∷ _) = params.max_burst
burst_after_refill opening (idled _ ∷ earlier) = burst_after_refill opening earlier
burst_after_refill opening (updated u ∷ earlier) =
    if is_calm u (updates_after_reset earlier) then u.params.max_burst else burst_after_refill opening earlier

-- the probability: the updates after the last reset, applied from 0 on
unfoldable pub probability : List ControlEvent → ℕ
probability events = probability_along (updates_after_reset (reverse events))

-- the old delay: the delay of the last update after the last reset
unfoldable pub last_delay : List ControlEvent → ℕ
last_delay events = newest_delay (updates_after_reset (reverse events))

-- the moment of the last update, idle or not, or of the opening
unfoldable pub last_moment : ℕ → List ControlEvent → ℕ
last_moment start events = newest_moment start (all_moments (reverse events))

-- the `max_burst` in force when the burst allowance was last set to it
unfoldable pub granted_burst : RawParams → List ControlEvent → ℕ
granted_burst opening events = burst_after_refill opening (reverse events)

-- the burst allowance: the `max_burst` last granted, less the `t_update` of each update after that, at least 0
unfoldable pub burst_allowance : RawParams → List ControlEvent → ℕ
burst_allowance opening events =
    granted_burst opening events - sum_by (λ u. u.params.t_update) (updates_after_refill (reverse events))

-- true if an update with these parameters, elements and delay, after these events, is calm
abbrev pub is_calm_after : List ControlEvent → RawParams → Elements → ℕ → Bool
is_calm_after events params elements delay =
    ends_calm params (next elements params (probability events) delay (last_delay events)) delay (last_delay events)

-- the abstraction relation: the state of a controller that was opened with these parameters at the moment `start` and
-- then received these events
pub record Represents (opening : RawParams) (start : ℕ) (events : List ControlEvent) (parts : ControlState) : Type 0 where
  pub prob : parts.prob ≡ probability events
  pub old_delay : parts.old_delay ≡ last_delay events
  pub burst : parts.burst ≡ burst_allowance opening events
  pub last : parts.last ≡ last_moment start events

-- the burst allowance after an update, from the state before it
abbrev pub burst_after : Elements → RawParams → ControlState → ℕ → ℕ
burst_after elements params before delay =
    if ends_calm params (next elements params before.prob delay before.old_delay) delay before.old_delay
    then params.max_burst
    else (before.burst - params.t_update)
