-- The time for which a burst passes, the relation of the probability to the delay, and the samples of the departure
-- rate.
pub use Rattle.pie_aqm.specs.History.{considered_where}
unfoldable pub use Rattle.pie_aqm.specs.History.{departure_inputs}
pub use Rattle.pie_book.specs.Decision.{active_after, delay_after, params_after, parts_after, count_of, is_dropped_bytes, is_dropped_packets, is_reset}
pub use Rattle.pie_book.specs.History.{bytes_after, arriving_size, opened_of}
unfoldable pub use Rattle.pie_book.specs.History.{effective_moment, waiting_after, controller_events}
pub use Rattle.pie_book.specs.Types.{Answer, Arrive, Bounded, Command, Depart, Done, DroppedEarly, Elements, Enqueued, Event, Left, Marked, One, Opening, Packet, RawParams, SetParams, Update, Updated, Waiting}
pub use Rattle.pie_event.specs.Event.{Effect, effect_of, departure, dropped_early, is_update, marked, queued}
pub use Rattle.pie_queue.specs.declared.ecn.Ecn.TheVariants.{Ce, NotEct}
use Rattle.std.specs.Prelude.{◌≡◌, ◌≤◌, ℕ, List, All, ⊤, ◌<◌, ◌+◌, ◌*◌, ◌-◌, ◌/◌, ◌^◌, ◌++◌, ◌∷◌, [], min, zero, suc, true, false, Bool, map, Option, Some, None, count_by, sum_by, ◌&&◌, ◌||◌, ◌==◌, not, if◌then◌else◌}
use Rattle.pie_control.specs.History.{next, tuning_divisor}
use Rattle.pie_rate.specs.Estimate.{samples}
use Rattle.pie_queue.specs.Queue.{is_capable}
use Rattle.std.specs.List.{filter_map}
use Rattle.pie_params.specs.Params.{first_bad}
use Rattle.pie_event.specs.Event.{opening_refusal}
use Rattle.pie_book.specs.Decision.{IsLegal}
use Rattle.pie_early.specs.Decision.{effective_prob}

-- ---- The time for which a burst passes (RFC 8033, section 4.4).

-- after these events the burst allowance is whole: no update has reduced it
abbrev pub IsWhole : Opening → List Event → Type 0
IsWhole opening before = (parts_after opening before).burst ≡ (params_after opening before).max_burst

-- the remaining burst allowance after these events
abbrev pub burst_left : Opening → List Event → ℕ
burst_left opening before = (parts_after opening before).burst

-- the remaining burst allowance is at most that of the parameters in force; this holds unless they were lowered
abbrev pub IsAllowed : Opening → List Event → Type 0
IsAllowed opening before = burst_left opening before ≤ (params_after opening before).max_burst

-- parameters that allow a burst of at least this many nanoseconds, with updates at least `least` and at most `most`
-- nanoseconds apart
pub record Allows (burst least most : ℕ) (params : RawParams) : Type 0 where
  pub allowance : burst ≤ params.max_burst
  pub apart : least ≤ params.t_update
  pub together : params.t_update ≤ most

-- new parameters of an event allow such a burst
abbrev pub SetsAllow : ℕ → ℕ → ℕ → Command → Type 0
SetsAllow burst least most (SetParams moment params) = Allows burst least most params
SetsAllow burst least most _ = ⊤

-- the parameters in force after some events allow such a burst, and so do all that later events set
pub record AllAllow (burst least most : ℕ) (opening : Opening) (before between : List Event) : Type 0 where
  pub force : Allows burst least most (params_after opening before)
  pub set : All (λ event. SetsAllow burst least most event.command) between

-- the number of updates among these events
abbrev pub updates_in : List Event → ℕ
updates_in events = count_of is_update events

-- no event sets parameters
abbrev pub KeepsParams : Command → Type 0
KeepsParams (SetParams moment params) = ⊥
KeepsParams _ = ⊤

-- ---- The relation of the probability to the delay, and the samples of the departure rate (RFC 8033, sections 4.2, 5.1, 5.2 and 5.5).

-- the event is an update, and the controller was active before it
pub record IsActiveUpdate (opening : Opening) (before : List Event) (event : Event) : Type 0 where
  pub update : is_update (effect_of event) ≡ true
  pub active : active_after opening before ≡ true

-- the probability after some events, and after one more
abbrev pub probability_after : Opening → List Event → ℕ
probability_after opening history = (parts_after opening history).prob

-- the delay of the last update
abbrev pub old_delay_after : Opening → List Event → ℕ
old_delay_after opening history = (parts_after opening history).old_delay

-- the probability after n updates at one delay
unfoldable pub after_updates : ℕ → Elements → RawParams → ℕ → ℕ → ℕ
after_updates zero elements params delay prob = prob
after_updates (suc n) elements params delay prob = after_updates n elements params delay (next elements params prob delay delay)

-- before auto-tuning each update at one delay raises the probability by alpha times the excess of the delay over the target
abbrev pub untuned_rise : RawParams → ℕ → ℕ
untuned_rise params delay = params.alpha * (delay - params.target)

-- before auto-tuning each update at one delay lowers the probability by alpha times the difference of the delay
-- below the target
abbrev pub untuned_fall : RawParams → ℕ → ℕ
untuned_fall params delay = params.alpha * (params.target - delay)

-- the least rise from this probability or a higher one, after auto-tuning: the tuned rise, at most two hundredths
abbrev pub least_rise : RawParams → ℕ → ℕ → ℕ
least_rise params delay prob = min (untuned_rise params delay / tuning_divisor prob) 20_000_000_000

-- this many updates increase the probability from the first to the second
abbrev pub updates_from : RawParams → ℕ → ℕ → ℕ → ℕ
updates_from params delay low high = (high - low) / least_rise params delay low + 1

-- the increase from 0 to a tenth, through each row of the table of auto-tuning
abbrev pub updates_to_a_tenth : RawParams → ℕ → ℕ
updates_to_a_tenth params delay =
    updates_from params delay 0 (10 ^ 6) + updates_from params delay (10 ^ 6) (10 ^ 7) + updates_from params delay (10 ^ 7) (10 ^ 8)
    + updates_from params delay (10 ^ 8) (10 ^ 9) + updates_from params delay (10 ^ 9) (10 ^ 10) + updates_from params delay (10 ^ 10) (10 ^ 11)

-- the event keeps the delay: it sets no parameters and resets nothing, the controller is active, and an update finds this delay, as the one before it
-- did
pub record IsSteady (delay : ℕ) (opening : Opening) (before : List Event) (event : Event) : Type 0 where
  pub keeps : KeepsParams event.command
  pub unreset : is_reset (effect_of event) ≡ false
  pub active : active_after opening before ≡ true
  pub delay_now : is_update (effect_of event) ≡ true → delay_after opening before ≡ delay
  pub delay_old : is_update (effect_of event) ≡ true → old_delay_after opening before ≡ delay

-- no parameters are set by the event, and if it is an update of the active controller, the update finds no delay
pub record FindsNoDelay (opening : Opening) (before : List Event) (event : Event) : Type 0 where
  pub keeps : KeepsParams event.command
  pub delay : is_update (effect_of event) ≡ true → active_after opening before ≡ true → delay_after opening before ≡ 0

-- the probability is 0 and the burst allowance is whole
pub record HasRecovered (opening : Opening) (history : List Event) : Type 0 where
  pub prob : probability_after opening history ≡ 0
  pub burst : IsWhole opening history

-- the update finds the delay below half the target, as the one before it did, and leaves the probability at 0
pub record IsCalmUpdate (opening : Opening) (before : List Event) (event : Event) : Type 0 where
  pub update : IsActiveUpdate opening before event
  pub delay : 2 * delay_after opening before < (params_after opening before).target
  pub old_delay : 2 * old_delay_after opening before < (params_after opening before).target
  pub prob : probability_after opening (before ++ event ∷ []) ≡ 0

-- the event sets no parameters and resets nothing, and the controller is active. If the event is an update, it finds a delay of at least `least`
-- that is not below the delay of the update before it
pub record IsLasting (least : ℕ) (opening : Opening) (before : List Event) (event : Event) : Type 0 where
  pub keeps : KeepsParams event.command
  pub unreset : is_reset (effect_of event) ≡ false
  pub active : active_after opening before ≡ true
  pub delay : is_update (effect_of event) ≡ true → least ≤ delay_after opening before
  pub grows : is_update (effect_of event) ≡ true → old_delay_after opening before ≤ delay_after opening before

-- the samples after a history: for each departure rate cycle since the estimate was cleared, the time in which
-- `dq_threshold` bytes departed
abbrev pub samples_after : Opening → List Event → List ℕ
samples_after opening history = samples (params_after opening history).dq_threshold (departure_inputs (opened_of opening) (controller_events opening history))

-- a time between these two
abbrev pub IsBetween : ℕ → ℕ → ℕ → Type 0
IsBetween least most time = (least ≤ time) × (time ≤ most)

-- The histories for which all laws hold, the verdicts of arriving packets, and the distance between picked packets.

-- ---- The verdicts of arriving packets: early verdicts, and the packets that were queued, that departed, and that
-- wait.

-- an early verdict: the packet was marked, or dropped early
abbrev pub is_early : Answer → Bool
is_early Marked = true
is_early DroppedEarly = true
is_early _ = false

-- the event marked or dropped a packet early
abbrev pub IsEarly : Event → Type 0
IsEarly event = is_early event.answer ≡ true

-- the event is an arrival of this packet
abbrev pub IsArrivalOf : Event → Packet → Type 0
IsArrivalOf event packet = (moment : ℕ) × (word : ℕ) × (event.command ≡ Arrive moment packet word)

-- after these events the probability is below the one from which ECN-capable packets are dropped too
abbrev pub OnlyMarks : Opening → List Event → Type 0
OnlyMarks opening before = (parts_after opening before).prob < (params_after opening before).mark_ecnth

-- if the event's packet has endpoints that understand a mark, the event does not drop it early
abbrev pub SparesCapable : Event → Type 0
SparesCapable event = (packet : Packet) → IsArrivalOf event packet → is_capable packet.ecn ≡ true → event.answer ≡ DroppedEarly → ⊥

-- if the event's packet has endpoints that do not understand a mark, the event does not mark it
abbrev pub MarksOnlyCapable : Event → Type 0
MarksOnlyCapable event = (packet : Packet) → IsArrivalOf event packet → is_capable packet.ecn ≡ false → event.answer ≡ Marked → ⊥

-- true if the command is an arrival
abbrev pub is_packet_arrival : Command → Bool
is_packet_arrival (Arrive moment packet word) = true
is_packet_arrival _ = false

-- the number of arrivals
abbrev pub packets_arrived : List Event → ℕ
packets_arrived history = count_by (λ event. is_packet_arrival event.command) history

-- the packet that an event put into the queue: as it arrived, and with CE if it was marked
abbrev pub packet_queued : Effect → Option Packet
packet_queued (queued packet) = Some packet
packet_queued (marked packet) = Some (record packet { ecn = Ce })
packet_queued _ = None

-- the packets that were queued or marked, in order
unfoldable pub packets_queued : List Event → List Packet
packets_queued history = filter_map (λ event. packet_queued (effect_of event)) history

-- the packets that departed, in order
unfoldable pub packets_departed : List Event → List Packet
packets_departed history = filter_map (λ event. departure (effect_of event)) history

-- the queued packets after a history, the oldest first
abbrev pub packets_waiting : Opening → List Event → List Packet
packets_waiting opening history = map (λ (entry : Waiting). entry.packet) (waiting_after opening history)

-- the bytes of the packets that departed
abbrev pub bytes_departed : List Event → ℕ
bytes_departed history = sum_by (λ (packet : Packet). packet.size) (packets_departed history)

-- new parameters have a limit of at most this many bytes
abbrev pub SetsLimit : ℕ → Command → Type 0
SetsLimit most (SetParams moment params) = params.limit_bytes ≤ most
SetsLimit most _ = ⊤

-- the time, in nanoseconds, from the end of the first events to the end of the later ones
abbrev pub time_of : Opening → List Event → List Event → ℕ
time_of opening before between = effective_moment opening (before ++ between) - effective_moment opening before

-- in that time the link carried at least this many bits per second, computed from the packets that departed, with 8
-- bits in a byte and 10^9 nanoseconds in a second
abbrev pub Carries : ℕ → Opening → List Event → List Event → Type 0
Carries rate opening before between = rate * time_of opening before between ≤ 8 * 10 ^ 9 * bytes_departed between

-- ---- The histories for which all laws hold: those that the rules give from an opening on, whatever program wrote them.

-- new parameters are in their ranges
abbrev pub SetsInRange : Command → Type 0
SetsInRange (SetParams moment params) = first_bad params ≡ None
SetsInRange _ = ⊤

-- limits, parameters and moment of the opening are accepted, and new parameters are in their ranges. Each command is accepted at its place and has
-- the answer that the rules give there
pub record IsLawful (opening : Opening) (history : List Event) : Type 0 where
  pub opens : opening_refusal opening.limits opening.moment ≡ None
  pub params : first_bad opening.params ≡ None
  pub set : All (λ event. SetsInRange event.command) history
  pub legal : IsLegal opening history

-- the property holds of each of these later events, with all events before it
unfoldable pub AllAlong : (List Event → Event → Type 0) → List Event → List Event → Type 0
AllAlong P before [] = ⊤
AllAlong P before (event ∷ later) = P before event × AllAlong P (before ++ event ∷ []) later

-- the property holds of each event of each lawful history, with the events before it
unfoldable pub AtEachEvent : (Opening → List Event → Event → Type 0) → Type 0
AtEachEvent P = (opening : Opening) (before : List Event) (event : Event) (later : List Event) → IsLawful opening (before ++ event ∷ later)
    → P opening before event

-- the property holds of each lawful history
unfoldable pub AtEachHistory : (Opening → List Event → Type 0) → Type 0
AtEachHistory P = (opening : Opening) (history : List Event) → IsLawful opening history → P opening history

-- between any two places of each lawful history: the events before the first, and those from there to the second
unfoldable pub BetweenAny : (Opening → List Event → List Event → Type 0) → Type 0
BetweenAny P = (opening : Opening) (before : List Event) (between : List Event) (later : List Event) → IsLawful opening (before ++ between ++ later)
    → P opening before between

-- ---- The distance between picked packets if probabilities accumulate (RFC 8033, section 5.4).

-- true if a packet arrived for which the queue had room
abbrev pub had_room : Effect → Bool
had_room (queued packet) = true
had_room (marked packet) = true
had_room dropped_early = true
had_room _ = false

-- the event is an arrival that early drop considered
abbrev pub was_considered : Opening → List Event → Event → Bool
was_considered opening before event =
    had_room (effect_of event)
    && considered_where (active_after opening before) (params_after opening before) (parts_after opening before) (bytes_after opening before)

-- the effective probability of the event's packet
abbrev pub effective_prob_at : Opening → List Event → Event → ℕ
effective_prob_at opening before event =
    effective_prob opening.choices.elements.size (params_after opening before) (arriving_size event.command) (parts_after opening before).prob

-- the event resets the accumulated probability and picks no packet: a tail drop, a reset, an arrival that turns the controller on, or a packet that
-- is considered while the probability counts as 0
abbrev pub starts_anew : Opening → List Event → Event → Bool
starts_anew opening before event =
    (is_dropped_bytes (effect_of event) || is_dropped_packets (effect_of event)) || is_reset (effect_of event)
    || (not (active_after opening before) && active_after opening (before ++ event ∷ []))
    || (was_considered opening before event && (effective_prob_at opening before event == 0))

-- the sum of a number of each of these later events, which may depend on all events before it
unfoldable pub sum_along : (List Event → Event → ℕ) → List Event → List Event → ℕ
sum_along f before [] = 0
sum_along f before (event ∷ later) = f before event + sum_along f (before ++ event ∷ []) later

-- the number of packets that early drop considered, after the events before
abbrev pub considered_in : Opening → List Event → List Event → ℕ
considered_in opening = sum_along (λ before event. if was_considered opening before event then 1 else 0)

-- the sum of the effective probabilities over them
abbrev pub effective_sum_in : Opening → List Event → List Event → ℕ
effective_sum_in opening = sum_along (λ before event. if was_considered opening before event then effective_prob_at opening before event else 0)

-- the number of events that reset the accumulated probability and pick no packet
abbrev pub restarts_in : Opening → List Event → List Event → ℕ
restarts_in opening = sum_along (λ before event. if starts_anew opening before event then 1 else 0)

-- the number of packets that were marked or dropped early
abbrev pub picks_in : List Event → ℕ
picks_in events = count_by (λ event. is_early event.answer) events

-- the effective probability of a considered packet is at most `most`
abbrev pub EffectiveAtMost : ℕ → Opening → List Event → Event → Type 0
EffectiveAtMost most opening before event = was_considered opening before event ≡ true → effective_prob_at opening before event ≤ most

-- the effective probability of a considered packet is at least `least`
abbrev pub EffectiveAtLeast : ℕ → Opening → List Event → Event → Type 0
EffectiveAtLeast least opening before event = was_considered opening before event ≡ true → least ≤ effective_prob_at opening before event

-- the event picks no packet, and nothing else resets the accumulated probability: no tail drop, no reset, and the controller is not turned on
pub record IsUnpicked (opening : Opening) (before : List Event) (event : Event) : Type 0 where
  pub unpicked : is_early event.answer ≡ false
  pub no_bytes : is_dropped_bytes (effect_of event) ≡ false
  pub no_packets : is_dropped_packets (effect_of event) ≡ false
  pub unreset : is_reset (effect_of event) ≡ false
  pub no_start : active_after opening before ≡ false → active_after opening (before ++ event ∷ []) ≡ false
