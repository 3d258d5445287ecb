-- Examples of the definitions: each theorem computes. A row is a call and the state of a controller of profile two
-- after it, by the rules and by the look-back. The numbers are worked out by hand.
use Rattle.std.specs.Prelude.{◌≡◌, refl, ⊤, ℕ, ◌+◌, ◌^◌, List, [], ◌∷◌, ◌++◌, map, Bool, true, false, Some, None}
use Rattle.pie_aqm.specs.{RawParams, Elements, Stamp, Two, ArrivingPacket, ControllerEvent, Estimate, ControlState, Call, Arrive, Depart, Advance, Update, Restart, Change, after_call, event_of_call, opened, no_estimate, delay_answered, cause, with_count, count_kept_open, is_between_cycles, first_unsound, state_of, now_of, params_of, active_of, departure_inputs, update_inputs, arrival_inputs, departures_of, waited_of, waited_at_end, delay_at_end, control_of, early_of, is_active, activity_events, activity_events_after, places, greatest, last_or, verdict, accu_left}
use Rattle.pie_aqm.specs.Steps.{ControllerState}
use Rattle.pie_params.specs.Params.{usual, default_profile}
use Rattle.pie_queue.specs.declared.ecn.Ecn.TheVariants.{NotEct}
use Rattle.pie_rate.specs.Estimate.{average, samples, begun, cycles, cycles_from, first_closing, first_cycle, first_opening, first_position}
use Rattle.pie_control.specs.History.{delay_of, burst_allowance, granted_burst, last_delay, last_moment, probability, raw_step, tuning_divisor, tuned_step, decayed, next}
use Rattle.pie_early.specs.Cause.{considered_cause, early_cause}
use Rattle.pie_early.specs.Decision.{is_considered, is_picked, accumulated}
use Rattle.pie_event.specs.declared.cause.Cause.TheVariants.{NoRoomInBytes, NoRoomInPackets, Inactive, BurstAllowed}

-- the definitions that theorems on worked calls unfold
unfoldable pub worked : Type 0
unfolding state_of now_of params_of active_of departure_inputs update_inputs arrival_inputs departures_of waited_of waited_at_end delay_at_end control_of
    early_of is_active activity_events activity_events_after places greatest last_or average samples begun cycles cycles_from first_position first_opening first_closing
    first_cycle delay_of probability last_delay last_moment granted_burst burst_allowance next raw_step tuning_divisor tuned_step decayed verdict
    accu_left is_considered is_picked accumulated cause early_cause considered_cause count_kept_open is_between_cycles first_unsound
worked = ⊤

-- parameters where 3000 bytes are a third of the limit, half the target is 2 nanoseconds, and one update uses up the
-- burst allowance
abbrev pub small : RawParams
small =
    record default_profile { target = 4; max_burst = 1; alpha = 850_000; beta = 0; mean_pkt = 1; limit_bytes = 9000; dq_threshold = 1024 }

-- an estimate, from its average and the start and count of an open cycle
abbrev measured : ℕ → ℕ → ℕ → Estimate
measured average start count = record { average = average; begun = Some (record { start = start; count = count }) }

-- a state of the control law: probability, old delay, burst allowance and moment of the last update
abbrev parts : ℕ → ℕ → ℕ → ℕ → ControlState
parts prob old burst last = record { prob = prob; old_delay = old; burst = burst; last = last }

abbrev packet : ℕ → ℕ → Bool → ArrivingPacket
packet queued size full = record { queued = queued; is_full = full; size = size; ecn = NotEct; word = 0 }

-- the state after each call, beside the look-back
abbrev both_ways : Elements → List ControllerEvent → ControllerState → List (Call × ControllerState) → List (ControllerState × ControllerState)
both_ways elements shown h [] = []
both_ways elements shown h (row ∷ rows) =
    let more : List ControllerEvent = shown ++ event_of_call h row.0 ∷ [] in
    let after : ControllerState = after_call h row.0 in
    (after, state_of (record { profile = Two; elements = elements; params = small; moment = 0 }) more) ∷ both_ways elements more after rows

-- both are the states of the rows
abbrev Hold : Elements → List (Call × ControllerState) → Type 0
Hold elements rows = both_ways elements [] (opened Two elements small 0) rows ≡ map (λ (row : Call × ControllerState). (row.1, row.1)) rows

-- ---- Delay from the departure rate: moment, activity, estimate, and state of the control law

abbrev rated : ℕ → Bool → Estimate → ControlState → ControllerState
rated moment active rate control = record (opened Two usual small moment) { active = active; rate = rate; control = control }

-- The controller is inactive at the opening and measures nothing. A queue of a third of the limit activates it; a queue
-- of one byte less does not. Then cycles are measured. A calm update deactivates it, and the next update changes only
-- the moment
by_rate : Hold usual ((Arrive (packet 2000 999 false) 0, rated 0 false no_estimate (parts 0 0 1 0))
    ∷ (Depart 999 2000 0 1, rated 1 false no_estimate (parts 0 0 1 0))
    ∷ (Arrive (packet 2000 1000 false) 1, rated 1 true no_estimate (parts 0 0 1 0))
    ∷ (Depart 1000 1024 0 2, rated 2 true (measured 0 2 0) (parts 0 0 1 0))
    ∷ (Depart 24 2000 0 700, rated 700 true (measured 0 2 24) (parts 0 0 1 0))
    ∷ (Depart 1000 1024 0 1002, rated 1002 true (measured 1000 1002 0) (parts 0 0 1 0))
    ∷ (Update 1024 1002, rated 1002 true (measured 1000 1002 0) (parts 413_378 1000 0 1002))
    ∷ (Restart 1003, rated 1003 true no_estimate (parts 0 0 1 1002))
    ∷ (Depart 1000 1024 0 1003, rated 1003 true (measured 0 1003 0) (parts 0 0 1 1002))
    ∷ (Depart 1024 1024 0 1005, rated 1005 true (measured 2 1005 0) (parts 0 0 1 1002))
    ∷ (Update 0 1006, rated 1006 false (measured 2 1005 0) (parts 0 0 1 1006))
    ∷ (Update 1024 1007, rated 1007 false (measured 2 1005 0) (parts 0 0 1 1007))
    ∷ (Advance 1000, rated 1007 false (measured 2 1005 0) (parts 0 0 1 1007))
    ∷ (Arrive (packet 2999 65535 true) 1009, rated 1009 false (measured 2 1005 0) (parts 0 0 1 1007))
    ∷ (Arrive (packet 3000 65535 true) 1009, rated 1009 true no_estimate (parts 0 0 1 1007))
    ∷ (Depart 1000 1024 0 1010, rated 1010 true (measured 0 1010 0) (parts 0 0 1 1007))
    ∷ (Change small 1010, rated 1010 true no_estimate (parts 0 0 1 1007))
    ∷ [])
unfolding worked
by_rate = refl

-- ---- Delay from time stamps: moment, activity, the last packet's time in the queue, state of the control law, and
-- accumulated probability

abbrev stamps : Elements
stamps = record usual { delay = Stamp }

abbrev stamped : ℕ → Bool → ℕ → ControlState → ℕ → ControllerState
stamped moment active waited control accu =
    record (opened Two stamps small moment) { active = active; waited = waited; control = control; accu = accu }

-- A departed packet's time in the queue is counted by the effective moment, is 0 if the queue is empty afterwards, and
-- is at most 2 ^ 40. It is the delay for any queue. An update is calm if the probability is 0 and this delay and the
-- old one are below half the target, which holds for 1 but not for 2
by_stamps : Hold stamps ((Arrive (packet 2000 1000 false) 1, stamped 1 true 0 (parts 0 0 1 0) 0)
    ∷ (Depart 1000 2000 1 11, stamped 11 true 10 (parts 0 0 1 0) 0)
    ∷ (Update 0 11, stamped 11 true 10 (parts 2490 10 0 11) 0)
    ∷ (Arrive (packet 1024 60 false) 12, stamped 12 true 10 (parts 2490 10 0 11) 2490)
    ∷ (Depart 1 1 7 3, stamped 12 true 5 (parts 2490 10 0 11) 2490)
    ∷ (Depart 1 0 7 12, stamped 12 true 0 (parts 2490 10 0 11) 2490)
    ∷ (Update 4096 13, stamped 13 true 0 (parts 830 0 0 13) 2490)
    ∷ (Depart 1 1 12 14, stamped 14 true 2 (parts 830 0 0 13) 2490)
    ∷ (Update 0 14, stamped 14 true 2 (parts 0 2 0 14) 2490)
    ∷ (Depart 1 1 13 14, stamped 14 true 1 (parts 0 2 0 14) 2490)
    ∷ (Update 0 15, stamped 15 true 1 (parts 0 1 0 15) 2490)
    ∷ (Update 0 16, stamped 16 false 1 (parts 0 1 1 16) 2490)
    ∷ (Depart 1 1 0 17, stamped 17 false 1 (parts 0 1 1 16) 2490)
    ∷ (Arrive (packet 3000 1 false) 18, stamped 18 true 0 (parts 0 0 1 16) 0)
    ∷ (Depart 1 1 5 (2 ^ 40 + 6), stamped (2 ^ 40 + 6) true (2 ^ 40) (parts 0 0 1 16) 0)
    ∷ (Change small 0, stamped (2 ^ 40 + 6) true (2 ^ 40) (parts 0 0 1 16) 0)
    ∷ (Restart 0, stamped (2 ^ 40 + 6) true 0 (parts 0 0 1 16) 0)
    ∷ [])
unfolding worked
by_stamps = refl

-- ---- Readers of a state

abbrev cycling : Bool → ControllerState
cycling active = rated 8 active (measured 1000 2 24) (parts 0 0 1 8)

-- the delay of an inactive controller is 0; then the departures with the smallest changes
asked : (map (λ active. delay_answered (cycling active) 2048) (true ∷ false ∷ []) ≡ 2000 ∷ 0 ∷ [])
    × (map (count_kept_open (cycling true)) (999 ∷ 1000 ∷ []) ≡ Some 1023 ∷ None ∷ [])
    × (with_count (cycling true) 1023 9 ≡ rated 9 true (measured 1000 2 1023) (parts 0 0 1 8))
    × (map (is_between_cycles (rated 8 true no_estimate (parts 0 0 1 8))) (1023 ∷ 1024 ∷ []) ≡ true ∷ false ∷ [])
unfolding worked
asked = (refl, refl, refl, refl)

-- causes in order: tail drop by bytes, then by packets, then an inactive controller, then early drop
causes : (map (λ (a : ArrivingPacket). cause (cycling false) a 7) (packet 8999 2 true ∷ packet 8999 1 true ∷ packet 8999 1 false ∷ [])
    ≡ NoRoomInBytes 8999 2 9000 ∷ NoRoomInPackets 7 ∷ Inactive ∷ []) × (cause (cycling true) (packet 8999 1 false) 7 ≡ BurstAllowed 1)
    × (map (accu_left (stamped 8 true 0 (parts 0 0 1 8) 5)) (packet 8999 2 false ∷ packet 8999 1 true ∷ packet 8999 1 false ∷ []) ≡ 0 ∷ 0 ∷ 5 ∷ [])
unfolding worked
causes = (refl, refl, refl)
