-- Examples of the definitions: each theorem computes.
use Rattle.pie_c.proofs.Sound.{◌≡◌, ◌^◌, true, false, refl, default_profile, PieState, usual, Half, Stamp, Random, Uncapped, Scaled, One, accu_left, arrived, capped, departed, opened, verdict, arrival_of, packet_refusal, waited_refusal, departure_refusal, update_refusal, choices_of, elements_of, are_in_range, controller_state, is_activity_sound, is_rate_sound, is_sound, state_of, with_arrival, with_rate}
use Rattle.pie_early.specs.Decision.{is_considered, is_picked}

-- a controller that is opened with the default parameters at 0
abbrev start : PieState
start = state_of (opened One usual default_profile 0)

sound-states : (is_sound start ≡ true) × (is_sound (record start { last = 1 }) ≡ false) × (is_sound (record start { measuring = 2 }) ≡ false)
    × (is_sound (record start { measuring = 1; cycle_count = 16383 }) ≡ true)
    × (is_sound (record start { measuring = 1; cycle_count = 16384 }) ≡ false)
    × (is_sound (record start { params = record default_profile { dq_threshold = 3000 } }) ≡ false)
    × (is_sound (record start { active = 0 }) ≡ false) × (is_sound (record start { profile = 2; active = 0 }) ≡ true)
    × (is_sound (record start { profile = 2; active = 2 }) ≡ false) × (is_sound (record start { profile = 3 }) ≡ false)
unfolding state_of is_sound is_rate_sound is_activity_sound are_in_range choices_of
sound-states = (refl, refl, refl, refl, refl, refl, refl, refl, refl, refl)

-- if delays come from time stamps, a departure requires the packet's arrival; the other arguments are tested first
stamped : (departure_refusal (record start { choices = 1 }) 1 0 0 ≡ 119) × (departure_refusal (record start { choices = 30 }) 1 0 0 ≡ 0)
    × (waited_refusal (record start { choices = 1 }) 1 0 1 5 ≡ 118) × (waited_refusal (record start { choices = 1; moment = 1 }) 1 0 1 0 ≡ 0)
    × (waited_refusal start 1 0 1 0 ≡ 0) × (waited_refusal (record start { choices = 1 }) 0 0 1 5 ≡ 102)
    × (elements_of 5 ≡ record usual { delay = Stamp; step = Uncapped }) × (elements_of 26 ≡ record usual { picking = Random; size = Scaled; decay = Half })
unfolding state_of packet_refusal elements_of choices_of
stamped = (refl, refl, refl, refl, refl, refl, refl, refl)

-- fields of an unsound state that a call does not change are kept; a threshold above 65536 has the effect of 65536
abbrev odd : PieState
odd = record start { params = record default_profile { dq_threshold = 2 ^ 17 }; measuring = 1; cycle_start = 7; cycle_count = 65535; profile = 9 }

odd_states : (with_rate odd (departed (capped (controller_state odd)) 1 0 0 8)
    ≡ record odd { moment = 8; average = 1; measuring = 0; cycle_start = 0; cycle_count = 0 })
    × (with_arrival odd (arrived (controller_state odd) (arrival_of 0 1500 1 0 0) 8) ≡ record odd { moment = 8 })
unfolding controller_state state_of verdict accu_left is_considered is_picked elements_of choices_of
odd_states = (refl, refl)

too_soon : (update_refusal start 0 14_999_999 ≡ 103) × (update_refusal start 0 15_000_000 ≡ 0)
    × (update_refusal (record start { moment = 15_000_000 }) 0 3 ≡ 0)
unfolding state_of controller_state update_refusal is_sound is_rate_sound is_activity_sound are_in_range choices_of elements_of
too_soon = (refl, refl, refl)
