-- The link's definitions at small values, worked out by hand.
use Rattle.std.specs.Prelude.{ℕ, ◌≡◌, [], ◌∷◌, Some, None, List, Ok, Err}
use Rattle.pie_link.proofs.KeptFacts.{refl, PassKnowledge, Spent, Idle, HasTwo, Opening, Entry, CallerKnowledge, callers_of, Depart, Empty, Event, Bounded, Applied, Folded, events_in, left_when_rolling, tail_in, folded_events, state_after, waiting_after, Command, Arrive, Answer, Reply, entries_within, replies_within, ⊤, always, burst_within, departures, has_left}
use Rattle.pie_event.specs.declared.opening.Limits.{Limits}
use Rattle.pie_link.specs.declared.entry.LinkRefusal.TheVariants.{Book, NoCallers}
use Rattle.pie_link.specs.Headline.{link_refusal}
use Rattle.pie_params.specs.Params.{default_profile, usual}
use Rattle.pie_queue.specs.declared.ecn.Ecn.TheVariants.{NotEct}
use Rattle.pie_queue.specs.declared.packet.Packet.{Packet}
use Rattle.pie_aqm.specs.History.{active_of, arrival_inputs, control_of, delay_at_end, departures_of, departure_inputs, early_of, state_of, is_active, activity_events, activity_events_after, now_of, params_of, update_inputs, waited_at_end, waited_of, places, greatest, last_or}
use Rattle.pie_aqm.specs.Steps.{verdict}
use Rattle.pie_event.specs.declared.opening.Profile.TheVariants.{One}
use Rattle.pie_book.specs.History.{effective_moment, admitted, departed_count, controller_events}
use Rattle.pie_event.specs.declared.command.Answer.TheVariants.{DroppedBytes, Enqueued, Left}
use Rattle.pie_event.specs.declared.refusal.Refusal.TheVariants.{HistoryFull, Size}
use Rattle.pie_event.specs.declared.refusal.OpenRefusal.TheVariants as of_book

abbrev limits : ℕ → Limits
limits packets = record { packets = packets; tail = 8; events = 100 }

-- bad limits come first, then the moment, then that there are no callers
bad_limits : link_refusal (limits 0) 1152921504606846976 0 ≡ Some (Book of_book.BadLimits)
bad_limits = refl

late : link_refusal (limits 4) 1152921504606846976 0 ≡ Some (Book of_book.Moment)
late = refl

no_callers : link_refusal (limits 4) 0 0 ≡ Some NoCallers
no_callers = refl

allowed : link_refusal (limits 4) 0 3 ≡ None
allowed = refl

abbrev pass : ℕ → PassKnowledge Entry Opening
pass first = record { front = []; first = first; limit = first; numbers = 4; origin = None }

abbrev caller : ℕ → CallerKnowledge
caller first = record { front = []; first = first; limit = first }

-- a spent seat has no caller, and a seat with two passes has two
callers_of_seats : callers_of (Idle (pass 1) ∷ Spent ∷ HasTwo (pass 2) (pass 3) ∷ []) ≡ caller 1 ∷ caller 2 ∷ caller 3 ∷ []
callers_of_seats = refl

-- ---- entries

-- a caller's departure from an empty queue
abbrev empty_by : ℕ → Event
empty_by caller = record { caller = caller; command = Depart 1; answer = Empty }

-- five events of the callers 0 to 2, with two folds between, of one event and of two
abbrev history : List Entry
history = Applied (empty_by 0) ∷ Applied (empty_by 1) ∷ Folded 2 1 ∷ Applied (empty_by 2) ∷ Applied (empty_by 1) ∷ Folded 1 2 ∷ Applied (empty_by 0) ∷ []

events_of_history : events_in history ≡ empty_by 0 ∷ empty_by 1 ∷ empty_by 2 ∷ empty_by 1 ∷ empty_by 0 ∷ []
events_of_history = refl

-- in a bounded link the folds return events 1, 2 and 3, and the log has events 4 and 5
module _ (opening : Opening) (bounded : opening.choices.mode ≡ Bounded) where
  tail_of_bounded : tail_in opening history ≡ empty_by 1 ∷ empty_by 0 ∷ []
  tail_of_bounded = rw bounded refl

  handed_by_bounded : folded_events opening history ≡ empty_by 0 ∷ empty_by 1 ∷ empty_by 2 ∷ []
  handed_by_bounded = rw bounded refl

-- a rolling link with room for two: with event 4, event 2 leaves the log without a fold. The second fold returns events
-- 3 and 4
left_when_two_fit : left_when_rolling 2 0 history ≡ 4
left_when_two_fit = refl

-- without folds, only events for which there is no room have left the log
left_without_folds : left_when_rolling 2 0 (Applied (empty_by 0) ∷ Applied (empty_by 1) ∷ Applied (empty_by 2) ∷ []) ≡ 1
left_without_folds = refl

-- ---- bursts

-- the definitions that these bursts compute with
unfoldable worked : Type 0
unfolding admitted places effective_moment greatest waiting_after departed_count state_after controller_events state_of now_of params_of active_of
    departure_inputs update_inputs arrival_inputs departures_of waited_of waited_at_end delay_at_end control_of early_of is_active activity_events activity_events_after last_or
    verdict burst_within
worked = ⊤

-- a bounded link whose log has room for `tail` events, and whose queue has room for 1000 bytes
abbrev opened : ℕ → Opening
opened tail = record {
  moment = 0;
  limits = record { packets = 4; tail = tail; events = 100 };
  params = record default_profile { limit_bytes = 1000 };
  choices = record { mode = Bounded; profile = One; elements = usual };
}

abbrev packet : ℕ → ℕ → Packet
packet tag size = record { tag = tag; size = size; ecn = NotEct }

abbrev replied : Answer → ℕ → Reply
replied answer number = Ok (record { answer = answer; number = number })

abbrev applied : Command → Answer → Entry
applied command answer = Applied (record { caller = 1; command = command; answer = answer })

-- three packets: the first and the third are too large for the queue, and the second has no bytes
abbrev three : List Command
three = Arrive 1 (packet 7 1500) 0 ∷ Arrive 1 (packet 8 0) 0 ∷ Arrive 1 (packet 9 1001) 0 ∷ []

-- the second is refused and adds no entry; the third is decided
replies_to_three : replies_within None always (opened 8) 1 [] [] three ≡ replied DroppedBytes 1 ∷ Err Size ∷ replied DroppedBytes 2 ∷ []
unfolding worked
replies_to_three = refl

entries_to_three : entries_within None always (opened 8) 1 [] [] three
    ≡ applied (Arrive 1 (packet 7 1500) 0) DroppedBytes ∷ applied (Arrive 1 (packet 9 1001) 0) DroppedBytes ∷ []
unfolding worked
entries_to_three = refl

-- if the log has room for one event, the third is refused as full
replies_where_one_fits : replies_within None always (opened 1) 1 [] [] three ≡ replied DroppedBytes 1 ∷ Err Size ∷ Err HistoryFull ∷ []
unfolding worked
replies_where_one_fits = refl

-- two packets in the queue
abbrev two_wait : List Entry
two_wait = applied (Arrive 1 (packet 7 500) 0) Enqueued ∷ applied (Arrive 1 (packet 9 64) 0) Enqueued ∷ []

-- at most five departures: both packets depart, in order; the third departure finds the queue empty and ends the burst
replies_to_departures : replies_within None has_left (opened 8) 1 two_wait [] (departures 5 2)
    ≡ replied (Left (packet 7 500)) 3 ∷ replied (Left (packet 9 64)) 4 ∷ replied Empty 5 ∷ []
unfolding worked
replies_to_departures = refl

-- a refused departure ends the burst, and adds no entry
replies_where_all_are_refused : replies_within None has_left (opened 2) 1 two_wait [] (departures 5 2) ≡ Err HistoryFull ∷ []
unfolding worked
replies_where_all_are_refused = refl
