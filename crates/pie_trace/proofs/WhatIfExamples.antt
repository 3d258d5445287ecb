-- A worked history that is decided again with another target and with another limit. Each theorem computes;
-- tests/shared/reference_resumed.py gives the same answers.
use Rattle.std.specs.Prelude.{ℕ, ◌≡◌, ◌++◌, ◌^◌, List, [], ◌∷◌, Some, None, map}
use Rattle.std.proofs.Common.{refl}
use Rattle.pie_book.proofs.Examples.{worked}
use Rattle.pie_event.specs.declared.command.Answer.{Answer}
use Rattle.pie_event.specs.declared.command.Answer.TheVariants.{Done, DroppedEarly, DroppedBytes, Enqueued, Left, Updated}
use Rattle.pie_event.specs.declared.command.Command.{Command}
use Rattle.pie_event.specs.declared.command.Command.TheVariants.{Arrive, Depart, Update}
use Rattle.pie_event.specs.declared.command.Event.{Event}
use Rattle.pie_event.specs.declared.opening.Mode.TheVariants.{Bounded}
use Rattle.pie_event.specs.declared.opening.Opening.{Opening}
use Rattle.pie_event.specs.declared.opening.Profile.TheVariants.{One}
use Rattle.pie_params.specs.Params.{usual}
use Rattle.pie_params.specs.declared.elements.Delay.TheVariants.{Stamp}
use Rattle.pie_queue.specs.declared.ecn.Ecn.TheVariants.{NotEct}
use Rattle.pie_queue.specs.declared.packet.Packet.{Packet}
use Rattle.pie_record.specs.declared.history_record.Line.TheVariants.{Valid}
use Rattle.pie_units.specs.declared.utc.When.TheVariants.{Moment}
unfoldable use Rattle.pie_trace.specs.Other.{point_at_end}
use Rattle.pie_trace.specs.Other.{counts_of}
use Rattle.pie_trace.specs.Other.{Point, ReadLine, first_point}
use Rattle.pie_trace.specs.declared.omitted.Omitted.{Omitted}
use Rattle.pie_trace.specs.declared.other_params.OtherParams.{OtherParams}

abbrev packet : ℕ → ℕ → Packet
packet tag size = record { tag = tag; size = size; ecn = NotEct }

-- time stamps, no burst allowance, and an update is due after a nanosecond
abbrev opening : Opening
opening = record {
  moment = 0;
  limits = record { packets = 4; tail = 32; events = 100 };
  params = record { target = 2; t_update = 1; max_burst = 0; alpha = 850_000; beta = 0; mean_pkt = 1; limit_bytes = 100_000; mark_ecnth = 10 ^ 12; dq_threshold = 1024 };
  choices = record { mode = Bounded; profile = One; elements = record usual { delay = Stamp } };
}

-- four packets arrive, and two depart a millisecond apart. Three updates follow, and two more packets
abbrev commands : List Command
commands = map (λ tag. Arrive 0 (packet tag 1024) 0) (1 ∷ 2 ∷ 3 ∷ 4 ∷ []) ++ Depart 1000 ∷ Depart 1001000
    ∷ Update 1001000 ∷ Update 1001001 ∷ Update 1001002 ∷ Arrive 1001003 (packet 5 500) 0 ∷ Arrive 1001003 (packet 6 500) 0 ∷ []

-- the line of a command; the answer in the line has no effect
abbrev read : Command → ReadLine
read command = record { line = Valid (record { caller = 1; command = command; answer = Done }); row = [] }

-- the end of the other history, with these parameters from the second departure on; its answers, and the numbers of omitted commands
abbrev end : OtherParams → Point
end params = point_at_end (record { from = Moment 1001000; params = params }) (first_point opening []) (map read commands)

abbrev answers : OtherParams → List Answer
answers params = map (λ (event : Event). event.answer) (end params).events

abbrev omitted : OtherParams → Omitted
omitted params = counts_of (end params).omitted

abbrev none : OtherParams
none = record {
  target = None;
  t_update = None;
  max_burst = None;
  alpha = None;
  beta = None;
  mean_pkt = None;
  limit_bytes = None;
  mark_ecnth = None;
  dq_threshold = None;
}

-- the events before the moment
abbrev before : List Answer
before = Enqueued ∷ Enqueued ∷ Enqueued ∷ Enqueued ∷ Left (packet 1 1024) ∷ []

-- The control, without other parameters, drops the last packet early. With a target of ten seconds the probability stays 0,
-- and both packets are queued. With a limit of 2500 bytes the probabilities are the same, and neither packet has room. If an
-- update is due after 2 ns, the second one is omitted
worked_histories : (answers none ≡ before ++ Done ∷ Left (packet 2 1024) ∷ Updated 1001000 415453271 0 ∷ Updated 1001000 27004462646 0
    ∷ Updated 1001000 452428612646 0 ∷ Enqueued ∷ DroppedEarly ∷ [])
    × (answers (record none { target = Some (10 ^ 10) }) ≡ before ++ Done ∷ Left (packet 2 1024) ∷ Updated 1001000 0 0 ∷ Updated 1001000 0 0
    ∷ Updated 1001000 0 0 ∷ Enqueued ∷ Enqueued ∷ [])
    × (answers (record none { limit_bytes = Some 2500 }) ≡ before ++ Done ∷ Left (packet 2 1024) ∷ Updated 1001000 415453271 0
    ∷ Updated 1001000 27004462646 0 ∷ Updated 1001000 452428612646 0 ∷ DroppedBytes ∷ DroppedBytes ∷ [])
    × (omitted none ≡ record { arrivals = 0; departures = 0; updates = 0; resets = 0; changes = 0 })
    × (omitted (record none { t_update = Some 2 }) ≡ record { arrivals = 0; departures = 0; updates = 1; resets = 0; changes = 0 })
unfolding worked point_at_end
worked_histories = (refl, refl, refl, refl, refl)
