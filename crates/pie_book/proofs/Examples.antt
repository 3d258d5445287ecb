-- Examples of the definitions: histories, refusals, runs, and events whose answer the command cannot have, which no run
-- makes. Each theorem computes. tests/rows has more histories, which tests/shared/reference.py computes by looking
-- back.
use Rattle.std.specs.Prelude.{⊤, ℕ, ◌≡◌, ◌+◌, ◌^◌, List, [], ◌∷◌, ◌++◌, true, false, map, take, length, Some, None, Ok, Err}
use Rattle.std.proofs.Common.{refl, ap, arith}
use Rattle.pie_params.specs.Params.{default_profile, usual}
use Rattle.pie_queue.specs.declared.ecn.Ecn.TheVariants.{NotEct, Ect0}
use Rattle.pie_event.specs.Event.{nothing}
use Rattle.pie_event.specs.declared.registers.Register.TheVariants.{Accu}
use Rattle.pie_event.specs.declared.registers.Registers.{Registers}
use Rattle.pie_event.specs.declared.refusal.ResumeRefusal.TheVariants as resume
use Rattle.pie_event.specs.declared.refusal.QueueRefusal.TheVariants as queue
use Rattle.pie_event.specs.declared.refusal.EndRefusal.TheVariants as end
use Rattle.pie_book.specs.declared.snapshot.CoreSnapshot.{CoreSnapshot}
use Rattle.pie_event.specs.declared.refusal.Refusal.TheVariants.{Moment, Size, TooSoon, Exhausted, HistoryFull}
use Rattle.pie_aqm.proofs.Examples.{small, worked as worked_calls}
use Rattle.pie_book.specs.Book.{Step, applied, folded, start, without_folds, answers, answers_from, before_full, progress_after, event_of}
use Rattle.pie_book.specs.{Packet, Command, Arrive, Depart, Update, Reset, SetParams, Answer, Enqueued, Marked, DroppedEarly, DroppedBytes, Empty, Left, Updated, Done, Event, Mode, Bounded, Rolling, One, Opening, RawParams, Stats, caller_moment, registers_after, largest_queue, largest_delay, stats_after, waited, state_after, effective_moment, admitted, departed_count, waiting_after, controller_events, effect, fits, last_events, without_last, tail_with, first_run, core_after, first_core, CoreView, IsLegalAt, refusal_after, state_after_calls, calls_of, after_calls, resume_refusal, queue_refusal, end_refusal, core_of, ResumingView, are_reached, DroppedPackets, ExcerptView, event_of_recorded, MayOpen, HasLimits, AreInOrder, AreQueued, ArrivedBy, ArrivedFrom, IsNotContinued, Profile, Two, Elements, Waiting, recorded_event_in, has_room, most_kept, apply_in, cause_in, core_along, no_stats, step_in, are_balanced, ControllerState}
use Rattle.pie_book.proofs.CoreFacts.{queued_none, queued_resumed}
use Rattle.std.proofs.lemmas.List.Elements.{All-head}
use Rattle.pie_params.specs.declared.elements.Delay.{Delay}
use Rattle.pie_params.specs.declared.elements.Delay.TheVariants.{Rate, Stamp}
use Rattle.pie_book.specs.declared.book.ContinueRefusal.TheVariants as continue
use Rattle.pie_params.specs.declared.elements.Picking.TheVariants.{Random}
use Rattle.pie_aqm.specs.Steps.{cause}
use Rattle.pie_event.specs.declared.cause.Cause.TheVariants as causes

-- the definitions that theorems on worked histories unfold
unfoldable pub worked : Type 0
unfolding worked_calls admitted effective_moment waiting_after departed_count state_after controller_events registers_after stats_after largest_queue largest_delay
    waited progress_after answers_from calls_of after_calls are_reached are_balanced core_along cause
worked = ⊤

abbrev packet : ℕ → ℕ → Packet
packet tag size = record { tag = tag; size = size; ecn = NotEct }

-- an answer that the command cannot have: such an arrival or departure has no effect
misfits : (map (effect (Arrive 1 (packet 7 60) 0)) (Empty ∷ Left (packet 7 60) ∷ Updated 2 3 4 ∷ Done ∷ [])
    ≡ nothing ∷ nothing ∷ nothing ∷ nothing ∷ [])
    × (map (effect (Depart 1)) (Enqueued ∷ Marked ∷ DroppedEarly ∷ Updated 2 3 4 ∷ Done ∷ []) ≡ nothing ∷ nothing ∷ nothing ∷ nothing ∷ nothing ∷ [])
misfits = (refl, refl)

abbrev all_answers : List Answer
all_answers = Enqueued ∷ Marked ∷ DroppedEarly ∷ DroppedBytes ∷ DroppedPackets ∷ Empty ∷ Left (packet 7 60) ∷ Updated 2 3 4 ∷ Done ∷ []

-- the answers that each command can have
fitting : (map (fits (Arrive 1 (packet 7 60) 0)) all_answers ≡ true ∷ true ∷ true ∷ true ∷ true ∷ false ∷ false ∷ false ∷ false ∷ [])
    × (map (fits (Depart 1)) all_answers ≡ false ∷ false ∷ false ∷ false ∷ false ∷ true ∷ true ∷ false ∷ false ∷ [])
    × (map (fits (Update 1)) all_answers ≡ false ∷ false ∷ false ∷ false ∷ false ∷ false ∷ false ∷ true ∷ false ∷ [])
    × (map (fits (Reset 1)) all_answers ≡ false ∷ false ∷ false ∷ false ∷ false ∷ false ∷ false ∷ false ∷ true ∷ [])
    × (map (fits (SetParams 1 default_profile)) all_answers ≡ false ∷ false ∷ false ∷ false ∷ false ∷ false ∷ false ∷ false ∷ true ∷ [])
fitting = (refl, refl, refl, refl, refl)

abbrev opened : Mode → ℕ → ℕ → Opening
opened mode tail events = record {
  moment = 0;
  limits = record { packets = 4; tail = tail; events = events };
  params = default_profile;
  choices = record { mode = mode; profile = One; elements = usual };
}

-- ---- A worked run: four packets arrive, and two depart a millisecond apart. Three updates raise the probability. Of
-- the next three packets one is marked, one dropped, and one queued by its random word. Then follow new parameters and
-- a reset

-- no burst allowance, and an update is due after a nanosecond
abbrev no_burst : RawParams
no_burst = record small { target = 2; t_update = 1; max_burst = 0; limit_bytes = 100000; mark_ecnth = 1000000000000 }

abbrev opening : Opening
opening = record (opened Bounded 32 100) { params = no_burst }

abbrev commands : List Command
commands = map (λ tag. Arrive 0 (packet tag 1024) 0) (1 ∷ 2 ∷ 3 ∷ 4 ∷ []) ++ Depart 1000 ∷ Depart 1001000
    ∷ Update 1001000 ∷ Update 1001001 ∷ Update 1001002 ∷ Arrive 1001003 (record (packet 5 500) { ecn = Ect0 }) 0 ∷ Arrive 1001003 (packet 6 500) 0
    ∷ Arrive 1001003 (packet 7 500) 18446744073709551615 ∷ SetParams 1001004 (record no_burst { max_burst = 50 }) ∷ Reset 1001005 ∷ []

-- the history of the first n of them
abbrev history : ℕ → List Event
history n = (progress_after opening start (map (applied 1) (take n commands))).history

-- the core after these commands
abbrev steps : CoreView → List Command → CoreView
steps core [] = core
steps core (command ∷ more) = steps (core_after core command) more

-- registers and statistics in the order of their records
abbrev registers_in : Registers → List ℕ
registers_in r = r.count ∷ r.moment ∷ r.packets ∷ r.bytes ∷ r.prob ∷ r.old ∷ r.accu ∷ r.burst ∷ r.last ∷ r.average ∷ []

abbrev stats_in : Stats → List ℕ
stats_in s = s.arrivals ∷ s.enqueued ∷ s.marked ∷ s.early ∷ s.over_bytes ∷ s.over_packets ∷ s.left ∷ s.left_bytes ∷ s.empty ∷ s.updates ∷ s.resets
    ∷ s.changes ∷ s.largest_queue ∷ s.largest_delay ∷ s.waited ∷ []

answered : answers opening (map (applied 1) commands) ≡ map Ok (Enqueued ∷ Enqueued ∷ Enqueued ∷ Enqueued ∷ Left (packet 1 1024) ∷ Left (packet 2 1024)
    ∷ Updated 2000000 830077294 0 ∷ Updated 2000000 53955024169 0 ∷ Updated 2000000 903954174169 0
    ∷ Marked ∷ DroppedEarly ∷ Enqueued ∷ Done ∷ Done ∷ [])
unfolding worked
answered = refl

held : (map (λ n. registers_in (registers_after opening (history n))) (12 ∷ 13 ∷ 14 ∷ [])
    ≡ (12 ∷ 1001003 ∷ 4 ∷ 3048 ∷ 903954174169 ∷ 2000000 ∷ 903954174169 ∷ 0 ∷ 1001002 ∷ 1000000 ∷ [])
    ∷ (13 ∷ 1001004 ∷ 4 ∷ 3048 ∷ 903954174169 ∷ 2000000 ∷ 903954174169 ∷ 0 ∷ 1001002 ∷ 0 ∷ [])
    ∷ (14 ∷ 1001005 ∷ 4 ∷ 3048 ∷ 0 ∷ 0 ∷ 0 ∷ 50 ∷ 1001002 ∷ 0 ∷ []) ∷ [])
    × (stats_in (stats_after opening (history 14)) ≡ 7 ∷ 5 ∷ 1 ∷ 1 ∷ 0 ∷ 0 ∷ 2 ∷ 2048 ∷ 0 ∷ 3 ∷ 1 ∷ 1 ∷ 4096 ∷ 2000000 ∷ 1002000 ∷ [])
unfolding worked
held = (refl, refl)

-- a core, and a controller with a queue, reach the same state
by_steps : let core : CoreView = steps (first_core opening) commands in
    (core.controller ≡ state_after opening (history 14)) × (core.waiting ≡ waiting_after opening (history 14))
    × (core.stats ≡ stats_after opening (history 14)) × (state_after_calls opening (history 14) ≡ state_after opening (history 14))
unfolding worked
by_steps = (refl, refl, refl, refl)

-- ---- Refusals and event logs

abbrev three : List Event
three = event_of 1 (Arrive 10 (packet 7 1500) 0) Enqueued ∷ event_of 2 (Depart 25) (Left (packet 7 1500)) ∷ event_of 2 (Depart 30) Empty ∷ []

abbrev sized : ℕ → Command
sized size = Arrive 0 (packet 1 size) 0

-- the order of refusals, after three events in a book with a limit of three events and an event log of three
order : (map (refusal_after (opened Bounded 3 3) three 3) (Arrive (2 ^ 60) (packet 1 0) 0 ∷ sized 0 ∷ sized 65536 ∷ Update 31 ∷ sized 1 ∷ [])
    ≡ Some Moment ∷ Some Size ∷ Some Size ∷ Some (TooSoon 15000000) ∷ Some Exhausted ∷ [])
    × (map (λ mode. refusal_after (opened mode 3 4) three 3 (sized 1)) (Bounded ∷ Rolling ∷ []) ≡ Some HistoryFull ∷ None ∷ [])
    × (map (refusal_after (opened Bounded 4 4) three 3) (Update 15000000 ∷ sized 65535 ∷ []) ≡ None ∷ None ∷ [])
unfolding worked
order = (refl, refl, refl)

-- the moments of some events
abbrev moments : List Event → List ℕ
moments events = map (λ event. caller_moment event.command) events

-- the last events and the others; the oldest event leaves a full event log of a rolling book; the first events up to
-- one that sets parameters
tails : (map (λ n. moments (last_events n three)) (0 ∷ 2 ∷ 3 ∷ []) ≡ [] ∷ (25 ∷ 30 ∷ []) ∷ (10 ∷ 25 ∷ 30 ∷ []) ∷ [])
    × (map (λ n. moments (without_last n three)) (0 ∷ 2 ∷ 3 ∷ []) ≡ (10 ∷ 25 ∷ 30 ∷ []) ∷ (10 ∷ []) ∷ [] ∷ [])
    × (map (λ most. moments (tail_with (opened Rolling most 4) (take 2 three) (event_of 2 (Depart 30) Empty))) (2 ∷ 3 ∷ [])
    ≡ (25 ∷ 30 ∷ []) ∷ (10 ∷ 25 ∷ 30 ∷ []) ∷ [])
    × (map (λ most. length (first_run most (history 14))) (0 ∷ 5 ∷ 20 ∷ []) ≡ 0 ∷ 5 ∷ 13 ∷ [])
unfolding worked
tails = (refl, refl, refl, refl)

-- the event of an entry of the event log is the recorded one, for any event; an answer that the command cannot have is
-- stored as no effect
entries : let recorded = λ (events : List Event). map (λ e. event_of_recorded (recorded_event_in e)) events in
    (recorded (history 14) ≡ history 14) × (recorded three ≡ three) × (recorded (event_of 3 (Depart 4) Marked ∷ []) ≡ event_of 3 (Depart 4) Empty ∷ [])
unfolding worked
entries = (refl, refl, refl)

-- ---- A core that resumes from the snapshot after the run, and from the waiting packets: the order of refusals

abbrev numbers : CoreSnapshot
numbers = record { count = 14; controller = state_after opening (history 14); packets = 4; bytes = 3048; stats = stats_after opening (history 14) }

-- an accumulated probability and a statistic that are one too great
abbrev unsound : ℕ → ℕ → CoreSnapshot
unsound packets bytes = record numbers {
  controller = record numbers.controller { accu = 8_500_000_000_000 };
  packets = packets;
  bytes = bytes;
  stats = record numbers.stats { left = 15 };
}

resumes : (map (λ events. resume_refusal (record opening.limits { events = events }) (unsound 5 (2 ^ 30 + 1))) (0 ∷ 13 ∷ 14 ∷ [])
    ≡ Some resume.BadLimits ∷ Some resume.Count ∷ Some resume.Packets ∷ [])
    × (map (resume_refusal opening.limits) (unsound 4 (2 ^ 30 + 1) ∷ unsound 4 (2 ^ 30) ∷ record numbers { stats = (unsound 4 0).stats }
    ∷ numbers ∷ [])
    ≡ Some resume.Bytes ∷ Some (resume.Unsound Accu) ∷ Some resume.Statistics ∷ None ∷ [])
unfolding worked
resumes = (refl, refl)

-- statistics that agree with the other numbers, and each relation one off
agreeing : let s : Stats = numbers.stats in
    (map (λ stats. are_balanced (record numbers { stats = stats })) (s ∷ record s { empty = 1 } ∷ record s { arrivals = 8; updates = 2 }
    ∷ record s { enqueued = 6; early = 0 } ∷ record s { largest_queue = 3048 } ∷ record s { largest_queue = 3047 }
    ∷ record s { waited = 2002010 } ∷ record s { waited = 2002011 } ∷ [])
    ≡ true ∷ false ∷ false ∷ false ∷ true ∷ false ∷ true ∷ false ∷ [])
    × (are_balanced (record numbers { packets = 3 }) ≡ false)
unfolding worked
agreeing = (refl, refl)

-- each register that a statistic or an element bounds
holding : let h : ControllerState = numbers.controller in
    (map (λ state. are_balanced (record numbers { controller = state })) (record h { waited = 1 }
    ∷ record h { control = record h.control { old_delay = 2000000 } } ∷ record h { control = record h.control { old_delay = 2000001 } }
    ∷ record h { elements = record usual { delay = Stamp }; waited = 1002000 } ∷ record h { elements = record usual { delay = Stamp }; waited = 1002001 }
    ∷ record h { elements = record usual { delay = Stamp }; rate = record h.rate { average = 1 } }
    ∷ record h { accu = 1 } ∷ record h { elements = record usual { picking = Random }; accu = 1 } ∷ record h { elements = record usual { picking = Random } } ∷ [])
    ≡ false ∷ true ∷ false ∷ true ∷ false ∷ false ∷ true ∷ false ∷ true ∷ [])
    × (map (λ prob. are_balanced (record numbers {
      stats = record numbers.stats { updates = 0; empty = 3 };
      controller = record h { control = record h.control { prob = prob } };
    })) (0 ∷ 1 ∷ []) ≡ true ∷ false ∷ [])
unfolding worked
holding = (refl, refl)

-- a core may have had an opening with its limits of packets and events, its profile and its elements, whose moment is
-- not after its own
abbrev opened_at : Profile → Delay → ℕ → Opening
opened_at profile delay moment = record opening {
  limits = record opening.limits { tail = 1 };
  moment = moment;
  choices = record opening.choices { profile = profile; elements = record usual { delay = delay } };
}

one-two : One ≡ Two → ⊥
one-two e = cc

rate-stamp : Rate ≡ Stamp → ⊥
rate-stamp e = cc

continued : let core = core_of opening.limits numbers [] in
    MayOpen (opened_at One Rate 1001005) core
    × (HasLimits (record opening { limits = record opening.limits { packets = 5 } }) core → ⊥)
    × (HasLimits (record opening { limits = record opening.limits { events = 99 } }) core → ⊥)
    × IsNotContinued (opened_at Two Rate 0) core continue.OtherProfile
    × IsNotContinued (opened_at One Stamp 0) core continue.OtherElements
    × IsNotContinued (opened_at One Rate 1001006) core continue.LaterOpening
unfolding worked
continued = (
  record { limits = (refl, refl); profile = refl; elements = refl; moment = omega arith },
  λ has. (let packets = has.0 in omega (arith, packets)),
  λ has. (let events = has.1 in omega (arith, events)),
  ((refl, refl), λ same. one-two same),
  ((refl, refl), refl, λ same. rate-stamp (ap (λ (e : Elements). e.delay) same)),
  ((refl, refl), refl, refl, omega arith),
)

-- a core without a history: three arrivals, none of them queued, but one packet waits. It has room for one more event
abbrev unreached : CoreView
unreached = record (core_of opening.limits numbers (take 1 (waiting_after opening (history 14)))) {
  count = 99;
  stats = record no_stats { arrivals = 3 };
}

unreached_steps : (map (step_in unreached) (Depart (2 ^ 60) ∷ sized 0 ∷ sized 100 ∷ Depart 5 ∷ [])
    ≡ Err Moment ∷ Err Size ∷ Ok Enqueued ∷ Ok (Left (packet 3 1024)) ∷ [])
    × (stats_in (core_after unreached (Depart 5)).stats ≡ 3 ∷ 0 ∷ 0 ∷ 0 ∷ 0 ∷ 0 ∷ 1 ∷ 1024 ∷ 0 ∷ 0 ∷ 0 ∷ 0 ∷ 0 ∷ 0 ∷ 1001005 ∷ [])
    × (step_in (core_along unreached (event_of 1 (Depart 5) Empty ∷ [])) (Depart 6) ≡ Err Exhausted)
    × (apply_in (opened Bounded 3 100) unreached 3 (Depart 5) ≡ Err HistoryFull)
    × (apply_in (opened Rolling 3 100) unreached 3 (Depart 5) ≡ Ok (Left (packet 3 1024)))
    × (cause_in unreached (Depart 5) ≡ None) × (cause_in unreached (sized 100) ≡ Some (causes.BurstAllowed 50))
unfolding worked
unreached_steps = (refl, refl, refl, refl, refl, refl, refl)

-- room for twice the 32 events of the event log, or twice the 4 packets; room for one packet or one event less is too
-- little
rooms : (excerpt : ExcerptView) → let has = λ (packets events : ℕ).
    has_room (record excerpt { packets_room = packets; events_room = events }) opening.limits in
    (map most_kept (opening.limits ∷ record opening.limits { tail = 3 } ∷ []) ≡ 64 ∷ 8 ∷ [])
    × (has 4 64 ≡ true) × (has 3 64 ≡ false) × (has 4 63 ≡ false)
rooms excerpt = (refl, refl, refl, refl)

-- three of the four packets were supplied; the newest arrived at 1001003, and 500 bytes are missing
abbrev handed : ℕ → ℕ → ResumingView
handed packets bytes =
    record { core = core_of opening.limits numbers (take 3 (waiting_after opening (history 14))); packets = packets; bytes = bytes }

queues : (map (λ packets. queue_refusal (handed packets 3048) (packet 7 0) 1001006) (3 ∷ 4 ∷ []) ≡ Some queue.TooMany ∷ Some queue.Size ∷ [])
    × (map (λ size. queue_refusal (handed 4 3048) (packet 7 size) 1001006) (501 ∷ 500 ∷ []) ≡ Some queue.TooManyBytes ∷ Some queue.Moment ∷ [])
    × (map (queue_refusal (handed 4 3048) (packet 7 500)) (1001005 ∷ 1001003 ∷ 1001002 ∷ []) ≡ None ∷ None ∷ Some queue.Order ∷ [])
    × (map end_refusal (handed 4 3048 ∷ handed 3 3048 ∷ handed 3 2548 ∷ []) ≡ Some end.Missing ∷ Some end.MissingBytes ∷ None ∷ [])
unfolding worked
queues = (refl, refl, refl, refl)

-- ---- Runs of steps, and events that are not legal, which only laws mention

abbrev arrives : ℕ → Step
arrives tag = applied 1 (Arrive tag (packet tag 100) 0)

unfolded : without_folds (arrives 1 ∷ folded 1 ∷ applied 1 (Depart 2) ∷ folded 0 ∷ [])
    ≡ record { caller = 1; command = Arrive 1 (packet 1 100) 0 } ∷ record { caller = 1; command = Depart 2 } ∷ []
unfolding without_folds
unfolded = refl

-- a fold in time makes room in a bounded book; a rolling book needs none
fold_in_time : (answers (opened Bounded 2 100) (arrives 1 ∷ arrives 2 ∷ arrives 3 ∷ []) ≡ Ok Enqueued ∷ Ok Enqueued ∷ Err HistoryFull ∷ [])
    × (answers (opened Bounded 2 100) (arrives 1 ∷ folded 1 ∷ arrives 2 ∷ arrives 3 ∷ []) ≡ Ok Enqueued ∷ Ok Enqueued ∷ Ok Enqueued ∷ [])
    × (answers (opened Rolling 2 100) (arrives 1 ∷ arrives 2 ∷ arrives 3 ∷ []) ≡ Ok Enqueued ∷ Ok Enqueued ∷ Ok Enqueued ∷ [])
unfolding worked
fold_in_time = (refl, refl, refl)

-- two answers precede the first `HistoryFull`; without one, all do
counted_before_full : (before_full (Ok Enqueued ∷ Ok Enqueued ∷ Err HistoryFull ∷ Ok Empty ∷ []) ≡ 2)
    × (before_full (Err Size ∷ Err Exhausted ∷ Ok Done ∷ []) ≡ 3)
counted_before_full = (refl, refl)

-- the first packet cannot have been marked
wrong_mark : IsLegalAt (opened Bounded 2 100) (record {
  before = [];
  event = record { caller = 1; command = Arrive 1 (packet 1 100) 0; answer = Marked };
}) → ⊥
unfolding worked
wrong_mark legal = let answered : Marked ≡ Enqueued = legal.answered in cc

-- ---- the order of waiting packets

abbrev arrived : ℕ → Waiting
arrived since = record { packet = packet 7 60; since = since }

-- at the moment 5, two packets that arrived at 3 and at 5 are in order; exchanged, or at the moment 4, they are not
in_order : AreQueued 5 (arrived 3 ∷ arrived 5 ∷ [])
in_order =
    let first = queued_resumed 5 [] (packet 7 60) 3 (queued_none 5) (omega arith, omega arith) (omega arith) (omega arith) in
    queued_resumed 5 (arrived 3 ∷ []) (packet 7 60) 5 first (omega arith, omega arith) (omega arith) (omega arith)

exchanged : AreQueued 5 (arrived 5 ∷ arrived 3 ∷ []) → ⊥
unfolding AreInOrder
exchanged queued = let from = All-head (ArrivedFrom 5) (arrived 3) [] queued.order.0 in omega (arith, from)

too_late : AreQueued 4 (arrived 5 ∷ []) → ⊥
too_late queued = let by = All-head (ArrivedBy 4) (arrived 5) [] queued.moments in omega (arith, by)
