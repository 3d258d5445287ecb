-- Worked histories in which an expected law fails, or a bound is nearly reached.
use Rattle.std.specs.Prelude.{ℕ, List, [], ◌∷◌, ◌&&◌, ◌==◌, count_by}
use Rattle.pie_params.specs.Params.{usual}
use Rattle.pie_params.specs.declared.elements.Delay.TheVariants.{Stamp}
use Rattle.pie_params.specs.declared.elements.Picking.TheVariants.{Random}
use Rattle.pie_guarantees.specs.Verdicts.{NotEct, RawParams, One, Command, Arrive, Depart, Update, SetParams, Answer, Enqueued, DroppedEarly, Left, Updated, Done, Event, Bounded, Elements, Opening, Packet, is_early}

abbrev pub happened : Command → Answer → Event
happened command answer = record { caller = 1; command = command; answer = answer }

-- a packet of 1000 bytes
abbrev pub thousand_bytes : ℕ → Packet
thousand_bytes tag = record { tag = tag; size = 1000; ecn = NotEct }

abbrev pub opened : Elements → RawParams → Opening
opened elements params = record {
  moment = 0;
  limits = record { packets = 8; tail = 32; events = 100 };
  params = params;
  choices = record { mode = Bounded; profile = One; elements = elements };
}

-- a limit of this many bytes
abbrev pub limited : ℕ → RawParams
limited bytes = record {
  target = 2;
  t_update = 100;
  max_burst = 200;
  alpha = 1000000;
  beta = 1000000;
  mean_pkt = 1;
  limit_bytes = bytes;
  mark_ecnth = 0;
  dq_threshold = 1024;
}

-- ---- a limit that is lowered below the queued bytes

-- the opening of the example in which a limit is lowered below the bytes in the queue
abbrev pub lowered_opening : Opening
lowered_opening = opened usual (limited 1000)

-- the events of that example: 1000 bytes are queued, and the new limit is 500 bytes
abbrev pub lowered : List Event
lowered = happened (Arrive 0 (thousand_bytes 1) 0) Enqueued ∷ happened (SetParams 1 (limited 500)) Done ∷ []

-- ---- a burst that begins just before an update: with updates 100 apart and an allowance of 200, its first packet at 99 and the first drop at 200

-- the opening of the example
abbrev pub burst_opening : Opening
burst_opening = opened (record usual { delay = Stamp; picking = Random }) (limited 100000)

-- the first packet of the burst
abbrev pub burst_begins : List Event
burst_begins = happened (Arrive 99 (thousand_bytes 1) 0) Enqueued ∷ []

-- the events between the first packet and the first drop
abbrev pub burst_continues : List Event
burst_continues =
    happened (Arrive 99 (thousand_bytes 2) 0) Enqueued ∷ happened (Arrive 99 (thousand_bytes 3) 0) Enqueued
    ∷ happened (Depart 100) (Left (thousand_bytes 1))
    ∷ happened (Update 100) (Updated 1 0 100) ∷ happened (Depart 199) (Left (thousand_bytes 2)) ∷ happened (Update 200) (Updated 100 96191 0) ∷ []

-- the first drop of the burst
abbrev pub first_drop : Event
first_drop = happened (Arrive 200 (thousand_bytes 4) 0) DroppedEarly

-- ---- an update at the last moment of all, 2^60 - 1: no later update can be due

-- an update at the last possible moment
abbrev pub last_update : List Event
last_update = happened (Update 1152921504606846975) (Updated 0 0 200) ∷ []

-- ---- two flows that send in turn, at a probability of a half: every second considered packet is picked, and each is of flow 1

-- the opening of the example
abbrev pub flows_opening : Opening
flows_opening = opened (record usual { delay = Stamp }) (record (limited 100000) { max_burst = 0 })

-- the events after which the probability is a half
abbrev pub half_is_reached : List Event
half_is_reached =
    happened (Arrive 0 (thousand_bytes 9) 0) Enqueued ∷ happened (Arrive 0 (thousand_bytes 9) 0) Enqueued
    ∷ happened (Depart 512000001) (Left (thousand_bytes 9)) ∷ happened (Update 512000001) (Updated 512000001 500000000000 0) ∷ []

-- arrivals of two flows in turn
abbrev pub flows_in_turn : List Event
flows_in_turn =
    happened (Arrive 512000002 (thousand_bytes 2) 0) Enqueued ∷ happened (Arrive 512000003 (thousand_bytes 1) 0) DroppedEarly
    ∷ happened (Arrive 512000004 (thousand_bytes 2) 0) Enqueued ∷ happened (Arrive 512000005 (thousand_bytes 1) 0) DroppedEarly
    ∷ happened (Arrive 512000006 (thousand_bytes 2) 0) Enqueued ∷ happened (Arrive 512000007 (thousand_bytes 1) 0) DroppedEarly ∷ []

-- the flow of an arriving packet, 0 with none, and the number of packets of a flow that were marked or dropped early
abbrev pub flow_of : Command → ℕ
flow_of (Arrive moment packet word) = packet.tag
flow_of _ = 0

-- the number of packets of this flow that are marked or dropped early
abbrev pub picks_of : ℕ → List Event → ℕ
picks_of flow events = count_by (λ event. is_early event.answer && (flow_of event.command == flow)) events
