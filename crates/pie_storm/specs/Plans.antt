-- The calls of each caller of a storm's plan, and the plans that are sound.
use Rattle.std.specs.Prelude.{◌≡◌, ◌+◌, ◌-◌, ◌==◌, ◌≤◌, nat_le, ℕ, zero, suc, false, List, [], Option, Some, None, Vec, map, length, All, slice_get, if◌then◌else◌, ◌*◌, ◌/◌, ◌%◌, ◌^◌, min}
use Rattle.std.specs.declared.alloc.Global.{Global}
use Rattle.pie_event.specs.declared.command.Command.{Command}
use Rattle.pie_event.specs.declared.command.Command.TheVariants.{Depart, Update, SetParams}
use Rattle.pie_event.specs.declared.opening.Mode.TheVariants.{Bounded}
use Rattle.pie_event.specs.declared.opening.Opening.{Opening}
use Rattle.pie_event.specs.Event.{last_moment, caller_moment}
use Rattle.pie_book.specs.Decision.{has_bad_size}
use Rattle.pie_link.specs.declared.entry.Arrival.{Arrival}
use Rattle.pie_link.specs.Entries.{arrive}
use Rattle.pie_storm.specs.declared.plan.Call.{Call}
use Rattle.pie_storm.specs.declared.plan.Call.TheVariants.{Apply, Fold}
use Rattle.pie_storm.specs.declared.plan.Change.{Change}
use Rattle.pie_storm.specs.declared.plan.Plan.{Plan}
use Rattle.std.specs.List.{range_with_len}
use Rattle.rand_core.specs.Steps.{steps_u64_low, stream_of}
use Rattle.rand_core.specs.Stream.{Stream, next_u64}
use Rattle.rand_pcg.specs.Lcg.{Lcg, increment_of, started}
use Rattle.rand_pcg.specs.Pcg.{multiplier_128, pcg64}
use Rattle.pie_queue.specs.declared.ecn.Ecn.{Ecn}
use Rattle.pie_queue.specs.declared.ecn.Ecn.TheVariants.{NotEct, Ect1, Ect0, Ce}
use Rattle.pie_event.specs.declared.opening.Profile.TheVariants.{One}
use Rattle.pie_params.specs.Params.{usual, default_profile}
use Rattle.pie_params.specs.declared.raw.RawParams.{RawParams}
use Rattle.pie_storm.specs.declared.plan.StormNumbers.{StormNumbers}

-- the opening of the link: its book is bounded
abbrev pub opening_of : Plan → Opening
opening_of plan = record {
  moment = plan.moment;
  limits = plan.limits;
  params = plan.params;
  choices = record { mode = Bounded; profile = plan.profile; elements = plan.elements };
}

-- the number of senders
abbrev pub senders : Plan → ℕ
senders plan = length plan.arrivals.items

-- the call of an arrival, a departure, an update or a change
abbrev pub arriving : Arrival → Call
arriving arrival = Apply (arrive arrival)

abbrev pub departing : ℕ → Call
departing moment = Apply (Depart moment)

abbrev pub updating : ℕ → Call
updating moment = Apply (Update moment)

abbrev pub changing : Change → Call
changing new = Apply (SetParams new.moment new.params)

-- the calls of one of these senders, counted from 0
abbrev pub sent_by : Option (Vec Arrival Global) → List Call
sent_by (Some arrivals) = map arriving arrivals.items
sent_by None = []

abbrev pub sent : List (Vec Arrival Global) → ℕ → List Call
sent lists sender = sent_by (slice_get lists sender)

-- the calls of the n-th caller after the last sender
abbrev pub calls_after_senders : Plan → ℕ → List Call
calls_after_senders plan n =
    if n == 1 then map departing plan.departs.items
    else if n == 2 then map updating plan.updates.items
    else if n == 3 then map changing plan.changes.items
    else if n == 4 then map Fold plan.folds.items
    else []

-- the calls of a caller, in order: callers 1 to N, for N senders, send the arrivals of their lists, caller N + 1 makes
-- the departures, N + 2 the updates, N + 3 the changes, and N + 4 the folds. The starter is caller 0, and makes no
-- calls
unfoldable pub calls_of : Plan → ℕ → List Call
calls_of plan caller =
    if caller == 0 then []
    else if nat_le caller (senders plan) then sent plan.arrivals.items (caller - 1)
    else calls_after_senders plan (caller - senders plan)

-- the caller of the updates, and that of the folds
abbrev pub updater : Plan → ℕ
updater plan = senders plan + 2

abbrev pub folder : Plan → ℕ
folder plan = senders plan + 4

-- the number of commands of a caller's turn at the link: those of a burst for a sender
abbrev pub turn_of : Plan → ℕ → ℕ
turn_of plan caller =
    if caller == 0 then 1
    else if nat_le caller (senders plan) then plan.burst
    else 1

-- the sum of the first numbers of a sequence
abbrev pub total : (ℕ → ℕ) → ℕ → ℕ
total f zero = 0
total f (suc n) = total f n + f n

-- the number of commands: the calls of all callers except the last, which folds
abbrev pub planned : Plan → ℕ
planned plan = total (λ caller. length (calls_of plan caller)) (folder plan)

abbrev pub IsMoment : ℕ → Type 0
IsMoment moment = moment ≤ last_moment

abbrev pub IsSoundArrival : Arrival → Type 0
IsSoundArrival arrival = IsMoment arrival.moment × (1 ≤ arrival.packet.size) × (arrival.packet.size ≤ 65535)

-- moment and size of the command are in their ranges
pub record IsFair (command : Command) : Type 0 where
  pub moment : caller_moment command ≤ last_moment
  pub size : has_bad_size command ≡ false

-- a storm accepts the plan
pub record IsSound (plan : Plan) : Type 0 where
  pub two : 2 ≤ senders plan
  pub eight : senders plan ≤ 8
  pub some : 1 ≤ plan.burst
  pub burst : plan.burst ≤ 1024
  pub moment : IsMoment plan.moment
  pub arrivals : All (λ (list : Vec Arrival Global). All IsSoundArrival list.items) plan.arrivals.items
  pub departs : All IsMoment plan.departs.items
  pub updates : All IsMoment plan.updates.items
  pub changes : All (λ (c : Change). IsMoment c.moment) plan.changes.items
  -- the limits have room for all commands
  pub tail : planned plan ≤ plan.limits.tail
  pub events : planned plan ≤ plan.limits.events

-- ---- The plan of a storm: the calls of each of its callers, with random words from a generator for each sender.

-- ---- random words

-- the words of a generator
abbrev pub words_of : Lcg → Stream
words_of generator = stream_of (steps_u64_low pcg64) generator

-- the random words of a sender: those of the generator with this seed, and the sender's number as its stream
abbrev pub sender_words : ℕ → ℕ → Stream
sender_words seed sender = words_of (started 128 multiplier_128 seed (increment_of 128 sender))

-- the words after three more, the number that an arrival takes
abbrev pub after_three : Stream → Stream
after_three words = (next_u64 (next_u64 (next_u64 words).1).1).1

-- the words after this number of arrivals
unfoldable pub words_after : ℕ → Stream → Stream
words_after zero words = words
words_after (suc arrivals) words = after_three (words_after arrivals words)

-- ---- the lists

-- the ECN field of two bits
abbrev pub ecn_of : ℕ → Ecn
ecn_of zero = NotEct
ecn_of (suc zero) = Ect1
ecn_of (suc (suc zero)) = Ect0
ecn_of _ = Ce

-- the moment of a sender's packet, counted from 0: that of the last packet of its burst, with one packet per
-- millisecond
abbrev pub moment_of : ℕ → ℕ → ℕ → ℕ
moment_of packets burst i = min ((i / burst + 1) * burst) packets * 1_000_000

-- an arrival of a sender, counted from 0, by its moment and the next three words: for the packet's size, its ECN field,
-- and the random word
abbrev pub arrival_by : ℕ → ℕ → ℕ → Stream → Arrival
arrival_by sender i moment words =
    let size = next_u64 words in
    let ecn = next_u64 size.1 in
    record {
      moment = moment;
      packet = record { tag = sender * 2 ^ 32 + i; size = 64 + size.0 % 1437; ecn = ecn_of (ecn.0 % 4) };
      word = (next_u64 ecn.1).0;
    }

-- the arrival of a sender at this place, in bursts
abbrev pub planned_arrival : ℕ → ℕ → ℕ → Stream → ℕ → Arrival
planned_arrival packets burst sender words i = arrival_by sender i (moment_of packets burst i) (words_after i words)

-- the arrivals of a sender
abbrev pub arrivals_of : ℕ → ℕ → ℕ → ℕ → List Arrival
arrivals_of packets burst seed sender = map (planned_arrival packets burst sender (sender_words seed sender)) (range_with_len 0 packets)

-- a departure for each packet, spread evenly, at this load
abbrev pub departs_of : ℕ → ℕ → ℕ → List ℕ
departs_of senders packets load = map (λ j. (j + 1) * load * 10_000 / senders) (range_with_len 0 (senders * packets))

-- an update each fifteen milliseconds
abbrev pub updates_of : ℕ → List ℕ
updates_of packets = map (λ j. (j + 1) * 15_000_000) (range_with_len 0 (packets / 15 + 1))

-- the parameters of a change, counted from 0: a target of 5 ms, and the defaults at every second change
abbrev pub params_at : ℕ → RawParams
params_at k = if k % 2 == 0 then record default_profile { target = 5_000_000 } else default_profile

-- the changes, spread evenly over the time in which packets arrive
abbrev pub change_at : ℕ → ℕ → ℕ → Change
change_at packets changes k = record { moment = (k + 1) * packets * 1_000_000 / (changes + 1); params = params_at k }

abbrev pub changes_of : ℕ → ℕ → List Change
changes_of packets changes = map (change_at packets changes) (range_with_len 0 changes)

-- the folds; their total is the number of packets of all senders, or a few less
abbrev pub folds_of : ℕ → ℕ → ℕ → List ℕ
folds_of senders packets folds = map (λ k. senders * packets / folds) (range_with_len 0 folds)

-- the number of commands
abbrev pub command_count : StormNumbers → ℕ
command_count n = 2 * n.senders * n.packets + n.packets / 15 + 1 + n.changes

-- ---- the plan

-- the list of a vector
abbrev pub list_in : Vec Arrival Global → List Arrival
list_in list = list.items

-- the ranges of a storm's numbers
pub record HasStormRange (n : StormNumbers) : Type 0 where
  pub two : 2 ≤ n.senders
  pub senders : n.senders ≤ 8
  pub one : 1 ≤ n.packets
  pub packets : n.packets ≤ 10_000
  pub some : 1 ≤ n.burst
  pub burst : n.burst ≤ 1024
  pub load : n.load ≤ 200
  pub changes : n.changes ≤ 100
  pub folds : n.folds ≤ 100

-- the usual storm of these senders and packets: one packet a call, a load of 100, no changes and no folds
abbrev pub usual_storm : ℕ → ℕ → ℕ → StormNumbers
usual_storm senders packets seed = record {
  senders = senders;
  packets = packets;
  burst = 1;
  seed = seed;
  load = 100;
  changes = 0;
  folds = 0;
  profile = One;
  elements = usual;
}

-- the plan of these numbers
pub record IsStormPlan (n : StormNumbers) (plan : Plan) : Type 0 where
  pub limits : plan.limits ≡ record { packets = 1024; tail = command_count n; events = command_count n }
  pub params : plan.params ≡ default_profile
  pub moment : plan.moment ≡ 0
  pub profile : plan.profile ≡ n.profile
  pub elements : plan.elements ≡ n.elements
  pub arrivals : map list_in plan.arrivals.items ≡ map (arrivals_of n.packets n.burst n.seed) (range_with_len 1 n.senders)
  pub burst : plan.burst ≡ n.burst
  pub departs : plan.departs.items ≡ departs_of n.senders n.packets n.load
  pub updates : plan.updates.items ≡ updates_of n.packets
  pub changes : plan.changes.items ≡ changes_of n.packets n.changes
  pub folds : plan.folds.items ≡ folds_of n.senders n.packets n.folds
