-- The decided steps of a text, each with the numbers before and after it, by a look-back over the rows before it.
use Rattle.std.specs.Prelude.{ℕ, ◌-◌, ◌^◌, ◌++◌, ◌∷◌, if◌then◌else◌, List, [], length, min, Option, Some, None, option_map}
use Rattle.std.specs.List.{cons_option}
use Rattle.pie_linux_history.specs.declared.{decided.DecidedStep.DecidedStep, decided.StepNumbers.StepNumbers, decided.Taken.Taken, decided.Updates.Updates, explained.DecidedPacket.DecidedPacket, explained.Decision.Decision, numbers.QueueNumbers.QueueNumbers, numbers.Waiting.Waiting, step.QueueName.QueueName, step.Step.Step}
use Rattle.pie_linux_history.specs.{LookBack.Entry, LookBack.Followed, LookBack.Took, LookBack.counts_of, LookBack.dropped_by_step, LookBack.follow, LookBack.followed, LookBack.is_opening, LookBack.latest, LookBack.name_of, LookBack.next_of, Queue.flow_at, Queue.place_of, Views.FlowView, Views.QueueView}

-- ---- the numbers around a step

-- the moment at which the first waiting packet was queued
abbrev pub since_of : List Waiting → ℕ
since_of [] = 0
since_of (first ∷ rest) = first.moment

abbrev pub numbers_of_flow : QueueNumbers → ℕ → FlowView → StepNumbers
numbers_of_flow queue place flow = record {
  place = min place (2 ^ 32 - 1);
  params = queue.params;
  state = flow.numbers.state;
  packets = queue.length;
  bytes = queue.bytes;
  since = since_of flow.waiting;
}

-- the numbers of a queue and of the flow of a step
unfoldable pub numbers_at : QueueView → Step → Option StepNumbers
numbers_at queue step = option_map (numbers_of_flow queue.numbers (place_of queue step)) (flow_at queue step)

-- none of a queue that differs
abbrev pub numbers_of : Followed → Step → Option StepNumbers
numbers_of was step = if was.differs then None else numbers_at was.queue step

abbrev pub taken_by : Step → Option Followed → Option Taken
taken_by step None = None
taken_by step (Some was) = Some (record { decision = (next_of was step).decision; before = numbers_of was step; after = numbers_of (follow was step) step })

abbrev pub decision_of : Option Taken → Option Decision
decision_of None = None
decision_of (Some taken) = Some taken.decision

-- ---- a row after others

-- the step of a row, its decision with the numbers around it, and the packets that it dropped
abbrev pub last_in : Entry → Option (QueueName × Step)
last_in (Took queue step) = Some (queue, step)
last_in _ = None

abbrev pub taken_in : List Entry → Entry → Option Taken
taken_in entries (Took queue step) = if is_opening step.kind then None else taken_by step (followed (name_of queue) entries)
taken_in entries _ = None

abbrev pub dropped_in : List Entry → Entry → List DecidedPacket
dropped_in entries (Took queue step) =
    if is_opening step.kind then [] else dropped_by_step step (followed (name_of queue) entries)
dropped_in entries _ = []

-- no updates: those of a flow are filled in later
abbrev pub no_updates : Updates
no_updates = record { count = 0; event = 0; moment = 0; opening = 0 }

abbrev pub with_numbers : ℕ → ℕ → QueueName × Step → Option DecidedPacket → Option StepNumbers → Option StepNumbers → Option DecidedStep
with_numbers event moment last arrival (Some before) (Some after) = Some (record {
  event = event;
  queue = last.0;
  step = last.1;
  moment = moment;
  arrival = arrival;
  before = before;
  after = after;
  updates = no_updates;
})
with_numbers event moment last arrival _ _ = None

abbrev pub decided_by : ℕ → ℕ → Option (QueueName × Step) → Option Taken → Option DecidedStep
decided_by event moment (Some last) (Some taken) = with_numbers event moment last taken.decision.arrival taken.before taken.after
decided_by event moment _ _ = None

-- the decided step of a row after these: none for a first row, for a row of no step, and from a difference to the queue's next first row
unfoldable pub decided_in : List Entry → Entry → Option DecidedStep
decided_in entries entry =
    decided_by (counts_of (entries ++ entry ∷ [])).events (latest (entries ++ entry ∷ [])) (last_in entry) (taken_in entries entry)

-- ---- the rows of a text

-- a list for each row after those before it, one after another
unfoldable pub for_each : {A : Type 0} → (List Entry → Entry → List A) → List Entry → List Entry → List A
for_each one before [] = []
for_each one before (entry ∷ rest) = one before entry ++ for_each one (before ++ entry ∷ []) rest

abbrev pub step_in : List Entry → Entry → List DecidedStep
step_in entries entry = cons_option (decided_in entries entry) []

-- the number of elements, at most 2^64 - 1
abbrev pub number_of : {A : Type 0} → List A → ℕ
number_of all = min (length all) (2 ^ 64 - 1)

-- the decided steps of rows, in order
abbrev pub decided_of : List Entry → List DecidedStep
decided_of entries = for_each step_in [] entries

-- a decided step without the updates before it
abbrev pub plain : DecidedStep → DecidedStep
plain one = record one { updates = no_updates }
