-- A queue whose steps are decided again: its numbers and its flows with their waiting packets; and each step of it.
use Rattle.std.specs.Prelude.{ℕ, ◌+◌, ◌-◌, ◌%◌, ◌^◌, ◌++◌, ◌∷◌, ◌==◌, ◌≡◌, if◌then◌else◌, not, List, [], Option, Some, None, unwrap_or, Bool, true, false, drop, map, replicate, take}
use Rattle.std.specs.List.{flat_map, fold, slice_get}
use Rattle.std.proofs.Math.ListN.{set}
use Rattle.pie_linux.specs.Enqueue.{is_queued, one_if}
use Rattle.pie_linux.specs.declared.state.LinuxState.{LinuxState}
use Rattle.pie_linux_history.specs.declared.{difference.Difference.Difference, explained.DecidedPacket.DecidedPacket, explained.Decision.Decision, explained.Input.Input, explained.Fate.Fate, numbers.FlowNumbers.FlowNumbers, numbers.QueueNumbers.QueueNumbers, numbers.Waiting.Waiting, step.Kind.Kind, step.Step.Step}
use Rattle.pie_linux_history.specs.declared.explained.Fate.TheVariants as fate
use Rattle.pie_linux_history.specs.declared.step.Kind.TheVariants as kind
use Rattle.pie_linux_history.specs.{Decisions.admitted, Decisions.arrived, Decisions.arrived_flow, Decisions.bytes_before, Decisions.cause_of, Decisions.changed, Decisions.departed_flow, Decisions.departed_queue, Decisions.flow_chosen, Decisions.lack_of, Decisions.lack_of_arrival, Decisions.lacks_bytes, Decisions.lacks_limit, Decisions.lacks_switch, Decisions.length_before, Decisions.own_dropped, Decisions.removed, Decisions.removed_flow, Decisions.reset_flow, Decisions.reset_queue, Decisions.round_begun, Decisions.updated_flow, Decisions.waiting_added, Decisions.waiting_of, Differences.step_difference, Right.arrival_difference, Right.departure_difference, Right.right_change, Right.right_destroy, Right.right_opening, Right.right_reset, Right.round_difference, Right.update_difference, Resumes.first_flows, Resumes.first_numbers, Resumes.is_init, Resumes.new_state, Resumes.resumed, Views.FlowView, Views.QueueView}

-- ---- flows

-- the place of the flow of a step: the recorded one, or the chosen one of an arrival at the limit in a text without the column `rq`
abbrev pub place_of : QueueView → Step → ℕ
place_of queue step =
    if queue.numbers.has_flows then unwrap_or step.flow (flow_chosen queue.numbers step.priority step.hash) else 0

abbrev pub flow_at : QueueView → Step → Option FlowView
flow_at queue step = slice_get queue.flows (place_of queue step)

-- the queue with other numbers, and with another flow in the place of a step
abbrev pub with_flow : QueueView → Step → QueueNumbers → FlowView → QueueView
with_flow queue step numbers flow = record queue { numbers = numbers; flows = set queue.flows (place_of queue step) flow }

-- ---- steps of a flow

-- the packet that a change or a reset dropped
abbrev pub dropped : Fate → QueueNumbers → FlowNumbers → Waiting → DecidedPacket
dropped why queue flow waiting = record {
  bytes = waiting.length;
  fate = why;
  state = flow.state;
  length = queue.length;
  backlog = queue.bytes;
  limit = queue.params.limit;
}

-- a step of a flow: the numbers of the queue and the flow after it, and the decision
pub record FlowStep : Type 0 where
  pub numbers : QueueNumbers
  pub flow : FlowView
  pub decision : Decision

-- the numbers, the flow and the results of a step of a flow
pub record IsFlowStep (step : FlowStep) (numbers : QueueNumbers) (flow : FlowView) (decision : Decision) : Type 0 where
  pub numbers_are : numbers ≡ step.numbers
  pub flow_is : flow ≡ step.flow
  pub decision_is : decision ≡ step.decision

-- the decision of a step that is no arrival
abbrev pub other : Option Difference → Decision
other difference = record { difference = difference; arrival = None; lacks = None }

-- one that lacks an input
abbrev pub lacking : Option Input → Option Difference → Decision
lacking lacks difference = record { difference = difference; arrival = None; lacks = lacks }

-- an arrival in a queue with the limit of the arrival
abbrev pub flow_admitted : Bool → QueueNumbers → FlowView → Step → FlowStep
flow_admitted change queue flow step = record {
  numbers = arrived queue flow.numbers step;
  flow = record {
    numbers = arrived_flow queue flow.numbers step;
    waiting = if is_queued (cause_of queue flow.numbers step) then flow.waiting ++ waiting_of step ∷ [] else flow.waiting;
  };
  decision = record {
    difference = arrival_difference queue flow.numbers step;
    arrival = Some (record {
      bytes = step.packet_length;
      fate = fate.Arrival (cause_of queue flow.numbers step);
      state = flow.numbers.state;
      length = length_before queue step;
      backlog = bytes_before queue step;
      limit = queue.params.limit;
    });
    lacks = lack_of_arrival change queue flow.numbers step;
  };
}

-- an arrival
abbrev pub flow_arrived : QueueNumbers → FlowView → Step → FlowStep
flow_arrived queue flow step = flow_admitted (lacks_limit queue step) (admitted queue step) flow step

-- a departure of the first waiting packet
abbrev pub departed_first : QueueNumbers → FlowNumbers → List Waiting → Step → FlowStep
departed_first queue flow [] step = record {
  numbers = queue;
  flow = record { numbers = flow; waiting = [] };
  decision = other (Some (record { column = 15; recorded = step.length_after; right = 0 }));
}
departed_first queue flow (first ∷ rest) step = record {
  numbers = departed_queue queue first step;
  flow = record { numbers = departed_flow queue flow first step; waiting = rest };
  decision = lacking (lack_of (lacks_switch queue step) false false) (departure_difference queue flow first step);
}

abbrev pub flow_departed : QueueNumbers → FlowView → Step → FlowStep
flow_departed queue flow step = departed_first queue flow.numbers flow.waiting step

-- an update of the probability
abbrev pub flow_updated : QueueNumbers → FlowView → Step → FlowStep
flow_updated queue flow step = record {
  numbers = queue;
  flow = record flow { numbers = updated_flow queue flow.numbers step };
  decision = lacking (lack_of false (lacks_bytes queue step) false) (update_difference queue flow.numbers step);
}

-- the recorded state of a running flow
abbrev pub flow_resumed : QueueNumbers → FlowView → Step → FlowStep
flow_resumed queue flow step = record {
  numbers = queue;
  flow = record flow { numbers = record { state = step.after; backlog = step.backlog; listed = not (step.x1 == 0) } };
  decision = other None;
}

-- a waiting packet of a running queue
abbrev pub flow_waited : QueueNumbers → FlowView → Step → FlowStep
flow_waited queue flow step = record {
  numbers = queue;
  flow = record flow { waiting = flow.waiting ++ waiting_of step ∷ [] };
  decision = other None;
}

-- ---- steps of a queue

-- the queue after a step, and the decision
pub record Stepped : Type 0 where
  pub queue : QueueView
  pub decision : Decision

-- true for a row that belongs to the row `resume` before it, and is no step of its own
abbrev pub is_part : Kind → Bool
is_part kind.Flow = true
is_part kind.Wait = true
is_part _ = false

-- the difference of a step of a flow that does not exist: none of a row of a running queue
abbrev pub no_flow : Step → Option Difference
no_flow step =
    if is_part step.kind then None else Some (record { column = 55; recorded = unwrap_or step.flow (2 ^ 32 - 1); right = 0 })

-- the step of a flow of each kind
abbrev pub flow_step : Kind → QueueNumbers → FlowView → Step → FlowStep
flow_step kind.Enqueue queue flow step = flow_arrived queue flow step
flow_step kind.Dequeue queue flow step = flow_departed queue flow step
flow_step kind.Update queue flow step = flow_updated queue flow step
flow_step kind.Flow queue flow step = flow_resumed queue flow step
flow_step kind.Wait queue flow step = flow_waited queue flow step
flow_step _ queue flow step = record { numbers = queue; flow = flow; decision = other None }

-- a step of the flow of a step, if there is one; otherwise the queue stays
abbrev pub with_step : QueueView → Step → FlowStep → Stepped
with_step queue step done = record { queue = with_flow queue step done.numbers done.flow; decision = done.decision }

abbrev pub stepped_flow : QueueView → Step → Option FlowView → Stepped
stepped_flow queue step None = record { queue = queue; decision = other (no_flow step) }
stepped_flow queue step (Some flow) = with_step queue step (flow_step step.kind queue.numbers flow step)

unfoldable pub flow_stepped : QueueView → Step → Stepped
flow_stepped queue step = stepped_flow queue step (flow_at queue step)

-- a packet of a running queue: it waits in its flow, or the device returned it
unfoldable pub waiting_resumed : QueueView → Step → Stepped
waiting_resumed queue step =
    if step.x0 == 0 then flow_stepped (record queue { numbers = waiting_added queue.numbers (waiting_of step) }) step
    else record { queue = queue; decision = other None }

-- ---- changes and resets

-- the waiting packets of a flow that are dropped one after another. Before each the queue and the flow have the numbers without those before it
unfoldable pub dropped_in_turn : Fate → QueueNumbers → FlowNumbers → List Waiting → List DecidedPacket
dropped_in_turn why queue flow [] = []
dropped_in_turn why queue flow (first ∷ rest) = dropped why queue flow first ∷ dropped_in_turn why (removed queue first) (removed_flow flow first) rest

-- a flow without its first `count` packets, and the numbers of its queue
abbrev pub shortened_queue : QueueNumbers → List Waiting → ℕ → QueueNumbers
shortened_queue queue waiting count = fold removed queue (take count waiting)

abbrev pub shortened_flow : FlowNumbers → List Waiting → ℕ → FlowNumbers
shortened_flow flow waiting count = fold removed_flow flow (take count waiting)

-- a change of the parameters: pie's first packets are dropped
abbrev pub changed_first : QueueView → Step → Option FlowView → Stepped
changed_first queue step None = record { queue = record queue { numbers = changed queue.numbers step }; decision = other None }
changed_first queue step (Some flow) =
    let count = own_dropped queue.numbers step in
    let numbers = shortened_queue (changed queue.numbers step) flow.waiting count in
    let after = shortened_flow flow.numbers flow.waiting count in
    record {
      queue = record queue { numbers = numbers; flows = set queue.flows 0 (record { numbers = after; waiting = drop count flow.waiting }) };
      decision = other (step_difference step (right_change numbers queue.numbers after.state step));
    }

unfoldable pub change : QueueView → Step → Stepped
change queue step = changed_first queue step (slice_get queue.flows 0)

abbrev pub dropped_first : QueueView → Step → Option FlowView → List DecidedPacket
dropped_first queue step None = []
dropped_first queue step (Some flow) =
    dropped_in_turn fate.Change (changed queue.numbers step) flow.numbers (take (own_dropped queue.numbers step) flow.waiting)

unfoldable pub dropped_by_change : QueueView → Step → List DecidedPacket
dropped_by_change queue step = dropped_first queue step (slice_get queue.flows 0)

-- a reset: all waiting packets are dropped, flow by flow. Before each the queue and the flow have the numbers before the reset
abbrev pub emptied_flow : Bool → FlowView → FlowView
emptied_flow has_flows flow = record { numbers = reset_flow flow.numbers has_flows; waiting = [] }

abbrev pub dropped_of : QueueNumbers → FlowView → List DecidedPacket
dropped_of queue flow = map (dropped fate.Reset queue flow.numbers) flow.waiting

abbrev pub reset_difference_of : QueueNumbers → Option FlowView → Step → Option Difference
reset_difference_of queue None step = None
reset_difference_of queue (Some first) step = step_difference step (right_reset queue first.numbers.state step)

unfoldable pub reset : QueueView → Step → Stepped
reset queue step =
    let flows = map (emptied_flow queue.numbers.has_flows) queue.flows in
    record {
      queue = record queue { numbers = reset_queue queue.numbers; flows = flows };
      decision = other (reset_difference_of queue.numbers (slice_get flows 0) step);
    }

-- a departure that a change of fq_pie's limit dropped
abbrev pub first_dropped : QueueNumbers → Option FlowView → List DecidedPacket
first_dropped queue None = []
first_dropped queue (Some flow) = map (dropped fate.Change queue flow.numbers) (take 1 flow.waiting)

unfoldable pub dropped_by_departure : QueueView → Step → List DecidedPacket
dropped_by_departure queue step = if step.is_drop then first_dropped queue.numbers (flow_at queue step) else []

-- the last step of a queue
abbrev pub destroy_difference : QueueNumbers → Option FlowView → Step → Option Difference
destroy_difference queue None step = None
destroy_difference queue (Some first) step = step_difference step (right_destroy queue first.numbers.state step)

unfoldable pub dropped_by_reset : QueueView → List DecidedPacket
dropped_by_reset queue = flat_map (dropped_of queue.numbers) queue.flows

-- ---- steps

-- the step of each kind
abbrev pub unchanged : QueueView → Stepped
unchanged queue = record { queue = queue; decision = other None }

abbrev pub round : QueueView → Step → Stepped
round queue step = record {
  queue = record queue { numbers = round_begun queue.numbers step };
  decision = other (round_difference queue.numbers step);
}

unfoldable pub destroyed : QueueView → Step → Stepped
destroyed queue step = record { queue = record queue { ended = true }; decision = other (destroy_difference queue.numbers (slice_get queue.flows 0) step) }

abbrev pub stepped : Kind → QueueView → Step → Stepped
stepped kind.Timer queue step = round queue step
stepped kind.Wait queue step = waiting_resumed queue step
stepped kind.Change queue step = change queue step
stepped kind.Reset queue step = reset queue step
stepped kind.Destroy queue step = destroyed queue step
stepped kind.Init queue step = unchanged queue
stepped kind.Resume queue step = unchanged queue
stepped kind.Empty queue step = unchanged queue
stepped _ queue step = flow_stepped queue step

-- the waiting packets that a step of each kind drops, in order
abbrev pub dropped_by : Kind → QueueView → Step → List DecidedPacket
dropped_by kind.Dequeue queue step = dropped_by_departure queue step
dropped_by kind.Change queue step = dropped_by_change queue step
dropped_by kind.Reset queue step = dropped_by_reset queue
dropped_by _ queue step = []

-- the number of the next row of a queue, after the step with this number
abbrev pub next_number : ℕ → Step → ℕ
next_number last step = (last + one_if (not (is_part step.kind))) % 2 ^ 64

abbrev pub last_after : ℕ → Step → ℕ
last_after last step = if step.number == next_number last step then step.number else last

-- a step of a queue, after the one with this number: a row is missing if it is not the next
abbrev pub next_step : ℕ → QueueView → Step → Stepped
next_step last queue step =
    if step.number == next_number last step then stepped step.kind queue step
    else record {
      queue = queue;
      decision = other (Some (record { column = 0; recorded = step.number; right = next_number last step }));
    }

abbrev pub next_dropped : ℕ → QueueView → Step → List DecidedPacket
next_dropped last queue step = if step.number == next_number last step then dropped_by step.kind queue step else []

-- ---- the first step

-- the state of each flow: a new one, unless pie runs
abbrev pub first_state : Step → LinuxState
first_state step = if is_init step.kind then new_state else if step.has_flows then new_state else step.after

abbrev pub first_flow : Step → FlowView
first_flow step = record { numbers = record { state = first_state step; backlog = 0; listed = false }; waiting = [] }

-- a queue with this handle after its first step, `init` or `resume`: no packet waits yet
unfoldable pub opened : ℕ → Step → QueueView
opened handle step = record {
  numbers = resumed (first_numbers handle step) step;
  flows = replicate (first_flows step) (first_flow step);
  ended = false;
}

abbrev pub opening_difference : Step → Option Difference
opening_difference step = step_difference step (right_opening step)
