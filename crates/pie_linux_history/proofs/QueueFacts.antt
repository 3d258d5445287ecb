-- Steps of a flow, and packets that are dropped.
use Rattle.std.proofs.Common.{Option, List, [], ◌∷◌, ◌++◌, ◌≡◌, ℕ, ◌+◌, ◌<◌, ◌≤◌, arith, refl, sym, ap, ◌∙◌, length, get_or, drop, map, take, append-nil, append_assoc}
use Rattle.std.specs.Prelude.{Some, None, true, zero, suc}
use Rattle.std.proofs.lemmas.Option.{slice_get-get_or, slice_get_past}
use Rattle.std.proofs.lemmas.Grind.{drop_more_same}
use Rattle.std.proofs.lemmas.List.{drop-set-lt, drop_more, length-set, map-append, take_all, take_more, take_more_set}
use Rattle.std.proofs.lemmas.List.Concat.{flat_map-append}
use Rattle.std.proofs.Math.ListN.{set}
use Rattle.std.specs.List.{flat_map}
use Rattle.pie_linux_history.specs.declared.{explained.DecidedPacket.DecidedPacket, numbers.FlowNumbers.FlowNumbers, numbers.Waiting.Waiting, explained.Decision.Decision, numbers.QueueNumbers.QueueNumbers, step.Step.Step}
use Rattle.pie_linux_history.specs.declared.explained.Fate.TheVariants as fate
use Rattle.pie_linux_history.specs.{Decisions.removed, Decisions.removed_flow, Queue.IsFlowStep, Queue.dropped, Queue.dropped_by_departure, Queue.dropped_in_turn, Queue.dropped_of, Queue.emptied_flow, Queue.shortened_flow, Queue.shortened_queue, Queue.flow_at, Queue.flow_step, Queue.flow_stepped, Queue.no_flow, Queue.other, Queue.place_of, Views.FlowView, Views.QueueView}

-- a step of the flow at its place
pub steps-flow : (queue : QueueView) (step : Step) (place : ℕ) (flow : FlowView) (numbers : QueueNumbers) (after : FlowView) (decision : Decision)
    → place ≡ place_of queue step → place < length queue.flows → flow ≡ get_or queue.flows place flow
    → IsFlowStep (flow_step step.kind queue.numbers flow step) numbers after decision
    → flow_stepped queue step ≡ record { queue = record queue { numbers = numbers; flows = set queue.flows place after }; decision = decision }
unfolding flow_stepped
steps-flow queue step place flow numbers after decision is within same took =
    let e : flow_at queue step ≡ Some flow = rw (← is) (slice_get-get_or queue.flows place flow within ∙ ap (λ (x : FlowView). let some : Option FlowView = Some x in some) (sym same)) in
    rw (e, took.numbers_are, took.flow_is, took.decision_is, is) refl

-- a step of no flow
pub steps-none : (queue : QueueView) (step : Step) (place : ℕ) → place ≡ place_of queue step → length queue.flows ≤ place
    → flow_stepped queue step ≡ record { queue = queue; decision = other (no_flow step) }
unfolding flow_stepped
steps-none queue step place is beyond =
    let e : flow_at queue step ≡ None = rw (← is) (slice_get_past queue.flows place beyond) in rw e refl

-- ---- packets that are dropped

-- a departure from no flow
pub drop-none : (queue : QueueView) (step : Step) (place : ℕ) (lost : List DecidedPacket) → step.is_drop ≡ true → place ≡ place_of queue step
    → length queue.flows ≤ place → lost ≡ lost ++ dropped_by_departure queue step
unfolding dropped_by_departure
drop-none queue step place lost drops is beyond =
    let e : flow_at queue step ≡ None = rw (← is) (slice_get_past queue.flows place beyond) in rw (drops, e) (sym (append-nil lost))

pub empty-of : {A : Type 0} (xs : List A) → length xs ≡ 0 → xs ≡ []
empty-of [] none = refl
empty-of (x ∷ xs) none = absurd (omega arith)

-- a flow whose first packets are dropped: `left` more of them, after those that were dropped
pub record Drops (queue : QueueNumbers) (flow : FlowNumbers) (waiting : List Waiting) (count : ℕ) (lost : List DecidedPacket)
    (left : ℕ) (queue_now : QueueNumbers) (flow_now : FlowNumbers) (waiting_now : List Waiting) (lost_now : List DecidedPacket) : Type 0 where
  pub waits : drop left waiting_now ≡ drop count waiting
  pub flow_is : shortened_flow flow_now waiting_now left ≡ shortened_flow flow waiting count
  pub queue_is : shortened_queue queue_now waiting_now left ≡ shortened_queue queue waiting count
  pub lost_are : lost_now ++ dropped_in_turn fate.Change queue_now flow_now (take left waiting_now)
      ≡ lost ++ dropped_in_turn fate.Change queue flow (take count waiting)

pub drops-first : (queue : QueueNumbers) (flow : FlowNumbers) (waiting : List Waiting) (count : ℕ) (lost : List DecidedPacket) (left : ℕ) → left ≡ count
    → Drops queue flow waiting count lost left queue flow waiting lost
drops-first queue flow waiting count lost left same = rw same (record { waits = refl; flow_is = refl; queue_is = refl; lost_are = refl })

pub drops-next : (queue : QueueNumbers) (flow : FlowNumbers) (waiting : List Waiting) (count : ℕ) (lost : List DecidedPacket)
    (left : ℕ) (queue_now : QueueNumbers) (flow_now : FlowNumbers) (waiting_now : List Waiting) (lost_now : List DecidedPacket)
    (packet : Waiting) (rest : List Waiting) (fewer : ℕ) → waiting_now ≡ packet ∷ rest → left ≡ suc fewer
    → Drops queue flow waiting count lost left queue_now flow_now waiting_now lost_now
    → Drops queue flow waiting count lost fewer (removed queue_now packet) (removed_flow flow_now packet) rest (lost_now ++ dropped fate.Change queue_now flow_now packet ∷ [])
unfolding dropped_in_turn
drops-next queue flow waiting count lost left queue_now flow_now waiting_now lost_now packet rest fewer first less was =
    let h : Drops queue flow waiting count lost (suc fewer) queue_now flow_now (packet ∷ rest) lost_now = rw (less, first) at was in
    record { waits = h.waits; flow_is = h.flow_is; queue_is = h.queue_is; lost_are = rw append_assoc h.lost_are }

-- the end: none is left to drop, or none waits
pub record Dropped (queue : QueueNumbers) (flow : FlowNumbers) (waiting : List Waiting) (count : ℕ) (lost : List DecidedPacket)
    (queue_now : QueueNumbers) (flow_now : FlowNumbers) (waiting_now : List Waiting) (lost_now : List DecidedPacket) : Type 0 where
  pub waits : waiting_now ≡ drop count waiting
  pub flow_is : flow_now ≡ shortened_flow flow waiting count
  pub queue_is : queue_now ≡ shortened_queue queue waiting count
  pub lost_are : lost_now ≡ lost ++ dropped_in_turn fate.Change queue flow (take count waiting)

pub drops-none : (queue : QueueNumbers) (flow : FlowNumbers) (waiting : List Waiting) (count : ℕ) (lost : List DecidedPacket)
    (left : ℕ) (queue_now : QueueNumbers) (flow_now : FlowNumbers) (waiting_now : List Waiting) (lost_now : List DecidedPacket)
    → waiting_now ≡ [] → Drops queue flow waiting count lost left queue_now flow_now waiting_now lost_now
    → Dropped queue flow waiting count lost queue_now flow_now waiting_now lost_now
unfolding dropped_in_turn
drops-none queue flow waiting count lost zero queue_now flow_now waiting_now lost_now none was =
    record { waits = was.waits; flow_is = was.flow_is; queue_is = was.queue_is; lost_are = rw append-nil at was.lost_are }
drops-none queue flow waiting count lost (suc left) queue_now flow_now waiting_now lost_now none was =
    let h : Drops queue flow waiting count lost (suc left) queue_now flow_now [] lost_now = rw none at was in
    rw none (record { waits = h.waits; flow_is = h.flow_is; queue_is = h.queue_is; lost_are = rw append-nil at h.lost_are })

pub drops-all : (queue : QueueNumbers) (flow : FlowNumbers) (waiting : List Waiting) (count : ℕ) (lost : List DecidedPacket)
    (left : ℕ) (queue_now : QueueNumbers) (flow_now : FlowNumbers) (waiting_now : List Waiting) (lost_now : List DecidedPacket)
    → left ≡ 0 → Drops queue flow waiting count lost left queue_now flow_now waiting_now lost_now
    → Dropped queue flow waiting count lost queue_now flow_now waiting_now lost_now
unfolding dropped_in_turn
drops-all queue flow waiting count lost left queue_now flow_now waiting_now lost_now none was =
    let h : Drops queue flow waiting count lost 0 queue_now flow_now waiting_now lost_now = rw none at was in
    record { waits = h.waits; flow_is = h.flow_is; queue_is = h.queue_is; lost_are = rw append-nil at h.lost_are }

-- ---- flows that are reset one after another

get_or-from_drop : {A : Type 0} (xs ys : List A) (i : ℕ) (d : A) → i < length xs → i < length ys → drop i xs ≡ drop i ys → get_or xs i d ≡ get_or ys i d
get_or-from_drop xs ys i d in_xs in_ys same =
    let e : get_or xs i d ∷ drop (i + 1) xs ≡ get_or ys i d ∷ drop (i + 1) ys = sym (drop_more xs i d in_xs) ∙ (same ∙ drop_more ys i d in_ys) in cc

pub record Emptied (queue : QueueNumbers) (flows : List FlowView) (lost : List DecidedPacket) (place : ℕ) (flows_now : List FlowView) (lost_now : List DecidedPacket) : Type 0 where
  pub many : length flows_now ≡ length flows
  pub front : take place flows_now ≡ map (emptied_flow queue.has_flows) (take place flows)
  pub back : drop place flows_now ≡ drop place flows
  pub lost_are : lost_now ≡ lost ++ flat_map (dropped_of queue) (take place flows)

pub emptied-first : (queue : QueueNumbers) (flows : List FlowView) (lost : List DecidedPacket) → Emptied queue flows lost 0 flows lost
emptied-first queue flows lost = record { many = refl; front = refl; back = refl; lost_are = sym (append-nil lost) }

pub emptied-next : (queue : QueueNumbers) (flows : List FlowView) (lost : List DecidedPacket) (place : ℕ) (flows_now : List FlowView) (lost_now : List DecidedPacket)
    (was now : FlowView) (lost_then : List DecidedPacket) → place < length flows_now → was ≡ get_or flows_now place was → now ≡ emptied_flow queue.has_flows was
    → lost_then ≡ lost_now ++ dropped_of queue was → Emptied queue flows lost place flows_now lost_now
    → Emptied queue flows lost (place + 1) (set flows_now place now) lost_then
emptied-next queue flows lost place flows_now lost_now was now lost_then within is made more h =
    let within_all : place < length flows = omega (arith, h.many) in
    let same : was ≡ get_or flows place was =
    is ∙ get_or-from_drop flows_now flows place was within within_all h.back in
    let front : take (place + 1) flows ≡ take place flows ++ was ∷ [] = rw (← same) at (take_more flows place was within_all) in
    record {
      many = length-set flows_now place now ∙ h.many;
      front = take_more_set flows_now place now within ∙ rw (front, map-append (emptied_flow queue.has_flows) (take place flows) (was ∷ []), h.front, made) refl;
      back = rw (drop-set-lt (place + 1) flows_now place now (omega arith)) (drop_more_same flows_now flows place h.back);
      lost_are = more ∙ rw (h.lost_are, front, flat_map-append (dropped_of queue) (take place flows) (was ∷ []), append_assoc) (ap (λ (x : List DecidedPacket). lost ++ (flat_map (dropped_of queue) (take place flows) ++ x)) (sym (append-nil (dropped_of queue was))));
    }

pub emptied-all : (queue : QueueNumbers) (flows : List FlowView) (lost : List DecidedPacket) (place : ℕ) (flows_now : List FlowView) (lost_now : List DecidedPacket)
    → length flows_now ≤ place → Emptied queue flows lost place flows_now lost_now
    → (flows_now ≡ map (emptied_flow queue.has_flows) flows) × (lost_now ≡ lost ++ flat_map (dropped_of queue) flows)
emptied-all queue flows lost place flows_now lost_now all h = (
  sym (take_all place flows_now all) ∙ h.front ∙ rw (take_all place flows (omega (arith, h.many))) refl,
  h.lost_are ∙ rw (take_all place flows (omega (arith, h.many))) refl,
)
