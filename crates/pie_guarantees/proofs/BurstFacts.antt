-- Properties of a packet that was marked or dropped early.
use Rattle.pie_guarantees.proofs.LawfulFacts.{◌≡◌, ◌≤◌, ◌<◌, ◌+◌, ◌*◌, ◌⊎◌, ℕ, List, ◌∷◌, ◌++◌, true, false, refl, sym, ap, ◌∙◌, arith, nat_tests, is_capable, bytes_of, effective_prob_of, is_considered, is_picked, picked_choice, ControllerState, chosen, offered, verdict, answer_of, Packet, Waiting, ArrivingPacket, Arrive, Answer, DroppedEarly, Marked, Command, Event, Opening, arrival_of, answer_by, state_after, waiting_after, IsLawful, IsArrivalOf, is_early, RawParams, AtEachEvent, MarksOnlyCapable, OnlyMarks, SparesCapable, active_after, parts_after, bytes_after, params_after, effective_moment, effect, waiting_next, sum_by_push, Verdict, Empty, [], subst, max, min, All, append_assoc, is_update, after_call, Update, call_of, is_too_soon, AllAllow, Allows, IsAllowed, KeepsParams, SetsAllow, burst_left, updates_in, IsEarly, Some, effect_of, caller_moment, refusal_with, refusal_by_rule, in-range, length, effective_moment-push, Reset, IsStep, step_at, all_along, along, along_updates, counted_with, first-state, sound_at}
use Rattle.pie_queue.specs.declared.ecn.Ecn.{Ecn}
use Rattle.pie_aqm.specs.Steps as Steps
use Rattle.pie_event.specs.declared.refusal.Refusal.TheVariants.{TooSoon}

-- the controller's state when a packet was picked
pub record IsPicked (h : ControllerState) (bytes : ℕ) : Type 0 where
  pub active : h.active ≡ true
  pub no_burst : h.control.burst ≡ 0
  pub long : 2 * h.params.mean_pkt < bytes
  pub high : (h.params.target ≤ 2 * h.control.old_delay) ⊎ (200_000_000_000 ≤ h.control.prob)

picked-facts : (h : ControllerState) (a : ArrivingPacket) → is_early (answer_of (verdict h a)) ≡ true → IsPicked h a.queued
unfolding verdict is_considered
picked-facts h a e = grind (arith, nat_tests)

pub record IsChosen (h : ControllerState) (a : ArrivingPacket) : Type 0 where
  pub picked : IsPicked h a.queued
  pub by_sum : is_picked h.elements.picking (effective_prob_of h.elements h.params h.control (offered a)) (h.accu
      + effective_prob_of h.elements h.params h.control (offered a)) a.word ≡ true
  pub verdict : verdict h a ≡ chosen (picked_choice h.params h.control.prob a.ecn)

chosen-of : (h : ControllerState) (a : ArrivingPacket) → is_early (answer_of (verdict h a)) ≡ true → IsChosen h a
unfolding verdict
chosen-of h a e = record { picked = picked-facts h a e; by_sum = grind (arith, nat_tests); verdict = grind (arith, nat_tests) }

-- the arrival that was marked or dropped early
pub record IsEarlyArrival (h : ControllerState) (waiting : List Waiting) (packets : ℕ) (command : Command) : Type 0 where
  pub moment : ℕ
  pub packet : Packet
  pub word : ℕ
  pub is : command ≡ Arrive moment packet word
  pub chosen : IsChosen h (arrival_of waiting packets packet word)

early-arrival : (h : ControllerState) (waiting : List Waiting) (packets : ℕ) (command : Command) → is_early (answer_by h waiting packets command) ≡ true
    → IsEarlyArrival h waiting packets command
early-arrival h waiting packets (Arrive moment packet word) e =
    record { moment = moment; packet = packet; word = word; is = refl; chosen = chosen-of h (arrival_of waiting packets packet word) e }
early-arrival h waiting packets _ e = absurd (grind (arith, nat_tests))

-- ---- an event of a lawful history

pub early_arrival : (opening : Opening) (before : List Event) (event : Event) → IsStep opening before event → is_early event.answer ≡ true
    → IsEarlyArrival (state_after opening before) (waiting_after opening before) opening.limits.packets event.command
early_arrival opening before event step e = grind (arith, nat_tests, early-arrival)

pub early_at : (opening : Opening) (before : List Event) (event : Event) → IsStep opening before event → is_early event.answer ≡ true
    → IsPicked (state_after opening before) (bytes_of (waiting_after opening before))
early_at opening before event step e = (early_arrival opening before event step e).chosen.picked

unless : (answer : Answer) → (is_early answer ≡ true → ⊥) → is_early answer ≡ false
unless answer never = grind (arith, nat_tests)

picked : (opening : Opening) (before : List Event) (event : Event) (later : List Event) → IsLawful opening (before ++ event ∷ later)
    → is_early event.answer ≡ true → IsPicked (state_after opening before) (bytes_after opening before)
picked opening before event later lawful = early_at opening before event (step_at opening before event later lawful)

pub in_a_burst : AtEachEvent (λ opening before event. 0 < (parts_after opening before).burst → is_early event.answer ≡ false)
unfolding AtEachEvent
in_a_burst o b event l lawful some = unless event.answer (λ e. omega (arith, some, (picked o b event l lawful e).no_burst))

pub at_a_short_queue : AtEachEvent (λ opening before event. bytes_after opening before ≤ 2 * (params_after opening before).mean_pkt
    → is_early event.answer ≡ false)
unfolding AtEachEvent
at_a_short_queue o b event l lawful few = unless event.answer (λ e. omega (arith, few, (picked o b event l lawful e).long))

pub while_inactive : AtEachEvent (λ opening before event. active_after opening before ≡ false → is_early event.answer ≡ false)
unfolding AtEachEvent
while_inactive o b event l lawful off =
    unless event.answer (λ e. let on = (picked o b event l lawful e).active in let wrong : true ≡ false = sym on ∙ off in cc)

pub at_low_delay : AtEachEvent (λ opening before event. 2 * (parts_after opening before).old_delay < (params_after opening before).target
    → (parts_after opening before).prob < 200_000_000_000 → is_early event.answer ≡ false)
unfolding AtEachEvent
at_low_delay o b event l lawful low small = unless event.answer (λ e. let high = (picked o b event l lawful e).high in grind arith)

-- ---- the packets still queued

still-wait : (waiting : List Waiting) (now : ℕ) (command : Command) (answer : Answer) → is_early answer ≡ true
    → bytes_of waiting ≤ bytes_of (waiting_next waiting now (effect command answer))
still-wait waiting now command answer e = grind (arith, nat_tests, sum_by_push)

pub leaves_two : AtEachEvent (λ opening before event. is_early event.answer ≡ true
    → 2 * (params_after opening before).mean_pkt < bytes_after opening (before ++ event ∷ []))
unfolding AtEachEvent
leaves_two opening before event later lawful e =
    let step = step_at opening before event later lawful in
    let still = still-wait (waiting_after opening before) (effective_moment opening (before ++ event ∷ [])) event.command event.answer e in
    let long = (early_at opening before event step e).long in
    rw step.waiting (omega (arith, long, still))

finds-none : (v : Verdict) → answer_of v ≡ Empty → ⊥
finds-none v e = grind (arith, nat_tests)

empty-queue : (h : ControllerState) (waiting : List Waiting) (packets : ℕ) (command : Command) → answer_by h waiting packets command ≡ Empty → waiting ≡ []
empty-queue h waiting packets command e = grind (arith, nat_tests, finds-none)

pub empty_if_none : AtEachEvent (λ opening before event. event.answer ≡ Empty → waiting_after opening before ≡ [])
unfolding AtEachEvent
empty_if_none opening before event later lawful e =
    empty-queue (state_after opening before) (waiting_after opening before) opening.limits.packets event.command
    (sym (step_at opening before event later lawful).here.answered ∙ e)

-- ---- marks and drops of a packet

fate-early : (params : RawParams) (prob : ℕ) (ecn : Ecn) → prob < params.mark_ecnth → is_capable ecn ≡ true
    → answer_of (chosen (picked_choice params prob ecn)) ≡ DroppedEarly → ⊥
fate-early params prob ecn below capable dropped = grind (arith, nat_tests)

fate-marked : (params : RawParams) (prob : ℕ) (ecn : Ecn) → is_capable ecn ≡ false
    → answer_of (chosen (picked_choice params prob ecn)) ≡ Marked → ⊥
fate-marked params prob ecn other marked = grind (arith, nat_tests)

arrival-chosen : (opening : Opening) (before : List Event) (event : Event) (packet : Packet) → IsStep opening before event
    → IsArrivalOf event packet → is_early event.answer ≡ true
    → event.answer ≡ answer_of (chosen (picked_choice (state_after opening before).params (state_after opening before).control.prob packet.ecn))
arrival-chosen opening before event packet step arrival e =
    let h = state_after opening before in
    let w = waiting_after opening before in
    let a : ArrivingPacket = arrival_of w opening.limits.packets packet arrival.1 in
    let is : event.answer ≡ answer_of (verdict h a) =
    step.here.answered ∙ ap (λ (c : Command). answer_by h w opening.limits.packets c) arrival.2 in
    is ∙ ap answer_of (chosen-of h a (ap (λ (x : Answer). is_early x) (sym is) ∙ e)).verdict

pub only_capable_marked : AtEachEvent (λ opening before event. MarksOnlyCapable event)
unfolding AtEachEvent
only_capable_marked opening before event later lawful packet arrival other marked =
    let h = state_after opening before in
    let is = arrival-chosen opening before event packet (step_at opening before event later lawful) arrival (ap (λ (x : Answer). is_early x) marked) in
    fate-marked h.params h.control.prob packet.ecn other (sym is ∙ marked)

pub capable_spared : AtEachEvent (λ opening before event. OnlyMarks opening before → SparesCapable event)
unfolding AtEachEvent
capable_spared opening before event later lawful below packet arrival capable dropped =
    let h = state_after opening before in
    let is = arrival-chosen opening before event packet (step_at opening before event later lawful) arrival (ap (λ (x : Answer). is_early x) dropped) in
    fate-early h.params h.control.prob packet.ecn below capable (sym is ∙ dropped)

-- The decrease of the burst allowance from update to update, the distance of updates, and the moments before which they are refused.

-- ---- the controller's numbers from call to call

one-more : (n k : ℕ) → (n + 1) * k ≡ n * k + k
one-more n k = grind arith

module _ (burst least most start last : ℕ) where
  -- after n updates since a moment: the remaining burst allowance, the last update's moment, and the present moment
  record Holds (n : ℕ) (h : ControllerState) : Type 0 where
    allows : Allows burst least most h.params
    whole : burst ≤ h.control.burst + n * most
    apart : start + n * least ≤ max (h.control.last + least) start
    since : last + n * least ≤ h.control.last
    later : start ≤ h.moment
    sound : h.control.last ≤ h.moment

  call-holds : (n : ℕ) (h : ControllerState) (waiting : List Waiting) (packets : ℕ) (command : Command) → Holds n h → SetsAllow burst least most command
      → is_too_soon h.moment (Steps.due h) command ≡ false → Holds (counted_with command n) (after_call h (call_of waiting packets command))
  call-holds n h waiting packets command old set due = grind (arith, nat_tests, one-more)

-- ---- along a lawful history

module _ (burst least most : ℕ) (opening : Opening) (before between : List Event) where
  -- n updates after these events
  abbrev HoldsAfter : ℕ → List Event → Type 0
  HoldsAfter n history =
      Holds burst least most (effective_moment opening before) (state_after opening before).control.last n (state_after opening history)

  holds-next : (n : ℕ) (earlier : List Event) (event : Event) → IsStep opening earlier event → SetsAllow burst least most event.command
      → HoldsAfter n earlier → HoldsAfter (counted_with event.command n) (earlier ++ event ∷ [])
  holds-next n earlier event step set old =
      let h = state_after opening earlier in
      let due : is_too_soon h.moment (Steps.due h) event.command ≡ false =
      subst (λ (m : ℕ). is_too_soon m (Steps.due h) event.command ≡ false) (sym step.same_moment) step.free.in_time in
      subst (Holds burst least most (effective_moment opening before) (state_after opening before).control.last (counted_with event.command n))
      (sym step.state) (call-holds burst least most (effective_moment opening before) (state_after opening before).control.last n h
      (waiting_after opening earlier) opening.limits.packets event.command old set due)

  holds-between : (later : List Event) → IsLawful opening (before ++ between ++ later) → burst ≤ burst_left opening before
      → AllAllow burst least most opening before between → HoldsAfter (updates_in between) (before ++ between)
  holds-between later lawful left allow =
      let it = sound_at opening before (between ++ later) (rw (append_assoc before between later) at lawful) in
      along_updates HoldsAfter (λ earlier event. SetsAllow burst least most event.command) opening holds-next before between later lawful
      (all_along (λ (event : Event). SetsAllow burst least most event.command) before between allow.set) (record {
        allows = allow.force;
        whole = omega arith;
        apart = omega arith;
        since = omega arith;
        later = omega (arith, it.1);
        sound = it.0.last;
      })

module _ (burst least most : ℕ) (opening : Opening) (before between later : List Event) (lawful : IsLawful opening (before ++ between ++ later))
    (left : burst ≤ burst_left opening before) (allow : AllAllow burst least most opening before between) where
  pub updates_apart : effective_moment opening before + updates_in between * least ≤ effective_moment opening (before ++ between) + least
  updates_apart =
      let s = holds-between burst least most opening before between later lawful left allow in
      omega (arith, s.apart, s.sound, s.later, (sound_at opening (before ++ between) later lawful).1)

  updates-since : (state_after opening before).control.last + updates_in between * least ≤ effective_moment opening (before ++ between)
  updates-since =
      let s = holds-between burst least most opening before between later lawful left allow in
      omega (arith, s.since, s.sound, (sound_at opening (before ++ between) later lawful).1)

module _ (burst least most : ℕ) (opening : Opening) (before between : List Event) (event : Event) (later : List Event)
    (lawful : IsLawful opening (before ++ between ++ event ∷ later)) (left : burst ≤ burst_left opening before)
    (allow : AllAllow burst least most opening before between) (early : IsEarly event) where
  pub updates_before : burst ≤ updates_in between * most
  updates_before =
      let whole = (holds-between burst least most opening before between (event ∷ later) lawful left allow).whole in
      let none = (early_at opening (before ++ between) event (step_at opening (before ++ between) event later lawful) early).no_burst in
      omega (arith, whole, none)

keeps-allows : (burst least most : ℕ) (command : Command) → KeepsParams command → SetsAllow burst least most command
keeps-allows burst least most command keep = grind (arith, nat_tests)

allow-own : (opening : Opening) (before between : List Event) → All (λ event. KeepsParams event.command) between
    → AllAllow (min (burst_left opening before) (params_after opening before).max_burst) (params_after opening before).t_update
    (params_after opening before).t_update opening before between
allow-own opening before between keep = grind (arith, nat_tests, keeps-allows)

module _ (opening : Opening) (before : List Event) (between : List Event) (event : Event) (later : List Event)
    (lawful : IsLawful opening (before ++ between ++ event ∷ later)) (keep : All (λ event. KeepsParams event.command) between)
    (early : IsEarly event) where
  -- the allowance that lasts: a reset or a calm update sets it to `max_burst`, also if that is less than the remaining one
  abbrev left : ℕ
  left = min (burst_left opening before) (params_after opening before).max_burst

  abbrev t : ℕ
  t = (params_after opening before).t_update

  own : AllAllow left t t opening before between
  own = allow-own opening before between keep

  used : left ≤ updates_in between * t
  used = updates_before left t t opening before between event later lawful (omega arith) own early

  pub earliest_drop : effective_moment opening before + left ≤ effective_moment opening (before ++ between) + t
  earliest_drop =
      let apart = updates_apart left t t opening before between (event ∷ later) lawful (omega arith) own in
      omega (arith, apart, used)

  pub earliest_since : (parts_after opening before).last + left ≤ effective_moment opening (before ++ between)
  earliest_since =
      let since = updates-since left t t opening before between (event ∷ later) lawful (omega arith) own in
      omega (arith, since, used)

-- ---- histories without a change of parameters

-- the remaining allowance is at most `max_burst`
abbrev Within : ControllerState → Type 0
Within h = h.control.burst ≤ h.params.max_burst

within-next : (h : ControllerState) (waiting : List Waiting) (packets : ℕ) (command : Command) → Within h → KeepsParams command
    → Within (after_call h (call_of waiting packets command))
within-next h waiting packets command old keep = grind (arith, nat_tests)

pub allowed_where_kept : (opening : Opening) (before : List Event) (later : List Event) → IsLawful opening (before ++ later)
    → All (λ event. KeepsParams event.command) before → IsAllowed opening before
allowed_where_kept opening before later lawful keep =
    along (λ earlier left. Within (state_after opening earlier)) (λ earlier event. KeepsParams event.command) opening
    (λ earlier event left step kept old. subst Within (sym step.state)
    (within-next (state_after opening earlier) (waiting_after opening earlier) opening.limits.packets event.command old kept)) [] before later
    lawful (all_along (λ (event : Event). KeepsParams event.command) [] before keep) (subst Within (first-state opening) (omega arith))

-- ---- moments with a whole allowance

pub reset-whole : (h : ControllerState) (waiting : List Waiting) (packets moment : ℕ)
    → (after_call h (call_of waiting packets (Reset moment))).control.burst ≡ (after_call h (call_of waiting packets (Reset moment))).params.max_burst
reset-whole h waiting packets moment = refl

pub activated-whole : (h : ControllerState) (waiting : List Waiting) (packets : ℕ) (command : Command) → h.active ≡ false
    → (after_call h (call_of waiting packets command)).active ≡ true
    → (after_call h (call_of waiting packets command)).control.burst ≡ (after_call h (call_of waiting packets command)).params.max_burst
activated-whole h waiting packets command off on = grind (arith, nat_tests)

pub calm-whole : (h : ControllerState) (waiting : List Waiting) (packets : ℕ) (command : Command) (answer : Answer) → is_update (effect command answer) ≡ true
    → h.active ≡ true → 2 * Steps.delay_in h (bytes_of waiting) < h.params.target → 2 * h.control.old_delay < h.params.target
    → (after_call h (call_of waiting packets command)).control.prob ≡ 0
    → (after_call h (call_of waiting packets command)).control.burst ≡ (after_call h (call_of waiting packets command)).params.max_burst
calm-whole h waiting packets command answer is on delay old none = grind (arith, nat_tests)

-- ---- refused updates

soon : (now due count events moment why : ℕ) → refusal_with now due count events (Update moment) ≡ Some (TooSoon why) → moment < due
soon now due count events moment why e = grind (arith, nat_tests)

pub refused_before : (opening : Opening) (before later : List Event) → IsLawful opening (before ++ later) → (moment due : ℕ)
    → refusal_by_rule opening before (Update moment) ≡ Some (TooSoon due)
    → moment < effective_moment opening before + (params_after opening before).t_update
refused_before opening before later lawful moment due e =
    let it = sound_at opening before later lawful in
    omega (arith, it.1, it.0.last, soon _ _ _ _ moment due e)

pub refused_ahead : AtEachEvent (λ opening before event. (ahead moment due : ℕ) → caller_moment event.command ≡ effective_moment opening before + ahead
    → refusal_by_rule opening (before ++ event ∷ []) (Update moment) ≡ Some (TooSoon due)
    → moment < effective_moment opening before + ahead + (params_after opening (before ++ event ∷ [])).t_update)
unfolding AtEachEvent
refused_ahead opening before event later lawful ahead moment due far e =
    let split : before ++ event ∷ [] ++ later ≡ before ++ (event ∷ later) = append_assoc before (event ∷ []) later in
    let now = effective_moment-push opening before event in
    omega (arith, now, far, refused_before opening (before ++ event ∷ []) later (rw (← split) at lawful) moment due e)

-- an update leaves its moment as the last one
last-is : (h : ControllerState) (waiting : List Waiting) (packets : ℕ) (command : Command) (answer : Answer) → is_update (effect command answer) ≡ true
    → ((after_call h (call_of waiting packets command)).control.last ≡ (after_call h (call_of waiting packets command)).moment)
    × ((after_call h (call_of waiting packets command)).params ≡ h.params)
last-is h waiting packets command answer is = (grind (arith, nat_tests), grind (arith, nat_tests))

pub refused_with : (now due count events moment : ℕ) → moment < 1_152_921_504_606_846_976 → now < due → moment < due
    → refusal_with now due count events (Update moment) ≡ Some (TooSoon due)
refused_with now due count events moment within soon early = grind (arith, nat_tests)

pub refused_after : AtEachEvent (λ opening before event. is_update (effect_of event) ≡ true → (moment : ℕ) → moment < 1_152_921_504_606_846_976
    → moment < effective_moment opening (before ++ event ∷ []) + (params_after opening before).t_update
    → refusal_by_rule opening (before ++ event ∷ []) (Update moment)
    ≡ Some (TooSoon (effective_moment opening (before ++ event ∷ []) + (params_after opening before).t_update)))
unfolding AtEachEvent
refused_after opening before event later lawful is moment within early =
    let step = step_at opening before event later lawful in
    let h = state_after opening before in
    let g = state_after opening (before ++ event ∷ []) in
    let left = subst (λ (k : ControllerState). (k.control.last ≡ k.moment) × (k.params ≡ h.params)) (sym step.state)
    (last-is h (waiting_after opening before) opening.limits.packets event.command event.answer is) in
    let due : g.control.last + g.params.t_update ≡ effective_moment opening (before ++ event ∷ []) + h.params.t_update =
    λ i. (left.0 ∙ step.next_moment) i + (left.1 i).t_update in
    let some = (in-range h.params step.sound.params).t_update in
    subst (λ (d : ℕ). refusal_with (effective_moment opening (before ++ event ∷ [])) d (length (before ++ event ∷ [])) opening.limits.events
    (Update moment) ≡ Some (TooSoon (effective_moment opening (before ++ event ∷ []) + h.params.t_update))) (sym due)
    (refused_with _ _ _ _ moment within (omega (arith, some.0)) early)
