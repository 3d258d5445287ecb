-- The growth of the accumulated probability, its restarts, and the shares of picks in the sum of effective
-- probabilities.
use Rattle.pie_guarantees.proofs.LawfulFacts.{◌≡◌, ◌≤◌, ◌<◌, ◌+◌, ◌*◌, ◌^◌, ◌&&◌, ◌||◌, ◌==◌, not, ⊤, ℕ, List, [], ◌∷◌, ◌++◌, Bool, true, refl, subst, sym, ap, ◌∙◌, if◌then◌else◌, AtEachEvent, BetweenAny, Packet, append_assoc, sum_by-cons, mul-le, arith, nat_tests, bytes_of, effective_prob, is_considered, div-le_of_le-mul, RawParams, is_picked, effect, answer_of, after_call, ControllerState, Waiting, ArrivingPacket, Command, Arrive, Answer, Event, Opening, arrival_of, call_of, answer_by, state_after, waiting_after, is_dropped_bytes, is_dropped_packets, is_reset, AllAlong, IsLawful, IsEarly, is_early, state_of, IsStep, all_along, along, at-step, sound_at, step_at}
use Rattle.pie_params.specs.declared.elements.Picking.TheVariants.{Derandomized}
use Rattle.pie_params.specs.declared.elements.Size.{Size}
use Rattle.pie_guarantees.specs.{arriving_size, EffectiveAtLeast, EffectiveAtMost, IsUnpicked, considered_in, effective_prob_at, effective_sum_in, had_room, picks_in, restarts_in, starts_anew, sum_along, was_considered}
use Rattle.pie_aqm.specs.Steps as Steps
use Rattle.pie_book.specs.Decision as Book
use Rattle.pie_guarantees.proofs.ProbabilityFacts.{elements-is}

-- ---- one command

-- the effective probability of a packet of this size, and the condition for considering a packet
abbrev q-of : ControllerState → ℕ → ℕ
q-of h size = effective_prob h.elements.size h.params size h.control.prob

abbrev con-of : ControllerState → ℕ → Bool
con-of h bytes = h.active && is_considered h.params h.control bytes

abbrev considers : ControllerState → ℕ → Command → Answer → Bool
considers h bytes command answer = had_room (effect command answer) && con-of h bytes

-- the effect of a command on the accumulated probability: a pick takes 0.85 to `takes` off it, and any other restart less than 8.5
record Adds (takes : ℕ) (h g : ControllerState) (considered early anew : Bool) (q : ℕ) : Type 0 where
  at_least : g.accu + (if early then 850_000_000_000 else 0) ≤ h.accu + (if considered then q else 0)
  at_most : h.accu + (if considered then q else 0)
      ≤ g.accu + (if early then takes else 0) + (if anew then 8_500_000_000_000 else 0)

abbrev restarts : ControllerState → ControllerState → ℕ → Command → Answer → Bool
restarts h g bytes command answer =
    (is_dropped_bytes (effect command answer) || is_dropped_packets (effect command answer)) || is_reset (effect command answer)
    || (not h.active && g.active) || (considers h bytes command answer && (q-of h (arriving_size command) == 0))

-- the state before the controller is turned on, if it is
adds-verdict : (takes : ℕ) (h : ControllerState) (a : ArrivingPacket) (moment word : ℕ) (packet : Packet) → h.elements.picking ≡ Derandomized
    → h.accu < 8_500_000_000_000
    → (considers h a.queued (Arrive moment packet word) (answer_of (Steps.verdict h a)) ≡ true → 8_500_000_000_000 + q-of h a.size ≤ takes)
    → Adds takes h (Steps.judged h a moment) (considers h a.queued (Arrive moment packet word) (answer_of (Steps.verdict h a)))
    (is_early (answer_of (Steps.verdict h a)))
    (is_dropped_bytes (effect (Arrive moment packet word) (answer_of (Steps.verdict h a)))
    || is_dropped_packets (effect (Arrive moment packet word) (answer_of (Steps.verdict h a)))
    || (considers h a.queued (Arrive moment packet word) (answer_of (Steps.verdict h a)) && (q-of h a.size == 0)))
    (q-of h a.size)
unfolding Steps.verdict Steps.accu_left is_picked
adds-verdict takes h a moment word packet spaced small counts = record { at_least = grind (arith, nat_tests); at_most = grind (arith, nat_tests) }

adds : (takes : ℕ) (h : ControllerState) (waiting : List Waiting) (packets : ℕ) (command : Command) → h.elements.picking ≡ Derandomized
    → h.accu < 8_500_000_000_000
    → (considers h (bytes_of waiting) command (answer_by h waiting packets command) ≡ true
    → 8_500_000_000_000 + q-of h (arriving_size command) ≤ takes)
    → let g = after_call h (call_of waiting packets command) in let answer = answer_by h waiting packets command in
    Adds takes h g (considers h (bytes_of waiting) command answer) (is_early answer) (restarts h g (bytes_of waiting) command answer)
    (q-of h (arriving_size command))
adds takes h waiting packets (Arrive moment packet word) spaced small counts =
    let one = adds-verdict takes h (arrival_of waiting packets packet word) moment word packet spaced small counts in
    let least = one.at_least in
    let most = one.at_most in
    record { at_least = grind (arith, nat_tests); at_most = grind (arith, nat_tests) }
adds takes h waiting packets _ spaced small counts = record { at_least = grind (arith, nat_tests); at_most = grind (arith, nat_tests) }

-- ---- a pick resets the accumulated probability

left-zero : (h : ControllerState) (waiting : List Waiting) (packets : ℕ) (command : Command) → is_early (answer_by h waiting packets command) ≡ true
    → (after_call h (call_of waiting packets command)).accu ≡ 0
unfolding Steps.verdict Steps.accu_left
left-zero h waiting packets command e = grind (arith, nat_tests)

pub picks_clear : AtEachEvent (λ opening before event. IsEarly event → Book.accu_after opening (before ++ event ∷ []) ≡ 0)
unfolding AtEachEvent
picks_clear opening before event later lawful early =
    let step = step_at opening before event later lawful in
    ap (λ (g : ControllerState). g.accu) step.state
    ∙ left-zero (state_after opening before) (waiting_after opening before) opening.limits.packets event.command
    (ap (λ (a : Answer). is_early a) (sym step.here.answered) ∙ early)

-- ---- an event of a lawful history

q-is : (opening : Opening) (before : List Event) (event : Event)
    → q-of (state_after opening before) (arriving_size event.command) ≡ effective_prob_at opening before event
unfolding state_after state_of
q-is opening before event = refl

counted-within : (size : Size) (params : RawParams) (bytes prob : ℕ) → prob ≤ 10 ^ 12 → effective_prob size params bytes prob ≤ 10 ^ 12
counted-within size params bytes prob within = grind (arith, nat_tests, div-le_of_le-mul, mul-le)

elements-picking : (opening : Opening) (before : List Event) → opening.choices.elements.picking ≡ Derandomized
    → (state_after opening before).elements.picking ≡ Derandomized
elements-picking opening before spaced = rw (elements-is opening before) spaced

-- if the packet is considered, a pick of it takes at most this off the accumulated probability
abbrev PickTakes : ℕ → Opening → List Event → Event → Type 0
PickTakes takes opening before event =
    was_considered opening before event ≡ true → 8_500_000_000_000 + effective_prob_at opening before event ≤ takes

adds-at : (takes : ℕ) (opening : Opening) (before : List Event) (event : Event) → IsStep opening before event
    → opening.choices.elements.picking ≡ Derandomized → PickTakes takes opening before event
    → Adds takes (state_after opening before) (state_after opening (before ++ event ∷ [])) (was_considered opening before event) (is_early event.answer)
    (starts_anew opening before event) (effective_prob_at opening before event)
unfolding state_after state_of
adds-at takes opening before event step spaced most =
    let h = state_after opening before in
    let waiting = waiting_after opening before in
    let counts = subst (λ (a : Answer). considers h (bytes_of waiting) event.command a ≡ true
    → 8_500_000_000_000 + q-of h (arriving_size event.command) ≤ takes) step.here.answered most in
    at-step opening before event step (λ (a : Answer) (g : ControllerState). Adds takes h g (considers h (bytes_of waiting) event.command a) (is_early a)
    (restarts h g (bytes_of waiting) event.command a) (q-of h (arriving_size event.command)))
    (adds takes h waiting opening.limits.packets event.command (elements-picking opening before spaced) step.sound.accu counts)

-- no effective probability is above 1
takes-any : (opening : Opening) (before : List Event) (event : Event) → IsStep opening before event → PickTakes 9_500_000_000_000 opening before event
takes-any opening before event step = grind (arith, nat_tests, elements-is, q-is, counted-within)

adds-any : (opening : Opening) (before : List Event) (event : Event) → IsStep opening before event → opening.choices.elements.picking ≡ Derandomized
    → Adds 9_500_000_000_000 (state_after opening before) (state_after opening (before ++ event ∷ [])) (was_considered opening before event)
    (is_early event.answer) (starts_anew opening before event) (effective_prob_at opening before event)
adds-any opening before event step spaced = adds-at 9_500_000_000_000 opening before event step spaced (takes-any opening before event step)

-- ---- conservation

picks-cons : (event : Event) (later : List Event) → picks_in (event ∷ later) ≡ (if is_early event.answer then 1 else 0) + picks_in later
picks-cons event later = sum_by-cons (λ (e : Event). if is_early e.answer then 1 else 0) event later

one-pick : (early considered : Bool) (q accu next all sum picks left : ℕ)
    → next + (if early then 850_000_000_000 else 0) ≤ accu + (if considered then q else 0)
    → accu + all + ((if considered then q else 0) + left) ≤ sum + ((if early then 1 else 0) + picks) * 850_000_000_000
    → next + all + left ≤ sum + picks * 850_000_000_000
one-pick early considered q accu next all sum picks left one old = grind (arith, nat_tests)

one-restart : (takes : ℕ) (early considered anew : Bool) (q accu next all sum picks restarts left : ℕ)
    → accu + (if considered then q else 0) ≤ next + (if early then takes else 0) + (if anew then 8_500_000_000_000 else 0)
    → sum + ((if early then 1 else 0) + picks) * takes + ((if anew then 1 else 0) + restarts) * 8_500_000_000_000
    ≤ accu + all + ((if considered then q else 0) + left)
    → sum + picks * takes + restarts * 8_500_000_000_000 ≤ next + all + left
one-restart takes early considered anew q accu next all sum picks restarts left one old = grind (arith, nat_tests)

module _ (takes : ℕ) (opening : Opening) (before between : List Event) where
  -- the balance between two events: the sums over the events so far and those that follow
  record Balance (earlier left : List Event) : Type 0 where
    at_least : Book.accu_after opening earlier + picks_in between * 850_000_000_000 + effective_sum_in opening earlier left
        ≤ Book.accu_after opening before + effective_sum_in opening before between + picks_in left * 850_000_000_000
    at_most : Book.accu_after opening before + effective_sum_in opening before between + picks_in left * takes
        + restarts_in opening earlier left * 8_500_000_000_000
        ≤ Book.accu_after opening earlier + (picks_in between * takes + restarts_in opening before between * 8_500_000_000_000)
        + effective_sum_in opening earlier left

  balance-next : opening.choices.elements.picking ≡ Derandomized → (earlier : List Event) (event : Event) (left : List Event)
      → IsStep opening earlier event → PickTakes takes opening earlier event → Balance earlier (event ∷ left)
      → Balance (earlier ++ event ∷ []) left
  unfolding sum_along
  balance-next spaced earlier event left step most old =
      let one = adds-at takes opening earlier event step spaced most in
      record {
        at_least = one-pick (is_early event.answer) (was_considered opening earlier event) (effective_prob_at opening earlier event)
            (Book.accu_after opening earlier) (Book.accu_after opening (earlier ++ event ∷ [])) (picks_in between * 850_000_000_000)
            (Book.accu_after opening before + effective_sum_in opening before between) (picks_in left)
            (effective_sum_in opening (earlier ++ event ∷ []) left) one.at_least (rw (picks-cons event left) at old.at_least);
        at_most = one-restart takes (is_early event.answer) (was_considered opening earlier event) (starts_anew opening earlier event)
            (effective_prob_at opening earlier event) (Book.accu_after opening earlier) (Book.accu_after opening (earlier ++ event ∷ []))
            (picks_in between * takes + restarts_in opening before between * 8_500_000_000_000)
            (Book.accu_after opening before + effective_sum_in opening before between) (picks_in left)
            (restarts_in opening (earlier ++ event ∷ []) left) (effective_sum_in opening (earlier ++ event ∷ []) left) one.at_most
            (rw (picks-cons event left) at old.at_most);
      }

  balanced : (later : List Event) → IsLawful opening (before ++ between ++ later) → opening.choices.elements.picking ≡ Derandomized
      → AllAlong (PickTakes takes opening) before between → Balance (before ++ between) []
  balanced later lawful spaced most =
      along Balance (PickTakes takes opening) opening (λ earlier event left step passed. balance-next spaced earlier event left step passed) before
      between later lawful most (record { at_least = omega arith; at_most = omega arith })

-- the sum of effective probabilities is divided among the picks and the other restarts
pub shared_by : (takes : ℕ) (opening : Opening) (before between later : List Event) → IsLawful opening (before ++ between ++ later)
    → opening.choices.elements.picking ≡ Derandomized → AllAlong (PickTakes takes opening) before between
    → (picks_in between * 850_000_000_000 + Book.accu_after opening (before ++ between)
    ≤ Book.accu_after opening before + effective_sum_in opening before between)
    × (effective_sum_in opening before between + Book.accu_after opening before
    < picks_in between * takes + (restarts_in opening before between + 1) * 8_500_000_000_000)
unfolding sum_along
shared_by takes opening before between later lawful spaced most =
    let it = balanced takes opening before between later lawful spaced most in
    let sound = (sound_at opening (before ++ between) later lawful).0.accu in
    (omega (arith, it.at_least), omega (arith, it.at_most, sound))

any-along : (opening : Opening) (before between later : List Event) → IsLawful opening (before ++ between ++ later)
    → AllAlong (PickTakes 9_500_000_000_000 opening) before between
unfolding AllAlong
any-along opening before [] later lawful = tt
any-along opening before (event ∷ between) later lawful =
    let one : (before ++ event ∷ []) ++ between ≡ before ++ (event ∷ between) = append_assoc before (event ∷ []) between in
    let step = step_at opening before event (between ++ later) (rw (append_assoc before (event ∷ between) later) at lawful) in
    (takes-any opening before event step, any-along opening (before ++ event ∷ []) between later (rw (← one) at lawful))

-- the same with any effective probabilities
pub shared : (opening : Opening) (before between later : List Event) → IsLawful opening (before ++ between ++ later)
    → opening.choices.elements.picking ≡ Derandomized
    → (picks_in between * 850_000_000_000 + Book.accu_after opening (before ++ between)
    ≤ Book.accu_after opening before + effective_sum_in opening before between)
    × (effective_sum_in opening before between + Book.accu_after opening before
    < picks_in between * 9_500_000_000_000 + (restarts_in opening before between + 1) * 8_500_000_000_000)
shared opening before between later lawful spaced =
    shared_by 9_500_000_000_000 opening before between later lawful spaced (any-along opening before between later lawful)

-- ---- the number of considered packets between picks

counts-at-most : (most : ℕ) (opening : Opening) (before between : List Event) → AllAlong (EffectiveAtMost most opening) before between
    → effective_sum_in opening before between ≤ considered_in opening before between * most
unfolding sum_along AllAlong
counts-at-most most opening before [] few = omega arith
counts-at-most most opening before (event ∷ between) few = grind (arith, nat_tests, counts-at-most most opening (before ++ event ∷ []) between few.1)

counts-at-least : (least : ℕ) (opening : Opening) (before between : List Event) → AllAlong (EffectiveAtLeast least opening) before between
    → considered_in opening before between * least ≤ effective_sum_in opening before between
unfolding sum_along AllAlong
counts-at-least least opening before [] large = omega arith
counts-at-least least opening before (event ∷ between) large =
    grind (arith, nat_tests, counts-at-least least opening (before ++ event ∷ []) between large.1)

takes-most : (most : ℕ) (opening : Opening) (before between : List Event) → AllAlong (EffectiveAtMost most opening) before between
    → AllAlong (PickTakes (8_500_000_000_000 + most) opening) before between
unfolding AllAlong
takes-most most opening before [] few = tt
takes-most most opening before (event ∷ between) few =
    ((λ is. let one = few.0 is in omega (arith, one)), takes-most most opening (before ++ event ∷ []) between few.1)

-- ---- the number of picks among the considered packets

pub few_picked : (most : ℕ) → BetweenAny (λ opening before between. opening.choices.elements.picking ≡ Derandomized
    → Book.accu_after opening before ≡ 0 → AllAlong (EffectiveAtMost most opening) before between
    → 850_000_000_000 * picks_in between ≤ considered_in opening before between * most)
unfolding BetweenAny
few_picked most opening before between later lawful spaced none small =
    let all = (shared opening before between later lawful spaced).0 in
    let few = counts-at-most most opening before between small in
    omega (arith, all, none, few)

pub many_picked : (least most : ℕ) → BetweenAny (λ opening before between. opening.choices.elements.picking ≡ Derandomized
    → AllAlong (EffectiveAtLeast least opening) before between → AllAlong (EffectiveAtMost most opening) before between
    → considered_in opening before between * least
    < (8_500_000_000_000 + most) * picks_in between + 8_500_000_000_000 * (restarts_in opening before between + 1))
unfolding BetweenAny
many_picked least most opening before between later lawful spaced large small =
    let all = (shared_by (8_500_000_000_000 + most) opening before between later lawful spaced (takes-most most opening before between small)).1 in
    let many = counts-at-least least opening before between large in
    omega (arith, all, many)

taken : (early considered : Bool) (q accu next n most : ℕ) → early ≡ true
    → next + (if early then 850_000_000_000 else 0) ≤ accu + (if considered then q else 0) → accu ≤ n * most → q ≤ most
    → 850_000_000_000 ≤ (n + 1) * most
taken early considered q accu next n most is one low small = grind (arith, nat_tests)

pub far_apart : (most : ℕ) (opening : Opening) (before : List Event) (between : List Event) (event : Event) (later : List Event)
    → IsLawful opening (before ++ between ++ event ∷ later) → opening.choices.elements.picking ≡ Derandomized
    → Book.accu_after opening before ≡ 0 → AllAlong (EffectiveAtMost most opening) before between
    → effective_prob_at opening (before ++ between) event ≤ most → IsEarly event
    → 850_000_000_000 ≤ (considered_in opening before between + 1) * most
far_apart most opening before between event later lawful spaced none few last early =
    let step = step_at opening (before ++ between) event later lawful in
    let all = (shared opening before between (event ∷ later) lawful spaced).0 in
    let few = counts-at-most most opening before between few in
    taken (is_early event.answer) (was_considered opening (before ++ between) event) (effective_prob_at opening (before ++ between) event)
    (Book.accu_after opening (before ++ between)) (Book.accu_after opening (before ++ between ++ event ∷ []))
    (considered_in opening before between) most early (adds-any opening (before ++ between) event step spaced).at_least
    (omega (arith, all, none, few)) last

nothing-counted : (opening : Opening) (before between : List Event) → considered_in opening before between ≡ 0 → effective_sum_in opening before between ≡ 0
unfolding sum_along
nothing-counted opening before [] none = refl
nothing-counted opening before (event ∷ between) none =
    grind (arith, nat_tests, nothing-counted opening (before ++ event ∷ []) between (omega (arith, none)))

pub not_in_a_row : (opening : Opening) (before : List Event) (first : Event) (between : List Event) (second : Event) (later : List Event)
    → IsLawful opening (before ++ first ∷ [] ++ between ++ second ∷ later) → opening.choices.elements.picking ≡ Derandomized → IsEarly first
    → considered_in opening (before ++ first ∷ []) between ≡ 0 → IsEarly second
    → 850_000_000_000 ≤ effective_prob_at opening (before ++ first ∷ [] ++ between) second
unfolding AtEachEvent
not_in_a_row opening before first between second later lawful spaced picked none early =
    let b = before ++ first ∷ [] in
    let split : b ++ between ++ second ∷ later ≡ before ++ (first ∷ (between ++ second ∷ later)) =
    append_assoc b between (second ∷ later) ∙ append_assoc before (first ∷ []) (between ++ second ∷ later) in
    let zero = picks_clear opening before first (between ++ second ∷ later) (rw split at lawful) picked in
    let all = (shared opening b between (second ∷ later) lawful spaced).0 in
    let nothing = nothing-counted opening b between none in
    let one = (adds-any opening (b ++ between) second (step_at opening (b ++ between) second later lawful) spaced).at_least in
    grind (arith, nat_tests)

continues-unpicked : (least : ℕ) (opening : Opening) (before between : List Event) → 0 < least → AllAlong (EffectiveAtLeast least opening) before between
    → AllAlong (IsUnpicked opening) before between → (picks_in between ≡ 0) × (restarts_in opening before between ≡ 0)
unfolding sum_along AllAlong
continues-unpicked least opening before [] some large on = (refl, refl)
continues-unpicked least opening before (event ∷ between) some large on =
    grind (arith, nat_tests, picks-cons, continues-unpicked least opening (before ++ event ∷ []) between some large.1 on.1)

pub not_too_far : (least : ℕ) → BetweenAny (λ opening before between. opening.choices.elements.picking ≡ Derandomized → 0 < least
    → AllAlong (EffectiveAtLeast least opening) before between → AllAlong (IsUnpicked opening) before between
    → considered_in opening before between * least < 8_500_000_000_000)
unfolding BetweenAny
not_too_far least opening before between later lawful spaced some large on =
    let all = (shared opening before between later lawful spaced).1 in
    let none = continues-unpicked least opening before between some large on in
    omega (arith, all, none.0, none.1, counts-at-least least opening before between large)
