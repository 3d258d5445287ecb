-- The work of all workers of a storm: it is gathered; no caller stopped early, since a history has no more events than
-- there are commands; so the storm has the result of its plan.
use Rattle.pie_storm.proofs.Names.{◌≡◌, ℕ, ◌+◌, ◌<◌, List, [], length, length-append, events_in, refl, ap, sym, ◌∙◌, subst, inl, inr, ⊎_elim, arith, dite, ℕ_discrete, Bool, true, false, ◌||◌, get_or, is_within, nat_tests, Extends, Event, number_of, EntriesLookBack, Entry, CallerView, LinkView, Plan, Work, calls_of, folder, opening_of, updater, IsOutcomeOf, HasNoMore, IsWell, IsWorkBelow, zero, suc, ◌≤◌, cond, ◌∷◌, ◌++◌, All, All-nil, All-cons, All-head, All-tail, own, own_none, entries_of, Call, IsSound, total, AreMade, ◌⊎◌, AreFolded, IsCutShort, None, Some, Ok, Err, Result, folded_events, senders, IsEndOf, IsFor, drop-append_seam, take-append_seam}
use Rattle.pie_lock.specs.Rule.{IsBothOf, HasAllNumbers}
use Rattle.pie_lock.proofs.Steps.{goes_on, gone_on}
use Rattle.pie_storm.specs.declared.worker.Folding.{Folding}
use Rattle.pie_storm.specs.Storms.{Begins, IsWorkOf, IsEntryOf, WasPassedOver, refusal_of}
unfoldable use Rattle.pie_storm.specs.Storms.{HasFault}
use Rattle.std.proofs.lemmas.List.Elements.{All-push}
use native.Mathlib.Decide.{dec_le}
use Rattle.std.specs.Result.{IfErr, IfOk}
use Rattle.pie_book.specs.Book.{BookView, BookRepresents}
use Rattle.pie_book.specs.Decision.{registers_after, stats_after}
use Rattle.pie_link.specs.Entries.{RepresentsEntries}
use Rattle.pie_storm.specs.declared.run.StormEnd.{StormEnd}
use Rattle.pie_storm.specs.declared.run.StormFault.{StormFault}
use Rattle.pie_storm.specs.declared.run.StormFault.TheVariants as fault
use Rattle.pie_storm.proofs.Making.{IsRight, few_made, folded_alone, folded_same, made_on, numbered, own_entry, stays}
use Rattle.pie_storm.proofs.StormFacts.{IsCallOf, calls_are, no_calls}

-- with a sound plan and an open link, a storm fails only for lack of memory or of a thread
pub run_fault : (plan : Plan) (result : Result StormEnd StormFault) → IsSound plan → refusal_of plan ≡ None
    → IfErr result (λ why. (why ≡ fault.Memory) ⊎ (why ≡ fault.Thread)) → IfErr result (HasFault plan)
unfolding HasFault
run_fault plan result sound none faulted = grind (arith, nat_tests)

-- the calls of a caller in a history are its calls in a longer one without further entries of it
came_on : (law : EntriesLookBack) (plan : Plan) (caller : ℕ) (h k : List Entry) (passed : ℕ) → HasNoMore caller h k → IsOutcomeOf plan caller h passed
    → IsOutcomeOf plan caller k passed
unfolding IsOutcomeOf
came_on law plan caller h k passed on it = grind (arith, nat_tests, made_on, length-append)

other_below : (n caller k : ℕ) → caller < n → is_within 0 n k ≡ false → is_within caller (caller + 1) k ≡ false
other_below n caller k below out = grind (arith, nat_tests)

-- without further entries of the callers below n, there are none of each of them
each_below : (caller n : ℕ) (h k : List Entry) → caller < n → Extends number_of 0 n h k → HasNoMore caller h k
each_below caller n h k below on =
    let all = gone_on number_of 0 n h k on in
    goes_on number_of caller (caller + 1) h all.0 k all.1
    (λ i d within. other_below n caller (number_of (get_or all.0 i d)) below (all.2 i d within))

-- the front of two gathered callers continues the front of each
fronts : (plan : Plan) (p q r : CallerView) (n : ℕ) → p.first ≡ 0 → p.limit ≡ n → q.first ≡ n → q.limit ≡ n + 1 → IsBothOf number_of p q r
    → ((caller : ℕ) → caller < n → HasNoMore caller p.front r.front) × HasNoMore n q.front r.front
fronts plan p q r n p_first p_limit q_first q_limit both =
    ⊎_elim
    (λ behind.
    let on : Extends number_of 0 n p.front q.front = rw (p_first, p_limit) at behind.0 in
    rw behind.1 ((λ caller below. each_below caller n p.front q.front below on), stays n q.front))
    (λ behind.
    let on : HasNoMore n q.front p.front = rw (q_first, q_limit) at behind.0 in
    rw behind.1 ((λ caller below. stays caller p.front), on))
    both.3

pub neither : (a b : Bool) → (a || b) ≡ false → (a ≡ false) × (b ≡ false)
neither a b is = (grind (arith, nat_tests), grind (arith, nat_tests))

-- the last worker's work is gathered to that of the others
pub together : (law : EntriesLookBack) (link : LinkView) (plan : Plan) (n : ℕ) (work last whole : Work)
    → IsBothOf number_of work.caller last.caller whole.caller → whole.passed ≡ last.passed
    → (n ≡ updater plan → whole.too_soon ≡ last.passed) → ((n ≡ updater plan → ⊥) → whole.too_soon ≡ work.too_soon)
    → whole.folding.events.items ≡ last.folding.events.items
    → (IsWell whole.folding → IsWell work.folding × IsWell last.folding)
    → IsWorkBelow link plan n work → IsWorkOf link plan n last → IsWorkBelow link plan (n + 1) whole
together law link plan n work last whole both passed soon as_before events well below its =
    let p = work.caller in
    let q = last.caller in
    let r = whole.caller in
    let on = fronts plan p q r n below.first below.limit its.at.first its.at.limit both in
    let mine = λ (fine : IsWell whole.folding). came_on law plan n q.front r.front last.passed on.1 (its.came (well fine).1) in record {
      lock = both.0 ∙ below.lock;
      first = omega (arith, both.1, below.first);
      limit = omega (arith, both.2, below.limit, its.at.limit);
      came = λ fine caller less. dite (ℕ_discrete caller n)
          (λ is. (last.passed, rw is (mine fine), λ updates. sym (soon (sym is ∙ updates))))
          (λ other.
          let before : caller < n = omega (arith, less, other) in
          let came = below.came (well fine).0 caller before in (
            came.0,
            came_on law plan caller p.front r.front came.0 (on.0 caller before) came.1,
            λ updates. came.2 updates ∙ sym (as_before (λ is. other (updates ∙ sym is))),
          ));
      folds = λ fine all.
          let is : n ≡ folder plan = omega (arith, all) in
          let folds_split = its.folds_split (well fine).1 is in (
            rw (passed, ← is) (mine fine),
            rw (← is) (events ∙ (folds_split ∙ sym (folded_same law (opening_of plan) n q.front r.front on.1))),
          );
    }

-- the starter makes no calls
nothing_requested : (plan : Plan) → IsOutcomeOf plan 0 [] 0
unfolding IsOutcomeOf calls_of
nothing_requested plan = inl (stays 0 [], refl)

-- the starter alone has made no entries
pub starter_alone : (link : LinkView) (plan : Plan) (caller rest : CallerView) (folding : Folding) → Begins link plan caller → caller.first ≡ 0
    → caller.limit ≡ caller.first + 1 → rest ≡ caller
    → IsWorkBelow link plan caller.limit (record { caller = rest; passed = 0; too_soon = 0; folding = folding })
starter_alone link plan caller rest folding begins first one same =
    let new : rest.front ≡ [] = ap (λ (p : CallerView). p.front) same ∙ begins.new in record {
      lock = ap (λ (p : CallerView). p.lock) same ∙ begins.own;
      first = ap (λ (p : CallerView). p.first) same ∙ first;
      limit = ap (λ (p : CallerView). p.limit) same;
      came = λ fine number less.
          let is : 0 ≡ number = omega (arith, one, first, less) in
          rw (← is, new) (0, nothing_requested plan, λ updates. refl);
      folds = λ fine all. absurd (omega (arith, one, first, all));
    }

-- ---- all callers together

-- the entries below n are those of each of these callers
split : (n : ℕ) (xs : List Entry) → length (own number_of 0 n xs) + length (entries_of n xs) ≡ length (own number_of 0 (suc n) xs)
split n [] = omega arith
split n (e ∷ xs) = let rest = split n xs in grind (arith, nat_tests)

none_below : (xs : List Entry) → length (own number_of 0 0 xs) ≤ 0
none_below [] = omega arith
none_below (e ∷ xs) = let rest = none_below xs in grind (arith, nat_tests)

-- if no caller has more entries than this, all have at most the sum, and less if one has fewer
counted : (f : ℕ → ℕ) (n : ℕ) (xs : List Entry) → ((k : ℕ) → k < n → length (entries_of k xs) ≤ f k) → length (own number_of 0 n xs) ≤ total f n
counted f zero xs few = none_below xs
counted f (suc n) xs few = omega (arith, split n xs, counted f n xs (λ k below. few k (omega (arith, below))), few n (omega arith))

counted_fewer : (f : ℕ → ℕ) (n k : ℕ) (xs : List Entry) → ((j : ℕ) → j < n → length (entries_of j xs) ≤ f j) → k < n
    → length (entries_of k xs) < f k → length (own number_of 0 n xs) < total f n
counted_fewer f zero k xs few below fewer = absurd (omega (arith, below))
counted_fewer f (suc n) k xs few below fewer =
    let each = λ (j : ℕ) (lower : j < n). few j (omega (arith, lower)) in
    dite (ℕ_discrete k n) (λ is. let all = counted f n xs each in let cut = split n xs in grind arith)
    (λ other. omega (arith, split n xs, counted_fewer f n k xs each (omega (arith, below, other)) fewer, few n (omega arith)))

-- the number of the last caller, which folds, plus one
abbrev pub callers_of_plan : Plan → ℕ
callers_of_plan plan = suc (folder plan)

-- ---- one entry, and those of its caller

abbrev IsBelow : ℕ → Entry → Type 0
IsBelow n e = number_of e < n

rest_of : (P : Entry → Type 0) (b : Bool) (e : Entry) (xs : List Entry) → All P (cond b (e ∷ xs) xs) → All P xs × (b ≡ true → P e)
rest_of P true e xs all = (All-tail P e xs all, λ yes. All-head P e xs all)
rest_of P false e xs all = (all, λ yes. absurd (cc yes))

-- a fact about a caller's entries is one about each entry with its number
of_its : (P : Entry → Type 0) (caller : ℕ) (xs : List Entry) → All P (entries_of caller xs) → All (λ e. number_of e ≡ caller → P e) xs
of_its P caller [] all = All-nil (λ e. number_of e ≡ caller → P e)
of_its P caller (e ∷ xs) all =
    let rest = rest_of P (is_within caller (caller + 1) (number_of e)) e (entries_of caller xs) all in
    All-cons (λ e. number_of e ≡ caller → P e) e xs (λ is. rest.1 (grind (arith, nat_tests, is))) (of_its P caller xs rest.0)

-- if the callers are n and those below, and n only folds, the number of events is at most that of the entries of those below
few_events : (n : ℕ) (xs : List Entry) → All (IsBelow (suc n)) xs → All (λ e. number_of e ≡ n → IsRight n e) xs
    → length (events_in xs) ≤ length (own number_of 0 n xs)
few_events n [] below right = omega arith
few_events n (e ∷ xs) below right =
    grind (
      arith,
      nat_tests,
      All-head (IsBelow (suc n)) e xs below,
      All-head (λ e. number_of e ≡ n → IsRight n e) e xs right,
      few_events n xs (All-tail (IsBelow (suc n)) e xs below) (All-tail (λ e. number_of e ≡ n → IsRight n e) e xs right),
    )

-- ---- the entries of a caller

module _ (plan : Plan) (caller : ℕ) where
  abbrev IsIts : Call → Type 0
  IsIts = IsCallOf plan caller

  abbrev IsFine : Entry → Type 0
  IsFine = IsRight (folder plan)

  -- a skipped call is one of the updater or the folder
  not_passed : (before : List Entry) (call : Call) → (caller ≡ updater plan → ⊥) → (caller ≡ folder plan → ⊥) → IsIts call
      → WasPassedOver (opening_of plan) before call → ⊥
  not_passed before call no_updates no_folds its was = grind (arith, nat_tests)

  none_passed : (front : List Entry) (calls : List Call) (h : List Entry) (passed : ℕ) → (caller ≡ updater plan → ⊥) → (caller ≡ folder plan → ⊥)
      → All IsIts calls → AreMade (opening_of plan) caller front calls h passed → passed ≡ 0
  none_passed front [] h passed no_updates no_folds its m = m.1
  none_passed front (call ∷ calls) h passed no_updates no_folds its (inl m) = grind (arith, nat_tests, none_passed (m.0 ++ m.1 ∷ []) calls h passed no_updates no_folds (All-tail IsIts call calls its) m.4)
  none_passed front (call ∷ calls) h passed no_updates no_folds its (inr m) =
      absurd (not_passed m.0 call no_updates no_folds (All-head IsIts call calls its) m.3)

  right_by : (before : List Entry) (call : Call) → IsIts call → (entry : Entry) → IsEntryOf (opening_of plan) before caller call entry → IsFine entry
  right_by before call its entry is = grind (arith, nat_tests)

  all_right_by : (front : List Entry) (calls : List Call) (h : List Entry) (passed : ℕ) → All IsIts calls
      → AreMade (opening_of plan) caller front calls h passed → All IsFine (entries_of caller front) → All IsFine (entries_of caller h)
  all_right_by front [] h passed its m all = subst (All IsFine) (sym m.0.1) all
  all_right_by front (call ∷ calls) h passed its (inl m) all =
      all_right_by (m.0 ++ m.1 ∷ []) calls h passed (All-tail IsIts call calls its) m.4
      (subst (All IsFine) (sym (own_entry caller m.0 m.1 (numbered caller (opening_of plan) m.0 call m.1 m.3) ∙ ap (λ (l : List Entry). l ++ m.1 ∷ []) m.2.1))
      (All-push IsFine (entries_of caller front) m.1 all (right_by m.0 call (All-head IsIts call calls its) m.1 m.3)))
  all_right_by front (call ∷ calls) h passed its (inr m) all = grind (arith, nat_tests, all_right_by m.0 calls h m.1 (All-tail IsIts call calls its) m.5 (subst (All IsFine) (sym m.2.1) all))

-- ---- a whole storm

-- a caller made all its calls in this history, except the skipped ones
abbrev AllMade : Plan → List Entry → ℕ → ℕ → Type 0
AllMade plan h caller passed = AreMade (opening_of plan) caller [] (calls_of plan caller) h passed

-- each caller made its calls, except the skipped updates and folds
abbrev pub IsAsPlanned : Plan → List Entry → ℕ → ℕ → Type 0
IsAsPlanned plan h too_soon too_many =
    AllMade plan h (updater plan) too_soon × AllMade plan h (folder plan) too_many
    × ((caller : ℕ) → (caller ≡ updater plan → ⊥) → (caller ≡ folder plan → ⊥) → AllMade plan h caller 0)

module _ (plan : Plan) (h : List Entry) (sound : IsSound plan) (below : All (IsBelow (callers_of_plan plan)) h) (too_soon : ℕ)
    (came : (caller : ℕ) → caller < callers_of_plan plan
    → (passed : ℕ) × IsOutcomeOf plan caller h passed × (caller ≡ updater plan → passed ≡ too_soon)) where
  -- no caller has more entries than calls
  few_of : (caller passed : ℕ) → IsOutcomeOf plan caller h passed → length (entries_of caller h) ≤ length (calls_of plan caller)
  unfolding IsOutcomeOf
  few_of caller passed it = grind (arith, nat_tests, few_made)

  -- the entries of the folder are folds
  folds_of : (passed : ℕ) → IsOutcomeOf plan (folder plan) h passed → All (IsRight (folder plan)) (entries_of (folder plan) h)
  unfolding IsOutcomeOf
  folds_of passed it = grind (arith, nat_tests, all_right_by, calls_are)

  -- no caller stopped early
  never_cut : (caller : ℕ) → caller < callers_of_plan plan → IsCutShort plan caller [] (calls_of plan caller) h → ⊥
  never_cut caller less cut =
      let n = folder plan in
      let below_n : caller < n = dite (ℕ_discrete caller n) (λ is. absurd (cut.asks is)) (λ other. omega (arith, less, other)) in
      let last = came n (omega arith) in
      omega (
        arith,
        counted_fewer (λ c. length (calls_of plan c)) n caller h
            (λ c lower. let came_so = came c (omega (arith, lower)) in few_of c came_so.0 came_so.1) below_n (omega (arith, cut.fewer)),
        cut.full,
        few_events n h below (of_its (IsRight n) n h (folds_of last.0 last.1)),
        sound.tail,
        sound.events,
      )

  all_made : (caller passed : ℕ) → caller < callers_of_plan plan → IsOutcomeOf plan caller h passed
      → AreMade (opening_of plan) caller [] (calls_of plan caller) h passed
  unfolding IsOutcomeOf
  all_made caller passed less it = grind (arith, nat_tests, never_cut)

  -- each caller made all its calls
  each_made : (caller : ℕ)
      → (passed : ℕ) × AreMade (opening_of plan) caller [] (calls_of plan caller) h passed × (caller ≡ updater plan → passed ≡ too_soon)
  each_made caller = dite (dec_le (callers_of_plan plan) caller)
      (λ over. (
        0,
        rw (no_calls plan caller (omega (arith, over)))
            (((h, refl), own_none number_of caller (caller + 1) h (λ k d within. let less = below k d within in grind (arith, nat_tests, less, over))), refl),
        λ is. absurd (omega (arith, over, is)),
      ))
      (λ not_over.
      let lower : caller < callers_of_plan plan = omega (arith, not_over) in
      let c = came caller lower in (c.0, all_made caller c.0 lower c.1, c.2))

  -- the folder alone has folds, and has no other entry
  pub all_right : All (IsRight (folder plan)) h
  all_right = λ k d within.
      let caller = number_of (get_or h k d) in
      let m = each_made caller in
      of_its (IsRight (folder plan)) caller h (all_right_by plan caller [] (calls_of plan caller) h m.0 (calls_are plan sound caller) m.1
      (All-nil (IsRight (folder plan)))) k d within refl

  -- the history of a storm is that of its plan
  pub is_storm : (too_many : ℕ) → IsOutcomeOf plan (folder plan) h too_many → IsAsPlanned plan h too_soon too_many
  is_storm too_many folds =
      let updates = each_made (updater plan) in (
        rw (← updates.2 refl) updates.1,
        all_made (folder plan) too_many (omega arith) folds,
        λ caller no_updates no_folds.
            let m = each_made caller in
            let none = none_passed plan caller [] (calls_of plan caller) h m.0 no_updates no_folds (calls_are plan sound caller) m.1 in
            rw (← none) m.1,
      )

module _ (plan : Plan) (link : LinkView) (work : Work) (book : BookView) (link_for : IsFor plan link)
    (numbers : link.numbers ≡ senders plan + 5) (worked : IsWorkBelow link plan (senders plan + 5) work)
    (opened : work.caller.lock.origin ≡ Some book.opening) (represents : HasAllNumbers work.caller → RepresentsEntries book work.caller.front)
    (numbered : HasAllNumbers work.caller → All (λ (e : Entry). number_of e < work.caller.lock.numbers) work.caller.front) where
  -- the starter has all numbers of the link again
  holds_all : HasAllNumbers work.caller
  holds_all = (worked.first, worked.limit ∙ (sym numbers ∙ ap (λ (l : LinkView). l.numbers) (sym worked.lock)))

  -- the caller closed the link, and has the book that was opened
  opened_so : book.opening ≡ opening_of plan
  opened_so = grind (arith, nat_tests)

  -- all entries of its front have numbers of the plan's callers, which made permitted calls
  all_below : All (λ (e : Entry). number_of e < callers_of_plan plan) work.caller.front
  all_below = grind (arith, nat_tests, numbered, holds_all)

  all_came : IsWell work.folding → (caller : ℕ) → caller < callers_of_plan plan
      → (passed : ℕ) × IsOutcomeOf plan caller work.caller.front passed × (caller ≡ updater plan → passed ≡ work.too_soon)
  all_came fine caller less = worked.came fine caller (omega (arith, less))

  -- its front is the history of the plan
  storm_of : IsWell work.folding → IsAsPlanned plan work.caller.front work.too_soon work.passed
  storm_of fine =
      is_storm plan work.caller.front link_for.sound all_below work.too_soon (all_came fine) work.passed (worked.folds fine (omega arith)).0

  -- the stored events are those of the folds
  all_handed : IsWell work.folding → work.folding.events.items ≡ folded_events (opening_of plan) work.caller.front
  all_handed fine =
      let front = work.caller.front in
      (worked.folds fine (omega arith)).1
      ∙ folded_alone (opening_of plan) (folder plan) [] front (all_right plan front link_for.sound all_below work.too_soon (all_came fine))

  -- the stored events followed by the log are all events
  whole_history : IsWell work.folding → work.folding.events.items ++ book.tail ≡ events_in work.caller.front
  whole_history fine = grind (arith, nat_tests, opened_so, all_handed, holds_all)

  -- the stored events followed by the log, with their number
  all_parted : IsWell work.folding → (events : List Event) (folded : ℕ) → events ≡ work.folding.events.items ++ book.tail
      → folded ≡ length work.folding.events.items → AreFolded (opening_of plan) work.caller.front events folded
  all_parted fine events folded are many = grind (arith, nat_tests, all_handed, take-append_seam, opened_so, holds_all, drop-append_seam)

  -- the result of a storm
  pub ended : (result : Result StormEnd StormFault)
      → IfOk result (λ end. end.events.items ≡ work.folding.events.items ++ book.tail)
      → ((events : List Event) → BookRepresents book events → IfOk result (λ end. end.registers ≡ registers_after book.opening events))
      → ((events : List Event) → BookRepresents book events → IfOk result (λ end. end.stats ≡ stats_after book.opening events))
      → IfOk result (λ end. IsWell work.folding × (end.too_soon ≡ work.too_soon) × (end.too_many ≡ work.passed)
      × (end.folded ≡ length work.folding.events.items)) → IfOk result (IsEndOf plan)
  ended (Ok end) items registers stats counts =
      let h = events_in work.caller.front in
      let represents_list = (represents holds_all).represents in
      let storm = storm_of counts.0 in
      let is : end.events.items ≡ h = items ∙ whole_history counts.0 in record {
        legal = rw (is, ← opened_so) represents_list.running.legal;
        made = record {
          history = work.caller.front;
          of_history = sym is;
          updates = rw counts.1 storm.0;
          folds = rw counts.2 storm.1;
          others = storm.2;
        };
        folded = all_parted counts.0 end.events.items end.folded items counts.3;
        registers = cc (registers h represents_list, opened_so, is);
        stats = cc (stats h represents_list, opened_so, is);
      }
  ended (Err why) items registers stats counts = counts
