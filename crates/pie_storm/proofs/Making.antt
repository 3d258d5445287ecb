-- The entries of a caller's calls in a growing history, one by one or in bursts; and the events of its folds.
use Rattle.pie_storm.proofs.Names.{◌≡◌, ℕ, ◌+◌, true, false, List, [], ◌∷◌, ◌++◌, take, refl, ap, sym, ◌∙◌, arith, All, nat_tests, append-nil, All-head, All-tail, is_within, NoneOwn, gone_on, Event, Opening, folded_for, number_of, tail_in, EntriesLookBack, Entry, Applied, Folded, HasNoMore, is_number, zero, suc, ◌≤◌, Some, None, Ok, Err, Option, Result, Vec, drop, min, length, slice_get, subst, inl, inr, length-append, length-drop, Global, take-add, take-length, length-take, append_assoc, Extends, goes_on_itself, Answer, Command, Refusal, refusal_by_rule, event_of, entries_of, events_in, Told, CallerView, LinkView, Call, Apply, Fold, Plan, IsFair, calls_of, folder, opening_of, AreMade, IsOutcomeBy, IsOutcomeOf, IsAt, IsCutShort, IsFor, WereFolded, map, IfSome, IsOk, length-map, All-cons, All-nil, Arrival, Reply, always, arrive, arriving, AddedByAll, decision}
use Rattle.std.proofs.lemmas.List.Elements.{filter-append, All-drop, All-take}
use Rattle.pie_event.specs.declared.refusal.FoldRefusal.{FoldRefusal}
use Rattle.pie_event.specs.declared.refusal.FoldRefusal.TheVariants.{TooMany, Memory}
use Rattle.pie_event.specs.declared.refusal.Refusal.TheVariants.{TooSoon, Moment, Size, Exhausted, HistoryFull}
use Rattle.pie_link.specs.Callers.{Answers, Folds, AnswersAll, AnswersWithin, IsTurn}
use Rattle.pie_storm.specs.Storms.{IsEntryOf, TakenIn, WasPassedOver, added_by}
use Rattle.pie_link.specs.Entries.{burst_within, entries_by, entries_within, refused_or_answered, replies_within, reply_in, refusal_in}
use Rattle.pie_storm.proofs.StormFacts.{IsCallOf, all_at, calls_are}

-- one more fold of the caller
pub folded_more : (law : EntriesLookBack) (opening : Opening) (caller : ℕ) (g : List Entry) (n who : ℕ) → who ≡ caller
    → folded_for (is_number caller) opening [] (g ++ Folded who n ∷ []) ≡ folded_for (is_number caller) opening [] g ++ take n (tail_in opening g)
folded_more law opening caller g n who is = grind (arith, nat_tests, append-nil)

-- without further entries of the caller its folds return no more events
folded_none : (opening : Opening) (caller : ℕ) (before xs : List Entry) → NoneOwn number_of caller (caller + 1) xs
    → folded_for (is_number caller) opening before xs ≡ []
folded_none opening caller before [] none = refl
folded_none opening caller before (entry ∷ xs) none =
    grind (
      arith,
      nat_tests,
      All-head (λ e. is_within caller (caller + 1) (number_of e) ≡ false) entry xs none,
      folded_none opening caller (before ++ entry ∷ []) xs (All-tail (λ e. is_within caller (caller + 1) (number_of e) ≡ false) entry xs none),
    )

pub folded_same : (law : EntriesLookBack) (opening : Opening) (caller : ℕ) (g h : List Entry) → HasNoMore caller g h
    → folded_for (is_number caller) opening [] h ≡ folded_for (is_number caller) opening [] g
folded_same law opening caller g h same =
    let on = gone_on number_of caller (caller + 1) g h same in
    let none = folded_none opening caller g on.0 on.2 in grind (arith, append-nil, law.folds_split (is_number caller) opening [] g on.0)

-- an entry of a history in which this caller folds and makes no other entry, and no other caller folds
abbrev pub IsRight : ℕ → Entry → Type 0
IsRight folder (Applied event) = event.caller ≡ folder → ⊥
IsRight folder (Folded who n) = who ≡ folder

-- the events of its folds are those of all folds
pub folded_alone : (opening : Opening) (folder : ℕ) (before h : List Entry) → All (IsRight folder) h
    → folded_for (is_number folder) opening before h ≡ folded_for (λ caller. true) opening before h
folded_alone opening folder before [] right = refl
folded_alone opening folder before (entry ∷ h) right =
    grind (
      arith,
      nat_tests,
      All-head (IsRight folder) entry h right,
      folded_alone opening folder (before ++ entry ∷ []) h (All-tail (IsRight folder) entry h right),
    )

module _ (caller : ℕ) where
  pub stays : (h : List Entry) → HasNoMore caller h h
  stays h = goes_on_itself number_of caller (caller + 1) h

  continues : (h k l : List Entry) → HasNoMore caller h k → HasNoMore caller k l → HasNoMore caller h l
  continues h k l a b = ((a.0.0 ++ b.0.0, let first = a.0.1 in let second = b.0.1 in grind (arith, append_assoc)), b.1 ∙ a.1)

  -- a caller's own entry is one more of its entries
  pub own_entry : (g : List Entry) (entry : Entry) → number_of entry ≡ caller → entries_of caller (g ++ entry ∷ []) ≡ entries_of caller g ++ entry ∷ []
  own_entry g entry e = grind (arith, nat_tests, filter-append)

  pub numbered : (opening : Opening) (before : List Entry) (call : Call) (entry : Entry) → IsEntryOf opening before caller call entry
      → number_of entry ≡ caller
  numbered opening before call entry is = grind (arith, nat_tests)

module _ (opening : Opening) (caller : ℕ) where
  -- calls of a caller with a longer front are calls of one with a shorter front
  pub made_from : (front before : List Entry) (calls : List Call) (h : List Entry) (passed : ℕ) → HasNoMore caller front before
      → AreMade opening caller before calls h passed → AreMade opening caller front calls h passed
  made_from front before [] h passed on m = (continues caller front before h on m.0, m.1)
  made_from front before (call ∷ calls) h passed on (inl m) = inl (m.0, m.1, continues caller front before m.0 on m.2, m.3, m.4)
  made_from front before (call ∷ calls) h passed on (inr m) = inr (m.0, m.1, continues caller front before m.0 on m.2, m.3, m.4, m.5)

  -- calls after calls
  made_both : (front : List Entry) (calls later : List Call) (mid h : List Entry) (p q : ℕ) → AreMade opening caller front calls mid p
      → AreMade opening caller mid later h q → AreMade opening caller front (calls ++ later) h (p + q)
  made_both front [] later mid h p q m n = grind (arith, nat_tests, made_from)
  made_both front (call ∷ calls) later mid h p q (inl m) n = grind (arith, nat_tests, made_both (m.0 ++ m.1 ∷ []) calls later mid h p q m.4 n)
  made_both front (call ∷ calls) later mid h p q (inr m) n = grind (arith, nat_tests, made_both m.0 calls later mid h m.1 q m.5 n)

  -- calls in a longer history without further entries of the caller
  pub made_on : (front : List Entry) (calls : List Call) (h k : List Entry) (passed : ℕ) → HasNoMore caller h k
      → AreMade opening caller front calls h passed → AreMade opening caller front calls k passed
  made_on front [] h k passed on m = (continues caller front h k m.0 on, m.1)
  made_on front (call ∷ calls) h k passed on (inl m) = inl (m.0, m.1, m.2, m.3, made_on (m.0 ++ m.1 ∷ []) calls h k passed on m.4)
  made_on front (call ∷ calls) h k passed on (inr m) = inr (m.0, m.1, m.2, m.3, m.4, made_on m.0 calls h k m.1 on m.5)

  -- there are no more entries than calls
  pub few_made : (front : List Entry) (calls : List Call) (h : List Entry) (passed : ℕ) → AreMade opening caller front calls h passed
      → length (entries_of caller h) ≤ length (entries_of caller front) + length calls
  few_made front [] h passed m = let same = m.0.1 in grind arith
  few_made front (call ∷ calls) h passed (inl m) = grind (arith, nat_tests, own_entry, numbered, length-append, few_made (m.0 ++ m.1 ∷ []) calls h passed m.4)
  few_made front (call ∷ calls) h passed (inr m) = grind (arith, nat_tests, few_made m.0 calls h m.1 m.5)

-- the element at the place at which the list is cut
one_at : {A : Type 0} (xs : List A) (k : ℕ) (x : A) → slice_get xs k ≡ Some x → take 1 (drop k xs) ≡ x ∷ []
one_at [] k x e = absurd (grind arith)
one_at (y ∷ xs) zero x e = ap (λ z. z ∷ []) (cc e)
one_at (y ∷ xs) (suc k) x e = one_at xs k x e

-- the new front of a caller with one number continues the old one
pub has_front : (link : LinkView) (number : ℕ) (before : CallerView) (history : List Entry) → IsAt link number before
    → Extends number_of before.first before.limit before.front history → HasNoMore number before.front history
has_front link number before history at on = rw (at.first, at.limit) at on

-- ---- refusals of a command

-- the refusal of a command whose result is a refusal
refused_why : (why : Option Refusal) (reply : Told Answer) (w : Refusal) → refused_or_answered why reply ≡ Err w → why ≡ Some w
refused_why why reply w e = grind (arith, nat_tests)

-- a refusal as too soon is one of the rules
pub too_soon_by_rule : (opening : Opening) (history : List Entry) (command : Command) (due : ℕ) → refusal_in opening history command ≡ Some (TooSoon due)
    → refusal_by_rule opening (events_in history) command ≡ Some (TooSoon due)
too_soon_by_rule opening history command due why = grind (arith, nat_tests)

pub full_after : (opening : Opening) (history : List Entry) (command : Command) (why : Refusal) → IsFair command → refusal_in opening history command ≡ Some why
    → ((d : ℕ) → why ≡ TooSoon d → ⊥) → min opening.limits.tail opening.limits.events ≤ length (events_in history)
full_after opening history command why fair is not_soon = grind (arith, nat_tests, length-drop)

-- ---- the calls of a turn

module _ (plan : Plan) (number : ℕ) where
  -- calls after a history are calls of a caller whose front is a prefix of it
  pub came_from : (front before : List Entry) (calls : List Call) (after : List Entry) (passed : Option ℕ) → HasNoMore number front before
      → IsOutcomeBy plan number before calls after passed → IsOutcomeBy plan number front calls after passed
  unfolding IsOutcomeBy
  came_from front before calls after passed on came = grind (arith, nat_tests, made_from)

  -- a front is this history
  shows : (h front : List Entry) → front ≡ h → HasNoMore number h front
  shows h front is = subst (λ (l : List Entry). HasNoMore number h l) (sym is) (stays number h)

  -- the entry of a call follows the history at once, or the call was skipped there
  one_made : (call : Call) (h : List Entry) (entry : Entry) (front : List Entry) → IsEntryOf (opening_of plan) h number call entry
      → front ≡ h ++ entry ∷ []
      → AreMade (opening_of plan) number h (call ∷ []) front 0
  one_made call h entry front is shown = inl (h, entry, stays number h, is, (shows (h ++ entry ∷ []) front shown, refl))

  one_passed : (call : Call) (h front : List Entry) → WasPassedOver (opening_of plan) h call → front ≡ h
      → AreMade (opening_of plan) number h (call ∷ []) front 1
  one_passed call h front was shown = inr (h, 0, stays number h, was, refl, (shows h front shown, refl))

  -- a refused command
  module _ (h front : List Entry) (command : Command) (its : IsCallOf plan number (Apply command)) (shown : front ≡ h) where
    cut_short : (why : Refusal) → refusal_in (opening_of plan) h command ≡ Some why → ((d : ℕ) → why ≡ TooSoon d → ⊥)
        → IsCutShort plan number h (Apply command ∷ []) front
    cut_short why because not_soon =
        subst (λ (l : List Entry). IsCutShort plan number h (Apply command ∷ []) l) (sym shown)
        (record { asks = its.0; full = full_after (opening_of plan) h command why its.1 because not_soon; fewer = omega arith })

    refused_by : (why : Refusal) → refusal_in (opening_of plan) h command ≡ Some why → IsOutcomeBy plan number h (Apply command ∷ []) front (added_by (Err why))
    unfolding IsOutcomeBy added_by
    refused_by (TooSoon due) because =
        one_passed (Apply command) h front (record { due = due; refused = too_soon_by_rule (opening_of plan) h command due because }) shown
    refused_by Moment because = cut_short Moment because (λ d e. cc e)
    refused_by Size because = cut_short Size because (λ d e. cc e)
    refused_by Exhausted because = cut_short Exhausted because (λ d e. cc e)
    refused_by HistoryFull because = cut_short HistoryFull because (λ d e. cc e)

module _ (plan : Plan) (number k : ℕ) (link : LinkView) (link_for : IsFor plan link) (before after : CallerView) (at : IsAt link number before) where
  -- the call of the caller after its first k
  abbrev Came : Option ℕ → Type 0
  Came passed = IsOutcomeBy plan number before.front (take 1 (drop k (calls_of plan number))) after.front passed

  one_came : (call : Call) (history : List Entry) (passed : Option ℕ) → slice_get (calls_of plan number) k ≡ Some call
      → Extends number_of before.first before.limit before.front history → IsOutcomeBy plan number history (call ∷ []) after.front passed → Came passed
  one_came call history passed there on came = grind (arith, nat_tests, one_at, came_from, has_front)

  pub asked_next : (command : Command) → slice_get (calls_of plan number) k ≡ Some (Apply command) → (answer : Result (Told Answer) Refusal)
      → Answers link before command answer after → Came (added_by answer)
  unfolding Answers IsOutcomeBy added_by
  asked_next command there (Ok reply) answers =
      let a = answers (opening_of plan) link_for.opened in
      let taken : IsTurn (opening_of plan) before _ _ after a.0 = a.1 in
      one_came (Apply command) a.0 (Some 0) there taken.from.continues
      (one_made plan number (Apply command) a.0 (Applied (event_of before.first command reply.answer)) after.front (at.first, refl)
      (ap (λ (c : CallerView). c.front) taken.has_front))
  asked_next command there (Err why) answers =
      let a = answers (opening_of plan) link_for.opened in
      let refused : IsTurn (opening_of plan) before _ _ after a.0 = a.1 in
      let its = all_at (IsCallOf plan number) (calls_of plan number) k (Apply command) (calls_are plan link_for.sound number) there in
      one_came (Apply command) a.0 (added_by (Err why)) there refused.from.continues
      (refused_by plan number a.0 after.front command its (ap (λ (c : CallerView). c.front) refused.has_front ∙ append-nil a.0) why
      (refused_why (refusal_in (opening_of plan) a.0 command) _ why (sym refused.has_result)))

  -- a fold, whose events the caller stores
  module _ (law : EntriesLookBack) (n : ℕ) (there : slice_get (calls_of plan number) k ≡ Some (Fold n)) (old new : List Event) where
    handed_before : (history : List Entry) → HasNoMore number before.front history → WereFolded plan number old before.front
        → WereFolded plan number old history
    handed_before history on had = had ∙ sym (folded_same law (opening_of plan) number before.front history on)

    pub folded_next : (passed : Option ℕ) (answer : Result (Told (Vec Event Global)) FoldRefusal) → Folds link before n answer after
        → TakenIn answer old new passed → Came passed × (WereFolded plan number old before.front → WereFolded plan number new after.front)
    unfolding Folds TakenIn IsOutcomeBy
    folded_next passed (Ok reply) answers kept =
        let a = answers (opening_of plan) link_for.opened in
        let made : IsTurn (opening_of plan) before _ _ after a.0 = a.1 in
        let on = has_front link number before a.0 at made.from.continues in
        let shown : after.front ≡ a.0 ++ Folded before.first n ∷ [] = ap (λ (c : CallerView). c.front) made.has_front in (
          subst Came (sym kept.1) (one_came (Fold n) a.0 (Some 0) there made.from.continues
              (one_made plan number (Fold n) a.0 (Folded before.first n) after.front (at.first, refl, made.has_result.held) shown)),
          λ had. cc (kept.0, handed_before a.0 on had, made.has_result.oldest, folded_more law (opening_of plan) number a.0 n before.first at.first, shown),
        )
    folded_next passed (Err (TooMany held)) answers kept =
        let a = answers (opening_of plan) link_for.opened in
        let refused : IsTurn (opening_of plan) before _ _ after a.0 = a.1 in
        let on = has_front link number before a.0 at refused.from.continues in
        let shown : after.front ≡ a.0 = ap (λ (c : CallerView). c.front) refused.has_front ∙ append-nil a.0 in (
          subst Came (sym kept.1) (one_came (Fold n) a.0 (Some 1) there refused.from.continues
              (one_passed plan number (Fold n) a.0 after.front (omega (arith, refused.has_result.0, refused.has_result.1)) shown)),
          λ had. cc (kept.0, handed_before a.0 on had, shown),
        )
    folded_next passed (Err Memory) answers kept = absurd kept

-- ---- from the first call to the last

module _ (plan : Plan) (number k : ℕ) (front : List Entry) (passed : ℕ)
    (made : AreMade (opening_of plan) number [] (take k (calls_of plan number)) front passed) where
  -- after its first k calls a caller made those of one more turn
  pub made_more : (n : ℕ) (after : List Entry) (more : ℕ) → IsOutcomeBy plan number front (take n (drop k (calls_of plan number))) after (Some more)
      → AreMade (opening_of plan) number [] (take (k + n) (calls_of plan number)) after (passed + more)
  unfolding IsOutcomeBy
  made_more n after more came = grind (arith, nat_tests, take-add, made_both)

  -- after its first k calls a caller stopped early
  pub came_cut : k ≤ length (calls_of plan number) → (n : ℕ) (after : List Entry)
      → IsCutShort plan number front (take n (drop k (calls_of plan number))) after → IsOutcomeOf plan number after passed
  unfolding IsOutcomeOf
  came_cut within n after cut = grind (arith, nat_tests, few_made, length-take, length-drop)

  -- a caller made all its calls
  pub came_of_all : k ≡ length (calls_of plan number) → IsOutcomeOf plan number front passed
  unfolding IsOutcomeOf
  came_of_all all = grind (arith, nat_tests, take-length)

-- an arrival is never too soon
arrives_in_time : (opening : Opening) (h : List Entry) (a : Arrival) (why : Refusal) → refusal_in opening h (arrive a) ≡ Some why
    → (d : ℕ) → why ≡ TooSoon d → ⊥
arrives_in_time opening h a why e d is = grind (arith, nat_tests)

module _ (law : EntriesLookBack) (plan : Plan) (caller : ℕ) where
  -- an arrival after a history, and the history after it
  abbrev reply_to : List Entry → Arrival → Reply
  reply_to g a = reply_in (opening_of plan) g (arrive a)

  abbrev grown : List Entry → Arrival → Reply → List Entry
  grown g a reply = g ++ entries_by caller (arrive a) reply

  -- several arrivals
  abbrev replies_to : List Entry → List Arrival → List Reply
  replies_to g [] = []
  replies_to g (a ∷ later) = reply_to g a ∷ replies_to (grown g a (reply_to g a)) later

  abbrev after_all : List Entry → List Arrival → List Entry
  after_all g [] = g
  after_all g (a ∷ later) = after_all (grown g a (reply_to g a)) later

  -- these are the link's results and its entries
  abbrev answered : List Entry → List Entry → List Arrival → List Reply
  answered h made burst = replies_within None always (opening_of plan) caller h made (map arrive burst)

  abbrev recorded : List Entry → List Entry → List Arrival → List Entry
  recorded h made burst = entries_within None always (opening_of plan) caller h made (map arrive burst)

  is_answered : (h made : List Entry) (burst : List Arrival) → (answered h made burst ≡ replies_to (h ++ made) burst)
      × (h ++ (made ++ recorded h made burst) ≡ after_all (h ++ made) burst)
  unfolding burst_within
  is_answered h made [] = (refl, ap (λ (l : List Entry). h ++ l) (append-nil made))
  is_answered h made (a ∷ later) =
      let reply = reply_to (h ++ made) a in
      let added = entries_by caller (arrive a) reply in
      let rest = is_answered h (made ++ added) later in
      let is : h ++ (made ++ added) ≡ grown (h ++ made) a reply = sym (append_assoc h made added) in (
        cc (rest.0, is),
        ap (λ (l : List Entry). h ++ l) (sym (append_assoc made added (recorded h (made ++ added) later)))
            ∙ (rest.1 ∙ ap (λ (g : List Entry). after_all g later) is),
      )

  -- the caller has at most `count` more entries, and no event is lost
  abbrev Grows : List Entry → ℕ → List Entry → Type 0
  Grows g count end =
      (length (entries_of caller end) ≤ length (entries_of caller g) + count) × (length (events_in g) ≤ length (events_in end))

  grows_by : (g : List Entry) (a : Arrival) (reply : Reply) → Grows g 1 (grown g a reply)
  grows_by g a reply = grind (arith, nat_tests, length-append, filter-append)

  grows : (g : List Entry) (burst : List Arrival) → Grows g (length burst) (after_all g burst)
  grows g [] = (omega arith, omega arith)
  grows g (a ∷ later) = grind (arith, nat_tests, grows_by, grows (grown g a (reply_to g a)) later)

  -- an arrival, followed by those after it
  first_came : (g end : List Entry) (a : Arrival) (later : List Call) (replies : List Reply) (passed : Option ℕ) (reply : Reply)
      → reply_to g a ≡ reply → IsCallOf plan caller (arriving a) → Grows (grown g a reply) (length later) end
      → (AddedByAll replies passed → IsOutcomeBy plan caller (grown g a reply) later end passed) → AddedByAll (reply ∷ replies) passed
      → IsOutcomeBy plan caller g (arriving a ∷ later) end passed
  unfolding IsOutcomeBy
  first_came g end a later replies (Some p) (Ok reply) is its more so (inl all) =
      inl (g, Applied (event_of caller (arrive a) reply.answer), stays caller g, (refl, refl), so (inl (All-tail IsOk (Ok reply) replies all.0, all.1)))
  first_came g end a later replies None (Ok reply) is its more so (inr not_all) =
      let cut = so (inr ((λ all. not_all.0 (All-cons IsOk (Ok reply) replies refl all)), refl)) in
      record { asks = cut.asks; full = cut.full; fewer = omega (arith, cut.fewer, (grows_by g a (Ok reply)).0) }
  first_came g end a later replies None (Err why) is its more so (inr not_all) =
      let refused : refusal_in (opening_of plan) g (arrive a) ≡ Some why = refused_why (refusal_in (opening_of plan) g (arrive a)) (record {
        answer = decision (opening_of plan) (events_in g) (arrive a);
        number = length (events_in g) + 1;
      }) why is in
      let same = append-nil g in record {
        asks = its.0;
        full = omega (
          arith,
          full_after (opening_of plan) g (arrive a) why its.1 refused (arrives_in_time (opening_of plan) g a why refused),
          more.1,
          ap (λ (l : List Entry). length (events_in l)) same,
        );
        fewer = omega (arith, more.0, ap (λ (l : List Entry). length (entries_of caller l)) same);
      }
  first_came g end a later replies None (Ok reply) is its more so (inl all) = absurd (cc all.1)
  first_came g end a later replies (Some p) (Ok reply) is its more so (inr not_all) = absurd (cc not_all.1)
  first_came g end a later replies passed (Err why) is its more so (inl all) = absurd (cc (All-head IsOk (Err why) replies all.0))
  first_came g end a later replies (Some p) (Err why) is its more so (inr not_all) = absurd (cc not_all.1)

  burst_came : (g : List Entry) (burst : List Arrival) (passed : Option ℕ) → All (IsCallOf plan caller) (map arriving burst)
      → AddedByAll (replies_to g burst) passed → IsOutcomeBy plan caller g (map arriving burst) (after_all g burst) passed
  unfolding IsOutcomeBy
  burst_came g [] (Some p) its (inl all) = (stays caller g, cc all.1)
  burst_came g [] None its (inl all) = absurd (cc all.1)
  burst_came g [] passed its (inr not_all) = absurd (not_all.0 (All-nil IsOk))
  burst_came g (a ∷ later) passed its added =
      let reply = reply_to g a in
      let now = grown g a reply in
      let rest = grows now later in
      first_came g (after_all now later) a (map arriving later) (replies_to now later) passed reply refl
      (All-head (IsCallOf plan caller) (arriving a) (map arriving later) its)
      (omega (arith, rest.0, length-map later arriving), rest.1)
      (burst_came now later passed (All-tail (IsCallOf plan caller) (arriving a) (map arriving later) its)) added

pub burst_next : (law : EntriesLookBack) (plan : Plan) (number k n : ℕ) (link : LinkView) → IsFor plan link → (before after : CallerView)
    → IsAt link number before → (burst : List Arrival) (replies : List Reply) → 1 ≤ n → length burst ≡ n
    → map arriving burst ≡ take n (drop k (calls_of plan number)) → AnswersAll always link before (map arrive burst) [] replies after
    → (passed : Option ℕ) → AddedByAll replies passed
    → IsOutcomeBy plan number before.front (take n (drop k (calls_of plan number))) after.front passed
unfolding AnswersWithin
burst_next law plan number k n link link_for before after at [] replies some long is answers passed added = absurd (omega (arith, some, long))
burst_next law plan number k n link link_for before after at (a ∷ later) replies some long is answers passed added =
    let b = answers (opening_of plan) link_for.opened in
    let burst = a ∷ later in
    let turn : IsTurn (opening_of plan) before _ _ after b.0 = b.1 in
    let same = is_answered law plan number b.0 [] burst in
    let h = b.0 ++ [] in
    let none : h ≡ b.0 = append-nil b.0 in
    let Its = IsCallOf plan number in
    let its = subst (All Its) (sym is)
    (All-take Its n (drop k (calls_of plan number)) (All-drop Its k (calls_of plan number) (calls_are plan link_for.sound number))) in
    let front_is : after.front ≡ after_all law plan number h burst =
    ap (λ (c : CallerView). c.front) turn.has_front ∙ ap (λ (first : ℕ). b.0 ++ recorded law plan first b.0 [] burst) at.first ∙ same.1 in
    let replies_are : replies ≡ replies_to law plan number h burst =
    turn.has_result ∙ ap (λ (first : ℕ). answered law plan first b.0 [] burst) at.first ∙ same.0 in
    subst (λ (calls : List Call). IsOutcomeBy plan number before.front calls after.front passed) is
    (came_from plan number before.front h (map arriving burst) after.front passed
    (subst (λ (g : List Entry). HasNoMore number before.front g) (sym none) (has_front link number before b.0 at turn.from.continues))
    (subst (λ (g : List Entry). IsOutcomeBy plan number h (map arriving burst) g passed) (sym front_is)
    (burst_came law plan number h burst passed its (subst (λ (l : List Reply). AddedByAll l passed) replies_are added))))

-- no arrival of a burst is skipped
pub few_by_all : (replies : List Reply) (passed : Option ℕ) → AddedByAll replies passed → IfSome passed (λ n. n ≤ 1)
few_by_all replies passed added = grind (arith, nat_tests)
