-- Names of lower crates that the files of this folder import.
-- Entries under the numbers of a range, and the seats against one history: if numbers are split, if the history grows,
-- and if two passes become one.
pub use Rattle.atomic_table.proofs.Lists.{at_longer, at_set, exchanged, set_again, set_else}
pub use Rattle.atomic_table.specs.Table.{Act, Allows, Joins, Me, Splits, State, Valid, carried_after, gives, keeps, opening, rest, step, stepped, takes}
pub use Rattle.pie_lock.specs.Rule.{is_within, own, Agreed, EachPass, Follows, IsNumberAt, IsNumberOf, IsSeated, Ruled, WhileFree, WhileHeld, opened, IsIdle, IsLeaving, AreAdjacent, Extends, HasAll, Won, all_but_highest, freed, highest, longer, looked, made_one, meeting, merged, pass_at, taken, with_front, with_numbers}
pub use Rattle.pie_lock.specs.declared.entries.SeatKnowledge.{SeatKnowledge}
pub use Rattle.pie_lock.specs.declared.entries.SeatKnowledge.TheVariants.{Holds, HasTwo, Spent, Idle}
pub use Rattle.pie_lock.specs.declared.entries.PassKnowledge.{PassKnowledge}
pub use Rattle.std.proofs.Common.{Bool, List, None, Option, Some, [], ap, append_assoc, arith, cond, false, get_or, get_or-set_same, inl, inr, length, length-set, max, min, refl, rules, set, subst, suc, sym, true, zero, ℕ, ⊎_elim, ◌++◌, ◌+◌, ◌-◌, ◌<◌, ◌==◌, ◌∙◌, ◌∷◌, ◌≡◌, ◌≢◌, ◌≤◌, ◌⊎◌}
pub use Rattle.std.proofs.lemmas.Bool.Decides.{nat_tests}
pub use Rattle.std.proofs.lemmas.List.{append-nil, append_cancel_left}
pub use Rattle.std.proofs.lemmas.List.Elements.{All-append, All-cons, All-drop, All-head, All-nil, All-tail, All-take, filter-append}
pub use Rattle.std.specs.List.{All}
use Rattle.std.proofs.Math.Seq.{take-append_seam, drop-append_seam}
use Rattle.std.proofs.Math.Dec.{ltb}
use lib.ListN.{get_elem?}
use mathlib.Core.Option.{some, none}
use prog.Atomic.{either}

-- of two prefixes of one list the shorter is a prefix of the longer, and its rest begins with the part between
pub between : {A : Type 0} (xs r ys s : List A) → xs ++ r ≡ ys ++ s → length xs ≤ length ys → (m : List A) × (xs ++ m ≡ ys) × (r ≡ m ++ s)
between [] r ys s e le = (ys, refl, e)
between (x ∷ xs) r [] s e le = absurd (omega arith)
between (x ∷ xs) r (y ∷ ys) s e le = grind (arith, nat_tests, between xs r ys s (cc (e)) (omega arith))

pub all_parts : {A : Type 0} (P : A → Type 0) (xs ys : List A) → All P (xs ++ ys) → All P xs × All P ys
all_parts P xs ys all = (
  subst (All P) (take-append_seam xs ys) (All-take P (length xs) (xs ++ ys) all),
  subst (All P) (drop-append_seam xs ys) (All-drop P (length xs) (xs ++ ys) all),
)

module _ {E : Type 0} (number : E → ℕ) (first limit : ℕ) where
  -- none of these entries has a number of the range
  abbrev pub NoneOwn : List E → Type 0
  NoneOwn entries = All (λ e. is_within first limit (number e) ≡ false) entries

  abbrev mine : List E → List E
  mine entries = own number first limit entries

  pub own_none : (entries : List E) → NoneOwn entries → mine entries ≡ []
  own_none [] absent = refl
  own_none (e ∷ rest) absent =
      let out = All-head (λ x. is_within first limit (number x) ≡ false) e rest absent in
      let nothing = own_none rest (All-tail (λ x. is_within first limit (number x) ≡ false) e rest absent) in
      grind (arith, nat_tests)

  none_own : (entries : List E) → mine entries ≡ [] → NoneOwn entries
  none_own [] absent = All-nil (λ e. is_within first limit (number e) ≡ false)
  none_own (e ∷ rest) absent = grind (arith, nat_tests, none_own rest (grind (arith, nat_tests)))

  -- a history continues a front if it begins with it and no further entry has one of its numbers
  pub goes_on : (front rest history : List E) → front ++ rest ≡ history → NoneOwn rest → Extends number first limit front history
  goes_on front rest history is absent = grind (arith, nat_tests, own_none, filter-append, append-nil)

  pub gone_on : (front history : List E) → Extends number first limit front history → (rest : List E) × (front ++ rest ≡ history) × NoneOwn rest
  gone_on front history on =
      let shown = on.0.1 in
      let same = on.1 in
      let cut = filter-append (λ e. is_within first limit (number e)) front on.0.0 in
      (on.0.0, on.0.1, none_own on.0.0 (append_cancel_left (mine front) (mine on.0.0) [] (grind (arith, append-nil))))

  pub goes_on_itself : (front : List E) → Extends number first limit front front
  goes_on_itself front = (([], append-nil front), refl)

-- ---- the seats against one history

-- ---- places of lists

module _ {A : Type 0} where
  -- an element that was set is read back
  pub set_at : (l : List A) (i : ℕ) (a b : A) → get_elem? l i ≡ some b → get_elem? (set l i a) i ≡ some a
  set_at [] i a b e = absurd (grind arith)
  set_at (x ∷ xs) zero a b e = refl
  set_at (x ∷ xs) (suc i) a b e = set_at xs i a b e

  -- the other elements are unchanged
  pub set_beside : (l : List A) (i j : ℕ) (a b c : A) → get_elem? l i ≡ some b → get_elem? l j ≡ some c → (b ≡ c → ⊥) → get_elem? (set l i a) j ≡ some c
  set_beside l i j a b c at there other = grind (arith, nat_tests, set_else)

  -- an element of a list with one more element is one of the list, or the last one
  at_end : (l : List A) (a b : A) (j : ℕ) → get_elem? (l ++ a ∷ []) j ≡ some b → (get_elem? l j ≡ some b) ⊎ ((j ≡ length l) × (a ≡ b))
  at_end [] a b zero e = grind arith
  at_end [] a b (suc j) e = grind arith
  at_end (x ∷ xs) a b zero e = inl e
  at_end (x ∷ xs) a b (suc j) e = let rest = at_end xs a b j e in grind arith

-- ---- numbers of ranges

-- a number that is in neither range is not between their ends
in_neither : (a b c d n : ℕ) → (b ≡ c) ⊎ (d ≡ a) → a < b → c < d → is_within a b n ≡ false → is_within c d n ≡ false
    → is_within (min a c) (max b d) n ≡ false
in_neither a b c d n adjacent left right p q = grind (arith, nat_tests)

in_fewer : (a b first limit n : ℕ) → a ≤ first → limit ≤ b → is_within a b n ≡ false → is_within first limit n ≡ false
in_fewer a b first limit n low high out = grind (arith, nat_tests)

is_other : (first limit k n : ℕ) → n ≡ k → ((first ≤ k) × (k < limit) → ⊥) → is_within first limit n ≡ false
is_other first limit k n is not = grind (arith, nat_tests)

module _ {E O : Type 0} (number : E → ℕ) (origin : O) (numbers : ℕ) where
  abbrev Fits : List E → PassKnowledge E O → Type 0
  Fits history p = Follows number origin numbers history p

  -- ---- one pass

  -- a pass with the same knowledge of the lock
  follows : (history next : List E) (p q : PassKnowledge E O) → Fits history p → q.numbers ≡ p.numbers → q.origin ≡ p.origin
      → Extends number q.first q.limit q.front next → q.first < q.limit → q.limit ≤ numbers → Fits next q
  follows history next p q f same from on left low = grind (arith, nat_tests)

  -- a pass with some of the numbers
  pub follows_fewer : (history : List E) (p : PassKnowledge E O) (first limit : ℕ) → Fits history p → p.first ≤ first → limit ≤ p.limit → first < limit
      → Fits history (with_numbers p first limit)
  follows_fewer history p first limit f low high some_left =
      let on = gone_on number p.first p.limit p.front history (f.front_is_prefix, f.owned) in
      follows history history p (with_numbers p first limit) f refl refl
      (goes_on number first limit p.front on.0 history on.1
      (λ k d within. in_fewer p.first p.limit first limit (number (get_or on.0 k d)) low high (on.2 k d within))) some_left
      (let b = f.below in omega arith)

  -- a pass whose front is the whole history
  pub follows_whole : (history : List E) (p : PassKnowledge E O) → Fits history p → (next : List E) → Fits next (with_front p next)
  follows_whole history p f next =
      follows history next p (with_front p next) f refl refl (goes_on_itself number p.first p.limit next) f.nonempty f.below

  -- with all numbers its holder has seen the whole history
  pub all_shown : (history : List E) (p : PassKnowledge E O) → Fits history p → All (λ e. number e < numbers) history → HasAll p → history ≡ p.front
  all_shown history p f low all =
      let on = gone_on number p.first p.limit p.front history (f.front_is_prefix, f.owned) in
      let rest_low = all_parts (λ e. number e < numbers) p.front on.0 (subst (All (λ e. number e < numbers)) (sym on.1) low) in
      sym on.1 ∙ (ap (λ l. p.front ++ l) (nothing on.0 on.2 rest_low.1) ∙ append-nil p.front)
    where
      nothing : (rest : List E) → NoneOwn number p.first p.limit rest → All (λ e. number e < numbers) rest → rest ≡ []
      nothing [] absent below = refl
      nothing (e ∷ rest) absent below =
          let out : is_within p.first p.limit (number e) ≡ false = absent 0 e (omega arith) in
          let less : number e < numbers = below 0 e (omega arith) in
          let a = all.0 in let b = all.1 in let c = f.of_all in absurd (grind (arith, nat_tests))

  -- the history grows by entries of other passes
  follows_longer : (history : List E) (k : ℕ) (p : PassKnowledge E O) (added : List E) → All (λ e. number e ≡ k) added → Fits history p
      → (IsNumberOf p k → ⊥) → Fits (history ++ added) p
  follows_longer history k p added is f not =
      let on = gone_on number p.first p.limit p.front history (f.front_is_prefix, f.owned) in
      follows history (history ++ added) p p f refl refl
      (goes_on number p.first p.limit p.front (on.0 ++ added) (history ++ added)
      (sym (append_assoc p.front on.0 added) ∙ ap (λ l. l ++ added) on.1)
      (All-append (λ e. is_within p.first p.limit (number e) ≡ false) on.0 added on.2
      (λ i d within. is_other p.first p.limit k (number (get_or added i d)) (is i d within) not))) f.nonempty f.below

  pub each_longer : (history : List E) (k : ℕ) (u : SeatKnowledge E O) (added : List E) → All (λ e. number e ≡ k) added
      → EachPass (Follows number origin numbers history) u → (IsNumberAt u k → ⊥)
      → EachPass (Follows number origin numbers (history ++ added)) u
  each_longer history k Spent added is f not = tt
  each_longer history k (Idle p) added is f not = follows_longer history k p added is f not
  each_longer history k (Holds p) added is f not = follows_longer history k p added is f not
  each_longer history k (HasTwo p q) added is f not =
      (follows_longer history k p added is f.0 (λ h. not (inl h)), follows_longer history k q added is f.1 (λ h. not (inr h)))

  pub below_longer : (history : List E) (k : ℕ) (added : List E) → All (λ e. number e ≡ k) added → k < numbers
      → All (λ e. number e < numbers) history
      → All (λ e. number e < numbers) (history ++ added)
  below_longer history k added is low all =
      All-append (λ e. number e < numbers) history added all (λ i d within. let mine = is i d within in omega arith)

  -- ---- two passes

  -- the longer of two fronts continues the shorter, and the history the longer, under the numbers of both
  longer_facts : (history : List E) (p q : PassKnowledge E O) → Fits history p → Fits history q → AreAdjacent p q → length p.front ≤ length q.front
      → Extends number (min p.first q.first) (max p.limit q.limit) q.front history × Extends number p.first p.limit p.front q.front
  longer_facts history p q f g adjacent less =
      let a = gone_on number p.first p.limit p.front history (f.front_is_prefix, f.owned) in
      let b = gone_on number q.first q.limit q.front history (g.front_is_prefix, g.owned) in
      let m = between p.front a.0 q.front b.0 (a.1 ∙ sym b.1) less in
      let out = all_parts (λ e. is_within p.first p.limit (number e) ≡ false) m.0 b.0 (subst (NoneOwn number p.first p.limit) m.2 a.2) in (
        goes_on number (min p.first q.first) (max p.limit q.limit) q.front b.0 history b.1
            (λ k d within. in_neither p.first p.limit q.first q.limit (number (get_or b.0 k d)) adjacent f.nonempty g.nonempty (out.1 k d within)
            (b.2 k d within)),
        goes_on number p.first p.limit p.front m.0 q.front m.1 out.0,
      )

  -- two passes with adjacent ranges become one, and the longer front continues both
  pub follows_both : (history : List E) (p q : PassKnowledge E O) → Fits history p → Fits history q → AreAdjacent p q
      → Fits history (made_one p q) × Extends number p.first p.limit p.front (longer p.front q.front)
      × Extends number q.first q.limit q.front (longer p.front q.front)
  follows_both history p q f g adjacent =
      let on = by_length (ltb (length p.front) (length q.front)) refl in
      let low = f.nonempty in let high = g.nonempty in let a = f.below in let b = g.below in
      (follows history history p (made_one p q) f refl refl on.0 (omega arith) (omega arith), on.1, on.2)
    where
      by_length : (b : Bool) → ltb (length p.front) (length q.front) ≡ b
          → Extends number (min p.first q.first) (max p.limit q.limit) (cond b q.front p.front) history
          × Extends number p.first p.limit p.front (cond b q.front p.front) × Extends number q.first q.limit q.front (cond b q.front p.front)
      by_length true is =
          let l = longer_facts history p q f g adjacent (grind (arith, nat_tests)) in (l.0, l.1, goes_on_itself number q.first q.limit q.front)
      by_length false is =
          let l = longer_facts history q p g f (⊎_elim inr inl adjacent) (grind (arith, nat_tests)) in
          let from : min q.first p.first ≡ min p.first q.first = omega arith in
          let to : max q.limit p.limit ≡ max p.limit q.limit = omega arith in
          (rw (from, to) at l.0, goes_on_itself number p.first p.limit p.front, l.1)

  -- ---- all seats

  -- the view of one seat changes, and perhaps the history, the holder and the owners of numbers
  pub agreed_set : (next : List E) (holder : Option ℕ) (owner : ℕ → ℕ) (views : List (SeatKnowledge E O)) (id : ℕ) (w : SeatKnowledge E O)
      → IsSeated number origin numbers next holder owner id w
      → ((j : ℕ) (u : SeatKnowledge E O) → j ≢ id → get_elem? views j ≡ some u → IsSeated number origin numbers next holder owner j u)
      → All (λ e. number e < numbers) next → Agreed number origin numbers next holder owner (set views id w)
  agreed_set next holder owner views id w mine others below = record {
    seated = λ j u e. ⊎_elim
        (λ t. rw (t.0, ← t.1) mine)
        (λ t. others j u t.0 t.1) (at_set views id j w u e);
    entries_below = below;
  }

  -- a new seat is added
  pub agreed_longer : (history : List E) (holder : Option ℕ) (owner : ℕ → ℕ) (views : List (SeatKnowledge E O)) (w : SeatKnowledge E O)
      → Agreed number origin numbers history holder owner views → IsSeated number origin numbers history holder owner (length views) w
      → Agreed number origin numbers history holder owner (views ++ w ∷ [])
  agreed_longer history holder owner views w agreed new = record {
    seated = λ j u e. ⊎_elim (agreed.seated j u)
        (λ t. rw (t.0, ← t.1) new) (at_end views w u j e);
    entries_below = agreed.entries_below;
  }

-- Each step on the lock's word, each split and each join keeps the rule.

-- writing the only word again changes nothing
word_again : (words : List ℕ) → length words ≡ 1 → set words 0 (get_or words 0 0) ≡ words
word_again (x ∷ []) e = refl
word_again _ e = absurd (grind arith)

alone : {A : Type 0} (v w : A) (seat : ℕ) → get_elem? (v ∷ []) seat ≡ some w → (seat ≡ 0) × (v ≡ w)
alone v w seat e = (grind arith, grind arith)

-- the numbers for which the test gives this value have the new owner, and the others are unchanged
unfoldable given : (ℕ → ℕ) → (ℕ → ℕ) → ℕ → ℕ → ℕ → ℕ
given owner test value new n = cond (test n == value) new (owner n)

given_new : (owner test : ℕ → ℕ) (value new n : ℕ) → test n ≡ value → given owner test value new n ≡ new
unfolding given
given_new owner test value new n is = grind (arith, nat_tests)

given_else : (owner test : ℕ → ℕ) (value new n : ℕ) → (test n ≡ value → ⊥) → given owner test value new n ≡ owner n
unfolding given
given_else owner test value new n other = grind (arith, nat_tests)

module _ {S E O : Type 0} (number : E → ℕ) (origin_of : S → O) (represents_list : S → List E → Type 0) (origin : O) (numbers : ℕ) where
  abbrev Table : Type 0
  Table = State (Option S) (SeatKnowledge E O)

  abbrev Rule : Table → Type 0
  Rule s = Ruled number origin_of represents_list origin numbers s

  abbrev IsFree : List E → Option ℕ → Table → Type 0
  IsFree history holder s = WhileFree number origin_of represents_list origin numbers history holder s

  abbrev IsHeld : Option ℕ → Table → Type 0
  IsHeld holder s = WhileHeld number origin_of represents_list origin numbers holder s

  abbrev Sits : List E → Option ℕ → (ℕ → ℕ) → ℕ → SeatKnowledge E O → Type 0
  Sits history holder owner seat view = IsSeated number origin numbers history holder owner seat view

  -- ---- the opening

  pub opens : (first stored : S) (slots : List (Option S)) → slots ≡ Some stored ∷ [] → stored ≡ first → origin_of first ≡ origin → represents_list first []
      → numbers ≢ 0 → Rule (opening (0 ∷ []) slots (opened origin numbers))
  opens first stored slots only is from represents some_numbers =
      let agreed : Agreed number origin numbers [] None (λ n. 0) (opened origin numbers ∷ []) = record {
        seated = λ seat w e. let t = alone (opened origin numbers) w seat e in
            subst (Sits [] None (λ n. 0) seat) t.1 (grind (arith, (goes_on_itself number 0 numbers []).0));
        entries_below = All-nil (λ e. number e < numbers);
      } in
      rw only (refl, ([], None, λ n. 0, agreed, inl (refl, refl, (stored, refl, ap origin_of is ∙ from, subst (λ s. represents_list s []) (sym is) represents))))

  -- ---- a look at the word, and the exchange of FREE for HELD, won or lost

  wins : (id : ℕ) (p : PassKnowledge E O) (s : Table) → Rule s → get_elem? s.views id ≡ some (Idle p) → get_or s.words 0 0 ≡ 0
      → (w : SeatKnowledge E O) × (a : Act (Option S)) × Valid s.homes [] a × Rule (stepped s 0 1 id [] w a)
      × Won number origin_of represents_list p (w, carried_after [] a)
  wins id p s rule at hit =
      let history : List E = rule.1.0 in
      let agreed : Agreed number origin numbers history rule.1.1 rule.1.2 s.views = rule.1.3 in
      let free : IsFree history rule.1.1 s = ⊎_elim (λ t. t) (λ held. let one = held.0 in absurd (omega arith)) rule.1.4 in
      let w : SeatKnowledge E O = Holds (with_front p history) in
      let f : Follows number origin numbers history p = (agreed.seated id (Idle p) at).follows in
      let now = agreed_set number origin numbers history (Some id) rule.1.2 s.views id w
      (let mine = agreed.seated id (Idle p) at in grind (arith, follows_whole number origin numbers history p f history))
      (λ j u ne e. let a = agreed.seated j u e in grind arith) agreed.entries_below in
      let held : IsHeld (Some id) (stepped s 0 1 id [] w (takes 0 (Some free.2.0))) = (
        (let one = rule.0 in grind (arith, get_or-set_same)),
        (id, with_front p history, refl, set_at s.views id w (Idle p) at),
        set_at s.homes 0 none (some (Some free.2.0)) free.2.1,
      ) in
      let shown = all_shown number origin numbers history p f agreed.entries_below in (
        w,
        takes 0 (Some free.2.0),
        free.2.1,
        (length-set s.words 0 1 ∙ rule.0, (history, Some id, rule.1.2, now, inr held)),
        (free.2.0, history, refl, (f.front_is_prefix, f.owned), cc (f.of_origin, free.2.2), free.2.3, rw f.of_all agreed.entries_below, shown),
      )

  -- if a seat has all numbers, no other seat has the state
  not_all : (id : ℕ) (p : PassKnowledge E O) (s : Table) → Rule s → get_elem? s.views id ≡ some (Idle p) → get_or s.words 0 0 ≢ 0 → HasAll p → ⊥
  not_all id p s rule at ne all =
      let agreed : Agreed number origin numbers rule.1.0 rule.1.1 rule.1.2 s.views = rule.1.3 in
      let mine : Sits rule.1.0 rule.1.1 rule.1.2 id (Idle p) = agreed.seated id (Idle p) at in
      ⊎_elim (λ free. ne free.0) (λ held.
      let its : Sits rule.1.0 rule.1.1 rule.1.2 held.1.0 (Holds held.1.1) = agreed.seated held.1.0 (Holds held.1.1) held.1.3 in
      grind (arith, mine.owned held.1.1.first, its.owned held.1.1.first)) rule.1.4

  -- a step that leaves the word leaves the rest
  stays : (id : ℕ) (p : PassKnowledge E O) (s : Table) → Rule s → get_elem? s.views id ≡ some (Idle p)
      → Rule (stepped s 0 (get_or s.words 0 0) id [] (Idle p) keeps)
  stays id p s rule at = grind (arith, nat_tests, word_again, set_again)

  pub looks_keep : (slots id : ℕ) (me : Me (Option S) (SeatKnowledge E O)) → IsIdle me
      → Allows Rule slots id me 0 (λ n. n) (looked (step slots 0 0 0 none) me)
  looks_keep slots id me idle = rw idle (λ s rule sized at wide.
      let p : PassKnowledge E O = pass_at me.0 in (Idle p, keeps, tt, stays id p s rule at, (refl, not_all id p s rule at)))

  pub takes_keep : (slots id : ℕ) (me : Me (Option S) (SeatKnowledge E O)) → IsIdle me
      → Allows Rule slots id me 0 (λ n. either (n == 0) 1 n) (taken number origin_of represents_list (step slots 0 0 1 none) me)
  takes_keep slots id me idle = rw idle (λ s rule sized at wide.
      let n : ℕ = get_or s.words 0 0 in
      let p : PassKnowledge E O = pass_at me.0 in
      exchanged n 0 1 (λ k. (w : SeatKnowledge E O) × (a : Act (Option S)) × Valid s.homes [] a × Rule (stepped s 0 k id [] w a)
      × taken number origin_of represents_list (step slots 0 0 1 none) (Idle p, []) n (w, carried_after [] a))
      (λ hit. let won = wins id p s rule at hit in (won.0, won.1, won.2, won.3, (λ _. won.4, λ ne. absurd (ne hit))))
      (λ miss. (Idle p, keeps, tt, stays id p s rule at, (λ e. absurd (miss e), λ ne. (refl, not_all id p s rule at ne)))))

  -- ---- the store of FREE, by the seat that has the state

  -- the fact that the store of FREE gives a seat with this pass and state
  abbrev Frees : ℕ → ℕ → List E → Me (Option S) (SeatKnowledge E O) → Type 0
  Frees slots id added me = Allows Rule slots id me 0 (λ _. 0) (λ _. freed added (step slots 0 0 0 none) me 0)

  frees : (slots id : ℕ) (p : PassKnowledge E O) (stored : S) (added : List E) → p.origin ≡ Some (origin_of stored)
      → represents_list stored (p.front ++ added) → All (λ e. number e ≡ p.first) added → Frees slots id added (Holds p, (0, Some stored) ∷ [])
  frees slots id p stored added from represents own s rule sized at wide =
      let history : List E = rule.1.0 in
      let agreed : Agreed number origin numbers history rule.1.1 rule.1.2 s.views = rule.1.3 in
      let mine : Sits history rule.1.1 rule.1.2 id (Holds p) = agreed.seated id (Holds p) at in
      let has = mine.holds p refl in
      let held : IsHeld rule.1.1 s = ⊎_elim (λ free. absurd (cc (free.1, has.0))) (λ h. h) rule.1.4 in
      let f : Follows number origin numbers history p = mine.follows in
      let next : List E = p.front ++ added in
      let next_is : history ++ added ≡ next = ap (λ l. l ++ added) (sym has.1) in
      let w : SeatKnowledge E O = Idle (with_front p next) in
      let low = f.nonempty in
      let high = f.below in
      let now = agreed_set number origin numbers next None rule.1.2 s.views id w (grind (arith, follows_whole number origin numbers history p f next))
      (λ j u ne e.
      let a = agreed.seated j u e in
      let on : EachPass (Follows number origin numbers next) u = rw (← next_is) (each_longer number origin numbers history p.first u added own a.follows
      (λ h. ne (sym (a.owned p.first h) ∙ mine.owned p.first (omega arith, omega arith)))) in grind arith)
      (rw (← next_is) (below_longer number origin numbers history p.first added own (omega arith) agreed.entries_below)) in
      let free : IsFree next None (stepped s 0 0 id ((0, Some stored) ∷ []) w gives) = (
        get_or-set_same s.words 0 0 0 (let one = rule.0 in omega arith),
        refl,
        (stored, set_at s.homes 0 (some (Some stored)) none held.2, cc (from, f.of_origin), represents),
      ) in
      (w, gives, tt, (length-set s.words 0 0 ∙ rule.0, (next, None, rule.1.2, now, inl free)), refl)

  pub frees_keep : (slots id : ℕ) (me : Me (Option S) (SeatKnowledge E O)) (stored : S) (named added : List E) → named ≡ added
      → IsLeaving number origin_of represents_list added stored me → Frees slots id named me
  frees_keep slots id me stored named added same leaving =
      rw (same, leaving.holds) (frees slots id (pass_at me.0) stored added leaving.origin leaving.represents leaving.own)

  -- ---- seats that are split and joined: the word and the slot stay, and so does who has the state

  same_word : (s : Table) (views : List (SeatKnowledge E O)) (history : List E) (holder : Option ℕ) → IsFree history holder s ⊎ IsHeld holder s
      → ((j : ℕ) (q : PassKnowledge E O) → get_elem? s.views j ≡ some (Holds q) → get_elem? views j ≡ some (Holds q))
      → IsFree history holder (record { words = s.words; homes = s.homes; views = views })
      ⊎ IsHeld holder (record { words = s.words; homes = s.homes; views = views })
  same_word s views history holder now keeps_it = grind arith

  pub splits_keep : (id : ℕ) (v : SeatKnowledge E O) → v ≡ Idle (pass_at v) → (pass_at v).first + 1 < (pass_at v).limit
      → Splits Rule id v (all_but_highest v) (highest v)
  splits_keep id v is two = rw is (λ s rule at.
      let p : PassKnowledge E O = pass_at v in
      let history : List E = rule.1.0 in
      let agreed : Agreed number origin numbers history rule.1.1 rule.1.2 s.views = rule.1.3 in
      let mine : Sits history rule.1.1 rule.1.2 id (Idle p) = agreed.seated id (Idle p) at in
      let f : Follows number origin numbers history p = mine.follows in
      let last : ℕ = p.limit - 1 in
      let new : ℕ = length s.views in
      let left : SeatKnowledge E O = Idle (with_numbers p p.first last) in
      let right : SeatKnowledge E O = Idle (with_numbers p last p.limit) in
      let views : List (SeatKnowledge E O) = set s.views id left in
      let owner : ℕ → ℕ = given rule.1.2 (λ n. n) last new in
      let cut : Agreed number origin numbers history rule.1.1 owner views = agreed_set number origin numbers history rule.1.1 owner s.views id left
      (grind (arith, given_else, follows_fewer number origin numbers history p p.first last f (omega arith) (omega arith) (omega arith)))
      (λ j u ne e. let a = agreed.seated j u e in grind (arith, given_else)) agreed.entries_below in
      let all = agreed_longer number origin numbers history rule.1.1 owner views right cut
      (grind (arith, given_new, length-set, follows_fewer number origin numbers history p last p.limit f (omega arith) (omega arith) (omega arith))) in
      let now = same_word s (views ++ right ∷ []) history rule.1.1 rule.1.4
      (λ j q e. at_longer views (right ∷ []) j (Holds q) (set_beside s.views id j left (Idle p) (Holds q) at e (λ h. cc h))) in
      (rule.0, (history, rule.1.1, owner, all, now)))

  -- the load of a seat with two passes

  pub merges_keep : (slots id : ℕ) (me : Me (Option S) (SeatKnowledge E O)) (p q : PassKnowledge E O) → AreAdjacent p q
      → ◌≡◌ {A = Me (Option S) (SeatKnowledge E O)} me (HasTwo p q, [])
      → Allows Rule slots id me 0 (λ n. n) (merged number (step slots 0 0 0 none) me)
  merges_keep slots id me p q adjacent is = rw is (λ s rule sized at wide.
      let history : List E = rule.1.0 in
      let agreed : Agreed number origin numbers history rule.1.1 rule.1.2 s.views = rule.1.3 in
      let mine : Sits history rule.1.1 rule.1.2 id (HasTwo p q) = agreed.seated id (HasTwo p q) at in
      let both : EachPass (Follows number origin numbers history) (HasTwo p q) = mine.follows in
      let w : SeatKnowledge E O = Idle (made_one p q) in
      let facts = follows_both number origin numbers history p q both.0 both.1 adjacent in
      let now = agreed_set number origin numbers history rule.1.1 rule.1.2 s.views id w (grind (arith, nat_tests)) (λ j u ne e. agreed.seated j u e)
      agreed.entries_below in
      let word = same_word s (set s.views id w) history rule.1.1 rule.1.4 (λ j r e. set_beside s.views id j w (HasTwo p q) (Holds r) at e (λ h. cc h)) in
      (w, keeps, tt, rw (word_again s.words rule.0) (rule.0, (history, rule.1.1, rule.1.2, now, word)), (refl, facts.1, facts.2)))

  pub joins_keep : (id other : ℕ) (v w : SeatKnowledge E O) → v ≡ Idle (pass_at v) → w ≡ Idle (pass_at w) → Joins Rule id v other w (meeting v w) Spent
  joins_keep id other v w is its_is = rw (is, its_is) (λ s rule at ne there.
      let p : PassKnowledge E O = pass_at v in
      let q : PassKnowledge E O = pass_at w in
      let history : List E = rule.1.0 in
      let agreed : Agreed number origin numbers history rule.1.1 rule.1.2 s.views = rule.1.3 in
      let both : SeatKnowledge E O = HasTwo p q in
      let spent : SeatKnowledge E O = Spent in
      let its_place : get_elem? s.views other ≡ some (Idle q) = sym (set_else s.views id other both ne) ∙ there in
      let mine : Sits history rule.1.1 rule.1.2 id (Idle p) = agreed.seated id (Idle p) at in
      let its : Sits history rule.1.1 rule.1.2 other (Idle q) = agreed.seated other (Idle q) its_place in
      let owner : ℕ → ℕ = given rule.1.2 rule.1.2 other id in
      let gathered : Sits history rule.1.1 owner id both = grind (arith, given_else, given_new) in
      let now = agreed_set number origin numbers history rule.1.1 owner (set s.views id both) other spent (grind arith)
      (λ j u apart e. ⊎_elim (λ t. rw (t.0, ← t.1) gathered) (λ t. let a = agreed.seated j u t.1 in grind (arith, given_else)) (at_set s.views id j both u e))
      agreed.entries_below in
      let word = same_word s (set (set s.views id both) other spent) history rule.1.1 rule.1.4
      (λ j r e. set_beside (set s.views id both) other j spent (Idle q) (Holds r) there
      (set_beside s.views id j both (Idle p) (Holds r) at e (λ h. cc h)) (λ h. cc h)) in
      (rule.0, (history, rule.1.1, owner, now, word)))
