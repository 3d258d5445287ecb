-- The headline, from the rule of the lock.
use Rattle.std.proofs.lemmas.Bool.Decides.{nat_tests}
use Rattle.pie_link.proofs.KeptFacts.{◌≡◌, ℕ, suc, Option, List, [], ◌∷◌, refl, subst, ⊎_elim, arith, PassKnowledge, Opening, Entry, number_of, events_in, KeptView, RepresentsHistory, CallerKnowledge, BeginsWith, HasCallsOf, caller_knowledge, callers_at, callers_of, LockKey, LockState, LiesIn, IsOneHistory, KeepsOneHistory}
use Rattle.std.specs.List.{All}
use Rattle.std.proofs.lemmas.List.Elements.{All-nil, All-cons, All-append}
use mathlib.Core.Option.{some}
use lib.ListN.{get_elem?}
use Rattle.pie_lock.specs.declared.entries.SeatKnowledge.{SeatKnowledge}
use Rattle.pie_lock.specs.Rule.{EachPass, Follows, Agreed, Ruled, WhileFree}
use Rattle.pie_event.specs.declared.command.Event.{Event}
use Rattle.pie_book.specs.Book.{BookView}
use Rattle.pie_book.specs.Core.{CoreView, Represents, registers_of}
use Rattle.pie_book.specs.Decision.{registers_after}
use Rattle.pie_link.specs.Callers.{LinkView}

module _ (P : PassKnowledge Entry Opening → Type 0) (Q : CallerKnowledge → Type 0) (follows : (p : PassKnowledge Entry Opening) → P p → Q (caller_knowledge p)) where
  -- a fact about each pass of a seat is one about each of its callers
  at_seat : (seat : SeatKnowledge Entry Opening) → EachPass P seat → All Q (callers_at seat)
  at_seat seat each = grind (arith, nat_tests, follows, All-nil, All-cons)

  -- a fact about the passes of all seats is one about all callers
  pub at_all : (seats : List (SeatKnowledge Entry Opening)) → ((seat : ℕ) (view : SeatKnowledge Entry Opening) → get_elem? seats seat ≡ some view → EachPass P view)
      → All Q (callers_of seats)
  at_all [] each = All-nil Q
  at_all (seat ∷ seats) each = All-append Q (callers_at seat) (callers_of seats) (at_seat seat (each 0 seat refl))
      (at_all seats (λ k view at. each (suc k) view at))

-- pie_book's law of registers
abbrev pub LookBack : Type 0
LookBack = (opening : Opening) (core : CoreView) (history : List Event) → Represents opening core history
    → registers_of core ≡ registers_after opening history

-- the rule while the lock is free
pub while_free : LookBack → (opening : Opening) (numbers : ℕ) (lock : LockState) (history : List Entry) (holder : Option ℕ) (owner : ℕ → ℕ)
    → Agreed number_of opening numbers history holder owner lock.views
    → WhileFree number_of (λ (kept : KeptView). kept.book.opening) RepresentsHistory opening numbers history holder lock
    → (book : BookView) × LiesIn lock book × ((h : List Entry) × IsOneHistory opening book (callers_of lock.views) h)
while_free look_back opening numbers lock history holder owner agreed free =
    let follow = λ (seat : ℕ) (view : SeatKnowledge Entry Opening) (at : get_elem? lock.views seat ≡ some view). (agreed.seated seat view at).follows in
    let kept = free.2.0 in
    let book = kept.book in
    let represents_list = free.2.3.represents_list in
    let represents = represents_list.represents in (
      book,
      (kept.folds, free.2.1),
      (
        history,
        rw (← free.2.2) (
            let begins = at_all (Follows number_of opening numbers history) (BeginsWith history) (λ p f. f.front_is_prefix) lock.views follow in
            let calls = at_all (Follows number_of opening numbers history) (HasCallsOf history) (λ p f. f.owned) lock.views follow in
            let registers = look_back book.opening book.running (events_in history) represents.running in grind arith),
      ),
    )

-- the rule of the lock, at its opening
abbrev pub ruled : LockKey → LockState → Type 0
ruled key lock = Ruled number_of (λ (kept : KeptView). kept.book.opening) RepresentsHistory key.state.value.book.opening key.numbers lock

-- whenever the lock is free, there is one history
pub keeps_one_history : LookBack → (link : LinkView) → KeepsOneHistory ruled link
unfolding KeepsOneHistory
keeps_one_history look_back link opening from key is lock rule free =
    let history = rule.1.0 in
    subst (λ (o : Opening). (book : BookView) × LiesIn lock book × ((h : List Entry) × IsOneHistory o book (callers_of lock.views) h)) is.opened
    (⊎_elim (while_free look_back key.state.value.book.opening key.numbers lock history rule.1.1 rule.1.2 rule.1.3)
    (λ held. absurd (omega (arith, held.0, free))) rule.1.4)
