-- Folds change no answer: up to the first `HistoryFull`, the answers of a run are those of the rules, with any folds.
use Rattle.std.proofs.Common.{◌≡◌, ◌≤◌, ◌+◌, ◌==◌, ℕ, List, [], ◌∷◌, ◌++◌, Bool, true, false, cond, take, refl, sym, ap, ◌∙◌, arith, min, Option, Some, None, Result, Ok, Err, one-add, not, take-take}
use Rattle.pie_book.specs.Book.{Step, applied, folded, Progress, CallerCommand, event_of, refused_or, recorded, tail_length_after_fold, answers_from, answers, without_folds, is_full, before_full, AreSameUntilFull}
use Rattle.pie_event.specs.declared.refusal.Refusal.TheVariants.{HistoryFull}
use Rattle.pie_book.specs.Types.{Command, Answer, Event, Mode, Rolling, Opening, Refusal}
use Rattle.std.proofs.lemmas.Bool.Decides.{nat_tests}
use Rattle.pie_book.specs.Decision.{decision, refusal_by_rule, or_full, is_refused_full}

abbrev Given : Type 0
Given = Result Answer Refusal

-- the result of a command if no event log is ever full
abbrev ruled : Opening → List Event → Command → Given
ruled opening history command = refused_or (refusal_by_rule opening history command) (decision opening history command)

-- these events, and one more if the command was not refused
abbrev extended : List Event → ℕ → Command → Given → List Event
extended history caller command (Ok answer) = history ++ event_of caller command answer ∷ []
extended history caller command (Err why) = history

-- the results of a list of commands if no event log is ever full
all_ruled : Opening → List Event → List CallerCommand → List Given
all_ruled opening history [] = []
all_ruled opening history (request ∷ requests) =
    ruled opening history request.command
    ∷ all_ruled opening (extended history request.caller request.command (ruled opening history request.command)) requests

abbrev at : List Event → ℕ → Progress
at history tail_length = record { history = history; tail_length = tail_length }

-- ---- A relation between the answers of a run and of the rules, if it holds for no answers, for one more equal answer,
-- and for all answers from the first `HistoryFull` on

module _ (opening : Opening) (R : List Given → List Given → Type 0) (none : R [] [])
    (same : (first : Given) (some other : List Given) → R some other → R (first ∷ some) (first ∷ other))
    (filled : (tail_length : ℕ) (some other : List Given) → is_refused_full opening.choices.mode (tail_length == opening.limits.tail) ≡ true
    → R (Err HistoryFull ∷ some) other) where
  -- one command, and the steps after it
  one-applied : (history : List Event) (tail_length caller : ℕ) (command : Command) (steps : List Step)
      → ((history : List Event) (tail_length : ℕ) → R (answers_from opening (at history tail_length) steps) (all_ruled opening history (without_folds steps)))
      → (why : Option Refusal) (full : Bool) (answer : Answer) → is_refused_full opening.choices.mode (tail_length == opening.limits.tail) ≡ full
      → R (refused_or (or_full why full) answer ∷ answers_from opening
      (recorded opening (at history tail_length) caller command (refused_or (or_full why full) answer)) steps)
      (refused_or why answer ∷ all_ruled opening (extended history caller command (refused_or why answer)) (without_folds steps))
  one-applied history tail_length caller command steps later (Some why) full answer is = same (Err why) _ _ (later history tail_length)
  one-applied history tail_length caller command steps later None true answer is = filled tail_length _ _ is
  one-applied history tail_length caller command steps later None false answer is = same (Ok answer) _ _ (later _ _)

  all-applied : (history : List Event) (tail_length : ℕ) (steps : List Step)
      → R (answers_from opening (at history tail_length) steps) (all_ruled opening history (without_folds steps))
  unfolding all_ruled answers_from without_folds
  all-applied history tail_length [] = none
  all-applied history tail_length (folded n ∷ steps) = all-applied history (tail_length_after_fold tail_length n) steps
  all-applied history tail_length (applied caller command ∷ steps) =
      one-applied history tail_length caller command steps (λ history tail_length. all-applied history tail_length steps)
      (refusal_by_rule opening history command)
      (is_refused_full opening.choices.mode (tail_length == opening.limits.tail)) (decision opening history command) refl

-- a rolling book answers as the rules do, because its event log refuses nothing
rolling-ruled : (opening : Opening) (steps : List Step) → opening.choices.mode ≡ Rolling
    → answers_from opening (at [] 0) steps ≡ all_ruled opening [] (without_folds steps)
rolling-ruled opening steps is =
    all-applied opening (λ some other. some ≡ other) refl (λ first some other e. ap (◌∷◌ first) e)
    (λ tail_length some other full. let none = rolls opening.choices.mode (tail_length == opening.limits.tail) is in cc) [] 0 steps
  where
    rolls : (mode : Mode) (full : Bool) → mode ≡ Rolling → is_refused_full mode full ≡ false
    rolls mode full is = grind (arith, nat_tests)

-- equality up to the first `HistoryFull`
abbrev SameUntilFull : List Given → List Given → Type 0
SameUntilFull some other = take (before_full some) some ≡ take (before_full some) other

until_full-ruled : (opening : Opening) (steps : List Step)
    → SameUntilFull (answers_from opening (at [] 0) steps) (all_ruled opening [] (without_folds steps))
until_full-ruled opening steps = all-applied opening SameUntilFull refl same-cons (λ tail_length some other full. refl) [] 0 steps
  where
    same-cons : (first : Given) (some other : List Given) → SameUntilFull some other → SameUntilFull (first ∷ some) (first ∷ other)
    same-cons first some other same = by (is_full first)
      where
        by : (full : Bool) → take (cond (not full) (1 + before_full some) 0) (first ∷ some)
            ≡ take (cond (not full) (1 + before_full some) 0) (first ∷ other)
        by true = refl
        by false = rw one-add (ap (◌∷◌ first) same)

-- two lists of steps with the same commands have the same answers up to the first full event log
pub same_until_full : (opening : Opening) (some other : List Step) → without_folds some ≡ without_folds other
    → AreSameUntilFull (answers opening some) (answers opening other)
same_until_full opening some other same =
    shorter (before_full (answers opening some)) (before_full (answers opening other))
    (answers opening some) (answers opening other) (all_ruled opening [] (without_folds some))
    (until_full-ruled opening some) (rw same (until_full-ruled opening other))
  where
    shorter : (a b : ℕ) (xs ys zs : List Given) → take a xs ≡ take a zs → take b ys ≡ take b zs → take (min a b) xs ≡ take (min a b) ys
    shorter a b xs ys zs p q =
        let in_a : min a b ≤ a = omega arith in
        let in_b : min a b ≤ b = omega arith in
        sym (take-take (min a b) a xs in_a) ∙ ap (take (min a b)) p ∙ take-take (min a b) a zs in_a
        ∙ sym (take-take (min a b) b zs in_b) ∙ sym (ap (take (min a b)) q) ∙ take-take (min a b) b ys in_b

-- in a rolling book they always have the same answers
pub same_when_rolling : (opening : Opening) (some other : List Step) → opening.choices.mode ≡ Rolling → without_folds some ≡ without_folds other
    → answers opening some ≡ answers opening other
same_when_rolling opening some other is same =
    rolling-ruled opening some is ∙ ap (all_ruled opening []) same ∙ sym (rolling-ruled opening other is)
