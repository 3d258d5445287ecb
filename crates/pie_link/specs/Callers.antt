-- The views of a link and of its callers in contracts, and the results of a caller's command, burst, fold, reading and
-- excerpt.
use Rattle.std.specs.Prelude.{◌≡◌, List, Some, Result, Ok, Err, ℕ, Bool, [], ◌∷◌, ◌++◌, Option, None, Vec}
use Rattle.pie_lock.specs.Rule.{LockView, PassView, HasAllNumbers, Extends}
use Rattle.pie_link.specs.Entries.{Opening, IsLegal, Entry, number_of, events_in, Command, Reply, entries_within, replies_within, Event, Refusal, Told, entries_by, reply_in, IsExcerptOf, IsFold, IsFoldedInto, fold_entries, IsReading}
use Rattle.pie_link.specs.declared.entry.Tried.{Tried}
use Rattle.pie_link.specs.declared.entry.Tried.TheVariants.{Busy, Refused}
use Rattle.pie_link.specs.declared.entry.NoRoom.{NoRoom}
use Rattle.pie_event.specs.declared.refusal.TooSmall.{TooSmall}
use Rattle.pie_book.specs.Snapshot.{ExcerptView}
use Rattle.std.specs.declared.alloc.Global.{Global}
use Rattle.pie_event.specs.declared.refusal.FoldRefusal.{FoldRefusal}
use Rattle.pie_link.specs.declared.entry.Entry.TheVariants.{Folded}
use Rattle.pie_event.specs.declared.command.Answer.{Answer}

-- a link is its lock: its identity, the opening of its book (`origin`), and its number of callers' numbers
abbrev pub LinkView : Type 0
LinkView = LockView Opening

-- a caller is a pass of that lock: its front, and its numbers `first..limit`
abbrev pub CallerView : Type 0
CallerView = PassView Entry Opening

-- the caller with this history as its front
abbrev pub caller_with_front : CallerView → List Entry → CallerView
caller_with_front caller history = record { lock = caller.lock; front = history; first = caller.first; limit = caller.limit }

-- the caller still belongs to its link and has the same numbers
abbrev pub HasSameNumbers : CallerView → CallerView → Type 0
HasSameNumbers before after = (after.lock ≡ before.lock) × (after.first ≡ before.first) × (after.limit ≡ before.limit)

-- the link was busy: the caller is unchanged, and does not have all numbers of the link
abbrev pub WasBusy : CallerView → CallerView → Type 0
WasBusy before after = (after ≡ before) × (HasAllNumbers before → ⊥)

-- a history of one thread for a caller of a link with this opening: each command was accepted at its place with the
-- answer that the rules give there; it begins with the caller's front, and has no further entry of the caller
pub record IsHistoryFor (opening : Opening) (caller : CallerView) (history : List Entry) : Type 0 where
  pub legal : IsLegal opening (events_in history)
  pub continues : Extends number_of caller.first caller.limit caller.front history

-- a call had its turn after this history: `result_is` holds of the history, and the caller's front is then
-- `next history`, the history with the call's entries
pub record IsTurn (opening : Opening) (before : CallerView) (result_is : List Entry → Type 0) (next : List Entry → List Entry) (after : CallerView)
    (history : List Entry) : Type 0 where
  pub from : IsHistoryFor opening before history
  pub has_result : result_is history
  pub has_front : after ≡ caller_with_front before (next history)

-- a call of this caller had its turn at a link; `result_is` and `next` take the link's opening
abbrev pub HasTurn : LinkView → CallerView → (Opening → List Entry → Type 0) → (Opening → List Entry → List Entry) → CallerView → Type 0
HasTurn link before result_is next after =
    (opening : Opening) → link.origin ≡ Some opening → (history : List Entry) × IsTurn opening before (result_is opening) (next opening) after history

-- a call that never blocks had its turn, with this result, or the link was busy
abbrev pub TriesTo : {A E : Type 0} → (Result A E → Type 0) → Type 0 → Result A (Tried E) → Type 0
TriesTo had busy (Ok value) = had (Ok value)
TriesTo had busy (Err Busy) = busy
TriesTo had busy (Err (Refused why)) = had (Err why)

-- ---- Results of a caller's burst: several commands, with no call of another caller between.

-- a link decides a burst of a caller, with a budget of bytes or without: its results follow the earlier ones, and its
-- entries the history. A burst without commands changes nothing
unfoldable pub AnswersWithin : Option ℕ → (Reply → Bool) → LinkView → CallerView → List Command → List Reply → List Reply → CallerView → Type 0
AnswersWithin budget continues link before [] earlier replies after = (replies ≡ earlier) × (after ≡ before)
AnswersWithin budget continues link before (command ∷ later) earlier replies after =
    HasTurn link before
    (λ opening history. replies ≡ earlier ++ replies_within budget continues opening before.first history [] (command ∷ later))
    (λ opening history. history ++ entries_within budget continues opening before.first history [] (command ∷ later)) after

-- a burst without a budget
abbrev pub AnswersAll : (Reply → Bool) → LinkView → CallerView → List Command → List Reply → List Reply → CallerView → Type 0
AnswersAll = AnswersWithin None

-- nothing was done
abbrev pub WasNotDone : CallerView → List Reply → List Reply → CallerView → Type 0
WasNotDone before earlier replies after = (replies ≡ earlier) × (after ≡ before)

-- a burst that is decided, or refused because the link is busy or the vector too small
unfoldable pub TriesToAnswerAll : (Reply → Bool) → LinkView → CallerView → List Command → Result (Unit {0}) (Tried NoRoom) → List Reply
    → List Reply → CallerView → Type 0
TriesToAnswerAll continues link before commands (Ok done) earlier replies after = AnswersAll continues link before commands earlier replies after
TriesToAnswerAll continues link before commands (Err Busy) earlier replies after = WasBusy before after × (replies ≡ earlier)
TriesToAnswerAll continues link before commands (Err (Refused why)) earlier replies after = WasNotDone before earlier replies after

-- the call was refused, and not because the link was busy
abbrev pub WasRefused : Result (Unit {0}) (Tried NoRoom) → Type 0
WasRefused (Ok done) = ⊥
WasRefused (Err Busy) = ⊥
WasRefused (Err (Refused why)) = Unit {0}

-- ---- Excerpts of a link's callers. A history is the list of all entries of the link: its events and folds.

-- a link fills a caller's excerpt from a history, which becomes the caller's front
unfoldable pub FillsExcerpt : LinkView → CallerView → Result (Unit {0}) TooSmall → ExcerptView → ExcerptView → CallerView → Type 0
FillsExcerpt link before result empty filled after =
    HasTurn link before (λ opening history. IsExcerptOf opening history result empty filled) (λ opening history. history) after

-- the link fills the excerpt, or is busy: then the excerpt is unchanged
unfoldable pub TriesToFillExcerpt : LinkView → CallerView → Result (Unit {0}) (Tried TooSmall) → ExcerptView → ExcerptView → CallerView → Type 0
TriesToFillExcerpt link before result empty filled after =
    TriesTo (λ answer. FillsExcerpt link before answer empty filled after) (WasBusy before after × (filled ≡ empty)) result

-- ---- Results of a caller's fold. A history is the list of all entries of the link: its events, folded ones included, and
-- its folds.

-- a link folds for a caller after a history; unless it is refused, the fold follows the history
unfoldable pub Folds : LinkView → CallerView → ℕ → Result (Told (Vec Event Global)) FoldRefusal → CallerView → Type 0
Folds link before n result after =
    HasTurn link before (λ opening history. IsFold opening n history result) (λ opening history. history ++ fold_entries before.first n result) after

-- the link folds, or is busy
unfoldable pub TriesToFold : LinkView → CallerView → ℕ → Result (Told (Vec Event Global)) (Tried FoldRefusal) → CallerView → Type 0
TriesToFold link before n result after = TriesTo (λ answer. Folds link before n answer after) (WasBusy before after) result

-- a link appends the oldest events to a vector, at most `most`, and a fold of their number follows the history; or it
-- is busy, and appends none
unfoldable pub TriesToFoldInto : LinkView → CallerView → ℕ → Result (Told ℕ) (Tried Refusal) → List Event → List Event → CallerView → Type 0
TriesToFoldInto link before most (Ok reply) earlier events after =
    HasTurn link before (λ opening history. IsFoldedInto opening most history earlier events reply)
    (λ opening history. history ++ Folded before.first reply.answer ∷ []) after
TriesToFoldInto link before most (Err why) earlier events after = (why ≡ Busy) × WasBusy before after × (events ≡ earlier)

-- ---- Values that a caller reads.

module _ {A : Type 0} (value_after : Opening → List Event → A) where
  -- a link returns the look-back over the events of a history, which becomes the caller's front
  unfoldable pub Reads : LinkView → CallerView → Told A → CallerView → Type 0
  Reads link before reply after =
      HasTurn link before (λ opening history. IsReading (value_after opening (events_in history)) (events_in history) reply)
      (λ opening history. history) after

  -- the link returns the value, or is busy
  unfoldable pub TriesToRead : LinkView → CallerView → Result (Told A) (Tried Refusal) → CallerView → Type 0
  TriesToRead link before (Ok reply) after = Reads link before reply after
  TriesToRead link before (Err why) after = (why ≡ Busy) × WasBusy before after

-- ---- Results of a caller's command. A history is the list of all entries of the link: its events and folds.

-- a link decides a caller's command by the rules after a history; unless it is refused, its event follows the history
unfoldable pub Answers : LinkView → CallerView → Command → Reply → CallerView → Type 0
Answers link before command reply after =
    HasTurn link before (λ opening history. reply ≡ reply_in opening history command)
    (λ opening history. history ++ entries_by before.first command reply) after

-- the link decides the command, or is busy
unfoldable pub TriesToAnswer : LinkView → CallerView → Command → Result (Told Answer) (Tried Refusal) → CallerView → Type 0
TriesToAnswer link before command result after = TriesTo (λ reply. Answers link before command reply after) (WasBusy before after) result
