-- The headline: whenever the lock is free, there is one history of one thread behind all callers. It begins with the
-- front of each caller, contains each caller's calls once and in order, and ends with the event log. Every recorded
-- verdict is the one that the rules give at its place, and the look-back over the whole history is the book's state. In
-- a bounded link no recorded event is lost: the folded events, in order, followed by the log are all events of the
-- history.
use Rattle.std.specs.Prelude.{◌≡◌, ℕ, List, [], ◌∷◌, ◌++◌, length, slice_index, Option, Some, None, All, ◌==◌, ◌⊎◌, if◌then◌else◌, ◌≤◌, Bool}
use mathlib.Core.List.{IsPrefix}
use mathlib.Core.Option.{some}
use lib.ListN.{get_elem?}
use Rattle.atomic_table.specs.Table.{State}
use Rattle.pie_lock.specs.declared.entries.PassKnowledge.{PassKnowledge}
use Rattle.pie_lock.specs.declared.entries.SeatKnowledge.{SeatKnowledge}
use Rattle.pie_lock.specs.declared.entries.SeatKnowledge.TheVariants.{Spent, Idle, Holds, HasTwo}
use Rattle.pie_lock.specs.Rule.{own}
use Rattle.pie_lock.specs.declared.entries.LockOpening.{LockOpening}
use Rattle.pie_event.specs.declared.opening.Mode.TheVariants.{Bounded}
use Rattle.pie_link.specs.Entries.{Opening, IsLegal, Entry, number_of, events_in, tail_in, folded_events, Command, Reply, entries_within, KeptView, SetsInRange, departed_bytes, folded_for}
use Rattle.pie_book.specs.Book.{BookView, BookRepresents, last_events}
use Rattle.pie_book.specs.Core.{registers_of}
use Rattle.pie_book.specs.History.{waiting_after}
use Rattle.pie_book.specs.Decision.{registers_after, stats_after}
use Rattle.pie_params.specs.Params.{first_bad}
use Rattle.pie_event.specs.Event.{opening_refusal}
use Rattle.pie_link.specs.Callers.{LinkView}
use Rattle.pie_event.specs.declared.opening.Limits.{Limits}
use Rattle.pie_event.specs.declared.refusal.OpenRefusal.{OpenRefusal}
use Rattle.pie_event.specs.declared.refusal.OpenRefusal.TheVariants as of_book
use Rattle.pie_link.specs.declared.entry.LinkRefusal.{LinkRefusal}
use Rattle.pie_link.specs.declared.entry.LinkRefusal.TheVariants.{Book, NoCallers, Memory}

-- a caller: its front, and its numbers first..limit
pub record CallerKnowledge : Type 0 where
  pub front : List Entry
  pub first : ℕ
  pub limit : ℕ

-- the calls of a caller: the entries under its numbers, in order
abbrev pub calls_of : CallerKnowledge → List Entry → List Entry
calls_of caller history = own number_of caller.first caller.limit history

-- the history begins with the caller's front
abbrev pub BeginsWith : List Entry → CallerKnowledge → Type 0
BeginsWith history caller = IsPrefix caller.front history

-- the history has the caller's calls of its front, and no others of the caller
abbrev pub HasCallsOf : List Entry → CallerKnowledge → Type 0
HasCallsOf history caller = calls_of caller history ≡ calls_of caller caller.front

-- there is one history behind a free book and all callers
pub record IsOneHistory (opening : Opening) (book : BookView) (callers : List CallerKnowledge) (history : List Entry) : Type 0 where
  -- it is one of one thread: the book, opened as the link was, represents its events, and each command was accepted at
  -- its place with the answer that the rules give there
  pub opened : book.opening ≡ opening
  pub represents : BookRepresents book (events_in history)
  pub legal : IsLegal opening (events_in history)
  -- it begins with the front of each caller
  pub begins : All (BeginsWith history) callers
  -- it contains each caller's calls once and in order
  pub calls : All (HasCallsOf history) callers
  -- it ends with the event log, which begins after the events that were folded or, in a rolling link, dropped from the full log
  pub ends : last_events (length book.tail) (events_in history) ≡ book.tail
  pub tail : book.tail ≡ tail_in opening history
  -- in a bounded link the folded events, in order, followed by the log are all its events
  pub nothing_lost : opening.choices.mode ≡ Bounded → folded_events opening history ++ book.tail ≡ events_in history
  -- the look-back over all of it is the book's state
  pub queue : book.running.waiting ≡ waiting_after opening (events_in history)
  pub registers : registers_of book.running ≡ registers_after opening (events_in history)
  pub stats : book.running.stats ≡ stats_after opening (events_in history)
  -- limits and moment of the opening were accepted, and all parameters are in their ranges
  pub accepted : opening_refusal opening.limits opening.moment ≡ None
  pub in_range : first_bad opening.params ≡ None
  pub set : All (λ event. SetsInRange event.command) (events_in history)

-- the callers of a seat at the lock; a seat that was joined to another has none
abbrev pub caller_knowledge : PassKnowledge Entry Opening → CallerKnowledge
caller_knowledge p = record { front = p.front; first = p.first; limit = p.limit }

abbrev pub callers_at : SeatKnowledge Entry Opening → List CallerKnowledge
callers_at Spent = []
callers_at (Idle p) = caller_knowledge p ∷ []
callers_at (Holds p) = caller_knowledge p ∷ []
callers_at (HasTwo p q) = caller_knowledge p ∷ caller_knowledge q ∷ []

abbrev pub callers_of : List (SeatKnowledge Entry Opening) → List CallerKnowledge
callers_of [] = []
callers_of (seat ∷ seats) = callers_at seat ++ callers_of seats

-- the state of a lock around a book: its word, its slot, and the views of its seats
abbrev pub LockState : Type 0
LockState = State (Option KeptView) (SeatKnowledge Entry Opening)

-- the key of a lock around a book: the first book, and the number of numbers
abbrev pub LockKey : Type 0
LockKey = LockOpening KeptView

-- the lock of this link was opened with this key
pub record IsKeyOf (link : LinkView) (opening : Opening) (key : LockKey) : Type 0 where
  pub opened : key.state.value.book.opening ≡ opening
  pub numbers : key.numbers ≡ link.numbers

-- the lock is free: its word is FREE
abbrev pub IsFree : LockState → Type 0
IsFree lock = slice_index lock.words 0 ≡ 0

-- the lock's slot contains the book
abbrev pub LiesIn : LockState → BookView → Type 0
LiesIn lock book = (folds : ℕ) × (get_elem? lock.homes 0 ≡ some (some (Some (record { book = book; folds = folds }))))

-- whenever the lock is free, there is one history. `rule` is the rule of the lock's table: it holds of each state that
-- the lock can be in
unfoldable pub KeepsOneHistory : (LockKey → LockState → Type 0) → LinkView → Type 0
KeepsOneHistory rule link =
    (opening : Opening) → link.origin ≡ Some opening → (key : LockKey) → IsKeyOf link opening key
    → (lock : LockState) → rule key lock → IsFree lock
    → (book : BookView) × LiesIn lock book × ((history : List Entry) × IsOneHistory opening book (callers_of lock.views) history)

-- ---- Refusals of a link's opening.

-- the book's refusal, otherwise that there are no callers
abbrev pub or_no_callers : Option OpenRefusal → ℕ → Option LinkRefusal
or_no_callers (Some why) callers = Some (Book why)
or_no_callers None callers = if callers == 0 then Some NoCallers else None

-- the refusal of a link's opening, out of memory aside
abbrev pub link_refusal : Limits → ℕ → ℕ → Option LinkRefusal
link_refusal limits moment callers = or_no_callers (opening_refusal limits moment) callers

-- out of memory, for the book or for the lock
abbrev pub IsWantOfMemory : LinkRefusal → Type 0
IsWantOfMemory why = (why ≡ Book of_book.Memory) ⊎ (why ≡ Memory)

-- the opening was refused for this reason, and without one because of memory
abbrev pub IsRefusedFor : Option LinkRefusal → LinkRefusal → Type 0
IsRefusedFor (Some reason) why = why ≡ reason
IsRefusedFor None why = IsWantOfMemory why

-- ---- The law of a link's entries, for crates whose proofs look back over a growing history, and the law of a burst's budget.

-- two lists of entries, one after the other: their events are those of the first followed by those of the second, and
-- so are the events that their folds returned, at their places
pub record EntriesLookBack : Type 0 where
  pub events : (entries later : List Entry) → events_in (entries ++ later) ≡ events_in entries ++ events_in later
  pub folds_split : (whom : ℕ → Bool) (opening : Opening) (before entries later : List Entry)
      → folded_for whom opening before (entries ++ later)
      ≡ folded_for whom opening before entries ++ folded_for whom opening (before ++ entries) later

-- the bytes of the packets that depart in a burst are at most its budget
abbrev pub BurstsStayWithin : Type 0
BurstsStayWithin = (bytes : ℕ) (continues : Reply → Bool) (opening : Opening) (caller : ℕ) (history : List Entry) (commands : List Command)
    → departed_bytes (entries_within (Some bytes) continues opening caller history [] commands) ≤ bytes
