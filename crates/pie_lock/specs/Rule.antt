-- The rule of the lock, the entries that a put appends, the views of a lock, a pass and a held, and the facts of each
-- step on the lock's word.
use Rattle.std.specs.Prelude.{ℕ, List, Bool, ◌&&◌, ◌≡◌, ◌<◌, ◌≤◌, ◌⊎◌, [], Option, Some, None, length, slice_index, All, ◌∷◌, ◌++◌, ◌≢◌, ◌-◌, cond, min, max}
use Rattle.std.specs.List.{filter, sum_by}
use Rattle.std.proofs.Math.Dec.{leb, ltb}
use mathlib.Core.List.{IsPrefix}
use mathlib.Core.Option.{none, some}
use lib.ListN.{get_elem?}
use Rattle.atomic_table.specs.Table.{State, Me, Step}
use Rattle.pie_lock.specs.declared.entries.PassKnowledge.{PassKnowledge}
use Rattle.pie_lock.specs.declared.entries.SeatKnowledge.{SeatKnowledge}
use Rattle.pie_lock.specs.declared.entries.SeatKnowledge.TheVariants.{Spent, Idle, Holds, HasTwo}
use Rattle.std.specs.declared.snapshot.Snapshot.{Snapshot}
use Rattle.atomic_table.specs.Seated.{TableId}
use Rattle.atomic_table.specs.declared.shared.Seat.{Seat}
use Rattle.std.proofs.Common.{sym, ◌∙◌}
use Rattle.pie_lock.specs.declared.counter.CounterEntry.{CounterEntry}

-- ---- The entries of a list whose numbers lie in a range.

-- the number n lies in first..limit
abbrev pub is_within : ℕ → ℕ → ℕ → Bool
is_within first limit n = leb first n && ltb n limit

-- the entries whose number lies in first..limit, in order
abbrev pub own : {E : Type 0} → (E → ℕ) → ℕ → ℕ → List E → List E
own number first limit entries = filter (λ e. is_within first limit (number e)) entries

-- ---- The rule of the lock, in plain data. A history is a list of entries. Each pass has a front, which is the history that
-- its holder has seen, and a range of numbers.

module _ {E O : Type 0} where
  -- the view of the first seat: an empty front and all numbers
  abbrev pub opened : O → ℕ → SeatKnowledge E O
  opened origin numbers = Idle (record { front = []; first = 0; limit = numbers; numbers = numbers; origin = Some origin })

  -- n is a number of the pass
  abbrev pub IsNumberOf : PassKnowledge E O → ℕ → Type 0
  IsNumberOf p n = (p.first ≤ n) × (n < p.limit)

  -- n is a number of a pass of the seat
  abbrev pub IsNumberAt : SeatKnowledge E O → ℕ → Type 0
  IsNumberAt Spent n = ⊥
  IsNumberAt (Idle p) n = IsNumberOf p n
  IsNumberAt (Holds p) n = IsNumberOf p n
  IsNumberAt (HasTwo p q) n = IsNumberOf p n ⊎ IsNumberOf q n

  -- P holds of each pass of the seat
  abbrev pub EachPass : (PassKnowledge E O → Type 0) → SeatKnowledge E O → Type 0
  EachPass P Spent = Unit {0}
  EachPass P (Idle p) = P p
  EachPass P (Holds p) = P p
  EachPass P (HasTwo p q) = P p × P q

  -- the history begins with the pass's front, and has under its numbers only the entries of its front. The pass knows
  -- the lock's origin and its number of numbers; its own numbers are some of these
  pub record Follows (number : E → ℕ) (origin : O) (numbers : ℕ) (history : List E) (p : PassKnowledge E O) : Type 0 where
    pub front_is_prefix : IsPrefix p.front history
    pub owned : own number p.first p.limit history ≡ own number p.first p.limit p.front
    pub nonempty : p.first < p.limit
    pub below : p.limit ≤ numbers
    pub of_all : p.numbers ≡ numbers
    pub of_origin : p.origin ≡ Some origin

  -- the invariant of a seat with this view: each of its passes follows the history, its numbers belong to this seat,
  -- and if it has the state, its front is the history. `owner` maps a number to its seat, and `holder` is the seat that
  -- has the state
  pub record IsSeated (number : E → ℕ) (origin : O) (numbers : ℕ) (history : List E) (holder : Option ℕ) (owner : ℕ → ℕ) (seat : ℕ)
      (view : SeatKnowledge E O) : Type 0 where
    pub follows : EachPass (Follows number origin numbers history) view
    pub owned : (n : ℕ) → IsNumberAt view n → owner n ≡ seat
    pub holds : (p : PassKnowledge E O) → view ≡ Holds p → (holder ≡ Some seat) × (p.front ≡ history)

  -- the views of all seats agree with one history: each pass follows it, no number belongs to two seats, at most one
  -- seat has the state, and the number of each entry is a number of the lock
  pub record Agreed (number : E → ℕ) (origin : O) (numbers : ℕ) (history : List E) (holder : Option ℕ) (owner : ℕ → ℕ)
      (views : List (SeatKnowledge E O)) : Type 0 where
    pub seated : (seat : ℕ) (view : SeatKnowledge E O) → get_elem? views seat ≡ some view → IsSeated number origin numbers history holder owner seat view
    pub entries_below : All (λ e. number e < numbers) history

module _ {S E O : Type 0} (number : E → ℕ) (origin_of : S → O) (represents_list : S → List E → Type 0) (origin : O) (numbers : ℕ) where
  -- while the word is FREE: no seat has the state; the slot contains it, it has the lock's origin and represents the
  -- history
  abbrev pub WhileFree : List E → Option ℕ → State (Option S) (SeatKnowledge E O) → Type 0
  WhileFree history holder s =
      (slice_index s.words 0 ≡ 0) × (holder ≡ None)
      × ((stored : S) × (get_elem? s.homes 0 ≡ some (some (Some stored))) × (origin_of stored ≡ origin) × represents_list stored history)

  -- while the word is HELD: the slot is out, and one seat has the state
  abbrev pub WhileHeld : Option ℕ → State (Option S) (SeatKnowledge E O) → Type 0
  WhileHeld holder s =
      (slice_index s.words 0 ≡ 1) × ((seat : ℕ) × (p : PassKnowledge E O) × (holder ≡ Some seat) × (get_elem? s.views seat ≡ some (Holds p)))
      × (get_elem? s.homes 0 ≡ some none)

  -- there is one history that agrees with all passes
  abbrev pub Ruled : State (Option S) (SeatKnowledge E O) → Type 0
  Ruled s =
      (length s.words ≡ 1)
      × ((history : List E) × (holder : Option ℕ) × (owner : ℕ → ℕ) × Agreed number origin numbers history holder owner s.views
      × (WhileFree history holder s ⊎ WhileHeld holder s))

-- ---- The entries that a put appends.

-- the list that the field of `Entries` represents
abbrev pub entries_of : {E : Type 0} → Option (Snapshot (List E) × Snapshot E) → List E
entries_of None = []
entries_of (Some last) = last.0.value ++ last.1.value ∷ []

-- ---- The views of a lock, a pass and a held in contracts.

-- the identity of the lock, the origin of its first state, and its number of numbers
pub record LockView (O : Type 0) : Type 0 where
  pub id : TableId
  pub origin : Option O
  pub numbers : ℕ

-- the lock of a pass, the history that its holder has seen, and its numbers first..limit
pub record PassView (E O : Type 0) : Type 0 where
  pub lock : LockView O
  pub front : List E
  pub first : ℕ
  pub limit : ℕ

-- a pass that has the state
pub record HeldView (S E O : Type 0) : Type 0 where
  pub lock : LockView O
  pub front : List E
  pub first : ℕ
  pub limit : ℕ
  pub state : S

-- the held with another state
abbrev pub with_state : {S E O : Type 0} → HeldView S E O → S → HeldView S E O
with_state h state = record { lock = h.lock; front = h.front; first = h.first; limit = h.limit; state = state }

-- the pass has all numbers of its lock
abbrev pub HasAllNumbers : {E O : Type 0} → PassView E O → Type 0
HasAllNumbers p = (p.first ≡ 0) × (p.limit ≡ p.lock.numbers)

-- ---- The fact that each atomic step on the lock's word gives its seat, and how seats are split and joined.

-- the longer of two lists
abbrev pub longer : {E : Type 0} → List E → List E → List E
longer xs ys = cond (ltb (length xs) (length ys)) ys xs

module _ {E O : Type 0} where
  abbrev pub with_front : PassKnowledge E O → List E → PassKnowledge E O
  with_front p front = record { front = front; first = p.first; limit = p.limit; numbers = p.numbers; origin = p.origin }

  abbrev pub with_numbers : PassKnowledge E O → ℕ → ℕ → PassKnowledge E O
  with_numbers p first limit = record { front = p.front; first = first; limit = limit; numbers = p.numbers; origin = p.origin }

  -- the pass of a seat; a spent seat has the pass of no number
  abbrev pub pass_at : SeatKnowledge E O → PassKnowledge E O
  pass_at Spent = record { front = []; first = 0; limit = 0; numbers = 0; origin = None }
  pass_at (Idle p) = p
  pass_at (Holds p) = p
  pass_at (HasTwo p q) = p

  -- the second pass of a seat that has two
  abbrev pub other_at : SeatKnowledge E O → PassKnowledge E O
  other_at Spent = pass_at Spent
  other_at (Idle p) = p
  other_at (Holds p) = p
  other_at (HasTwo p q) = q

  -- the pass has all numbers of the lock
  abbrev pub HasAll : PassKnowledge E O → Type 0
  HasAll p = (p.first ≡ 0) × (p.limit ≡ p.numbers)

  -- the seat after a split: it keeps all numbers except its highest one
  abbrev pub all_but_highest : SeatKnowledge E O → SeatKnowledge E O
  all_but_highest Spent = Spent
  all_but_highest (Idle p) = Idle (with_numbers p p.first (p.limit - 1))
  all_but_highest (Holds p) = Holds p
  all_but_highest (HasTwo p q) = HasTwo p q

  -- the new seat after a split: the highest number alone, with the same front
  abbrev pub highest : SeatKnowledge E O → SeatKnowledge E O
  highest Spent = Spent
  highest (Idle p) = Idle (with_numbers p (p.limit - 1) p.limit)
  highest (Holds p) = Spent
  highest (HasTwo p q) = Spent

  -- the seat with the passes of two joined seats
  abbrev pub meeting : SeatKnowledge E O → SeatKnowledge E O → SeatKnowledge E O
  meeting v w = HasTwo (pass_at v) (pass_at w)

  -- one pass of two: the longer front, and both ranges
  abbrev pub made_one : PassKnowledge E O → PassKnowledge E O → PassKnowledge E O
  made_one p q =
      record { front = longer p.front q.front; first = min p.first q.first; limit = max p.limit q.limit; numbers = p.numbers; origin = p.origin }

  -- the ranges are adjacent
  abbrev pub AreAdjacent : PassKnowledge E O → PassKnowledge E O → Type 0
  AreAdjacent p q = (p.limit ≡ q.first) ⊎ (q.limit ≡ p.first)

-- the longer front begins with the front, and has no further entry under these numbers
abbrev pub Extends : {E : Type 0} → (E → ℕ) → ℕ → ℕ → List E → List E → Type 0
Extends number first limit front longer_front =
    IsPrefix front longer_front × (own number first limit longer_front ≡ own number first limit front)

module _ {S E O : Type 0} (number : E → ℕ) (origin_of : S → O) (represents_list : S → List E → Type 0) where
  -- the pass p took the lock: its seat has the slot, and its front is the history that the state represents
  abbrev pub Won : PassKnowledge E O → Me (Option S) (SeatKnowledge E O) → Type 0
  Won p after =
      (stored : S) × (history : List E)
      × (after ≡ (Holds (with_front p history), (0, Some stored) ∷ []))
      × Extends number p.first p.limit p.front history
      × (p.origin ≡ Some (origin_of stored))
      × represents_list stored history
      × All (λ e. number e < p.numbers) history
      × (HasAll p → history ≡ p.front)

  -- the exchange of FREE for HELD took the lock, or failed and changed nothing. For a pass with all numbers it never
  -- fails
  abbrev pub taken : Step (Option S) → Me (Option S) (SeatKnowledge E O) → ℕ → Me (Option S) (SeatKnowledge E O) → Type 0
  taken step before found after =
      (found ≡ 0 → Won (pass_at before.0) after) × (found ≢ 0 → (after ≡ before) × (HasAll (pass_at before.0) → ⊥))

module _ {S E O : Type 0} where
  -- a load of the word changes nothing, and finds FREE for a pass with all numbers
  abbrev pub looked : Step (Option S) → Me (Option S) (SeatKnowledge E O) → ℕ → Me (Option S) (SeatKnowledge E O) → Type 0
  looked step before found after = (after ≡ before) × (found ≢ 0 → HasAll (pass_at before.0) → ⊥)

  -- the store of FREE by a put with these entries: the seat has no slot then, and its front has these entries appended
  abbrev pub freed : List E → Step (Option S) → Me (Option S) (SeatKnowledge E O) → ℕ → Me (Option S) (SeatKnowledge E O) → Type 0
  freed added step before found after =
      after ≡ (Idle (with_front (pass_at before.0) ((pass_at before.0).front ++ added)), [])

  -- the seat has one pass, merged from p and q, whose longer front continues both fronts
  abbrev pub HasMerged : (E → ℕ) → PassKnowledge E O → PassKnowledge E O → Me (Option S) (SeatKnowledge E O) → Type 0
  HasMerged number p q made =
      (made ≡ (Idle (made_one p q), []))
      × Extends number p.first p.limit p.front (longer p.front q.front)
      × Extends number q.first q.limit q.front (longer p.front q.front)

  -- the load after a join of two seats
  abbrev pub merged : (E → ℕ) → Step (Option S) → Me (Option S) (SeatKnowledge E O) → ℕ → Me (Option S) (SeatKnowledge E O) → Type 0
  merged number step before found after = HasMerged number (pass_at before.0) (other_at before.0) after

-- ---- The views of a lock, a pass and a held, by their fields.

module _ {E O : Type 0} where
  abbrev pub lock_of : TableId → PassKnowledge E O → LockView O
  lock_of id p = record { id = id; origin = p.origin; numbers = p.numbers }

-- the pass has the numbers first..limit, at least one
pub record HasNumbers {E O : Type 0} (first limit : ℕ) (p : PassKnowledge E O) : Type 0 where
  pub first_is : p.first ≡ first
  pub limit_is : p.limit ≡ limit
  pub nonempty : first < limit

module _ {S E O : Type 0} where
  abbrev pub pass_of_seat : ℕ → ℕ → Seat (Option S) (SeatKnowledge E O) → PassView E O
  pass_of_seat first limit seat =
      record { lock = lock_of seat.table_id (pass_at seat.me.0); front = (pass_at seat.me.0).front; first = first; limit = limit }

  abbrev pub held_of_seat : ℕ → ℕ → Seat (Option S) (SeatKnowledge E O) → S → HeldView S E O
  held_of_seat first limit seat state =
      record { lock = lock_of seat.table_id (pass_at seat.me.0); front = (pass_at seat.me.0).front; first = first; limit = limit; state = state }

-- the seat has a pass with these numbers, and no slot
pub record IsIdleWithNumbers {S E O : Type 0} (first limit : ℕ) (me : Me (Option S) (SeatKnowledge E O)) : Type 0 where
  pub idle : ◌≡◌ {A = Me (Option S) (SeatKnowledge E O)} me (Idle (pass_at me.0), [])
  pub has : HasNumbers first limit (pass_at me.0)

-- the seat has a pass with these numbers, and the slot, which is empty
pub record IsHolding {S E O : Type 0} (first limit : ℕ) (me : Me (Option S) (SeatKnowledge E O)) : Type 0 where
  pub holds : ◌≡◌ {A = Me (Option S) (SeatKnowledge E O)} me (Holds (pass_at me.0), (0, None) ∷ [])
  pub has : HasNumbers first limit (pass_at me.0)

-- the seat has a pass and the slot with this state in it. The state has the lock's origin and represents the front with
-- these entries, each of which has the pass's first number
pub record IsLeaving {S E O : Type 0} (number : E → ℕ) (origin_of : S → O) (represents_list : S → List E → Type 0) (added : List E) (state : S)
    (me : Me (Option S) (SeatKnowledge E O)) : Type 0 where
  pub holds : ◌≡◌ {A = Me (Option S) (SeatKnowledge E O)} me (Holds (pass_at me.0), (0, Some state) ∷ [])
  pub origin : (pass_at me.0).origin ≡ Some (origin_of state)
  pub represents : represents_list state ((pass_at me.0).front ++ added)
  pub own : All (λ e. number e ≡ (pass_at me.0).first) added

-- the seat has a pass, and no slot
abbrev pub IsIdle : {S E O : Type 0} → Me (Option S) (SeatKnowledge E O) → Type 0
IsIdle {S} {E} {O} me = ◌≡◌ {A = Me (Option S) (SeatKnowledge E O)} me (Idle (pass_at me.0), [])

-- Promises of the lock's calls, over the views of passes and helds.

module _ {S E O : Type 0} where
  -- the held has the lock and the numbers of the pass
  abbrev pub IsOfPass : PassView E O → HeldView S E O → Type 0
  IsOfPass p h = (h.lock ≡ p.lock) × (h.first ≡ p.first) × (h.limit ≡ p.limit)

  -- the pass after a put that appends these entries
  abbrev pub pass_after : HeldView S E O → List E → PassView E O
  pass_after h added = record { lock = h.lock; front = h.front ++ added; first = h.first; limit = h.limit }

-- the promise of a take: the pass has taken the state, which represents the front of the held
module _ {S E O : Type 0} (number_of : E → ℕ) (origin_of : S → O) (represents_list : S → List E → Type 0) where
  pub record HasTaken (p : PassView E O) (h : HeldView S E O) : Type 0 where
    pub pass : IsOfPass p h
    -- the new front begins with the front of the pass, and has no further entry under its numbers
    pub front : Extends number_of p.first p.limit p.front h.front
    pub origin : h.lock.origin ≡ Some (origin_of h.state)
    pub represents : represents_list h.state h.front
    pub numbered : All (λ e. number_of e < p.lock.numbers) h.front
    -- for a pass with all numbers the front is unchanged
    pub same : HasAllNumbers p → h.front ≡ p.front

module _ {E O : Type 0} where
  -- the pass of a new lock: all numbers and an empty front
  abbrev pub first_pass : LockView O → ℕ → PassView E O
  first_pass lock numbers = record { lock = lock; front = []; first = 0; limit = numbers }

  -- the pass without its highest number
  abbrev pub without_highest : PassView E O → PassView E O
  without_highest p = record { lock = p.lock; front = p.front; first = p.first; limit = p.limit - 1 }

  -- the pass with its highest number alone
  abbrev pub highest_alone : PassView E O → PassView E O
  highest_alone p = record { lock = p.lock; front = p.front; first = p.limit - 1; limit = p.limit }

  -- the ranges are adjacent
  abbrev pub IsBeside : PassView E O → PassView E O → Type 0
  IsBeside p q = (p.limit ≡ q.first) ⊎ (q.limit ≡ p.first)

  -- the front of q begins with the front of p, and has no further entry under the numbers of p
  abbrev pub IsBehind : (E → ℕ) → PassView E O → PassView E O → Type 0
  IsBehind number p q = Extends number p.first p.limit p.front q.front

  -- r is p and q together: both ranges, and the longer front, which begins with the shorter one
  abbrev pub IsBothOf : (E → ℕ) → PassView E O → PassView E O → PassView E O → Type 0
  IsBothOf number p q r =
      (r.lock ≡ p.lock) × (r.first ≡ min p.first q.first) × (r.limit ≡ max p.limit q.limit)
      × ((IsBehind number p q × (r.front ≡ q.front)) ⊎ (IsBehind number q p × (r.front ≡ p.front)))

-- ---- The histories that a counter represents.

-- the view of a counter
pub record Tally : Type 0 where
  pub count : ℕ
  pub total : ℕ

-- the count is the number of entries of the history, and the total is the sum of their amounts
pub record Represents (tally : Tally) (history : List CounterEntry) : Type 0 where
  pub counted : length history ≡ tally.count
  pub added_up : sum_by (λ e. e.amount) history ≡ tally.total

pub Represents-one_length : (tally : Tally) (xs ys : List CounterEntry) → Represents tally xs → Represents tally ys → length xs ≡ length ys
Represents-one_length tally xs ys a b = a.counted ∙ sym b.counted
