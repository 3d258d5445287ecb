-- The definitions at small values, worked out by hand: a lock around a counter with three numbers, after two calls.
use Rattle.pie_lock.proofs.Steps.{◌≡◌, ℕ, List, [], ◌∷◌, refl, own, longer}
use Rattle.pie_lock.specs.declared.lock.TheConstants.{WORD, SLOT, FREE, HELD}
use Rattle.pie_lock.specs.declared.counter.CounterEntry.{CounterEntry}
use Rattle.pie_lock.specs.Rule.{Tally, Represents}

-- the constants of the code are the numbers of the rule
constants : (WORD ≡ 0) × (SLOT ≡ 0) × (FREE ≡ 0) × (HELD ≡ 1)
constants = (refl, refl, refl, refl)

own_of_two_numbers : own (λ (n : ℕ). n) 1 3 (0 ∷ 1 ∷ 2 ∷ 3 ∷ 1 ∷ []) ≡ 1 ∷ 2 ∷ 1 ∷ []
own_of_two_numbers = refl

the_longer_second : longer {E = ℕ} (7 ∷ []) (7 ∷ 8 ∷ []) ≡ 7 ∷ 8 ∷ []
the_longer_second = refl

the_longer_first : longer {E = ℕ} (7 ∷ 8 ∷ 9 ∷ []) (7 ∷ []) ≡ 7 ∷ 8 ∷ 9 ∷ []
the_longer_first = refl

abbrev entry : ℕ → ℕ → CounterEntry
entry caller amount = record { caller = caller; amount = amount }

-- caller 0 added 5, and then caller 1 added 7
abbrev history : List CounterEntry
history = entry 0 5 ∷ entry 1 7 ∷ []

abbrev tally : Tally
tally = record { count = 2; total = 12 }

history_represented : Represents tally history
history_represented = record { counted = refl; added_up = refl }

-- the same counter represents other lists too
told_too : Represents tally (entry 2 12 ∷ entry 0 0 ∷ [])
told_too = record { counted = refl; added_up = refl }
