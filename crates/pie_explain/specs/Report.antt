-- The text of a report about explained events.
use Rattle.std.specs.Prelude.{ℕ, ◌≡◌, Bool, true, false, List, [], ◌∷◌, ◌++◌, ⊤}
use Rattle.pie_aqm.specs.History.{Place, places}
use Rattle.pie_explain.specs.declared.explanation.Explained.{Explained}

-- a page grew by bytes that extend the text to one of which `is` holds
pub record Grows (is : List ℕ → Type 0) (text page now : List ℕ) : Type 0 where
  pub more : List ℕ
  pub grown : now ≡ page ++ more
  pub says : is (text ++ more)

-- bytes were added to a page
pub record Extends (page now : List ℕ) : Type 0 where
  pub more : List ℕ
  pub grown : now ≡ page ++ more

-- the relation `is` holds of a text if it is `exact`; otherwise the text is any
abbrev pub Says : Bool → (List ℕ → Type 0) → List ℕ → Type 0
Says true is text = is text
Says false is text = ⊤

-- a report received exactly these events, by the relations `shows` of its state and `whole` of its text, and wrote the text
abbrev pub Receives : {State : Type 0} → (State → List Explained → Type 0) → (List Explained → List ℕ → Type 0) → List Explained → List ℕ → Type 0
Receives {State} shows whole all text = (state : State) × shows state all × whole all text

-- ---- a text with a part for each event

-- the parts at these events, one after another, of each of which `at` holds
abbrev pub HasParts : (Place Explained → List ℕ → Type 0) → List (Place Explained) → List ℕ → Type 0
HasParts at [] text = text ≡ []
HasParts at (place ∷ places) text = (part rest : List ℕ) × (text ≡ part ++ rest) × at place part × HasParts at places rest

-- the text before the end: the header, and the parts at these events
abbrev pub IsBegun : List ℕ → (Place Explained → List ℕ → Type 0) → List Explained → List ℕ → Type 0
IsBegun header at all text = (parts : List ℕ) × (text ≡ header ++ parts) × HasParts at (places all) parts

-- the whole text: that before the end, and then the last part
abbrev pub IsEnded : List ℕ → (Place Explained → List ℕ → Type 0) → List ℕ → List Explained → List ℕ → Type 0
IsEnded header at last all text = (before : List ℕ) × (text ≡ before ++ last) × IsBegun header at all before
