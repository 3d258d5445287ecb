-- The state of a cut between two rows.
use Rattle.std.specs.Prelude.{ℕ, ◌+◌, ◌-◌, ◌≡◌, ◌++◌, ◌∷◌, ⊤, List, length, Option, Some, None, Result, Ok, Err}
use Rattle.std.specs.Io.KnownBytes.{Appends}
use Rattle.pie_record.specs.Text.{Row}
use Rattle.pie_linux_history.specs.declared.{fault.StepsFault.StepsFault, queues.Queues.Queues, text.StepsFinding.StepsFinding}
use Rattle.pie_linux_history.specs.{Cuts.Cut, Cuts.Plan, Cuts.cut_from, Cuts.joined, Known.HasRead, LookBack.Entry}

-- all rows were cut with this result; the text is known unless there was a fault
abbrev pub CutsRows : Cut → Result (ℕ × StepsFinding) StepsFault → Option (List ℕ) → Option (List ℕ) → Type 0
CutsRows cut (Ok done) before now = (cut.count ≡ done.0) × (cut.finding ≡ Ok done.1) × Appends before now cut.text
CutsRows cut (Err why) before now = cut.finding ≡ Err why

-- the queues before the row with this number, unless there is a finding
abbrev pub Stands : Queues → List Entry → Option StepsFinding → ℕ → Type 0
Stands queues entries None number = HasRead queues entries × (number ≡ length entries + 1)
Stands queues entries (Some finding) number = ⊤

-- a row was cut, and the others remain
pub record CutOn (plan : Plan) (was over : Option StepsFinding) (entries : List Entry) (number : ℕ) (row : Row) (page now : List ℕ) (written more : ℕ) (queues : Queues) : Type 0 where
  pub after : List Entry
  pub text : List ℕ
  pub count : ℕ
  pub text_is : now ≡ page ++ text
  pub count_is : more ≡ written + count
  pub stands : Stands queues after over (number + 1)
  pub same : (rows : List Row) → cut_from plan was entries (number - 1) (row ∷ rows) ≡ joined text count (cut_from plan over after number rows)

abbrev pub CutsRow : Plan → Option StepsFinding → List Entry → ℕ → Row → Result (Option StepsFinding) StepsFault → List ℕ → List ℕ → ℕ → ℕ → Queues → Type 0
CutsRow plan was entries number row (Ok over) page now written more queues = CutOn plan was over entries number row page now written more queues
CutsRow plan was entries number row (Err why) page now written more queues =
    (rows : List Row) → (cut_from plan was entries (number - 1) (row ∷ rows)).finding ≡ Err why
