-- Facts about the output: records built from their fields, and reports.
use Rattle.std.proofs.Common.{Bool, List, [], ap, append_assoc, arith, codes, drop, length, length-append, refl, sym, true, ℕ, ◌++◌, ◌-◌, ◌∙◌, ◌∷◌, ◌≡◌}
use Rattle.pie_explain.specs.declared.explanation.Explained.{Explained}
use Rattle.pie_explain.specs.{Record.active_field, Record.explanation_text, Record.most_fields, Record.IsRecords, Record.header, Report.Grows}
use Rattle.pie_explain.proofs.ReportFacts.{reported}
use Rattle.pie_record.specs.Plain.{onto}
use Rattle.std.proofs.lemmas.List.{drop_at}

-- ==== A record is put together

-- fields before a text are those before its front, and then its rest
pub onto-append : (fields : List (List ℕ)) (front rest : List ℕ) → onto fields front ++ rest ≡ onto fields (front ++ rest)
onto-append [] front rest = refl
onto-append (f ∷ fs) front rest = append_assoc f (44 ∷ onto fs front) rest ∙ ap (λ (l : List ℕ). f ++ (44 ∷ l)) (onto-append fs front rest)

-- the last bytes of fields before a text are the text
pub steady_last : (fields : List (List ℕ)) (steady text : List ℕ) (n : ℕ) → text ≡ onto fields steady → n ≡ length steady
    → drop (length text - n) text ≡ steady
steady_last fields steady text n is long =
    let whole = sym (onto-append fields [] steady) in
    let both = length-append (onto fields []) steady in
    rw (is, whole) (drop_at (onto fields []) steady (length (onto fields [] ++ steady) - n) (omega (arith, both, long)))

-- a record, and the wall-clock time after it
pub wall_line : (all : Explained) (wall old : List ℕ)
    → ((old ++ onto (most_fields all) (active_field all.after.active ++ codes ",")) ++ wall) ++ codes "\n"
    ≡ old ++ onto (most_fields all) (active_field all.after.active ++ (codes "," ++ wall ++ codes "\n"))
wall_line all wall old =
    let fields = most_fields all in
    let active : List ℕ = active_field all.after.active in
    append_assoc (old ++ onto fields (active ++ codes ",")) wall (codes "\n") ∙ append_assoc old (onto fields (active ++ codes ",")) (wall ++ codes "\n")
    ∙ ap (λ (l : List ℕ). old ++ l) (onto-append fields (active ++ codes ",") (wall ++ codes "\n")
    ∙ ap (λ (l : List ℕ). onto fields l) (append_assoc active (codes ",") (wall ++ codes "\n")))

-- ==== Records one by one, as a report

pub record_reported : (by_wall : Bool) (all : List Explained) (one : Explained) (text old now : List ℕ) → IsRecords by_wall all text
    → now ≡ old ++ explanation_text by_wall one → Grows (IsRecords by_wall (all ++ one ∷ [])) text old now
record_reported by_wall all one text old now was is =
    reported true _ (header by_wall) all one (explanation_text by_wall one) (record { more = explanation_text by_wall one; grown = is }) (λ _. is) refl was
