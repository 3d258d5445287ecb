-- Facts about the first bytes of a text.
use Rattle.std.proofs.Common.{arith, ◌≡◌, ◌∙◌, ◌<◌, ℕ, suc, zero, List, ◌++◌, Option, Some, None, append-nil, ap, take, codes, false, refl}
use Rattle.std.specs.Io.KnownBytes.{Consumes}
use Rattle.std.specs.Prelude.{IfSome, Ok}
use Rattle.pie_commands.specs.TextKinds.{TakesByte, is_linux_text}

-- a text within the first bytes of recorded steps
part-only : (place : ℕ) → place < 4 → false ≡ is_linux_text (take place (codes "qid,"))
part-only zero within = refl
part-only (suc zero) within = refl
part-only (suc (suc zero)) within = refl
part-only (suc (suc (suc zero))) within = refl
part-only (suc (suc (suc (suc more)))) within = absurd (omega (arith, within))

-- a text that ends within these bytes
pub text-ends : (place : ℕ) (before mid after : Option (List ℕ)) → place < 4 → Consumes before mid (take place (codes "qid,"))
    → TakesByte mid (Ok None) after → IfSome before (λ text. false ≡ is_linux_text text)
text-ends place None mid after within consumed none = tt
text-ends place (Some text) None after within consumed none = absurd consumed
text-ends place (Some text) (Some rest) after within consumed none =
    let same : text ≡ take place (codes "qid,") =
    consumed ∙ ap (λ (r : List ℕ). take place (codes "qid,") ++ r) none.0 ∙ append-nil (take place (codes "qid,")) in
    rw same (part-only place within)
