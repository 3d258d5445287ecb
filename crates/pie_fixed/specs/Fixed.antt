-- Picks by a random word, and the probability nearest to a signed value.
use Rattle.std.specs.Prelude.{ℕ, ℤ, pos, negsuc, ◌*◌, ◌^◌, ◌<◌, min}
use Rattle.pie_fixed.specs.declared.TheConstants.{ONE}

-- holds if the word, as a fraction of 2 ^ 64, is below the probability, as a fraction of `ONE`
abbrev pub Picks : ℕ → ℕ → Type 0
Picks prob word = word * ONE < prob * 2 ^ 64

-- the nearest probability: 0 for a negative value, `ONE` for a value above `ONE`
abbrev pub bounded_of : ℤ → ℕ
bounded_of (pos units) = min units ONE
bounded_of (negsuc _) = 0
