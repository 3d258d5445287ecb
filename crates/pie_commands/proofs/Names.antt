-- Definitions from lower crates that the files of this folder use.
pub use Rattle.std.proofs.Common.{Bool, List, None, Option, Some, [], ap, arith, codes, false, refl, sym, true, ℕ, ◌^◌, ◌∙◌, ◌∷◌, ◌≡◌, ◌-◌}
pub use Rattle.std.specs.Prelude.{Err, Ok, Result, if◌then◌else◌, option_and_then}
pub use Rattle.std.specs.Str.Parse.{ExplainsUnsignedError, HasUnsignedDigitsIfOk, ParsesUnsigned, digits_value, without_leading_plus}
pub use Rattle.clap.proofs.WalkLemmas.{first_value-rows, one_text-rows}
pub use Rattle.clap.specs.Matches.{ReadsOne}
pub use Rattle.clap.specs.Words.{Row, Text, found_of, one_text}
pub use Rattle.pie_commands.specs.Values.{number_of}
