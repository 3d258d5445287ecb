-- The values of a subcommand's options: each is given by the rows that `clap` found, by the option's name.
use Rattle.std.specs.Prelude.{ℕ, ◌-◌, ◌^◌, List, Bool, true, false, Option, Some, None, Result, Ok, Err, codes, if◌then◌else◌, max, min, nat_le, option_and_then, option_map, unwrap_or}
use Rattle.std.specs.Option.{option_map_or, option_transpose}
use Rattle.std.specs.Result.{result_ok}
use Rattle.std.specs.Str.{bytes_eq}
use Rattle.std.specs.Str.Parse.{digits_value, without_leading_plus}
use Rattle.clap.specs.ValueTests.{accepts}
use Rattle.clap.specs.Words.{Row, Text, first_of, one_of}
use Rattle.clap.specs.declared.builder.value_parser.ValueParser.TheVariants.{Unsigned}
use Rattle.pie_units.specs.Time.{moment_in, when_in}
use Rattle.pie_units.specs.declared.utc.MomentFault.{MomentFault}
use Rattle.pie_units.specs.declared.utc.When.{When}
use Rattle.pie_units.specs.declared.utc.When.TheVariants as when
use Rattle.pie_units.specs.declared.utc.WhenFault.{WhenFault}

-- ---- numbers and flags

-- the number below 2^64 that a text writes in decimal digits
abbrev pub number_of : Text → Option ℕ
number_of text = if accepts false (Unsigned 0 (2 ^ 64 - 1)) text then Some (digits_value 10 (without_leading_plus text)) else None

-- the number in an option's value
abbrev pub number_given : Text → List Row → Option ℕ
number_given name options = option_and_then number_of (one_of name options)

-- true if an option without a value is present
abbrev pub flag_given : Text → List Row → Bool
flag_given name options = option_map_or (λ text. bytes_eq text (codes "true")) (first_of name options) false

-- the number in an option's value, or `unnamed` without the option; clamped to its range, though `clap` refuses a number out of it
abbrev pub number_or : Text → ℕ → ℕ → ℕ → List Row → ℕ
number_or name least most unnamed options = max least (min (unwrap_or (number_given name options) unnamed) most)

-- ---- moments

-- the moment in an option's value
abbrev pub moment_given : Text → List Row → Result (Option ℕ) MomentFault
moment_given name options = option_transpose (option_map moment_in (first_of name options))

-- the bound in an option's value
abbrev pub bound_given : Text → List Row → Result (Option When) WhenFault
bound_given name options = option_transpose (option_map when_in (first_of name options))

-- true unless both bounds are given, are of the same kind, moments or wall-clock times, and the first is after the last
abbrev pub in_order : Option When → Option When → Bool
in_order (Some (when.Moment from)) (Some (when.Moment to)) = nat_le from to
in_order (Some (when.Unix from)) (Some (when.Unix to)) = nat_le from to
in_order _ _ = true

-- the bounds `from` and `to`, if both are valid and in order
abbrev pub ordered : Option (Option When) → Option (Option When) → Option (Option When × Option When)
ordered (Some from) (Some to) = if in_order from to then Some (from, to) else None
ordered _ _ = None

abbrev pub bounds_of : List Row → Option (Option When × Option When)
bounds_of options = ordered (result_ok (bound_given (codes "from") options)) (result_ok (bound_given (codes "to") options))
