-- Facts about the getters of `clap`: they return the option's value on the command line.
use Rattle.pie_commands.proofs.Names.{◌≡◌, ◌∙◌, ◌-◌, ◌^◌, ℕ, List, Bool, true, false, Option, Some, None, arith, refl, sym, ap, Result, Ok, Err, option_and_then, if◌then◌else◌, ParsesUnsigned, digits_value, without_leading_plus, ReadsOne, number_of}
use Rattle.clap.specs.ValueTests.{accepts}
use Rattle.clap.specs.declared.builder.value_parser.ValueParser.TheVariants.{Unsigned}
use Rattle.clap.proofs.ValueTestLemmas.{Accepts-accepts, accepts-Accepts}

-- the number that is read from an option's text
pub number-given : {E : Type 0} (gives : List ℕ → Result ℕ E → Type 0)
    → ((text : List ℕ) (read : Result ℕ E) → gives text read → ParsesUnsigned 64 10 text read)
    → (given : Option (List ℕ)) (result : Option ℕ) → (given ≡ None → result ≡ None)
    → ((text : List ℕ) → given ≡ Some text → ReadsOne gives text result)
    → result ≡ option_and_then number_of given
number-given gives parses None result none some = none refl
number-given gives parses (Some text) result none some = go (accepts false (Unsigned 0 (2 ^ 64 - 1)) text) refl result (some text refl)
  where
    value : ℕ
    value = digits_value 10 (without_leading_plus text)

    go : (b : Bool) → accepts false (Unsigned 0 (2 ^ 64 - 1)) text ≡ b → (read : Option ℕ) → ReadsOne gives text read
        → read ≡ (if b then Some value else None)
    go true is (Some n) reads = ap (λ (v : ℕ). Some v) (parses text (Ok n) reads).1
    go true is None reads =
        let numeral = accepts-Accepts false (Unsigned 0 (2 ^ 64 - 1)) text is in
        absurd (parses text (Err reads.0) reads.1 (numeral.0, numeral.1))
    go false is (Some n) reads =
        let numeral = (parses text (Ok n) reads).0 in
        let small = numeral.1 in
        let yes = Accepts-accepts false (Unsigned 0 (2 ^ 64 - 1)) text (numeral.0, numeral.1, omega arith, omega arith) in
        let wrong : true ≡ false = sym yes ∙ is in
        cc
    go false is None reads = refl
