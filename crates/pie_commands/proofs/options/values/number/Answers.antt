use Rattle.pie_commands.proofs.Names.{◌∙◌, ℕ, List, Option, ap, option_and_then, ExplainsUnsignedError, HasUnsignedDigitsIfOk, ParsesUnsigned}
use Rattle.pie_commands.proofs.Names.{found_of, one_text, one_text-rows, number_of}
use Rattle.pie_commands.proofs.ValueFacts.{number-given}
use Rattle.pie_commands.proofs.options.values.number.Goals as goal

pub returns : goal.returns
returns c =
    let found = found_of c.args.options.now in
    let name = c.args.name.now in
    number-given (λ bs r. ParsesUnsigned 64 10 bs r × ExplainsUnsignedError 10 bs r × HasUnsignedDigitsIfOk bs r) (λ text read gives. gives.0)
    (one_text found name) c.get_one.result
    c.get_one.ensures.none c.get_one.ensures.value ∙ ap (λ (given : Option (List ℕ)). option_and_then number_of given) (one_text-rows found name)
