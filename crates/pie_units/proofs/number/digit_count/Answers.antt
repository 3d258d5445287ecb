use Rattle.std.proofs.Common.{◌≡◌, ◌∙◌, arith, length-take, rules, tests}
use Rattle.std.specs.Char.{is_ascii_digit}
use Rattle.std.specs.List.{prefix_len}
use Rattle.std.proofs.lemmas.Iterator.{YieldsList-from_slice}
use Rattle.std.proofs.lemmas.Iterator.Consumers.{count_from_yields_List}
use Rattle.std.proofs.lemmas.Iterator.Search.{YieldsList-from_take_while}
use Rattle.std.proofs.lemmas.List.Folds.{length-prefix_len}
use Rattle.pie_units.specs.Number.{digit_count}
use Rattle.pie_units.proofs.number.digit_count.Goals as goal

pub returns : goal.returns
unfolding digit_count
returns c =
    let text = c.args.text.now in
    let is : c.count.result ≡ prefix_len is_ascii_digit text = count_from_yields_List c.take_while.result _ c.count.ensures.ran
    (YieldsList-from_take_while _ is_ascii_digit (YieldsList-from_slice text cc) c.take_while.ensures.closure c.take_while.ensures.done
    (λ x b q k. search (rules, tests))) ∙ length-prefix_len is_ascii_digit text in
    let few = length-prefix_len is_ascii_digit text in
    record { count = is; within = omega (arith, is, few, length-take (prefix_len is_ascii_digit text) text) }
