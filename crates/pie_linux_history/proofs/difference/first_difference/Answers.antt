use Rattle.std.proofs.Common.{◌≡◌, ◌+◌, ◌<◌, ◌≤◌, ℕ, List, Option, ◌∙◌, sym, arith, drop, get_or, length, refl}
use Rattle.std.specs.Prelude.{None, Some, false, is_some, true}
use Rattle.std.specs.Option.{option_or}
use Rattle.std.proofs.lemmas.List.{drop_all, drop_more}
use Rattle.pie_linux_history.specs.declared.{difference.Difference.Difference, step.Step.Step}
use Rattle.pie_linux_history.specs.Differences.{difference_of, first_difference}
use Rattle.pie_linux_history.proofs.difference.first_difference.Goals as goal

next : (step : Step) (column : ℕ) (xs ys : List ℕ) (found : Option Difference) → column < length xs → column < length ys
    → difference_of step column (get_or xs column 0) (get_or ys column 0) ≡ found
    → first_difference step column (drop column xs) (drop column ys)
    ≡ option_or found (first_difference step (column + 1) (drop (column + 1) xs) (drop (column + 1) ys))
unfolding first_difference
next step column xs ys found in_xs in_ys is = rw (drop_more xs column 0 in_xs, drop_more ys column 0 in_ys, is) refl

none : (step : Step) (column : ℕ) (xs ys : List ℕ) → length xs ≤ column → first_difference step column (drop column xs) (drop column ys) ≡ None
unfolding first_difference
none step column xs ys all = rw (drop_all column xs all) refl

or-none : (found rest : Option Difference) → is_some found ≡ false → option_or found rest ≡ rest
or-none None rest e = refl
or-none (Some x) rest e = cc

or-some : (found rest : Option Difference) → is_some found ≡ true → option_or found rest ≡ found
or-some None rest e = cc
or-some (Some x) rest e = refl

pub loop-column-preserved : goal.loop-column-preserved
loop-column-preserved c = c.loop-column.invariant
    ∙ next c.args.step.now c.loop-column.column c.args.recorded.now c.args.right.now c.difference_of-found.result (omega arith) (omega arith) (sym c.difference_of-found.ensures)
    ∙ or-none c.difference_of-found.result _ (sym c.is_some.ensures ∙ c.if-is_some.false)

pub returns-then-is_some : goal.returns-then-is_some
returns-then-is_some c = sym (c.loop-column.invariant
    ∙ next c.args.step.now c.loop-column.column c.args.recorded.now c.args.right.now c.difference_of-found.result (omega arith) (omega arith) (sym c.difference_of-found.ensures)
    ∙ or-some c.difference_of-found.result _ (sym c.is_some.ensures ∙ c.if-is_some.true))

pub returns : goal.returns
returns c = sym (c.loop-column.invariant ∙ none c.args.step.now c.loop-column.column c.args.recorded.now c.args.right.now (omega arith))
