use Rattle.std.proofs.Common.{◌≡◌, ◌∙◌, arith}
use Rattle.std.proofs.lemmas.Int.{ints}
use Rattle.std.specs.Prelude.{◌+ℤ◌}
use Rattle.pie_control.specs.{raw_step}
use Rattle.pie_control.proofs.update.raw_step.Goals as goal
use mir.Syntax.{w64}
use mir.Val.{of_z, to_z}

pub overflow_add-result : goal.overflow_add-result
overflow_add-result c =
    let a = c.weighted.ensures in
    let b = c.weighted-2.ensures in
    omega (arith, ints, a.above, a.below, b.above, b.below)

pub returns : goal.returns
unfolding raw_step
returns c =
    let x = c.weighted.result in
    let y = c.weighted-2.result in
    let a = c.weighted.ensures in
    let b = c.weighted-2.ensures in
    let is : to_z w64 (of_z w64 (to_z w64 (of_z w64 x) +ℤ to_z w64 (of_z w64 y))) ≡ x +ℤ y = omega (arith, ints, a.above, a.below, b.above, b.below) in
    record {
      value = is ∙ (λ i. a.value i +ℤ b.value i);
      above = omega (arith, ints, a.above, a.below, b.above, b.below);
      below = omega (arith, ints, a.above, a.below, b.above, b.below);
    }
