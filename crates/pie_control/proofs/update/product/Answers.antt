use Rattle.std.proofs.Common.{◌≡◌, arith}
use Rattle.std.proofs.lemmas.Int.{ints}
use Rattle.std.specs.Prelude.{pos}
use Rattle.pie_control.proofs.Laws.{product-above, product-below}
use Rattle.pie_control.proofs.update.product.Goals as goal
use mir.Syntax.{w64}
use mir.Val.{of_z, to_z}

pub overflow_mul-result : goal.overflow_mul-result
overflow_mul-result c =
    let gain : to_z w64 c.args.gain ≡ pos c.args.gain = omega (arith, ints) in
    let same : to_z w64 (of_z w64 c.args.difference) ≡ c.args.difference = omega (arith, ints) in
    let above = product-above _ _ c.requires.gain c.requires.least in
    let below = product-below _ _ c.requires.gain c.requires.most in
    rw (gain, same) (omega (arith, ints, above, below))

pub returns : goal.returns
returns c =
    let gain : to_z w64 c.args.gain ≡ pos c.args.gain = omega (arith, ints) in
    let same : to_z w64 (of_z w64 c.args.difference) ≡ c.args.difference = omega (arith, ints) in
    let above = product-above _ _ c.requires.gain c.requires.least in
    let below = product-below _ _ c.requires.gain c.requires.most in
    rw (gain, same) record {
      value = omega (arith, ints, above, below);
      above = omega (arith, ints, above, below);
      below = omega (arith, ints, above, below);
    }
