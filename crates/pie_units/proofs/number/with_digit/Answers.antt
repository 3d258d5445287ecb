use Rattle.std.proofs.Common.{arith}
use Rattle.pie_units.proofs.number.with_digit.Goals as goal

pub returns : goal.returns
returns c =
    let units = c.saturating_sub-units.ensures in
    let wide = c.from.ensures in
    let tens = c.saturating_mul.ensures in
    let sum = c.saturating_add.ensures in
    omega arith
