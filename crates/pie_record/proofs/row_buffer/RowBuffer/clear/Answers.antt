use Rattle.std.proofs.Common.{arith, refl}
use Rattle.std.proofs.lemmas.List.{drop_all}
use Rattle.pie_record.proofs.row_buffer.RowBuffer.clear.Goals as goal

pub invariant_of-self : goal.invariant_of-self
invariant_of-self c = rw (drop_all 512 c.self.inside.bytes (omega (arith, c.self.told))) refl

pub returns : goal.returns
returns c = drop_all 512 c.self.inside.bytes (omega (arith, c.self.told))
