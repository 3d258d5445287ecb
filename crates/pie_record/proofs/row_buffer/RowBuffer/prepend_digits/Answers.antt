use Rattle.std.proofs.Common.{arith, length-append}
use Rattle.std.specs.Fmt.{decimal}
use Rattle.std.proofs.lemmas.Fmt.{length-decimal-le}
use Rattle.pie_record.proofs.row_buffer.RowBuffer.prepend_digits.Goals as goal

pub write_digits-self-inside-requires : goal.write_digits-self-inside-requires
write_digits-self-inside-requires c =
    let long = rw c.self.view_is at c.self.invariant in
    let short = length-decimal-le 20 c.args.number (omega arith) (omega arith) (omega arith) in
    (omega (arith, long), omega (arith, c.self.told))

pub returns-clause-long : goal.returns-clause-long
returns-clause-long c =
    let w = c.write_digits-self-inside in
    let long = rw c.self.view_is at c.self.invariant in
    let short = length-decimal-le 20 c.args.number (omega arith) (omega arith) (omega arith) in
    rw (w.ensures.written, c.self.view_is) (omega (arith, short, length-append (decimal c.args.number) c.args.self.now))
