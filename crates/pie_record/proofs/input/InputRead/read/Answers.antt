use Rattle.std.proofs.Common.{arith}
use Rattle.pie_record.proofs.InputFacts.{read_through}
use Rattle.pie_record.proofs.input.InputRead.read.Goals as goal

pub returns-then-self-clause-bytes : goal.returns-then-self-clause-bytes
returns-then-self-clause-bytes g c =
    let i = c.self.inside in
    rw (← c.self.view_is) (read_through (g.R.Read.remaining i.reader) (g.R.Read.remaining c.read.new.self) i.bytes.items c.read.new.buf i.at i.end
    c.read.result (omega (arith, c.if-self.true)) c.read.ensures.bytes)
