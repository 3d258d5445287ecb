use Rattle.pie_commands.proofs.TextKindFacts.{text-ends}
use Rattle.pie_commands.proofs.head.recognize.Goals as goal

pub returns-in-Ok-None-clause-recognized : goal.returns-in-Ok-None-clause-recognized
returns-in-Ok-None-clause-recognized g c =
    text-ends c.loop-place.place (g.R.Read.remaining c.args.reader.now) (g.R.Read.remaining c.loop-place.reader) (g.R.Read.remaining c.next_byte.new.reader)
    c.loop-place-test.true c.loop-place.invariant (rw c.in-Ok-None.field-0-is at c.in-Ok-None.ensures)
