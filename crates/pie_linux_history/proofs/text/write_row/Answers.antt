use Rattle.pie_linux_history.proofs.ReportFacts.{writes-kept, writes-more}
use Rattle.pie_linux_history.proofs.text.write_row.Goals as goal

pub returns-in-Ok-write_if_full-clause-row : goal.returns-in-Ok-write_if_full-clause-row
returns-in-Ok-write_if_full-clause-row g c = λ entries entry before read leaves was.
    writes-kept before _ _
    (writes-more before (g.W.Write.contents c.args.writer.now) _ _ was (c.in-Ok.ensures entries entry was.text read leaves was.says_it))
    c.in-Ok-write_if_full.ensures.moved
