use Rattle.std.proofs.Common.{sym}
use Rattle.pie_linux_history.specs.Columns.{number_in, numbers_of}
use Rattle.pie_linux_history.proofs.ColumnFacts.{filled-first, filled-more, filled-none}
use Rattle.pie_linux_history.proofs.columns.Columns.numbers.Goals as goal

pub loop-column-init : goal.loop-column-init
loop-column-init c = filled-none (number_in c.args.self.now c.args.fields.now) _

pub loop-column-preserved : goal.loop-column-preserved
loop-column-preserved c = filled-more (number_in c.args.self.now c.args.fields.now) 53 c.loop-column.column c.loop-column.numbers c.in-Ok.number
    c.loop-column.invariant c.loop-column-test.true cc

pub returns-in-Err : goal.returns-in-Err
unfolding numbers_of
returns-in-Err c = sym (filled-first (number_in c.args.self.now c.args.fields.now) 53 c.loop-column.column c.loop-column.numbers c.in-Err.why
    c.loop-column.invariant c.loop-column-test.true cc)
