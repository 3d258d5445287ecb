use Rattle.std.proofs.Common.{sym}
use Rattle.pie_linux_history.specs.Columns.{column_at}
use Rattle.pie_linux_history.proofs.ColumnFacts.{filled-first, filled-more, filled-none}
use Rattle.pie_linux_history.proofs.columns.places_of.Goals as goal

pub loop-column-init : goal.loop-column-init
loop-column-init c = filled-none (column_at c.args.names.now) _

pub loop-column-preserved : goal.loop-column-preserved
loop-column-preserved c = filled-more (column_at c.args.names.now) 58 c.loop-column.column c.loop-column.places c.in-Ok.place
    c.loop-column.invariant c.loop-column-test.true cc

pub returns-in-Err : goal.returns-in-Err
returns-in-Err c = sym (filled-first (column_at c.args.names.now) 58 c.loop-column.column c.loop-column.places c.in-Err.why
    c.loop-column.invariant c.loop-column-test.true cc)
