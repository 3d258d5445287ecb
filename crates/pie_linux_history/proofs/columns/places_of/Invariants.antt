use Rattle.pie_linux_history.specs.Columns.{column_at}
use Rattle.pie_linux_history.proofs.ColumnFacts.{Filled}
use Rattle.pie_linux_history.proofs.columns.places_of.Given as goal

abbrev pub invariant-loop-column : goal.invariant-loop-column
invariant-loop-column l = Filled (column_at l.names) 58 l.column l.places
