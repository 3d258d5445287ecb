use Rattle.pie_linux_history.specs.Columns.{number_in}
use Rattle.pie_linux_history.proofs.ColumnFacts.{Filled}
use Rattle.pie_linux_history.proofs.columns.Columns.numbers.Given as goal

abbrev pub invariant-loop-column : goal.invariant-loop-column
invariant-loop-column l = Filled (number_in l.self l.fields) 53 l.column l.numbers
