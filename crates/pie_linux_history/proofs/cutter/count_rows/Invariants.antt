use Rattle.std.specs.Prelude.{option_map}
use Rattle.pie_record.specs.Text.{records_of}
use Rattle.pie_linux_history.proofs.CutFacts.{Counted}
use Rattle.pie_linux_history.proofs.cutter.count_rows.Given as goal

abbrev pub invariant-rows : goal.invariant-rows
invariant-rows g l = Counted (option_map records_of (g.R.Read.remaining l.fn.input)) l.read l.records
