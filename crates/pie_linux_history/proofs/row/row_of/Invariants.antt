use Rattle.std.specs.Prelude.{◌≡◌, []}
use Rattle.csv.specs.Records.{fields_of, partial_of}
use Rattle.pie_linux_history.specs.Cuts.{field_of, fields_until}
use Rattle.pie_linux_history.proofs.row.row_of.Given as goal

abbrev pub invariant-loop-place : goal.invariant-loop-place
invariant-loop-place l = record {
  fields : fields_of l.row ≡ fields_until (field_of l.columns l.name l.step) l.place;
  partial : partial_of l.row ≡ [];
}
