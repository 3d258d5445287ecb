use Rattle.std.proofs.Common.{◌≡◌}
use Rattle.pie_record.specs.{IfSome, Some}
use Rattle.pie_record.specs.Source.{IsSource, source_left}
use Rattle.pie_record.proofs.records.take_record.Given as goal

abbrev pub invariant-loop-steps : goal.invariant-loop-steps
invariant-loop-steps g l = record {
  source : IsSource l.source;
  left : IfSome (source_left l.fn.source) (λ rows. source_left l.source ≡ Some rows);
}
