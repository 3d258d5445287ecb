use Rattle.pie_guarantees.proofs.LawfulFacts.{first_out, waits_bounded}
use Rattle.pie_guarantees.proofs.counts.waits_are_bounded.Goals as goal

pub returns : goal.returns
returns c = record {
  first_in_first_out = first_out;
  waits = waits_bounded;
}
