use Rattle.pie_explain.proofs.SummaryNames.{◌∙◌, ap, MeterInput}
use Rattle.pie_explain.proofs.SumsFacts.{waits-push}
use Rattle.pie_explain.proofs.interval.Interval.put.Goals as goal

pub returns-clause-adds : goal.returns-clause-adds
returns-clause-adds c = λ shown one noted time holds. record {
  sums = c.take.ensures shown one noted time holds.sums;
  waits = waits-push shown one (λ numbers held. c.count_some.ensures numbers (c.deref_mut.ensures.value ∙ held))
      (ap (λ (n : MeterInput). n.wait) noted) holds.waits;
}
