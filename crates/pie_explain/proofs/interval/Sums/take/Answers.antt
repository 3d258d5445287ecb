use Rattle.pie_explain.proofs.SummaryNames.{ap, sym, ◌∙◌, MeterInput, Sums, bounds_of, sums_of, time_at}
use Rattle.std.specs.Option.{option_and}
use Rattle.pie_explain.specs.Sums.{off_time, on_time}
use Rattle.pie_explain.proofs.{SpanFacts.some-of-push, SumsFacts.count-more, SumsFacts.taken}
use Rattle.pie_explain.proofs.interval.Sums.take.Goals as goal

pub returns : goal.returns
unfolding sums_of
returns c = λ shown one noted time same.
    let at = sym (ap (λ (n : MeterInput). n.moment) noted) in
    let reached = c.begin_at.ensures shown one at same in
    λ i. record {
      count = count-more shown one c.increase.ensures (ap (λ (s : Sums). s.count) reached) i;
      times = some-of-push bounds_of time_at shown one c.take_some.ensures time (ap (λ (s : Sums). s.times) reached) i;
      meter = taken shown one noted time c.record_time.ensures c.take.ensures (ap (λ (s : Sums). s.meter) reached) i;
      on_times = some-of-push bounds_of on_time shown one c.take_some-2.ensures
          (c.and.ensures ∙ (λ j. option_and (noted j).turned_on (time j))) (ap (λ (s : Sums). s.on_times) reached) i;
      off_times = some-of-push bounds_of off_time shown one c.take_some-3.ensures
          (c.and-2.ensures ∙ (λ j. option_and (noted j).turned_off (time j))) (ap (λ (s : Sums). s.off_times) reached) i;
    }
