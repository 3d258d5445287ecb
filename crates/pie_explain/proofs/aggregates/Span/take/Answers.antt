use Rattle.pie_explain.proofs.SummaryNames.{ap, bounds_of, moment_at, time_at}
use Rattle.pie_explain.specs.declared.aggregates.Span.{Span}
use Rattle.pie_explain.proofs.SpanFacts.{each-of-push, some-of-push}
use Rattle.pie_explain.proofs.aggregates.Span.take.Goals as goal

pub returns : goal.returns
returns c = λ shown one at timed same i. record {
  moments = each-of-push bounds_of moment_at shown one c.take.ensures at (ap (λ (s : Span). s.moments) same) i;
  times = some-of-push bounds_of time_at shown one c.take_some.ensures timed (ap (λ (s : Span). s.times) same) i;
}
