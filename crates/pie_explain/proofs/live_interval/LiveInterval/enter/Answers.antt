use Rattle.pie_explain.proofs.SummaryNames.{arith, ◌∙◌, ap, length_of, interval_at, interval_of}
use Rattle.pie_explain.proofs.LiveFacts.{awaits-same, in-interval, not-started}
use Rattle.pie_explain.proofs.live_interval.LiveInterval.enter.Goals as goal

pub returns-then-moment-self-clause-awaits : goal.returns-then-moment-self-clause-awaits
returns-then-moment-self-clause-awaits c = λ shown one at holds.
    let interval = c.args.self.now in
    let inside = in-interval interval.begun interval.number interval.every interval.start interval.end c.args.moment holds.spans (omega arith) (omega arith) in
    awaits-same interval shown one holds
    (not-started interval (interval_at (length_of interval) one) inside.0 (ap (interval_of (length_of interval)) at ∙ inside.1))
