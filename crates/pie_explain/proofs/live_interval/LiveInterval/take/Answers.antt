use Rattle.pie_explain.proofs.SummaryNames.{List, ◌∷◌, [], ◌++◌, ◌∙◌, ap, subst, sym, Some, time_of, Explained, LiveInterval, MeterInput, Holds, length_of, interval_at, since}
use Rattle.pie_explain.proofs.{LiveFacts.clock-same, LiveFacts.holds-taken, SumsFacts.input-moment, SumsFacts.input-times, SumsFacts.taken, SumsFacts.waits-push}
use Rattle.pie_explain.proofs.live_interval.LiveInterval.take.Goals as goal

pub returns-clause-holds : goal.returns-clause-holds
returns-clause-holds c = λ shown one noted clock holds.
    let interval = c.enter.new.self in
    let at = sym (input-moment one) ∙ sym (ap (λ (n : MeterInput). n.moment) noted) in
    let awaits = c.enter.ensures.awaits shown one at holds in
    let before : List Explained = since (length_of interval) (Some (interval_at (length_of interval) one)) shown in
    let same = clock ∙ clock-same c.enter.ensures.settings in
    let is = c.record_time.ensures.adds _ (input-times before one awaits.meter) in
    let meter = taken before one noted (λ i. time_of (sym same i) (sym at i))
    (λ times held. ap (λ (p : LiveInterval). p.meter) (c.record_time.ensures.adds times held)) c.take.ensures awaits.meter in
    let waits = waits-push before one (λ numbers held. c.count_some.ensures numbers (ap (λ (p : LiveInterval). p.waits) is ∙ held))
    (ap (λ (n : MeterInput). n.wait) noted) awaits.waits in
    subst (λ (p : LiveInterval). Holds (record p { meter = c.take.new.self; waits = c.count_some.new.counts }) (shown ++ one ∷ [])) (sym is)
    (holds-taken interval shown one c.take.new.self c.count_some.new.counts awaits meter waits)
