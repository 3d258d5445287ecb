use Rattle.pie_explain.proofs.SummaryNames.{[], ◌≡◌, ◌∙◌, ◌+◌, ◌/◌, ◌*◌, arith, ℕ, ap, sym, min, max, number_in, starts_interval, meter_of}
use Rattle.pie_explain.proofs.LiveFacts.{awaits-new, awaits-same, spans-begun}
use Rattle.pie_explain.proofs.live_interval.LiveInterval.begin_interval.Goals as goal

-- the number of an interval, with other names of moment and length
same-number : (moment at_moment every longest : ℕ) → at_moment ≡ moment → longest ≡ max every 1 → moment / longest ≡ at_moment / max every 1
same-number moment at_moment every longest at is = λ i. sym at i / is i

pub returns-then-starts_interval-clause-awaits : goal.returns-then-starts_interval-clause-awaits
returns-then-starts_interval-clause-awaits c = λ shown one at holds.
    let interval = c.args.self.now in
    let every = c.max-every.result in
    awaits-new interval shown one (c.args.moment / every) _ _ _ _ _ holds
    (same-number c.args.moment one.explanation.moment interval.every every at c.max-every.ensures)
    (sym c.starts_interval.ensures ∙ c.if-starts_interval.true) c.saturating_add-self-then-starts_interval.ensures
    (c.begun-self.ensures ∙ (λ i. record (meter_of [] []) { first = sym at i; since = sym at i })) c.clear_counts.ensures
    (spans-begun _ (c.args.moment / every) interval.every (c.args.moment / every * every) c.saturating_add-self.result (λ none. omega (arith, none, c.saturating_add-self-then-starts_interval.ensures))
    (ap (λ (e : ℕ). c.args.moment / every * e) c.max-every.ensures)
    (c.saturating_add-self.ensures ∙ ap (λ (e : ℕ). min (c.args.moment / every * every + e) 18446744073709551615) c.max-every.ensures))

pub returns-else-starts_interval-clause-awaits : goal.returns-else-starts_interval-clause-awaits
returns-else-starts_interval-clause-awaits c = λ shown one at holds.
    let interval = c.args.self.now in
    let number = same-number c.args.moment one.explanation.moment interval.every c.max-every.result at c.max-every.ensures in
    awaits-same interval shown one holds (ap (starts_interval (number_in interval)) (sym number) ∙ sym c.starts_interval.ensures ∙ c.if-starts_interval.false)
