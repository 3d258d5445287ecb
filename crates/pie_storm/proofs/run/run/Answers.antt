use Rattle.pie_storm.proofs.Names.{ℕ, ap, subst, CallerView, IsWorkBelow}
use Rattle.pie_storm.proofs.Gathering.{ended}
use Rattle.pie_storm.proofs.run.run.Goals as goal

pub returns-clause-ended : goal.returns-clause-ended
returns-clause-ended g c =
    let plan = c.args.plan.now in
    let work = c.in-Some.work in
    let book = c.in-Ok.book in
    let worked = subst (λ (n : ℕ). IsWorkBelow c.args.link plan n work) (ap (λ (p : CallerView). p.limit) c.requires.starter) c.in-Some.ensures in
    let end = c.end_of-end.ensures in
    ended plan c.args.link work book c.requires.link_for c.requires.callers worked c.in-Ok.ensures.opening
    c.in-Ok.ensures.same c.in-Ok.ensures.numbered c.end_of-end.result end.events end.registers end.stats end.counts
