use Rattle.std.proofs.Common.{rules, sym, subst, ◌<◌, ◌^◌}
use Rattle.pie_rate.specs.Estimate.{departure, Estimate, IsWithin}
use Rattle.pie_rate.proofs.Laws.{represents_after, within_after}
use Rattle.pie_rate.proofs.rate.Rate.departed.Goals as goal

pub invariant_of-self : goal.invariant_of-self
invariant_of-self c =
    let within : c.units.result < 2 ^ 60 = search rules in
    subst (λ (e : Estimate). IsWithin e) (sym c.departed.ensures)
    (within_after c.args.threshold (departure c.args.size c.args.bytes_left c.units.result) c.requires within c.self.inside.raw c.self.invariant)

pub returns-clause-represents : goal.returns-clause-represents
returns-clause-represents c departures shown =
    let a = c.args in
    rw (c.departed.ensures, c.units.ensures.value)
    (represents_after a.threshold departures (departure a.size a.bytes_left a.moment) c.self.inside.raw c.requires (rw (← c.self.view_is) at shown))
