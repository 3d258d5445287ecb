use Rattle.std.proofs.Common.{◌≡◌, arith}
use Rattle.pie_aqm.specs.{Depart, after_call}
use Rattle.pie_aqm.proofs.Laws.{threshold-holds, Sound_call, stays_sound, represents_with, uncapped}
use Rattle.pie_aqm.proofs.controller.Controller.depart.Goals as goal

pub invariant_of-self : goal.invariant_of-self
invariant_of-self c =
    let a = c.args in
    let small = threshold-holds c.self.inside.raw.params c.self.invariant.params in
    let after : c.depart.new.self ≡ after_call c.self.inside.raw (Depart a.size a.bytes_left c.units.result c.units-2.result)
    = uncapped c.self.inside.raw _ a.size a.bytes_left c.units.result c.units-2.result small.1 c.depart.ensures in
    stays_sound _ _ after (Sound_call _ c.self.invariant (Depart a.size a.bytes_left c.units.result c.units-2.result) (omega (arith, c.units-2.ensures)))

pub returns-clause-after : goal.returns-clause-after
returns-clause-after c =
    let a = c.args in
    let small = threshold-holds c.self.inside.raw.params c.self.invariant.params in
    rw (← c.units.ensures.value, ← c.units-2.ensures.value, ← c.self.view_is)
    (uncapped c.self.inside.raw _ a.size a.bytes_left c.units.result c.units-2.result small.1 c.depart.ensures)

pub returns-clause-threshold : goal.returns-clause-threshold
returns-clause-threshold c = rw (← c.self.view_is) (threshold-holds c.self.inside.raw.params c.self.invariant.params).1

pub returns-clause-represents : goal.returns-clause-represents
returns-clause-represents c =
    let a = c.args in
    represents_with a.self.now _ (Depart a.size a.bytes_left a.since a.moment) (returns-clause-after c) (returns-clause-threshold c)
