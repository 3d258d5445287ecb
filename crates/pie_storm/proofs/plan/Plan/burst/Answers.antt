use Rattle.pie_storm.proofs.Names.{◌≡◌, ◌-◌, length, refl, arith, rules, calls_of}
use Rattle.std.proofs.lemmas.Option.{slice_get_read}
use Rattle.pie_storm.proofs.StormFacts.{part_of, sender_has}
use Rattle.pie_storm.proofs.plan.Plan.burst.Goals as goal

pub returns-clause-value : goal.returns-clause-value
returns-clause-value c =
    let lists = c.args.self.now.arrivals.items in
    let place : c.from.result ≡ c.args.caller = search rules in
    let at = slice_get_read lists (length lists) (c.from.result - 1) c.index.result.now refl
    (omega (arith, place, c.requires.sender.0, c.requires.sender.1)) c.index.ensures in
    part_of c.args.k c.args.count c.index.result.now.items c.part.result.now (calls_of c.args.self.now c.args.caller)
    (sender_has c.args.self.now c.args.caller c.index.result.now c.requires.sender.0 c.requires.sender.1 (rw (← place) at)) (cc (c.part.ensures, c.as_slice.ensures.value))
