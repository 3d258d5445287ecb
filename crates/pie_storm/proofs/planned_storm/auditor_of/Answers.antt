use Rattle.pie_storm.proofs.Names.{map, take}
use Rattle.std.proofs.lemmas.List.{map_more}
use Rattle.pie_record.specs.declared.history_record.Line.TheVariants.{Valid}
use Rattle.pie_audit.specs.Replay.{at_opening}
use Rattle.pie_storm.proofs.planned_storm.auditor_of.Goals as goal

pub loop-event-preserved : goal.loop-event-preserved
loop-event-preserved c =
    let events = c.args.events.now in let i = c.loop-event.event-index in
    rw (map_more Valid events i c.event-item.result c.loop-event-test.true, ← c.event-item.is)
    (c.feed.ensures.audits (at_opening c.args.opening.now) (map Valid (take i events)) c.loop-event.invariant)
