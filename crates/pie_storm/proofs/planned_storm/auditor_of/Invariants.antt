use Rattle.std.proofs.Common.{map, take}
use Rattle.pie_record.specs.declared.history_record.Line.TheVariants.{Valid}
use Rattle.pie_audit.specs.Replay.{Audits}
use Rattle.pie_storm.proofs.planned_storm.auditor_of.Given as goal

abbrev pub invariant-loop-event : goal.invariant-loop-event
invariant-loop-event l = Audits l.opening l.auditor (map Valid (take l.event-index l.events))
