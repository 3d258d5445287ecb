use Rattle.pie_audit.specs.Replay.{at_opening}
use Rattle.pie_storm.proofs.Names.{map, opening_of}
use Rattle.pie_record.specs.declared.history_record.Line.TheVariants.{Valid}
use Rattle.pie_storm.proofs.StormFacts.{differs-never, fit-legal, writes-answered}
use Rattle.pie_storm.proofs.planned_storm.write_storm.Goals as goal

pub unreachable-requires : goal.unreachable-requires
unreachable-requires g c =
    differs-never c.events_are_lines.ensures c.clean_texts_are_legal.ensures.legal_is_clean c.opening-opening.result (opening_of c.args.plan.now)
    c.args.events.now c.in-Differs.event c.opening-opening.ensures c.requires.legal
    (c.in-Differs.ensures.finding (at_opening c.opening-opening.result) (map Valid c.args.events.now) c.in-Ok.ensures)

pub write_history-requires : goal.write_history-requires
write_history-requires g c = record {
  fitting = fit-legal c.all_numbers_fit.ensures.kinds (opening_of c.args.plan.now) c.args.events.now c.requires.legal;
}

pub returns-clause-written : goal.returns-clause-written
returns-clause-written g c = writes-answered c.events_are_lines.ensures c.clean_is_legal.ensures.legal_is_clean c.clean_texts_are_legal.ensures.legal_is_clean
    c.write_history.result c.args.plan.now c.args.events.now c.in-Ok.auditor c.opening-opening.result (g.W.Write.contents c.args.output.now)
    (g.W.Write.contents c.write_history.new.writer) c.opening-opening.ensures c.requires.legal c.requires.limits c.in-Ok.ensures
    c.write_history.ensures.written c.write_history.ensures.read_back
