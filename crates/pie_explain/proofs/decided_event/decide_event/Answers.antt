use Rattle.std.proofs.lemmas.Option.{IfSome_then}
use Rattle.pie_record.specs.Text.{records_of}
use Rattle.pie_explain.proofs.DecidedFacts.{faulted, text-decides}
use Rattle.pie_explain.proofs.decided_event.decide_event.Goals as goal

pub returns-in-Ok : goal.returns-in-Ok
returns-in-Ok g c = record {
  decides = IfSome_then (g.R.Read.remaining c.args.reader) c.in-Ok.ensures.replays (λ text is.
      text-decides (records_of text) _ _ _ _ _ c.args.number _ is c.decide_after.ensures);
}

pub returns-in-Err : goal.returns-in-Err
returns-in-Err g c = record {
  decides = IfSome_then (g.R.Read.remaining c.args.reader) c.in-Err.ensures.faults (λ text faults works.
      faulted (records_of text) c.in-Err.why (faults works));
}
