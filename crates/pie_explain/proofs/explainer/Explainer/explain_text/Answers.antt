use Rattle.std.proofs.lemmas.Option.{IfSome_then}
use Rattle.pie_explain.proofs.Names.{begun-fails, processed-text, refl}
use Rattle.pie_explain.proofs.explainer.Explainer.explain_text.Goals as goal

pub returns-in-Ok : goal.returns-in-Ok
returns-in-Ok g c = IfSome_then (g.R.Read.remaining c.args.reader) c.in-Ok.ensures.replays (λ text replays.
    processed-text _ _ _ replays (λ start origin first from. c.explain_from-answer.ensures start origin first _ from))

pub returns-in-Err : goal.returns-in-Err
returns-in-Err g c = IfSome_then (g.R.Read.remaining c.args.reader) c.in-Err.ensures.faults (λ text faults.
    begun-fails _ _ _ _ _ _ _ refl faults)
