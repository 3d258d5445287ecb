use Rattle.pie_explain.proofs.Names.{processed-failed, processed-fault, processed-visited, HasExplained, IsExplanationText, Line, List, answer_since, refl, sym, traced, ◌++◌, ◌∙◌}
use Rattle.pie_explain.specs.Report.{Receives}
use Rattle.pie_explain.proofs.explainer.Explainer.explain_from.Goals as goal

pub returns-in-Err : goal.returns-in-Err
returns-in-Err g c = λ start origin first opening from.
    let it = c.args.self.now in
    processed-failed traced (answer_since it.selection) (IsExplanationText it.selection (Receives (g.P.Report.shows it.report) (g.P.Report.whole it.report))) start origin first _ _ _ _ _
    c.in-Err.ensures.io refl

pub returns-in-Ok-after_flush : goal.returns-in-Ok-after_flush
returns-in-Ok-after_flush g c = λ start origin first opening from.
    let it = c.args.self.now in
    let end = c.close-written.new.state in
    let old = g.W.Write.contents c.args.writer.now in
    processed-visited traced (answer_since it.selection) (IsExplanationText it.selection (Receives (g.P.Report.shows it.report) (g.P.Report.whole it.report))) start origin first _ _
    (λ (lines : List Line). HasExplained it.selection start origin lines end.replay end.explained) _ c.close-written.result _ _ old _
    c.explain_lines-outcome.ensures.explains
    (λ more so. c.close-written.ensures.closed start origin (first ++ more) old
    (so.explains start origin first old (c.in-Ok.ensures.begun start origin first opening old from))) c.close-written.ensures.io
    (sym c.after_flush.ensures ∙ c.in-Ok-after_flush.is) (λ lines ended. c.finish.ensures start origin lines ended)

pub returns-in-Err-after_flush : goal.returns-in-Err-after_flush
returns-in-Err-after_flush g c = λ start origin first opening from.
    let it = c.args.self.now in
    let end = c.close-written.new.state in
    let old = g.W.Write.contents c.args.writer.now in
    processed-fault traced (answer_since it.selection) (IsExplanationText it.selection (Receives (g.P.Report.shows it.report) (g.P.Report.whole it.report))) start origin first _ _
    (λ (lines : List Line). HasExplained it.selection start origin lines end.replay end.explained) _ c.close-written.result _ _ old _
    c.explain_lines-outcome.ensures.explains
    (λ more so. c.close-written.ensures.closed start origin (first ++ more) old
    (so.explains start origin first old (c.in-Ok.ensures.begun start origin first opening old from))) c.close-written.ensures.io
    (sym c.after_flush.ensures ∙ c.in-Err-after_flush.is) refl (λ lines. refl)
