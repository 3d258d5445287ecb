use Rattle.pie_audit.specs.Text.{ReadsWith}
use Rattle.pie_explain.proofs.Names.{◌-◌, ◌^◌}
use Rattle.pie_explain.specs.Answer.{ExplainsMore}
use Rattle.pie_explain.proofs.explainer.Explainer.explain_lines.Given as goal

abbrev pub invariant-lines : goal.invariant-lines
invariant-lines g l = ReadsWith (ExplainsMore l.self.selection (g.P.Report.so_far l.self.report) (g.P.Report.shows l.self.report l.fn.state.report)
    (g.P.Report.shows l.self.report l.state.report) l.fn.state.replay l.state.replay l.fn.state.explained l.state.explained l.fn.state.page l.state.page
    (g.W.Write.contents l.fn.writer) (g.W.Write.contents l.writer)) l.fn.lines.remaining_lines l.lines

abbrev pub decreases-lines : goal.decreases-lines
decreases-lines g l = 2 ^ 32 - l.lines.read
