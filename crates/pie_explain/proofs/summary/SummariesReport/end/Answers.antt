use Rattle.pie_explain.proofs.SummaryNames.{[], if◌then◌else◌, ◌∙◌, concluded}
use Rattle.pie_explain.specs.{Interval.has_summary, Summary.summary_text}
use Rattle.pie_explain.proofs.summary.SummariesReport.end.Goals as goal

pub returns : goal.returns
returns g c = λ all text kept says.
    let it = c.args.self.now in
    concluded it.form.csv _ _ _ all _ c.in_ok-push_ended.ensures.grown c.in_ok-push_ended.ensures.record
    (λ i. if (c.has_summary-ends.ensures ∙ (λ j. has_summary it.every (kept.last j))) i
    then summary_text it.form.by_wall (kept.kept.sums i) (kept.kept.waits i) else []) says
