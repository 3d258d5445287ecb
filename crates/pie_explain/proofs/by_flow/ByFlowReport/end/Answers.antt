use Rattle.pie_explain.proofs.SummaryNames.{[], if◌then◌else◌, ◌∙◌, concluded, flow_header, last_events}
use Rattle.pie_explain.specs.{FlowRecords.IsFlowsAt, FlowRecords.flows_text, Interval.has_summary}
use Rattle.pie_explain.proofs.by_flow.ByFlowReport.end.Goals as goal

pub returns : goal.returns
returns c = λ all text kept says.
    let by_flow = c.args.self.now in
    let flows = c.flows_of.ensures (last_events by_flow.every all) kept.kept.flows in
    concluded by_flow.form.csv (IsFlowsAt by_flow) (flow_header by_flow.form.by_wall) _ all _ c.in_ok-push_ended.ensures.grown c.in_ok-push_ended.ensures.records
    (λ i. if (c.has_summary-ends.ensures ∙ (λ j. has_summary by_flow.every (kept.last j))) i
    then flows_text by_flow.form.by_wall (kept.kept.span i) by_flow.most (flows i) else []) says
