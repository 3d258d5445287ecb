use Rattle.pie_explain.proofs.SummaryNames.{[], if◌then◌else◌, ◌∙◌, flow_header, ends_interval, last_events, reported}
use Rattle.pie_explain.specs.FlowRecords.{flows_text}
use Rattle.pie_explain.proofs.by_flow.ByFlowReport.report_event.Goals as goal

pub returns : goal.returns
returns c = λ all text kept says.
    let by_flow = c.args.self.now in
    let by_wall = by_flow.form.by_wall in
    let flows = c.flows_of.ensures (last_events by_flow.every all) kept.kept.flows in
    let ends = c.ends_interval-ends.ensures ∙ (λ i. ends_interval (kept.last i) (c.interval_of.ensures i)) in (
      c.in_ok-take.ensures all kept,
      reported by_flow.form.csv _ (flow_header by_wall) all c.args.explained.now
          (if c.ends_interval-ends.result then flows_text by_wall c.args.state.now.span by_flow.most c.flows_of.result.now else [])
          c.in_ok-push_ended.ensures.grown c.in_ok-push_ended.ensures.records
          (λ i. if ends i then flows_text by_wall (kept.kept.span i) by_flow.most (flows i) else []) says,
    )
