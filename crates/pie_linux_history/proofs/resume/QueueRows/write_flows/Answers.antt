use Rattle.std.proofs.Common.{arith}
use Rattle.pie_linux_history.proofs.CutFacts.{ends_by, flows_more, flows_over, goes_by}
use Rattle.pie_linux_history.proofs.resume.QueueRows.write_flows.Goals as goal

pub loop-place-preserved : goal.loop-place-preserved
loop-place-preserved c = goes_by c.loop-place.page c.write_flow.new.page _ _ _ _ c.in_ok-write_flow.ensures
    (flows_more _ _ _ _ _ c.loop-place.place c.args.flows.now c.index-flows-place.result (omega arith) c.index-flows-place.is) c.loop-place.invariant

pub returns : goal.returns
returns c = ends_by c.loop-place.page _ _ (flows_over _ _ _ _ _ c.loop-place.place c.args.flows.now (omega arith)) c.loop-place.invariant
