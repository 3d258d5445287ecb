use Rattle.pie_storm.proofs.StormFacts.{can_stop}
unfoldable use Rattle.pie_storm.specs.Storms.{CanStop}
use Rattle.pie_storm.proofs.planned_storm.make_storm.Goals as goal

pub returns-in-Err-clause-fault : goal.returns-in-Err-clause-fault
unfolding CanStop
returns-in-Err-clause-fault g c = tt

pub returns-in-Err-run_plan-clause-fault : goal.returns-in-Err-run_plan-clause-fault
returns-in-Err-run_plan-clause-fault g c = can_stop c.args.numbers c.in-Ok.plan c.requires c.in-Ok.ensures c.in-Err-run_plan.why c.in-Err-run_plan.ensures.fault
