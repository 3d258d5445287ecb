use Rattle.pie_storm.proofs.Names.{arith, nat_tests, IsOutcomeBy}
use Rattle.pie_storm.proofs.Making.{came_cut, came_of_all, made_more}
use Rattle.pie_storm.proofs.worker.make_all.Goals as goal

pub loop-k-preserved : goal.loop-k-preserved
loop-k-preserved g c = grind (arith, nat_tests, made_more)

pub returns-in-None : goal.returns-in-None
unfolding IsOutcomeBy
returns-in-None g c = grind (arith, nat_tests, came_cut)

pub returns : goal.returns
returns g c = grind (arith, nat_tests, came_of_all)
