use Rattle.pie_storm.proofs.Names.{arith, nat_tests}
use Rattle.pie_storm.proofs.Making.{burst_next, few_by_all}
use Rattle.pie_storm.proofs.worker.send_next.Goals as goal

pub returns-in_default : goal.returns-in_default
returns-in_default g c = grind (arith, nat_tests)

pub returns : goal.returns
returns g c = grind (arith, nat_tests, burst_next, few_by_all)
