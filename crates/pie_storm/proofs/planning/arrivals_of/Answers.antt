use Rattle.pie_storm.proofs.Names.{arith, words_after}
use Rattle.pie_storm.proofs.StormFacts.{item_push}
use Rattle.pie_storm.proofs.planning.arrivals_of.Goals as goal

pub loop-i-init : goal.loop-i-init
unfolding words_after
loop-i-init c = grind arith

pub loop-i-preserved : goal.loop-i-preserved
unfolding words_after
loop-i-preserved c = grind (arith, item_push)
