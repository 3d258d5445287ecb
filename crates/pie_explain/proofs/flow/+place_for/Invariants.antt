use Rattle.pie_explain.proofs.SummaryNames.{length}
use Rattle.pie_explain.proofs.flow.+place_for.Given as goal

abbrev pub decreases-place_for : goal.decreases-place_for
decreases-place_for l = length l.flows.now
