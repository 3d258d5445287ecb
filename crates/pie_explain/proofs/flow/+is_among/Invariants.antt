use Rattle.pie_explain.proofs.SummaryNames.{length}
use Rattle.pie_explain.proofs.flow.+is_among.Given as goal

abbrev pub decreases-is_among : goal.decreases-is_among
decreases-is_among l = length l.some.now
