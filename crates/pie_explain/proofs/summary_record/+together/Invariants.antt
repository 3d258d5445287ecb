use Rattle.pie_explain.proofs.SummaryNames.{length}
use Rattle.pie_explain.proofs.summary_record.+together.Given as goal

abbrev pub decreases-together : goal.decreases-together
decreases-together l = length l.counts.now
