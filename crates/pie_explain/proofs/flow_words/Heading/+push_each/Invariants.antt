use Rattle.pie_explain.proofs.SummaryNames.{length}
use Rattle.pie_explain.proofs.flow_words.Heading.+push_each.Given as goal

abbrev pub decreases-push_each : goal.decreases-push_each
decreases-push_each l = length l.flows.now
