use Rattle.pie_guarantees.proofs.LawfulFacts.{BetweenAny}
use Rattle.pie_guarantees.proofs.BurstFacts.{allowed_where_kept, earliest_drop, earliest_since, updates_apart, updates_before}
use Rattle.pie_guarantees.proofs.bursts.burst_allowance_lasts.Goals as goal

pub returns : goal.returns
unfolding BetweenAny
returns c = record {
  updates = updates_before;
  apart = updates_apart;
  earliest = earliest_drop;
  since_last_update = earliest_since;
  allowed = allowed_where_kept;
}
