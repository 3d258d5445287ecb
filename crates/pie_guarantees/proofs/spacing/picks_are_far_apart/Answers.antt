use Rattle.pie_guarantees.proofs.SpacingFacts.{far_apart}
use Rattle.pie_guarantees.proofs.spacing.picks_are_far_apart.Goals as goal

pub returns : goal.returns
returns c = far_apart
