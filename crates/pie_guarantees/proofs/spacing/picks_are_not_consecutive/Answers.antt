use Rattle.pie_guarantees.proofs.SpacingFacts.{not_in_a_row}
use Rattle.pie_guarantees.proofs.spacing.picks_are_not_consecutive.Goals as goal

pub returns : goal.returns
returns c = not_in_a_row
