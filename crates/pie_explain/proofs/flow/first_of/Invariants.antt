use Rattle.pie_explain.proofs.SummaryNames.{◌≡◌, first_of}
use Rattle.std.proofs.Common.{take}
use Rattle.pie_explain.proofs.flow.first_of.Given as goal

abbrev pub invariant-loop-at : goal.invariant-loop-at
invariant-loop-at l = l.first.items ≡ first_of l.most (take l.at l.flows)
