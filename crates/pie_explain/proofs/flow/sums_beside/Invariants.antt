use Rattle.pie_explain.proofs.SummaryNames.{◌≡◌, sums_beside}
use Rattle.std.proofs.Common.{take}
use Rattle.pie_explain.proofs.flow.sums_beside.Given as goal

abbrev pub invariant-loop-at : goal.invariant-loop-at
invariant-loop-at l = l.sums ≡ sums_beside l.some (take l.at l.flows)
