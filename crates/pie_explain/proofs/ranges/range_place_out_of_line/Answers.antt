use Rattle.pie_explain.proofs.SummaryNames.{arith, lit≤, refl, sym, range_of}
use Rattle.pie_explain.proofs.RangeFacts.{range_at}
use Rattle.pie_explain.proofs.ranges.range_place_out_of_line.Goals as goal

pub returns-then-number-lt100000-clause-place : goal.returns-then-number-lt100000-clause-place
unfolding range_of
returns-then-number-lt100000-clause-place c = sym (range_at 18 3 c.args.number 1000 (lit≤ tt) refl (omega arith) (omega arith))

pub returns-else-number-lt100000-clause-place : goal.returns-else-number-lt100000-clause-place
unfolding range_of
returns-else-number-lt100000-clause-place c = sym (range_at 18 4 c.args.number 10000 (lit≤ tt) refl (omega arith) (omega arith))
