use Rattle.pie_explain.proofs.SummaryNames.{arith, lit≤, refl, sym, range_of}
use Rattle.pie_explain.proofs.RangeFacts.{range_at}
use Rattle.pie_explain.proofs.ranges.range_place.Goals as goal

pub returns-then-number-lt10000000-clause-place : goal.returns-then-number-lt10000000-clause-place
unfolding range_of
returns-then-number-lt10000000-clause-place c = sym (range_at 18 5 c.args.number 100000 (lit≤ tt) refl (omega arith) (omega arith))

pub returns-then-number-lt100000000-clause-place : goal.returns-then-number-lt100000000-clause-place
unfolding range_of
returns-then-number-lt100000000-clause-place c = sym (range_at 18 6 c.args.number 1000000 (lit≤ tt) refl (omega arith) (omega arith))

pub returns-then-number-lt1000000000-clause-place : goal.returns-then-number-lt1000000000-clause-place
unfolding range_of
returns-then-number-lt1000000000-clause-place c = sym (range_at 18 7 c.args.number 10000000 (lit≤ tt) refl (omega arith) (omega arith))

pub returns-else-number-lt1000000000-clause-place : goal.returns-else-number-lt1000000000-clause-place
unfolding range_of
returns-else-number-lt1000000000-clause-place c = sym (range_at 18 8 c.args.number 100000000 (lit≤ tt) refl (omega arith) (omega arith))
