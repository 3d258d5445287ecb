use Rattle.pie_explain.proofs.ranges.+range_within.Given as goal

abbrev pub decreases-range_within : goal.decreases-range_within
decreases-range_within l = l.digits
