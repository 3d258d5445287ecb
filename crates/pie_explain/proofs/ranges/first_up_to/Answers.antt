use Rattle.pie_explain.proofs.SummaryNames.{◌<◌, arith, length, rules}
use Rattle.pie_explain.proofs.RangeFacts.{search-ends, search-continues}
use Rattle.pie_explain.proofs.ranges.first_up_to.Goals as goal

pub returns-then-missing-here-clause-first : goal.returns-then-missing-here-clause-first
returns-then-missing-here-clause-first c =
    let within : c.loop-place.place < length c.args.counts.now = search rules in
    search-ends c.args.counts.now c.args.rank c.loop-place.place c.loop-place.missing within c.loop-place.invariant.0
    (omega (arith, c.if-missing-here.true)) c.loop-place.invariant.1

pub loop-place-preserved : goal.loop-place-preserved
loop-place-preserved c =
    let within : c.loop-place.place < length c.args.counts.now = search rules in
    search-continues c.args.counts.now c.args.rank c.loop-place.place c.loop-place.missing within c.loop-place.invariant.0
    (omega (arith, c.if-missing-here.false)) c.loop-place.invariant.1
