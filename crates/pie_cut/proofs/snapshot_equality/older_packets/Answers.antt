use Rattle.std.proofs.Common.{length, rules, sym, ◌<◌, ◌∙◌, ◌≡◌}
use Rattle.pie_cut.proofs.JoinedFacts.{packets-more}
use Rattle.pie_cut.proofs.snapshot_equality.older_packets.Goals as goal

pub loop-index-preserved : goal.loop-index-preserved
loop-index-preserved c =
    let here : c.loop-index.index < length c.args.a.now.waiting = rw c.requires.one at c.loop-index-test.true in
    let there : c.loop-index.index < length c.args.b.now.waiting = rw c.requires.other at c.loop-index-test.true in
    let same : c.waiting-one.result ≡ c.waiting-other.result = search rules in
    packets-more c.args.a.now.waiting c.args.b.now.waiting c.loop-index.index here there c.loop-index.invariant
    (sym c.waiting-one.ensures ∙ same ∙ c.waiting-other.ensures)
