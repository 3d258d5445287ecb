use Rattle.std.proofs.Common.{add-one, arith, refl, sym, take, ◌++◌, ◌+◌, ◌∙◌, ◌∷◌, [], ◌≡◌}
use Rattle.std.proofs.Math.Seq.{take-suc}
use Rattle.std.proofs.lemmas.List.{take_all}
use Rattle.std.proofs.lemmas.Option.{get_or_from_slice_get, slice_get_within}
use Rattle.pie_trace.proofs.core_copy.copy_core.Goals as goal

pub loop-index-preserved : goal.loop-index-preserved
loop-index-preserved c =
    let all = c.args.core.now.waiting in
    let next = c.in-Some.waiting in
    let here = sym c.waiting.ensures ∙ c.in-Some.is in
    let more : take (c.loop-index.index + 1) all ≡ take c.loop-index.index all ++ next ∷ [] =
    rw add-one (take-suc all c.loop-index.index next (slice_get_within all c.loop-index.index next here)
    ∙ rw (get_or_from_slice_get all c.loop-index.index next next here) refl) in
    c.in-Ok-queue.ensures.queued ∙ rw (c.loop-index.invariant, more, c.units.ensures.value) refl

pub returns-in-Ok-end-clause-same : goal.returns-in-Ok-end-clause-same
returns-in-Ok-end-clause-same c = λ capacity events.
    let all = c.args.core.now.waiting in
    let many = c.snapshot-snapshot.ensures.packets in
    let over = c.loop-index-test.false in
    let whole : take c.loop-index.index all ≡ all = take_all c.loop-index.index all (omega (arith, many, over)) in
    c.in-Ok-end.ensures.ended.0 ∙ rw (c.loop-index.invariant, whole, c.in-Ok.ensures.begun)
    (c.snapshot-snapshot.ensures.same c.args.limits (sym capacity) (sym events))
