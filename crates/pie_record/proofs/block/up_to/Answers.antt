use Rattle.std.proofs.Common.{cond, leb, get_or, replicate, sym, subst, w8}
use Rattle.memchr.proofs.lemmas.LaneLemmas.{HasLanes-select}
use Rattle.memchr.specs.Lanes.{HasLanes}
use Rattle.std.proofs.lemmas.Simd.{tops_compared}
use Rattle.std.specs.Simd.Lanes.{sel_l}
use Rattle.pie_record.proofs.block.up_to.Goals as goal

pub returns : goal.returns
returns c =
    let v = c.args.lanes in
    let b = c.args.byte in
    subst (λ ms. HasLanes (sel_l ms (replicate 32 255) (replicate 32 0)) (λ k. cond (leb (get_or v k 0) b) 255 0))
    (sym (tops_compared w8 leb v (replicate 32 b))) (HasLanes-select leb v b 255 0 c.fits-lanes.0)
