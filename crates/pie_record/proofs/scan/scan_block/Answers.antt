use Rattle.std.proofs.Common.{arith, ap, refl, rules, set, subst, ◌∙◌, ◌≡◌, ◌+◌, ◌<◌, ℕ, take}
use Rattle.std.proofs.lemmas.Nat.Bits.{bit_at-zero}
use Rattle.std.proofs.lemmas.List.{take_more_set}
use Rattle.std.proofs.lemmas.Option.{slice_get-get_or}
use Rattle.std.specs.Int.{bit_at}
use Rattle.pie_record.specs.{IsScanned, Some}
use Rattle.pie_record.proofs.InputFacts.{marks-next, scanned-comma, scanned-past, scanned-to}
use Rattle.pie_record.proofs.scan.scan_block.Goals as goal

pub returns-then-bytes-place-eq10-clause-scans : goal.returns-then-bytes-place-eq10-clause-scans
returns-then-bytes-place-eq10-clause-scans c =
    let i = c.loop-left.invariant in
    let l = c.lowest in
    let there = i.marks.within l.result l.ensures.set in
    let to = scanned-to c.args.bytes.now c.args.at (c.args.at + 32) i.next c.loop-left.left i.marks c.requires.within
    (take c.loop-left.count c.loop-left.ends) l.result l.ensures i.scanned in
    (to, slice_get-get_or c.args.bytes.now (c.args.at + l.result) 0 (omega (arith, there.1, c.requires.within)) ∙ ap Some (search rules), there.1)

pub loop-left-preserved : goal.loop-left-preserved
loop-left-preserved c =
    let i = c.loop-left.invariant in
    let l = c.lowest in
    let there = i.marks.within l.result l.ensures.set in
    let few = i.few in
    let to = scanned-to c.args.bytes.now c.args.at (c.args.at + 32) i.next c.loop-left.left i.marks c.requires.within
    (take c.loop-left.count c.loop-left.ends) l.result l.ensures i.scanned in
    record {
      next = l.result + 1;
      high = omega (arith, there.1);
      few = omega (arith, there.0, few);
      marks = marks-next c.args.bytes.now c.args.at (c.args.at + 32) i.next c.loop-left.left c.without_lowest-left.result l.result i.marks l.ensures.set
          (c.without_lowest-left.ensures l.result l.ensures);
      scanned = subst (λ (p : ℕ). IsScanned c.args.bytes.now (take (c.loop-left.count + 1) (set c.loop-left.ends c.loop-left.count (c.args.at + l.result))) p)
          (let same : c.args.at + l.result + 1 ≡ c.args.at + (l.result + 1) = omega arith in same)
          (scanned-comma c.args.bytes.now (take c.loop-left.count c.loop-left.ends) _ (c.args.at + l.result) to
          (omega (arith, there.1, c.requires.within)) (search rules)
          (take_more_set c.loop-left.ends c.loop-left.count (c.args.at + l.result) (search rules)));
    }

pub returns-clause-scans : goal.returns-clause-scans
returns-clause-scans c =
    let i = c.loop-left.invariant in
    let none : (k : ℕ) → k < 32 → bit_at c.loop-left.left k ≡ 0 = λ k less. ap (λ (m : ℕ). bit_at m k) c.loop-left-test.false ∙ bit_at-zero k in (
      scanned-past c.args.bytes.now c.args.at (c.args.at + 32) i.next c.loop-left.left i.marks c.requires.within
          (take c.loop-left.count c.loop-left.ends) 32 i.high (omega arith) none i.scanned,
      refl,
    )
