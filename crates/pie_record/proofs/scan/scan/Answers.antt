use Rattle.std.proofs.Common.{arith, rules, refl, ◌+◌, take}
use Rattle.pie_record.specs.{commas}
use Rattle.pie_record.proofs.InputFacts.{block-copied, found-line}
use Rattle.pie_record.proofs.scan.scan.Goals as goal

pub loop-at-init : goal.loop-at-init
unfolding commas
loop-at-init c = record {
  within = omega arith;
  few = omega arith;
  scanned = record { within = omega arith; plain = λ k d less. absurd (omega arith); cut = refl };
  copied = refl;
}

pub returns-in-Feed-clause-found : goal.returns-in-Feed-clause-found
returns-in-Feed-clause-found c =
    let i = c.loop-at.invariant in
    let scans = rw c.in-Feed.is at c.scan_block-place.ensures.scans in
    let copied = block-copied c.loop-at.line c.copy_block.new.line c.args.bytes.now c.loop-at.at i.copied c.copy_block.ensures.copied in
    found-line c.args.bytes.now c.copy_block.new.line (take c.scan_block-place.result.1 c.scan_block-place.new.ends) c.scan_block-place.result.0 (c.loop-at.at + 32)
    copied scans.0 scans.1 scans.2 (search rules)

pub loop-at-preserved : goal.loop-at-preserved
loop-at-preserved c =
    let i = c.loop-at.invariant in
    let scans = rw c.in-End.is at c.scan_block-place.ensures.scans in
    record {
      within = search rules;
      few = c.scan_block-place.ensures.few;
      scanned = scans.0;
      copied = block-copied c.loop-at.line c.copy_block.new.line c.args.bytes.now c.loop-at.at i.copied c.copy_block.ensures.copied;
    }
