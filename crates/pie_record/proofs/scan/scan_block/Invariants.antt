use Rattle.std.proofs.Common.{◌≤◌, ◌+◌, ◌-◌, ℕ, take}
use Rattle.pie_record.specs.{AreMarked, IsScanned}
use Rattle.pie_record.proofs.scan.scan_block.Given as goal

abbrev pub invariant-loop-left : goal.invariant-loop-left
invariant-loop-left l = record {
  next : ℕ;
  high : next ≤ 32;
  few : l.count ≤ l.start + next;
  marks : AreMarked l.bytes l.at (l.at + 32) next l.left;
  scanned : IsScanned l.bytes (take l.count l.ends) (l.at + next);
}

abbrev pub decreases-loop-left : goal.decreases-loop-left
decreases-loop-left l = 128 - l.count
