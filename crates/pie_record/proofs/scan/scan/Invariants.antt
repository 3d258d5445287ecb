use Rattle.std.proofs.Common.{◌-◌, ◌≤◌, ◌<◌, ◌≡◌, take}
use Rattle.pie_record.specs.{IsScanned}
use Rattle.pie_record.proofs.scan.scan.Given as goal

abbrev pub invariant-loop-at : goal.invariant-loop-at
invariant-loop-at l = record {
  within : l.at ≤ l.limit;
  few : l.count < 128;
  scanned : IsScanned l.bytes (take l.count l.ends) l.at;
  copied : take l.at l.line ≡ take l.at l.bytes;
}

abbrev pub decreases-loop-at : goal.decreases-loop-at
decreases-loop-at l = l.limit - l.at
