use Rattle.std.proofs.Common.{take, ◌≡◌}
use Rattle.pie_cut.proofs.snapshot_equality.older_packets.Given as goal

abbrev pub invariant-loop-index : goal.invariant-loop-index
invariant-loop-index l = take l.index l.a.waiting ≡ take l.index l.b.waiting
