use Rattle.std.specs.Prelude.{◌≡◌, drop}
use Rattle.std.specs.List.{fold}
use Rattle.pie_linux_history.specs.Cuts.{less_memory}
use Rattle.pie_linux_history.proofs.resume.less_memory.Given as goal

abbrev pub invariant-loop-waiting : goal.invariant-loop-waiting
invariant-loop-waiting l = fold less_memory l.left (drop l.waiting-index l.packets) ≡ fold less_memory l.memory l.packets
