use Rattle.std.specs.Prelude.{◌≡◌, ◌++◌, drop, map}
use Rattle.std.specs.List.{flat_map}
use Rattle.pie_linux_history.specs.{Cuts.named_rows, Known.named}
use Rattle.pie_linux_history.proofs.known.KnownQueues.write.Given as goal

abbrev pub invariant-loop-place : goal.invariant-loop-place
invariant-loop-place l = l.page ++ flat_map (named_rows l.columns l.moment) (map named (drop l.place l.self.all.items))
    ≡ l.fn.page ++ flat_map (named_rows l.columns l.moment) (map named l.self.all.items)
