use Rattle.std.proofs.Common.{take, ◌≡◌}
use Rattle.pie_trace.proofs.core_copy.copy_core.Given as goal

-- the first packets were supplied
abbrev pub invariant-loop-index : goal.invariant-loop-index
invariant-loop-index l =
    l.resuming ≡ record l.initial.resuming { core = record l.initial.resuming.core { waiting = take l.index l.core.waiting } }
