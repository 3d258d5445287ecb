use Rattle.pie_lock.proofs.Steps.{◌≡◌}
use Rattle.pie_lock.proofs.lock.RuledLock.sleep_and_take.Given as goal

abbrev pub invariant-loop : goal.invariant-loop
invariant-loop g l = l.waiting ≡ l.fn.pass
