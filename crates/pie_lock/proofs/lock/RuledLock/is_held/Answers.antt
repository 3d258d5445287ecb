use Rattle.pie_lock.proofs.Steps.{rules, looks_keep}
use Rattle.pie_lock.proofs.lock.RuledLock.is_held.Goals as goal

pub load-requires : goal.load-requires
load-requires g c =
    (search rules, search rules, looks_keep _ _ _ _ _ _ _ _ c.pass.invariant.idle)
