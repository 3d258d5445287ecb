use Rattle.pie_lock.proofs.Steps.{rules, takes_keep}
use Rattle.pie_lock.proofs.lock.RuledLock.take_if_free.Goals as goal

pub compare_exchange-found-requires : goal.compare_exchange-found-requires
compare_exchange-found-requires g c =
    (search rules, search rules, takes_keep _ _ _ _ _ _ _ _ c.pass.invariant.idle)
