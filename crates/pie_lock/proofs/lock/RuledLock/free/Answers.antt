use Rattle.pie_lock.proofs.Steps.{rules, frees_keep}
use Rattle.pie_lock.proofs.lock.RuledLock.free.Goals as goal

pub store-requires : goal.store-requires
store-requires g c =
    (search rules, search rules, frees_keep _ _ _ _ _ _ _ _ c.requires.slot.0 _ _ c.requires.added c.requires.slot.1)
