use Rattle.pie_lock.proofs.Steps.{rules, Some}
use Rattle.pie_lock.proofs.lock.RuledLock.take_from_slot.Goals as goal

pub exchange-requires : goal.exchange-requires
exchange-requires g c =
    let t = c.requires.slot in (search rules, (Some t.0, cc (t.1)))
