use Rattle.pie_lock.proofs.Steps.{rules, ap, arith, splits_keep}
use Rattle.pie_lock.proofs.lock.RuledLock.share.Goals as goal

pub split_seat-seat-requires : goal.split_seat-seat-requires
split_seat-seat-requires g c =
    let has = c.pass.invariant.has in
    (search rules, search rules, splits_keep _ _ _ _ _ _ _ (ap (λ m. m.0) c.pass.invariant.idle) (omega arith))
