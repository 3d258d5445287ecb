use Rattle.pie_lock.proofs.Steps.{refl, sym, opens}
use Rattle.pie_lock.proofs.lock.RuledLock.new.Goals as goal

pub new-requires : goal.new-requires
new-requires g c =
    opens _ _ _ _ _ _ c.args.state _ (cc (c.push_reserved.ensures.items, c.in-Ok.ensures.items)) (sym c.of.ensures) refl (rw c.of.ensures c.requires)
    c.if-numbers-eq0.false
