use Rattle.pie_lock.proofs.Steps.{rules, ap, ◌∙◌, HasTwo, pass_at, joins_keep, merges_keep}
use Rattle.pie_lock.proofs.lock.RuledLock.join.Goals as goal

pub join_seat-requires : goal.join_seat-requires
join_seat-requires g c =
    let waiting = c.requires.waiting in
    (search rules, search rules, ap (λ m. m.1) waiting.1, search rules, joins_keep _ _ _ _ _ _ _ _ _ (ap (λ m. m.0) waiting.0) (ap (λ m. m.0) waiting.1))

pub load-requires : goal.load-requires
load-requires g c =
    let p = pass_at c.args.seat.now.me.0 in
    let q = pass_at c.args.other.me.0 in
    (search rules, search rules, merges_keep _ _ _ _ _ _ _ _ p q c.requires.beside (c.join_seat.ensures.2 ∙ ap (λ m. (HasTwo p q, m.1)) c.requires.waiting.0))
