use Rattle.std.proofs.lemmas.Bool.Decides.{nat_tests}
use Rattle.std.proofs.Common.{arith}
use Rattle.pie_book.proofs.CoreFacts.{balanced_next, queued_next, next-shows}
use Rattle.pie_book.proofs.core_state.Core.advance.Goals as goal

pub returns-clause-represents : goal.returns-clause-represents
returns-clause-represents c opening history shows =
    let raw = c.self.inside.raw in
    let controller_events = rw (← c.self.view_is) at shows in
    let taken = rw (← c.self.view_is) at c.requires.taken in
    rw (c.update_largest_queue.ensures, c.decide-recorded.ensures.after, c.decide-recorded.ensures.event)
    (next-shows opening raw history controller_events c.args.caller c.args.command c.decide-recorded.ensures.threshold taken)

pub invariant_of-self : goal.invariant_of-self
invariant_of-self c =
    let taken = rw (← c.self.view_is) at c.requires.taken in
    let queued = queued_next c.self.inside.raw c.args.command taken c.self.invariant.1 in
    (grind (arith, nat_tests, balanced_next), rw (c.update_largest_queue.ensures, c.decide-recorded.ensures.after) queued)
