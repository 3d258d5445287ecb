use Rattle.std.proofs.Common.{◌≡◌, ap, sym, length}
use Rattle.pie_event.specs.declared.command.Command.TheVariants.{Arrive}
use Rattle.pie_book.specs.Core.{CoreView}
use Rattle.pie_book.proofs.CoreFacts.{cause_is, next_decided}
use Rattle.pie_book.proofs.core_state.RawCore.cause.Goals as goal

pub returns-in-Arrive-clause-cause : goal.returns-in-Arrive-clause-cause
returns-in-Arrive-clause-cause c opening history shows =
    let held : c.self.inside.controller ≡ c.args.self.now.controller = ap (λ (core : CoreView). core.controller) c.self.view_is in
    let many : length c.self.inside.queue.waiting ≡ length c.args.self.now.waiting = ap (λ (core : CoreView). length core.waiting) c.self.view_is in
    rw (c.cause.ensures.cause, c.arrival-arrival.ensures, c.len.ensures.count, c.in-Arrive.is, held, many)
    (cause_is opening c.args.self.now history shows c.in-Arrive.moment c.in-Arrive.packet c.in-Arrive.word)

pub returns-in-Arrive-clause-decides : goal.returns-in-Arrive-clause-decides
returns-in-Arrive-clause-decides c opening history shows =
    let held : c.self.inside.controller ≡ c.args.self.now.controller = ap (λ (core : CoreView). core.controller) c.self.view_is in
    rw (c.in-Arrive.is, c.cause.ensures.verdict, c.arrival-arrival.ensures, held)
    (sym (next_decided opening c.args.self.now history shows (Arrive c.in-Arrive.moment c.in-Arrive.packet c.in-Arrive.word)))
