use Rattle.std.proofs.Common.{◌≡◌, Some, None, ap, refl, rules, sym, ◌∙◌}
use Rattle.std.specs.Prelude.{not}
use Rattle.pie_linux.specs.Enqueue.{one_if}
use Rattle.pie_linux_history.specs.Queue.{is_part}
use Rattle.pie_linux_history.specs.LookBack.{lack_counted}
use Rattle.pie_linux_history.proofs.RowFacts.{follow-lack, follow-row, open-row}
use Rattle.pie_linux_history.proofs.queues.Queues.decide.Goals as goal

pub returns-in-Ok-clause-takes : goal.returns-in-Ok-clause-takes
returns-in-Ok-clause-takes c = λ entries was ok. open-row c.args.self.now.known.all.items _ entries c.args.queue c.args.step.now
    c.args.self.now.counts.events _ (sym c.is_opening.ensures ∙ c.if-is_opening.true) was c.in-Ok.ensures.queues c.in-Ok.ensures.names refl c.requires.fresh.0 c.requires.fresh.1
    (rw (c.difference_at.ensures, c.in-Ok.ensures.difference) refl)

pub returns-in-Ok-Some-clause-takes : goal.returns-in-Ok-Some-clause-takes
returns-in-Ok-Some-clause-takes c = λ entries was ok. follow-row c.args.self.now.known.all.items _ entries c.args.queue c.args.step.now
    c.args.self.now.counts.events (Some c.in-Ok-Some.taken) _ (sym c.is_opening.ensures ∙ c.if-is_opening.false) was
    (rw (c.in-Ok-Some.field-0-is, c.bytes.ensures) at c.in-Ok-Some.ensures.taken)
    (rw c.bytes.ensures at c.in-Ok-Some.ensures.queues) c.in-Ok-Some.ensures.names
    refl refl (rw (c.requires.fresh.1, c.bytes.ensures) at c.in-Ok-Some.ensures.lost) (rw c.difference_at-in-Ok-Some.ensures refl)

pub returns-in-Ok-None-clause-takes : goal.returns-in-Ok-None-clause-takes
returns-in-Ok-None-clause-takes c = λ entries was ok. follow-row c.args.self.now.known.all.items _ entries c.args.queue c.args.step.now
    c.args.self.now.counts.events None _ (sym c.is_opening.ensures ∙ c.if-is_opening.false) was
    (rw (c.in-Ok-None.field-0-is, c.bytes.ensures) at c.in-Ok-None.ensures.taken) (rw c.bytes.ensures at c.in-Ok-None.ensures.queues) c.in-Ok-None.ensures.names
    refl c.requires.fresh.0 (rw (c.requires.fresh.1, c.bytes.ensures) at c.in-Ok-None.ensures.lost) refl

pub returns-in-Ok-clause-counts : goal.returns-in-Ok-clause-counts
returns-in-Ok-clause-counts c = λ entries was ok.
    let part : c.from.result ≡ one_if (not (is_part c.args.step.now.kind)) = search rules in
    rw (part, sym c.is_opening.ensures ∙ c.if-is_opening.true) refl

pub returns-in-Ok-Some-clause-counts : goal.returns-in-Ok-Some-clause-counts
returns-in-Ok-Some-clause-counts c = λ entries was ok.
    let part : c.from.result ≡ one_if (not (is_part c.args.step.now.kind)) = search rules in
    rw (c.count_lack.ensures, part) (ap (lack_counted _)
    (follow-lack c.args.self.now.known.all.items entries c.args.queue c.args.step.now (Some c.in-Ok-Some.taken) (sym c.is_opening.ensures ∙ c.if-is_opening.false) was
    (rw (c.in-Ok-Some.field-0-is, c.bytes.ensures) at c.in-Ok-Some.ensures.taken)))

pub returns-in-Ok-None-clause-counts : goal.returns-in-Ok-None-clause-counts
returns-in-Ok-None-clause-counts c = λ entries was ok.
    let part : c.from.result ≡ one_if (not (is_part c.args.step.now.kind)) = search rules in
    rw part (ap (lack_counted _)
    (follow-lack c.args.self.now.known.all.items entries c.args.queue c.args.step.now None (sym c.is_opening.ensures ∙ c.if-is_opening.false) was
    (rw (c.in-Ok-None.field-0-is, c.bytes.ensures) at c.in-Ok-None.ensures.taken)))
