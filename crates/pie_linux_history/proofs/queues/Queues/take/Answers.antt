use Rattle.std.proofs.Common.{refl, ◌∙◌}
use Rattle.std.specs.Prelude.{option_map}
use Rattle.pie_linux_history.specs.LookBack.{entry_in}
use Rattle.pie_linux_history.proofs.RowFacts.{entry-lost, entry-skipped, entry-took, takes-lost, takes-skipped, takes-took}
use Rattle.pie_linux_history.proofs.queues.Queues.take.Goals as goal

pub returns-then-is_other : goal.returns-then-is_other
returns-then-is_other c = λ entries read ok.
    let chosen = option_map (λ name. name.now) c.args.queue in
    takes-skipped c.args.self.now.known.all.items _ entries (entry_in chosen c.args.columns.now c.args.fields.now)
    c.args.self.now.counts c.args.self.now.moment (entry-skipped chosen c.args.columns.now c.args.fields.now (cc)) read.represents read.counts_are read.moment_is
    refl refl refl refl refl c.clear.ensures.items

pub returns-in-Ok-Some : goal.returns-in-Ok-Some
returns-in-Ok-Some c = λ entries read ok.
    let chosen = option_map (λ name. name.now) c.args.queue in
    takes-lost c.lose.new.self entries (entry_in chosen c.args.columns.now c.args.fields.now) c.in-Ok-Some.queue c.in-Ok-Some.count
    c.args.self.now.counts c.args.self.now.moment
    (entry-lost chosen c.args.columns.now c.args.fields.now c.in-Ok-Some.queue c.in-Ok-Some.count (cc) (cc)) read.counts_are read.moment_is
    (c.lose.ensures.known entries read.represents) c.lose.ensures.counts c.lose.ensures.moment c.lose.ensures.step.0 c.lose.ensures.step.1
    (rw c.lose.ensures.step.2 c.clear.ensures.items)

pub returns-in-Some : goal.returns-in-Some
returns-in-Some c = λ entries read ok.
    let chosen = option_map (λ name. name.now) c.args.queue in
    let took = c.decide.ensures.takes entries read.represents ok in
    takes-took c.decide.new.self entries (entry_in chosen c.args.columns.now c.args.fields.now) c.in-Some.queue c.in-Ok.step c.args.self.now.counts
    c.args.self.now.moment c.decide.result
    (entry-took chosen c.args.columns.now c.args.fields.now c.in-Some.queue c.in-Ok.step (cc) (cc) (cc) (cc)) read.counts_are read.moment_is took.0 took.1
    (c.decide.ensures.counts entries read.represents ok) (c.decide.ensures.moment ∙ c.max-self.ensures)
