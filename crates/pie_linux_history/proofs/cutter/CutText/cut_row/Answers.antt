use Rattle.std.proofs.Common.{refl, sym, ◌∙◌}
use Rattle.std.specs.Prelude.{Some, None}
use Rattle.pie_linux_history.specs.Cuts.{plan}
use Rattle.pie_linux_history.proofs.CuttingFacts.{row-read}
use Rattle.pie_linux_history.proofs.cutter.CutText.cut_row.Goals as goal

pub returns-in-Some-unreadable-clause-cuts : goal.returns-in-Some-unreadable-clause-cuts
returns-in-Some-unreadable-clause-cuts c = λ entries stands ok.
    rw c.fault_at.ensures (row-read (plan c.args.self.now.pieces c.args.self.now.names.now c.args.self.now.columns.now) c.args.over entries c.args.number c.max-moment.result
    c.args.fields.now c.in-Some.finding c.args.queues.now c.args.queues.now.counts c.args.page.now c.args.written.now (Some c.in-Some-unreadable.why) c.requires.first stands
    (rw c.moment.ensures at c.max-moment.ensures) refl (sym c.found_before.ensures ∙ c.in-Some.is) (sym c.in-Some-unreadable.is ∙ c.unreadable.ensures))

pub returns-in-None-clause-cuts : goal.returns-in-None-clause-cuts
returns-in-None-clause-cuts c = λ entries stands ok.
    row-read (plan c.args.self.now.pieces c.args.self.now.names.now c.args.self.now.columns.now) c.args.over entries c.args.number c.max-moment.result
    c.args.fields.now c.in-Some.finding c.args.queues.now c.args.queues.now.counts c.args.page.now c.args.written.now None c.requires.first stands
    (rw c.moment.ensures at c.max-moment.ensures) refl (sym c.found_before.ensures ∙ c.in-Some.is) (sym c.in-None.is ∙ c.unreadable.ensures)
