use Rattle.std.proofs.Common.{[], refl}
use Rattle.std.specs.Prelude.{Ok, Some, None}
use Rattle.pie_linux_history.specs.Cuts.{plan}
use Rattle.pie_linux_history.proofs.CuttingFacts.{row-refused, row-taken}
use Rattle.pie_linux_history.proofs.cutter.CutText.take_row.Goals as goal

pub returns-in-Err-take-clause-takes : goal.returns-in-Err-take-clause-takes
returns-in-Err-take-clause-takes c = λ entries read is at before ok.
    row-refused (plan c.args.self.now.pieces c.args.self.now.names.now c.args.self.now.columns.now) entries c.args.number c.args.moment
    c.args.fields.now c.in-Err-take.why c.take.new.self [] [] 0 0 is at before (c.in-Err-take.ensures entries read ok)

pub returns-in-Some-clause-takes : goal.returns-in-Some-clause-takes
returns-in-Some-clause-takes c = λ entries read is at before ok.
    row-taken (plan c.args.self.now.pieces c.args.self.now.names.now c.args.self.now.columns.now) entries c.args.number c.args.moment
    c.args.fields.now (Ok (Some c.in-Some.first)) c.take.new.self c.args.page.now c.begin.new.page c.copy.new.page c.args.written.now c.copy.new.written is at before
    (rw c.in-Some.is at (c.in-Ok-take.ensures entries read refl)) (c.in-Ok.ensures.begins entries read) c.in-Ok-copy.ensures.copies c.in-Ok-copy.ensures.counts

pub returns-in-None-clause-takes : goal.returns-in-None-clause-takes
returns-in-None-clause-takes c = λ entries read is at before ok.
    row-taken (plan c.args.self.now.pieces c.args.self.now.names.now c.args.self.now.columns.now) entries c.args.number c.args.moment
    c.args.fields.now (Ok None) c.take.new.self c.args.page.now c.begin.new.page c.copy.new.page c.args.written.now c.copy.new.written is at before
    (rw c.in-None.is at (c.in-Ok-take.ensures entries read refl)) (c.in-Ok.ensures.begins entries read) c.in-Ok-copy.ensures.copies c.in-Ok-copy.ensures.counts
