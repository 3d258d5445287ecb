use Rattle.std.specs.Prelude.{Ok, Err, None}
use Rattle.std.specs.Io.KnownBytes.{append_known}
use Rattle.pie_linux_history.proofs.CuttingFacts.{cut-all, cut-end, cut-refused, cut-text}
use Rattle.pie_linux_history.proofs.cutter.cut.Goals as goal

pub returns-in-Err-clause-result : goal.returns-in-Err-clause-result
returns-in-Err-clause-result g c =
    cut-refused (g.R.Read.remaining c.args.input) c.args.pieces c.in-Err.why _ (rw c.new-records.ensures at c.in-Err.ensures.columns)

pub returns-in-Err-cut_rows-clause-result : goal.returns-in-Err-cut_rows-clause-result
returns-in-Err-cut_rows-clause-result g c =
    cut-end (g.R.Read.remaining c.args.input) c.args.pieces (Err c.in-Err-cut_rows.why) None None
    (cut-all (g.R.Read.remaining c.args.input) c.args.pieces c.read_columns.new.fields c.in-Ok.columns c.read_columns.new.records (Err c.in-Err-cut_rows.why) None None
    (rw c.new-records.ensures at c.in-Ok.ensures.row) c.in-Ok.ensures.named (c.in-Err-cut_rows.ensures c.new-queues.ensures))

pub returns-in-Ok-finish-clause-written : goal.returns-in-Ok-finish-clause-written
returns-in-Ok-finish-clause-written g c =
    let before = append_known (g.W.Write.contents c.args.output.now) c.new-page.result in
    let now = append_known (g.W.Write.contents c.cut_rows.new.writer) c.cut_rows.new.page in
    cut-text (g.R.Read.remaining c.args.input) c.args.pieces c.in-Ok-cut_rows.done before now (g.W.Write.contents c.args.output.now) _
    (λ all h. c.in-Ok-finish.ensures.all (g.W.Write.contents c.args.output.now) all (rw c.new-page.ensures at h))
    (cut-all (g.R.Read.remaining c.args.input) c.args.pieces c.read_columns.new.fields c.in-Ok.columns c.read_columns.new.records (Ok c.in-Ok-cut_rows.done) before now
    (rw c.new-records.ensures at c.in-Ok.ensures.row) c.in-Ok.ensures.named (c.in-Ok-cut_rows.ensures c.new-queues.ensures))
