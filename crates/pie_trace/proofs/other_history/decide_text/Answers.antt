use Rattle.pie_trace.proofs.RunFacts.{pass-flushed}
use Rattle.pie_trace.specs.WhatIf.{whole_pass}
use Rattle.pie_trace.proofs.other_history.decide_text.Goals as goal

pub returns : goal.returns
returns g c =
    let before = g.W.Write.contents c.args.writer.now in
    rw c.after_flush.ensures (pass-flushed (whole_pass c.args.alteration.now) _ _ _ before _ _
    (rw (c.new-records.ensures, c.new-rows.ensures) at c.decide_records-result.ensures) (c.finish-written.ensures.all before)
    c.finish-written.ensures.io)
