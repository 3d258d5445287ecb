use Rattle.std.proofs.Common.{sym, ◌∙◌}
use Rattle.pie_linux_history.proofs.ReportFacts.{decided-is, on-ok, row-arrival, row-lost, row-none}
use Rattle.pie_linux_history.specs.Reports.{packets_of}
use Rattle.pie_linux_history.proofs.reports.PacketRowsRowReport.report_row.Goals as goal

pub returns-in_default : goal.returns-in_default
returns-in_default g c = λ entries entry text read leaves was.
    row-none c.args.self.now.selection entries entry text _
    (sym (c.decided.ensures ∙ decided-is c.args.queues.now entries entry read leaves) ∙ c.in_default.is) was

pub returns-in-Some-arrival : goal.returns-in-Some-arrival
returns-in-Some-arrival g c = λ entries entry text read leaves was.
    let selection = c.args.self.now.selection in
    let first = c.in_ok-report_lost.ensures (packets_of selection entries) text was in
    on-ok c.report_packet.result
    (row-arrival selection entries entry c.in-Some.one c.deref.result.now c.in-Some-arrival.packet text _ _ _
    (sym (c.decided.ensures ∙ decided-is c.args.queues.now entries entry read leaves) ∙ c.in-Some.is) (sym (c.deref.ensures.value ∙ leaves.lost_are))
    c.in-Some-arrival.is first)
    (c.report_packet.ensures _ _ first.says)

pub returns-in-None : goal.returns-in-None
returns-in-None g c = λ entries entry text read leaves was.
    let selection = c.args.self.now.selection in
    row-lost selection entries entry c.in-Some.one c.deref.result.now text _ _
    (sym (c.decided.ensures ∙ decided-is c.args.queues.now entries entry read leaves) ∙ c.in-Some.is) (sym (c.deref.ensures.value ∙ leaves.lost_are)) c.in-None.is
    (c.in_ok-report_lost.ensures (packets_of selection entries) text was)
