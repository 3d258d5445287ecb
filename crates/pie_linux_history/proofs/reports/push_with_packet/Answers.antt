use Rattle.pie_linux_history.proofs.ReportFacts.{on-ok, woven-packet}
use Rattle.pie_linux_history.proofs.reports.push_with_packet.Goals as goal

pub returns : goal.returns
returns c = on-ok c.explain_packet.result (woven-packet _ _ _ _ c.in_ok-push.ensures) c.explain_packet.ensures
