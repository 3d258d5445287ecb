use Rattle.pie_linux_history.proofs.ReportFacts.{on-ok, woven-record}
use Rattle.pie_linux_history.proofs.reports.push_record.Goals as goal

pub returns : goal.returns
returns c = on-ok c.push.result (woven-record _ _ _) c.push.ensures
