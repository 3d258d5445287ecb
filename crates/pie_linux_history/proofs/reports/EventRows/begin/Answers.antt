use Rattle.pie_linux_history.proofs.ReportFacts.{events-begun}
use Rattle.pie_linux_history.proofs.reports.EventRows.begin.Goals as goal

pub returns : goal.returns
returns g c = events-begun _ _ _ _ c.new-record.ensures c.in_ok-state.ensures.shown c.in_ok-state.ensures.written (rw c.as_bytes.ensures at c.in_ok-put_header.ensures)
