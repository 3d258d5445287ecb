use Rattle.std.specs.Prelude.{ℕ, ◌++◌, List, take}
use Rattle.std.specs.List.{filter_map}
use Rattle.pie_explain.specs.Report.{Grows}
use Rattle.pie_linux_history.specs.declared.explained.ExplainedPacket.{ExplainedPacket}
use Rattle.pie_linux_history.specs.Reports.{ReportsThese, packet_if}
use Rattle.pie_linux_history.proofs.reports.PacketRows.report_lost.Given as goal

abbrev pub invariant-lost : goal.invariant-lost
invariant-lost g l = (all : List ExplainedPacket) (text : List ℕ) → ReportsThese (g.P.PacketReport.explains l.self.report) all l.fn.count text
    → Grows (ReportsThese (g.P.PacketReport.explains l.self.report) (all ++ filter_map (packet_if l.self.selection l.one) (take l.place l.lost)) l.count) text l.fn.page l.page
