use Rattle.pie_linux_history.specs.Reports.{explained_packet, packet_if}
use Rattle.pie_linux_history.proofs.ReportFacts.{on-ok, packet-more, packet-some}
use Rattle.pie_linux_history.proofs.reports.PacketRows.report_packet.Goals as goal

pub returns : goal.returns
returns g c = λ all text was.
    let selection = c.args.self.now.selection in
    rw c.saturating_add.ensures (on-ok c.explain_packet.result
    (λ grows. packet-more all text _ _ (packet_if selection c.args.one.now c.args.packet) (explained_packet c.args.one.now c.args.packet)
    (packet-some selection c.args.one.now c.args.packet (cc)) grows was)
    (rw c.explained_packet.ensures at c.explain_packet.ensures))
