use Rattle.std.specs.Prelude.{◌≡◌, ◌++◌, drop}
use Rattle.std.specs.List.{flat_map}
use Rattle.pie_linux_history.specs.Cuts.{wait_row}
use Rattle.pie_linux_history.proofs.resume.QueueRows.write_packets.Given as goal

abbrev pub invariant-loop-packet : goal.invariant-loop-packet
invariant-loop-packet l = l.page ++ flat_map (wait_row l.self.columns.now l.self.name.now l.self.number l.has_flows l.named) (drop l.packet-index l.packets)
    ≡ l.fn.page ++ flat_map (wait_row l.self.columns.now l.self.name.now l.self.number l.has_flows l.named) l.packets
