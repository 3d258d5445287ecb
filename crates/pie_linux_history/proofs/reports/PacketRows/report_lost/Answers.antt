use Rattle.std.proofs.Common.{arith, refl}
use Rattle.pie_linux.specs.declared.cause.LinuxCause.TheVariants.{OverLimit}
use Rattle.pie_linux_history.specs.declared.{explained.DecidedPacket.DecidedPacket, explained.Fate.TheVariants.Arrival}
use Rattle.pie_linux_history.specs.Reports.{packet_if}
use Rattle.pie_linux_history.proofs.ReportFacts.{lost-all, lost-first, lost-next}
use Rattle.pie_linux_history.proofs.reports.PacketRows.report_lost.Goals as goal

abbrev none : DecidedPacket
none = record {
  bytes = 0;
  fate = Arrival OverLimit;
  state = record { qdelay = 0; qdelay_old = 0; burst_time = 0; dq_tstamp = 0; prob = 0; accu_prob = 0; dq_count = 0; avg_dq_rate = 0; backlog_old = 0 };
  length = 0;
  backlog = 0;
  limit = 0;
}

pub lost-init : goal.lost-init
lost-init g c = λ all text was. lost-first (packet_if c.args.self.now.selection c.args.one.now) all c.args.lost.now text _ was

pub lost-preserved : goal.lost-preserved
lost-preserved g c = λ all text was.
    let so_far = c.lost.invariant all text was in
    lost-next (packet_if c.args.self.now.selection c.args.one.now) all c.args.lost.now c.lost.place none _ text _ _ _ (omega arith) refl so_far
    (c.in_ok-report_packet.ensures _ _ so_far.says)

pub returns : goal.returns
returns g c = λ all text was.
    lost-all (packet_if c.args.self.now.selection c.args.one.now) all c.args.lost.now c.lost.place text _ _ (omega arith) (c.lost.invariant all text was)
