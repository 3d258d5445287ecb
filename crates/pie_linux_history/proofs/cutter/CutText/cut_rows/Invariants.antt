use Rattle.std.specs.Prelude.{◌≤◌, []}
use Rattle.std.specs.Io.KnownBytes.{append_known}
use Rattle.pie_linux_history.specs.{Cuts.plan, Known.HasRead}
use Rattle.pie_linux_history.proofs.CuttingFacts.{Cutting}
use Rattle.pie_linux_history.proofs.cutter.CutText.cut_rows.Given as goal

abbrev pub invariant-rows : goal.invariant-rows
invariant-rows g l = record {
  within : l.written ≤ l.before;
  so_far : HasRead l.fn.queues [] → Cutting (plan l.self.pieces l.self.names.now l.self.columns.now) l.fn.records
      (append_known (g.W.Write.contents l.fn.writer) l.fn.page) (append_known (g.W.Write.contents l.writer) l.page) l.over l.before l.written l.records l.queues;
}
