use Rattle.std.proofs.Common.{arith, refl, ◌+◌}
use Rattle.std.specs.Io.KnownBytes.{append_known}
use Rattle.pie_linux_history.specs.Cuts.{plan}
use Rattle.pie_linux_history.proofs.CuttingFacts.{cutting-first, cutting-next, cutting-over, cutting-refused}
use Rattle.pie_linux_history.proofs.cutter.CutText.cut_rows.Goals as goal

pub rows-init : goal.rows-init
rows-init g c = record {
  within = omega arith;
  so_far = λ read. cutting-first (plan c.args.self.now.pieces c.args.self.now.names.now c.args.self.now.columns.now) c.args.records.now
      (append_known (g.W.Write.contents c.args.writer.now) c.args.page.now) c.args.queues.now read;
}

pub rows-preserved : goal.rows-preserved
rows-preserved g c = record {
  within = omega (arith, c.in-Ok.ensures.within, c.rows.invariant.within);
  so_far = λ read.
      let so = c.rows.invariant.so_far read in
      cutting-next (plan c.args.self.now.pieces c.args.self.now.names.now c.args.self.now.columns.now) c.args.records.now
      (append_known (g.W.Write.contents c.args.writer.now) c.args.page.now) (g.W.Write.contents c.rows.writer) (g.W.Write.contents c.write_if_full.new.writer)
      c.rows.page c.cut_row.new.page c.write_if_full.new.self c.rows.over c.in-Ok.ended c.rows.before (c.rows.before + 1) c.rows.written c.cut_row.new.written
      c.rows.records c.next.new.self c.next.new.row c.rows.queues c.cut_row.new.queues refl so (rw c.in-Ok-true.field-0-test at c.in-Ok-true.ensures.takes)
      (c.in-Ok.ensures.cuts so.entries so.stands refl) c.in-Ok-write_if_full.ensures.moved;
}

pub returns-in-Ok-false : goal.returns-in-Ok-false
returns-in-Ok-false g c = λ read. rw c.unwrap_or.ensures (cutting-over (plan c.args.self.now.pieces c.args.self.now.names.now c.args.self.now.columns.now) c.args.records.now
    (append_known (g.W.Write.contents c.args.writer.now) c.args.page.now) (append_known (g.W.Write.contents c.rows.writer) c.rows.page) c.rows.over c.rows.before c.rows.written
    c.rows.records c.next.new.self c.next.new.row c.rows.queues (c.rows.invariant.so_far read) (rw c.in-Ok-false.field-0-test at c.in-Ok-false.ensures.takes))

pub returns-in-Err-cut_row : goal.returns-in-Err-cut_row
returns-in-Err-cut_row g c = λ read.
    let so = c.rows.invariant.so_far read in
    cutting-refused (plan c.args.self.now.pieces c.args.self.now.names.now c.args.self.now.columns.now) c.args.records.now
    (append_known (g.W.Write.contents c.args.writer.now) c.args.page.now) (append_known (g.W.Write.contents c.rows.writer) c.rows.page) c.rows.over c.rows.before (c.rows.before + 1) c.rows.written
    c.rows.records c.next.new.self c.next.new.row c.rows.queues c.in-Err-cut_row.why so refl (rw c.in-Ok-true.field-0-test at c.in-Ok-true.ensures.takes)
    (λ ok. c.in-Err-cut_row.ensures.cuts so.entries so.stands ok)
