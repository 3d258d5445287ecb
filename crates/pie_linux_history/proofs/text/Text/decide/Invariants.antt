use Rattle.std.specs.Prelude.{◌≡◌, ℕ, List, Option, option_map}
use Rattle.std.specs.Io.KnownBytes.{append_known}
use Rattle.pie_linux_history.specs.{Audit.HasFound, Audit.differences_of, Known.HasRead, LookBack.Entry, Reports.Writes}
use Rattle.pie_linux_history.proofs.AuditFacts.{GoesOn}
use Rattle.pie_linux_history.proofs.text.Text.decide.Given as goal

abbrev pub invariant-rows : goal.invariant-rows
invariant-rows g l = ((l.self.columns ≡ l.fn.self.columns) × (l.self.queue ≡ l.fn.self.queue))
    × ((entries : List Entry) (before : Option (List ℕ)) → HasRead l.fn.self.queues entries → HasFound l.fn.self.differences (differences_of entries)
    → Writes (g.P.RowReport.shows l.report l.fn.state entries) before (append_known (g.W.Write.contents l.fn.writer) l.fn.page)
    → GoesOn (option_map (λ name. name.now) l.fn.self.queue) l.fn.self.columns entries l.fn.self.records
    (λ rows. HasFound l.self.differences (differences_of rows) × Writes (g.P.RowReport.shows l.report l.state rows) before (append_known (g.W.Write.contents l.writer) l.page)) l.self.records l.self.queues)
