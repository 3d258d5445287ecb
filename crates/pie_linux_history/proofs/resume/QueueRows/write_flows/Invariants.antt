use Rattle.std.specs.Prelude.{◌≡◌, ◌++◌, drop}
use Rattle.pie_linux_history.specs.Cuts.{flows_rows}
use Rattle.pie_linux_history.proofs.resume.QueueRows.write_flows.Given as goal

abbrev pub invariant-loop-place : goal.invariant-loop-place
invariant-loop-place l = l.page ++ flows_rows l.self.columns.now l.self.name.now l.self.number l.self.moment l.has_flows l.place (drop l.place l.flows)
    ≡ l.fn.page ++ flows_rows l.self.columns.now l.self.name.now l.self.number l.self.moment l.has_flows 0 l.flows
