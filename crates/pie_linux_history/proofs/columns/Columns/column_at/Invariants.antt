use Rattle.std.specs.Prelude.{◌≡◌, ◌==◌, drop}
use Rattle.std.specs.List.{position_from}
use Rattle.pie_linux_history.proofs.columns.Columns.column_at.Given as goal

abbrev pub invariant-loop-column : goal.invariant-loop-column
invariant-loop-column l = position_from (λ at. at == l.place) l.column (drop l.column l.self.places) ≡ position_from (λ at. at == l.place) 0 l.self.places
