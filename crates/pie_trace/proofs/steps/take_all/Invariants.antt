use Rattle.pie_trace.proofs.Names.{List, Option, Result, Row, Some, TraceFault, append_known, ℕ, ◌+◌, ◌-◌, ◌≡◌}
use Rattle.pie_trace.proofs.steps.take_all.Given as goal

-- the outcome for the records left gives the outcome for all
abbrev pub invariant-each : goal.invariant-each
invariant-each g l = let s = g.S.Steps in record {
  can : s.can_step l.steps (l.read + 1);
  goes : (all : List Row) → l.initial.records ≡ Some all → (rest : List Row) × (l.records ≡ Some rest)
      × ((end : Result g.row.E.Denot TraceFault) (last : Option (List ℕ))
      → s.comes l.steps l.max_records (l.read + 1) rest end (append_known (g.W.Write.contents l.writer) l.rows) last
      → s.comes l.initial.steps l.max_records (l.before + 1) all end (append_known (g.W.Write.contents l.initial.writer) l.initial.rows) last);
}

abbrev pub decreases-each : goal.decreases-each
decreases-each g l = l.max_records - l.read
