use Rattle.std.specs.Prelude.{[], ◌∷◌, decimal}
use Rattle.pie_explain.specs.Record.{steady_fields}
use Rattle.pie_record.specs.Plain.{onto}
use Rattle.pie_explain.proofs.RecordFacts.{steady_last}
use Rattle.pie_explain.proofs.text_cache.Held.take.Goals as goal

pub begin-requires-clause-ends : goal.begin-requires-clause-ends
begin-requires-clause-ends c =
    let i = c.self.inside in
    steady_last (decimal i.bytes ∷ decimal i.packets ∷ decimal i.delay ∷ []) (onto (steady_fields i.steady.prob i.steady.accu i.steady.burst) [])
    i.text i.steady.len c.self.invariant.0 c.self.invariant.1
