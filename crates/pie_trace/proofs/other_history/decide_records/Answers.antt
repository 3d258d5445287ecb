use Rattle.pie_record.specs.Text.{Row, Took}
use Rattle.pie_trace.proofs.Names.{line_in-long}
use Rattle.pie_trace.proofs.RunFacts.{halted, worked}
use Rattle.pie_trace.proofs.WhatIfFacts.{rest-faulty, whole-empty, whole-faulty, whole-on}
use Rattle.std.proofs.Common.{List, [], refl, ◌∷◌, ◌≡◌}
use Rattle.std.specs.Io.KnownBytes.{append_known}
use Rattle.pie_trace.specs.WhatIf.{rest_pass}
use Rattle.pie_trace.proofs.other_history.decide_records.Goals as goal

pub returns-in-Err : goal.returns-in-Err
returns-in-Err g c = λ all known works.
    let met = c.in-Err.ensures.none works in
    let empty : all ≡ [] = rw known at met.1 in
    rw (empty, met.0) (whole-empty c.args.alteration.now (append_known (g.W.Write.contents c.args.writer.now) c.args.rows.now) refl)

pub returns-in-Err-start_text : goal.returns-in-Err-start_text
returns-in-Err-start_text g c = λ all known works.
    let took : Took c.first.new.row all c.first.new.self = rw known at c.in-Ok.ensures.takes in
    let met = c.in-Err-start_text.ensures took.rest took.remain works in
    let rows : List Row = c.first.new.row ∷ took.rest in
    rw took.first (whole-faulty c.args.alteration.now rows c.in-Err-start_text.why _ _ met.0 met.1 works)

pub returns : goal.returns
returns g c = λ all known.
    let took : Took c.first.new.row all c.first.new.self = rw known at c.in-Ok.ensures.takes in
    let rows : List Row = c.first.new.row ∷ took.rest in
    let it = c.in-Ok-start_text.start in
    rw took.first (whole-on c.args.alteration.now rows it _ _ _ _ _ (c.in-Ok-start_text.ensures took.rest took.remain)
    (λ others left. worked _ _ _ _ (λ works. c.take_all-result.ensures others left works refl)))

pub take_all-result-requires-clause-long : goal.take_all-result-requires-clause-long
take_all-result-requires-clause-long g c = λ it number row rest now past is.
    halted (rest_pass it.alteration it.version number it.decider (row ∷ rest)) _ now (rest-faulty _ _ _ _ row rest _ (line_in-long _ _ _ _ past))
