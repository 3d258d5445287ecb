use Rattle.std.proofs.lemmas.Option.{IfSome_then}
use Rattle.pie_explain.proofs.DecidedFacts.{reached-decided}
use Rattle.pie_explain.proofs.decided_event.decide_after.Goals as goal

pub returns-in-Ok-true : goal.returns-in-Ok-true
returns-in-Ok-true g c = λ start origin first replays.
    IfSome_then c.args.lines.remaining_lines (rw c.in-Ok-true.field-0-test at (c.in-Ok-true.ensures.reads start origin first replays)) (λ all reached.
    reached-decided start origin first all c.args.number _ _ _ _ reached (λ lines. c.decide_line.ensures start origin lines))
