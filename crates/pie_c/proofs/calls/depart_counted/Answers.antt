use Rattle.pie_c.proofs.Sound.{◌∙◌, sym, arith, counted-state, counted-taken}
use Rattle.pie_c.proofs.calls.depart_counted.Goals as goal

pub returns-in-Some-clause-taken : goal.returns-in-Some-clause-taken
returns-in-Some-clause-taken c did = let a = c.args in
    counted-taken a.state.now c.raw.result a.size a.left a.moment c.in-Some.count c.raw.ensures (sym c.in-Some.ensures.count)
    (omega arith) (omega arith) (omega arith)

pub returns-in-Some-clause-after : goal.returns-in-Some-clause-after
returns-in-Some-clause-after c = let a = c.args in
    c.keep_counted.ensures
    ∙ counted-state a.state.now c.raw.result a.size a.left a.moment c.in-Some.count c.raw.ensures (sym c.in-Some.ensures.count)
    (c.in-Some.ensures.alone a.left 0 a.moment)
