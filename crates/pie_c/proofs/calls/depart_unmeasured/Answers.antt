use Rattle.pie_c.proofs.Sound.{◌≡◌, ◌∙◌, sym, true, arith, is_between_cycles, unmeasured-state, unmeasured-taken}
use Rattle.pie_c.proofs.calls.depart_unmeasured.Goals as goal
use Rattle.pie_c.proofs.calls.depart_unmeasured.Goals.{After-keep_unmeasured}

none : (c : After-keep_unmeasured) → is_between_cycles c.raw.result c.args.left ≡ true
none c = sym c.is_between_cycles.ensures.value ∙ c.if-not-is_between_cycles.false

pub returns-clause-taken : goal.returns-clause-taken
returns-clause-taken c did = let a = c.args in
    unmeasured-taken a.state.now c.raw.result a.size a.left a.moment c.raw.ensures (none c) (omega arith)
    (sym c.is_bad_size.ensures ∙ c.if-is_bad_size.false)

pub returns-clause-after : goal.returns-clause-after
returns-clause-after c = let a = c.args in
    c.keep_unmeasured.ensures
    ∙ unmeasured-state a.state.now c.raw.result a.size a.left a.moment c.raw.ensures (none c)
    (c.is_between_cycles.ensures.alone a.size 0 a.moment c.if-not-is_between_cycles.false)
