use Rattle.pie_c.proofs.Sound.{◌≡◌, refl, rules, moment_refusal, passes}
use Rattle.pie_c.proofs.calls.pie_empty.Goals as goal
use Rattle.pie_c.proofs.calls.pie_empty.Goals.{After-calls_are_lawful}

taken : (c : After-calls_are_lawful) → moment_refusal c.args.moment ≡ 0
unfolding moment_refusal
taken c = search rules

pub returns-clause-steps : goal.returns-clause-steps
returns-clause-steps c =
    passes c.calls_are_lawful.ensures.keeps c.calls_are_lawful.ensures.looks c.args.state.now _ c.args.moment (rw (taken c, c.max-state.ensures) refl)
