use Rattle.pie_trace.proofs.WhatIfFacts.{clock-none}
use Rattle.std.proofs.Common.{refl, sym}
use Rattle.pie_trace.proofs.other_history.start_with.Goals as goal

pub returns-clause-at : goal.returns-clause-at
returns-clause-at c = λ capacity most. λ origin lines events begins stands. record {
  audits = c.go_on.ensures.audits origin lines begins;
  represents = rw (c.in-Ok.ensures.same capacity most) stands;
  begun = refl;
  before = refl;
  omitted = c.none.ensures;
  clock = sym (clock-none origin c.args.begun.core lines begins);
}
