use Rattle.pie_cut.specs.{MayBegin, at_core, at_opening, events_of, text_lines, start_after, start_at, whole_lines}
use Rattle.pie_cut.proofs.TextFacts.{core-found, cuts-found, text-fits, part-fits}
use Rattle.pie_cut.proofs.law.cuts_are_found_as_the_whole.Goals as goal

pub returns-clause-state : goal.returns-clause-state
returns-clause-state c = λ span rows opening core set_by place text begins cut is few.
    let has = c.beginnings_are_written_again.ensures.opens rows _ begins.3 in
    let valid : MayBegin opening core set_by =
    record { accepted = has.accepted; opened = has.opened; counted = has.counted; names = has.set_by } in
    let found = cuts-found (start_at core set_by) span (at_core opening core set_by) (text_lines rows) place text
    c.written_excerpts_are_read.ensures.lines valid (text-fits rows) cut is few in
    core-found opening core found.0 set_by _ text (events_of place.before) _ found.1 found.2

pub returns-clause-part : goal.returns-clause-part
returns-clause-part c = λ span rows opening past set_by place text fit cut is few.
    (cuts-found (start_after set_by past) span (at_opening opening) (whole_lines past rows) place text c.written_excerpts_are_read.ensures.lines tt
    (part-fits past rows fit) cut is few).2
