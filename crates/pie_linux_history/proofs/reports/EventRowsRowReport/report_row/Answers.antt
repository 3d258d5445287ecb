use Rattle.std.proofs.Common.{sym, ◌∙◌}
use Rattle.pie_linux_history.proofs.ReportFacts.{events-more, events-none, events-same, full-is, on-ok}
use Rattle.pie_linux_history.proofs.reports.EventRowsRowReport.report_row.Goals as goal

pub returns-in_default : goal.returns-in_default
returns-in_default g c = λ entries entry text read leaves was.
    events-none entries entry _
    (rw c.in_default.is at (full-is c.args.queues.now entries entry c.in_ok-one.field-0 c.decided.result c.in_ok-one.ensures c.decided.ensures read leaves)) was

pub returns-in_default-selected : goal.returns-in_default-selected
returns-in_default-selected g c = λ entries entry text read leaves was.
    events-same entries entry _ c.in-Some.one
    (rw c.in-Some.is at (full-is c.args.queues.now entries entry c.in_ok-one.field-0 c.decided.result c.in_ok-one.ensures c.decided.ensures read leaves))
    (sym c.selected.ensures ∙ c.in_default-selected.is) was

pub returns : goal.returns
returns g c = λ entries entry text read leaves was.
    let some = sym c.selected.ensures ∙ c.in-Some-selected.is in
    rw c.saturating_add-state.ensures (on-ok c.put.result
    (events-more entries entry _ _ _ _ c.in-Some.one c.in-Some-selected.explained
    (rw c.in-Some.is at (full-is c.args.queues.now entries entry c.in_ok-one.field-0 c.decided.result c.in_ok-one.ensures c.decided.ensures read leaves))
    some c.clear.ensures was (c.in_ok-report_event.ensures _ was.text_is.plain was.shown was.text_is.says_it))
    (rw c.as_bytes.ensures at c.put.ensures))
