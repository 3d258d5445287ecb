use Rattle.std.proofs.Common.{sym}
use Rattle.std.proofs.lemmas.List.{take-append-drop, take_rest}
use Rattle.pie_linux_history.proofs.ReportFacts.{on-ok, woven-field}
use Rattle.pie_linux_history.proofs.reports.push_with_field.Goals as goal

pub returns : goal.returns
returns c =
    let end = c.saturating_sub-end.result in
    on-ok c.push-3.result (λ pushed. woven-field c.args.record.now _ _ _ _ _ _ _ (sym (take-append-drop end c.args.record.now))
    c.in_ok-push.ensures c.in_ok-push-2.ensures c.in_ok-push_field.ensures (rw (take_rest c.args.record.now end) at pushed)) c.push-3.ensures
