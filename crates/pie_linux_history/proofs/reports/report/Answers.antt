use Rattle.std.proofs.Common.{◌≡◌, refl, []}
use Rattle.std.specs.Prelude.{Ok, Err}
use Rattle.pie_linux_history.proofs.{AuditFacts.ends-result, AuditFacts.ends-text, AuditFacts.found-none, ReportFacts.ends-with, ReportFacts.events-ended, ReportFacts.writes-first}
use Rattle.pie_linux_history.proofs.reports.report.Goals as goal

pub returns-in-Ok-finish-clause-reports : goal.returns-in-Ok-finish-clause-reports
returns-in-Ok-finish-clause-reports g c =
    let known = g.W.Write.contents c.args.output.now in
    let begins = c.in-Ok-begin.ensures.begins in
    let same : Ok c.in-Ok-finish.finding ≡ c.decide-outcome.result = c.in-Ok-finish.ensures.same refl in
    let ends = (rw begins.0 at c.decide-outcome.ensures) [] known begins.1 (found-none _ begins.2)
    (writes-first known _ (rw c.new-page.ensures at c.in-Ok.ensures)) (rw (← same) refl) in
    ends-with (λ rows had. events-ended rows known _ _ _ _ c.end-ended.result c.end-ended.ensures c.in-Ok-finish.ensures.written.0 c.in-Ok-finish.ensures.written.1 had.1)
    (ends-text _ _ _ _ _ _ begins.3 (rw (← same) at ends))

pub returns-clause-refuses : goal.returns-clause-refuses
returns-clause-refuses g c = λ ok.
    let known = g.W.Write.contents c.args.output.now in
    let begins = c.in-Ok-begin.ensures.begins in
    let same : Err c.in-Err-finish.why ≡ c.decide-outcome.result = c.in-Err-finish.ensures.same ok in
    let ends = (rw begins.0 at c.decide-outcome.ensures) [] known begins.1 (found-none _ begins.2)
    (writes-first known _ (rw c.new-page.ensures at c.in-Ok.ensures)) (rw (← same) ok) in
    ends-result _ (g.R.Read.remaining c.args.input) _ _ (ends-text _ _ _ _ _ _ begins.3 (rw (← same) at ends))
