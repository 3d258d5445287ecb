use Rattle.std.proofs.Common.{◌≡◌, refl, []}
use Rattle.std.specs.Prelude.{Ok, Err}
use Rattle.pie_linux_history.proofs.{AuditFacts.ends-result, AuditFacts.ends-text, AuditFacts.found-none, ReportFacts.ends-with, ReportFacts.grows-same, ReportFacts.packets-none, ReportFacts.writes-first, ReportFacts.writes-out}
use Rattle.pie_linux_history.proofs.reports.explain.Goals as goal

pub returns-in-Ok-finish-clause-explains : goal.returns-in-Ok-finish-clause-explains
returns-in-Ok-finish-clause-explains g c =
    let known = g.W.Write.contents c.args.output.now in
    let begins = c.in-Ok.ensures.begins in
    let same : Ok c.in-Ok-finish.finding ≡ c.decide-outcome.result = c.in-Ok-finish.ensures.same refl in
    let ends = (rw begins.0 at c.decide-outcome.ensures) [] known begins.1 (found-none _ begins.2)
    (rw c.new-page.ensures (writes-first known [] (grows-same [] [] (packets-none 0 refl c.args.selection)))) (rw (← same) refl) in
    ends-with (λ rows had. writes-out known _ _ _ had.1 c.in-Ok-finish.ensures.written.1)
    (ends-text _ _ _ _ _ _ begins.3 (rw (← same) at ends))

pub returns-clause-refuses : goal.returns-clause-refuses
returns-clause-refuses g c = λ ok.
    let known = g.W.Write.contents c.args.output.now in
    let begins = c.in-Ok.ensures.begins in
    let same : Err c.in-Err-finish.why ≡ c.decide-outcome.result = c.in-Err-finish.ensures.same ok in
    let ends = (rw begins.0 at c.decide-outcome.ensures) [] known begins.1 (found-none _ begins.2)
    (rw c.new-page.ensures (writes-first known [] (grows-same [] [] (packets-none 0 refl c.args.selection)))) (rw (← same) ok) in
    ends-result _ (g.R.Read.remaining c.args.input) _ _ (ends-text _ _ _ _ _ _ begins.3 (rw (← same) at ends))
