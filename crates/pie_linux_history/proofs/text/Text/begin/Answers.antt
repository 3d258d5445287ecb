use Rattle.std.proofs.Common.{refl}
use Rattle.pie_linux_history.specs.Audit.{is_failure}
use Rattle.pie_linux_history.proofs.AuditFacts.{begins-with, refused-with}
use Rattle.pie_linux_history.proofs.text.Text.begin.Goals as goal

pub returns-in-Err-clause-refuses : goal.returns-in-Err-clause-refuses
returns-in-Err-clause-refuses g c = λ ok.
    refused-with _ (g.R.Read.remaining c.args.input) c.in-Err.why _ (is_failure c.in-Err.why) ok (rw c.new-records.ensures at c.in-Err.ensures.columns)

pub returns-clause-begins : goal.returns-clause-begins
returns-clause-begins g c = (refl, c.new.ensures, c.new-2.ensures, begins-with _ _ _ _ (rw c.new-records.ensures at c.in-Ok.ensures.columns))
