use Rattle.std.specs.Prelude.{[], None}
use Rattle.pie_linux_history.specs.Audit.{HasFound, differences_of}
use Rattle.pie_linux_history.proofs.AuditFacts.{audit-has, audit-refused, audit-result, ends-text, found-none}
use Rattle.pie_linux_history.proofs.text.audit.Goals as goal

pub returns-in-Ok-clause-finding : goal.returns-in-Ok-clause-finding
returns-in-Ok-clause-finding g c =
    let begins = c.in-Ok.ensures.begins in
    audit-result _ (g.R.Read.remaining c.args.input) _ c.decide.result
    (λ ok. ends-text _ _ _ _ _ _ begins.3
    ((rw begins.0 at c.decide.ensures) [] None begins.1 (found-none _ begins.2) (record { text = []; says_it = tt; written = tt }) ok))

pub returns-in-Ok-clause-differences : goal.returns-in-Ok-clause-differences
returns-in-Ok-clause-differences g c =
    let begins = c.in-Ok.ensures.begins in
    audit-has _ (g.R.Read.remaining c.args.input) (λ rows. HasFound c.decide.new.self.differences (differences_of rows)) c.decide.result
    (λ ok. ends-text _ _ _ _ _ _ begins.3
    ((rw begins.0 at c.decide.ensures) [] None begins.1 (found-none _ begins.2) (record { text = []; says_it = tt; written = tt }) ok))

pub returns-in-Err-clause-differences : goal.returns-in-Err-clause-differences
returns-in-Err-clause-differences g c =
    audit-refused _ (g.R.Read.remaining c.args.input) c.in-Err.why c.new-in-Err.result c.new-in-Err.ensures c.in-Err.ensures.refuses
