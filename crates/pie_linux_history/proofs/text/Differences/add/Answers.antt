use Rattle.std.proofs.Common.{arith, refl}
use Rattle.std.proofs.lemmas.Bool.Decides.{nat_tests}
use Rattle.pie_linux_history.proofs.AuditFacts.{found-full, found-kept}
use Rattle.pie_linux_history.proofs.text.Differences.add.Goals as goal

pub returns-in_ok-push : goal.returns-in_ok-push
returns-in_ok-push c = λ all was. rw c.in-Some.is (found-kept c.args.self.now _ all c.in-Some.found was
    (grind (arith, nat_tests, c.len.ensures, c.if-len-lt-MOST_KEPT.true)) c.saturating_add-self.ensures c.in_ok-push.ensures.items)

pub returns-else-len-lt-MOST_KEPT : goal.returns-else-len-lt-MOST_KEPT
returns-else-len-lt-MOST_KEPT c = λ all was. rw c.in-Some.is (found-full c.args.self.now _ all c.in-Some.found was
    (grind (arith, nat_tests, c.len.ensures, c.if-len-lt-MOST_KEPT.false)) c.saturating_add-self.ensures refl)
