use Rattle.pie_audit.proofs.Names.{arith, nat_tests}
use Rattle.pie_audit.proofs.LegalFacts.{legal-push, written-clean}
use Rattle.pie_audit.proofs.law.recorded_calls_are_clean.Goals as goal

pub returns-clause-clean : goal.returns-clause-clean
returns-clause-clean c = written-clean c.texts_are_read_back.ensures

pub returns-clause-continues : goal.returns-clause-continues
returns-clause-continues c = λ opening history caller command good legal fit free. grind (arith, nat_tests, legal-push)
