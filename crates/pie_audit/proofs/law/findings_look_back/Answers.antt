use Rattle.pie_audit.proofs.Names.{arith, nat_tests}
use Rattle.pie_audit.proofs.AuditorFacts.{found-as-whole}
use Rattle.pie_audit.proofs.law.findings_look_back.Goals as goal

pub returns : goal.returns
returns c = λ opening core set_by past lines accepted shows sound fits. grind (arith, nat_tests, found-as-whole)
