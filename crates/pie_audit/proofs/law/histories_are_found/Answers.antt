use Rattle.pie_audit.proofs.ProcessorFacts.{whole-faulted, whole-found}
use Rattle.pie_audit.proofs.law.histories_are_found.Goals as goal

pub returns : goal.returns
returns c =
    let law = c.histories_begin_at_openings.ensures in record { found = whole-found law.begins law.continues; faults = whole-faulted law.begins }
