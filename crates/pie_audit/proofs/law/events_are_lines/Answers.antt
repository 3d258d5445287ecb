use Rattle.pie_audit.proofs.{AuditorFacts.made-count, LegalFacts.all-made, LegalFacts.made-events}
use Rattle.pie_audit.proofs.law.events_are_lines.Goals as goal

pub returns : goal.returns
returns c = record { made = all-made; events = made-events; count = made-count }
