use Rattle.pie_book.proofs.CoreFacts.{first_shows, next_shown}
use Rattle.pie_book.proofs.law.parts_decide_as_a_core.Goals as goal

pub returns-clause-opens : goal.returns-clause-opens
returns-clause-opens c = first_shows

pub returns-clause-represents : goal.returns-clause-represents
returns-clause-represents c = next_shown
