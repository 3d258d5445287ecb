use Rattle.pie_book.proofs.CoreFacts.{follows_shown, next_shown}
use Rattle.pie_book.proofs.law.steps_look_back.Goals as goal

pub returns-clause-after : goal.returns-clause-after
returns-clause-after c = next_shown

pub returns-clause-along : goal.returns-clause-along
returns-clause-along c = λ opening core history events shows good fit follows. follows_shown opening core history events shows good fit follows
