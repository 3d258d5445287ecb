use Rattle.pie_link.proofs.Headline.{keeps_one_history}
use Rattle.pie_link.proofs.link.Link.open_with.Goals as goal

pub returns-in-Some-clause-headline : goal.returns-in-Some-clause-headline
returns-in-Some-clause-headline c = keeps_one_history c.registers_look_back.ensures c.in-Some.lock
