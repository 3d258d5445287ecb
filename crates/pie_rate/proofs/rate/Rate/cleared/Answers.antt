use Rattle.pie_rate.proofs.Laws.{none_represented}
use Rattle.pie_rate.proofs.rate.Rate.cleared.Goals as goal

pub returns-clause-represents : goal.returns-clause-represents
returns-clause-represents c = λ threshold. rw c.cleared.ensures (none_represented threshold)
