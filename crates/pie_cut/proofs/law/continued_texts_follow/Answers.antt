use Rattle.pie_cut.proofs.JoinedFacts.{continues_follows}
use Rattle.pie_cut.proofs.law.continued_texts_follow.Goals as goal

pub returns : goal.returns
returns c = continues_follows
