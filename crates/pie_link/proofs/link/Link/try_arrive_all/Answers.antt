use Rattle.pie_link.proofs.KeptFacts.{TriesToAnswerAll}
use Rattle.pie_link.proofs.link.Link.try_arrive_all.Goals as goal

pub returns-in-Ok-clause-answered : goal.returns-in-Ok-clause-answered
unfolding TriesToAnswerAll
returns-in-Ok-clause-answered c =
    let has_result = c.in-Ok.ensures.answered c.in-Ok.after c.args.answers.now.items (λ i. (c.replace-replies.ensures.value i).items) in
    rw has_result.1 has_result.2
