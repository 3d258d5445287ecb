use Rattle.pie_link.proofs.KeptFacts.{◌≡◌, ◌-◌, arith}
use Rattle.pie_link.proofs.link.Link.depart_all.Goals as goal

pub returns-clause-answered : goal.returns-clause-answered
returns-clause-answered g c =
    let has_result = c.answer_all.ensures.answered c.answer_all.result c.args.answers.now.items (λ i. (c.replace-replies.ensures.value i).items) in
    let all : c.args.most - 0 ≡ c.args.most = omega arith in rw (has_result.1, ← all) has_result.2
