use Rattle.pie_explain.proofs.FlowFacts.{nothing_taken}
use Rattle.pie_explain.proofs.flow.take.Goals as goal

pub returns-in-None : goal.returns-in-None
returns-in-None c = λ shown has. nothing_taken shown c.args.explained.now c.args.rows.now.entries has c.in-None.ensures
