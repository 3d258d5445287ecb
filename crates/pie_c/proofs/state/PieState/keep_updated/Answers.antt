use Rattle.pie_c.proofs.Sound.{rules, kept_updated}
use Rattle.pie_c.proofs.state.PieState.keep_updated.Goals as goal

pub returns : goal.returns
returns c = search (kept_updated c.args.self.now c.args.controller.now c.requires.sound c.requires.same, rules)
