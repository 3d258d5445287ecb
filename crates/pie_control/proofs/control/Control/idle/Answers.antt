use Rattle.std.proofs.Common.{rules}
use Rattle.pie_control.proofs.Laws.{represents_idled}
use Rattle.pie_control.proofs.control.Control.idle.Goals as goal

pub returns-clause-represents : goal.returns-clause-represents
returns-clause-represents c opening start events shows =
    represents_idled opening start events c.args.self.now _ shows c.args.moment (search rules)
