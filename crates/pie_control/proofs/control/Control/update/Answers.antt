use Rattle.std.proofs.Common.{rules}
use Rattle.pie_control.proofs.Laws.{represents_updated}
use Rattle.pie_control.proofs.control.Control.update.Goals as goal

pub returns-clause-represents : goal.returns-clause-represents
returns-clause-represents c opening start events shows =
    represents_updated opening start events c.args.self.now _ shows c.args.params.now c.args.elements c.args.delay c.args.moment (search rules)
