use Rattle.std.proofs.Common.{rules}
use Rattle.pie_control.proofs.Laws.{represents_reset}
use Rattle.pie_control.proofs.control.Control.reset.Goals as goal

pub returns-clause-represents : goal.returns-clause-represents
returns-clause-represents c opening start events shows =
    represents_reset opening start events c.args.self.now _ shows c.args.params.now (search rules)
