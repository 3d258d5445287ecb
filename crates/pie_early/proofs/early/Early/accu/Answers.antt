use Rattle.pie_early.proofs.Laws.{◌≡◌, ◌∙◌, accumulated-run}
use Rattle.std.proofs.Common.{rules}
use Rattle.pie_early.proofs.early.Early.accu.Goals as goal

pub returns-clause-run : goal.returns-clause-run
returns-clause-run c = λ before clearing n prob clears some shown.
    let same : c.of_units.result ≡ c.args.self.now = search rules in
    same ∙ shown ∙ accumulated-run before clearing n prob clears some
