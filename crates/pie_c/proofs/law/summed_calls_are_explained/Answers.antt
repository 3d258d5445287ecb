use Rattle.pie_c.proofs.Sound.{explained}
use Rattle.pie_c.proofs.law.summed_calls_are_explained.Goals as goal

pub returns : goal.returns
returns c = λ opening history made before after number set_by day held left moment.
    explained opening history made before after number set_by day held left moment
