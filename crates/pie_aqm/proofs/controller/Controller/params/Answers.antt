use Rattle.pie_aqm.proofs.Laws.{in-range}
use Rattle.pie_aqm.proofs.controller.Controller.params.Goals as goal

pub in_range-requires : goal.in_range-requires
in_range-requires c = in-range _ c.self.invariant.params
