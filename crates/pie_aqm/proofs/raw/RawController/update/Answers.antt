use Rattle.pie_aqm.proofs.Laws.{in-range}
use Rattle.pie_aqm.proofs.raw.RawController.update.Goals as goal

pub update-is_calm-requires-clause-params : goal.update-is_calm-requires-clause-params
update-is_calm-requires-clause-params c = rw c.advance_to.ensures (in-range _ c.requires.sound.params)
