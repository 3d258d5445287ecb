use Rattle.pie_aqm.proofs.Laws.{sound_is}
use Rattle.pie_aqm.proofs.raw.RawController.first_unsound.Goals as goal

pub returns-clause-sound : goal.returns-clause-sound
returns-clause-sound c = rw c.find_unsound.ensures (sound_is _)
