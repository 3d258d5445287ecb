use Rattle.pie_aqm.proofs.Laws.{Sound_call}
use Rattle.pie_aqm.proofs.law.calls_keep_it_sound.Goals as goal

pub returns-clause-calls : goal.returns-clause-calls
returns-clause-calls c = Sound_call
