use Rattle.pie_record.proofs.ReadBack.{checked}
use Rattle.pie_record.proofs.law.openings_are_checked.Goals as goal

pub returns : goal.returns
returns c = checked
