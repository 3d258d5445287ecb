use Rattle.std.proofs.Common.{refl}
use Rattle.pie_storm.proofs.Gathering.{starter_alone}
use Rattle.pie_storm.proofs.run.+work_in.Goals as goal

pub returns-in-Err : goal.returns-in-Err
returns-in-Err g t c =
    starter_alone c.args.link.now c.args.plan.now c.args.caller c.share.new.caller _ c.requires.begins c.requires.first
    (c.in-Err.ensures.one_number.0 refl) c.in-Err.ensures.unchanged
