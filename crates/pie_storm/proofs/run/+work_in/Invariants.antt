use Rattle.pie_storm.proofs.run.+work_in.Given as goal

abbrev pub decreases-work_in : goal.decreases-work_in
decreases-work_in g l = l.caller.limit
