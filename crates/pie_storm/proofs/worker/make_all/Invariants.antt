use Rattle.pie_storm.proofs.Names.{◌≡◌, ◌≤◌, ◌-◌, [], take, AreMade, IsAt, IsWell, WereFolded, calls_of, folder, opening_of}
use Rattle.pie_storm.proofs.worker.make_all.Given as goal

abbrev pub invariant-loop-k : goal.invariant-loop-k
invariant-loop-k g l = record {
  calls : l.call ≤ l.k;
  few : l.passed ≤ l.call;
  within : l.k ≤ l.calls;
  at : IsAt l.link l.number l.caller;
  made : IsWell l.folding → AreMade (opening_of l.plan) l.number [] (take l.k (calls_of l.plan l.number)) l.caller.front l.passed;
  folds_split : IsWell l.folding → l.number ≡ folder l.plan → WereFolded l.plan l.number l.folding.events.items l.caller.front;
}

abbrev pub decreases-loop-k : goal.decreases-loop-k
decreases-loop-k g l = l.calls - l.k
