use Rattle.pie_storm.proofs.Names.{◌≡◌, map, range_with_len, arrivals_of, list_in}
use Rattle.pie_storm.proofs.planning.all_arrivals.Given as goal

abbrev pub invariant-loop-before : goal.invariant-loop-before
invariant-loop-before l = map list_in l.lists.items ≡ map (arrivals_of l.packets l.burst l.seed) (range_with_len 1 l.before)
