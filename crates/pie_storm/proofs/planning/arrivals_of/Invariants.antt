use Rattle.pie_storm.proofs.Names.{◌≡◌, map, range_with_len, planned_arrival, sender_words, words_after, words_of}
use Rattle.pie_storm.proofs.planning.arrivals_of.Given as goal

abbrev pub invariant-loop-i : goal.invariant-loop-i
invariant-loop-i l = (l.arrivals.items ≡ map (planned_arrival l.packets l.burst l.sender (sender_words l.seed l.sender)) (range_with_len 0 l.i))
    × (words_of l.words ≡ words_after l.i (sender_words l.seed l.sender))
