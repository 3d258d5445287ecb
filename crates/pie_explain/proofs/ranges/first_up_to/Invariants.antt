use Rattle.pie_explain.proofs.SummaryNames.{◌≡◌, ◌+◌, ◌-◌, length, nat_le, take, find, range_with_len, sum}
use Rattle.pie_explain.proofs.ranges.first_up_to.Given as goal

abbrev pub invariant-loop-place : goal.invariant-loop-place
invariant-loop-place l =
    (l.missing ≡ l.rank - sum (take l.place l.counts))
    × (find (λ p. nat_le l.rank (sum (take (p + 1) l.counts))) (range_with_len 0 (length l.counts))
    ≡ find (λ p. nat_le l.rank (sum (take (p + 1) l.counts))) (range_with_len l.place (length l.counts - l.place)))
