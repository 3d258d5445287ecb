use Rattle.pie_guarantees.proofs.LawfulFacts.{refl, tuning_divisor}
use Rattle.pie_guarantees.proofs.ResponseFacts.{all_considered, burst_used, tenth_reached}
use Rattle.pie_guarantees.proofs.response.lasting_delays_raise_the_probability.Goals as goal

pub returns : goal.returns
unfolding tuning_divisor
returns c = record { probability = tenth_reached; burst = burst_used; considered = all_considered; at_twice_the_target = refl }
