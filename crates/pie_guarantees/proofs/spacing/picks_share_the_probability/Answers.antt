use Rattle.pie_guarantees.proofs.LawfulFacts.{BetweenAny, arith}
use Rattle.pie_guarantees.proofs.SpacingFacts.{few_picked, many_picked, shared}
use Rattle.pie_guarantees.proofs.spacing.picks_share_the_probability.Goals as goal

pub returns : goal.returns
unfolding BetweenAny
returns c = record {
  at_least = λ opening before between later lawful spaced none.
      let it = (shared opening before between later lawful spaced).0 in omega (arith, it, none);
  at_most = λ opening before between later lawful spaced.
      let it = (shared opening before between later lawful spaced).1 in omega (arith, it);
  few = few_picked;
  many = many_picked;
}
