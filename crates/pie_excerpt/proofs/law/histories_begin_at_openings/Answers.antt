use Rattle.pie_excerpt.proofs.BackFacts.{begins-earlier, opened-begins, unresumed}
use Rattle.pie_excerpt.proofs.Names.{opened_at, refl, version_of}
use Rattle.pie_excerpt.proofs.law.histories_begin_at_openings.Goals as goal

pub returns : goal.returns
returns c = record {
  begins = opened-begins;
  continues = λ row rows opening opens. record {
    beginning = opened_at (version_of row) opening rows;
    begun = opened-begins row rows opening opens;
    opened = refl;
    represents = c.parts_decide_as_a_core.ensures.opens opening;
  };
  other = unresumed;
  earlier = begins-earlier;
}
