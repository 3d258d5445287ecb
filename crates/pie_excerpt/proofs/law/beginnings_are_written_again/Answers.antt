use Rattle.pie_excerpt.proofs.Names.{rules}
use Rattle.pie_excerpt.proofs.BackFacts.{begun_alone, begun_opens, begun_text, begun_again}
use Rattle.pie_excerpt.proofs.law.beginnings_are_written_again.Goals as goal

pub returns : goal.returns
returns c = search (rules, begun_again, begun_alone, begun_text, begun_opens, c.openings_are_checked.ensures)
