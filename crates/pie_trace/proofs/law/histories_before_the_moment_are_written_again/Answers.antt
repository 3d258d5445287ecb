use Rattle.pie_excerpt.specs.Beginning.{opened_at}
use Rattle.pie_record.specs.FirstRecord.{version_of}
use Rattle.pie_record.specs.Text.{Row, rows_text}
use Rattle.pie_trace.proofs.RunFacts.{first-one}
use Rattle.pie_trace.proofs.WhatIfFacts.{text-again}
use Rattle.std.proofs.Common.{List, [], ap, ◌++◌, ◌∙◌, ◌∷◌}
use Rattle.pie_trace.proofs.law.histories_before_the_moment_are_written_again.Goals as goal

pub returns : goal.returns
returns c = record {
  text = λ alteration rows begun opening past none e good made legal.
      text-again c.lines_are_written_again.ensures alteration rows begun opening past none e good made legal;
  whole = λ alteration row rows opening none opens good made legal.
      text-again c.lines_are_written_again.ensures alteration (row ∷ rows) (opened_at (version_of row) opening rows) opening [] none
      (c.histories_begin_at_openings.ensures.begins row rows opening opens) good made legal
      ∙ ap (λ (front : List Row). rows_text (front ++ rows)) (first-one row rows);
}
