use Rattle.pie_trace.proofs.RunBack.{Below, resumed-clean, resumed-whole}
use Rattle.pie_trace.proofs.law.continued_runs_are_clean.Goals as goal

pub returns : goal.returns
returns c =
    let below : Below = record {
      promises = c.promises_hold.ensures;
      opens = c.beginnings_are_written_again.ensures.opens;
      behind = c.written_excerpts_are_read.ensures.behind;
      clean = c.clean_texts_are_legal.ensures.legal_is_clean;
      events = c.events_are_lines.ensures;
    } in
    record { whole = resumed-whole below; up_to_fault = resumed-clean below }
