use Rattle.pie_audit.proofs.Names.{◌++◌, ◌∷◌, ◌∙◌, ◌≡◌, List, map, length, sym, subst, ap, None, Event, IsLegal, rows_text, event_row, queued_row, resume_row, Clean, CoreSnapshot, IsFound, Waiting, core_of_excerpt, resume_with, snapshot_of}
use Rattle.pie_audit.proofs.ProcessorFacts.{Alone, events-found, excerpt-processed, processed-found, text-past, written-processed}
use Rattle.pie_audit.proofs.law.written_excerpts_are_read.Goals as goal
use Rattle.pie_queue.specs.Queue.{bytes_of}

pub returns : goal.returns
returns c =
    let beginnings = c.beginnings_are_written_again.ensures in
    let law : Alone = record { again = beginnings.again; alone = beginnings.alone; text = beginnings.text; opens = beginnings.opens } in
    let texts = c.texts_are_read_back.ensures in
    let goes = c.preambles_are_resumed.ensures in
    record {
      lines = λ opening core set_by rows lines written some are_lines few.
          written-processed law texts opening core set_by rows lines (goes.read_back opening core set_by rows written) are_lines few;
      past = text-past;
      events = λ opening core past events set_by written shows fits legal few. events-found law texts opening core past events set_by
          (goes.read_back opening core set_by (map event_row events) written) shows fits legal few;
      excerpts = λ excerpt history ends written fits legal few.
          let core = core_of_excerpt excerpt in
          let stands = ends.stands in
          let packets : excerpt.snapshot.packets ≡ length excerpt.waiting = stands.packets ∙ ap (λ (w : List Waiting). length w) (sym ends.waiting) in
          let bytes : excerpt.snapshot.bytes ≡ bytes_of excerpt.waiting = stands.bytes ∙ ap (λ (w : List Waiting). bytes_of w) (sym ends.waiting) in
          let same : snapshot_of core ≡ excerpt.snapshot = λ i. record excerpt.snapshot { packets = (sym packets) i; bytes = (sym bytes) i } in
          let shows = rw (← ends.waiting) at stands.represents in
          let found = events-found law texts excerpt.opening core ends.before excerpt.events None
          (goes.read_back excerpt.opening core None (map event_row excerpt.events) written) shows fits
          (subst (λ (h : List Event). IsLegal excerpt.opening h) ends.whole legal) (rw packets at few) in
          subst (λ (h : List Event). IsFound (rows_text (resume_row (resume_with excerpt.opening excerpt.snapshot None)
          ∷ (map queued_row excerpt.waiting ++ map event_row excerpt.events))) excerpt.opening ends.before (Clean (length h))) (sym ends.whole)
          (subst (λ (s : CoreSnapshot). IsFound (rows_text (resume_row (resume_with excerpt.opening s None)
          ∷ (map queued_row excerpt.waiting ++ map event_row excerpt.events))) excerpt.opening ends.before (Clean (length (ends.before ++ excerpt.events))))
          same found);
      behind = excerpt-processed law texts;
      found = processed-found;
    }
