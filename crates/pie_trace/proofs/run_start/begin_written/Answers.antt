use Rattle.pie_trace.proofs.Names.{Beginning}
use Rattle.pie_trace.proofs.RunFacts.{text-started}
use Rattle.pie_trace.proofs.run_start.begin_written.Goals as goal

pub returns-in-Ok-begin_book-clause-begun : goal.returns-in-Ok-begin_book-clause-begun
returns-in-Ok-begin_book-clause-begun g c = λ later known.
    let begun = c.in-Ok.begun in
    let read = c.in-Ok.ensures.begun later known in
    let b : Beginning = record {
      version = begun.version;
      opening = begun.opening;
      set_by = begun.set_by;
      core = begun.core;
      records_read = begun.records_read;
      left = read.0;
    } in
    rw (c.start_with.ensures.version, c.start_with.ensures.book, c.start_with.ensures.read)
    (text-started c.args.max_records c.args.row.now later b c.in-Ok-begin_book.book _ _ _ read.2 read.3 read.1
    (c.beginnings_are_written_again.ensures.again c.args.row.now later b read.2) (c.in-Ok-begin_book.ensures.added c.args.row.now c.requires)
    c.in-Ok-begin_book.ensures.opened c.in-Ok-begin_book.ensures.is_in_state c.in-Ok-begin_book.ensures.runs)
