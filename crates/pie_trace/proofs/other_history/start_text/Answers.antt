use Rattle.pie_excerpt.specs.Beginning.{Beginning}
use Rattle.pie_trace.specs.Other.{counts_of}
use Rattle.std.proofs.Common.{ap, sym, ◌∙◌}
use Rattle.pie_trace.proofs.other_history.start_text.Goals as goal

pub returns-in-Ok-start_with : goal.returns-in-Ok-start_with
returns-in-Ok-start_with g c = λ later known.
    let begun = c.in-Ok.begun in
    let read = rw known at c.in-Ok.ensures.begun in
    let b : Beginning = record {
      version = begun.version;
      opening = begun.opening;
      set_by = begun.set_by;
      core = begun.core;
      records_read = begun.records_read;
      left = read.0;
    } in
    let limits = (c.beginnings_are_written_again.ensures.opens _ b read.2).limits in
    let again = c.beginnings_are_written_again.ensures.again c.args.row.now later b read.2 in
    record {
      begun = b;
      remain = read.1;
      found = read.2;
      version = c.in-Ok-start_with.ensures.version;
      read = c.in-Ok-start_with.ensures.read;
      at = λ point precedes.
          let it = c.in-Ok-start_with.ensures.at limits.0 limits.1 point.origin point.lines point.events precedes.begins precedes.represents in
          record {
            audits = it.audits;
            represents = it.represents;
            begun = it.begun ∙ sym precedes.begun_later;
            before = it.before ∙ sym precedes.before_none;
            omitted = it.omitted ∙ ap counts_of (sym precedes.omitted_none);
            clock = it.clock;
          };
      written = rw again (c.in-Ok-add_beginning.ensures.added c.args.row.now c.requires);
    }
