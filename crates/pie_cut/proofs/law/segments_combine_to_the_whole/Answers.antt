use Rattle.pie_cut.proofs.Names.{[], at_core, at_opening, text_lines, made-count, map, start_after, start_at, Valid}
use Rattle.pie_cut.proofs.Names.{arith}
use Rattle.pie_cut.proofs.{JoinedFacts.agree-none, JoinedFacts.agree-past, JoinedFacts.is-chain, TextFacts.text-fits, TextFacts.part-fits}
use Rattle.pie_cut.proofs.TextFacts.{valid-accepted}
use Rattle.pie_cut.specs.{MayBegin}
use Rattle.pie_cut.proofs.law.segments_combine_to_the_whole.Goals as goal

pub returns-clause-state : goal.returns-clause-state
returns-clause-state c = λ every rows opening core set_by text some begins.
    let has = c.beginnings_are_written_again.ensures.opens rows _ begins.3 in
    let valid : MayBegin opening core set_by =
    record { accepted = has.accepted; opened = has.opened; counted = has.counted; names = has.set_by } in
    let none = made-count [] in
    is-chain (start_at core set_by) every (at_core opening core set_by) [] (agree-none (at_core opening core set_by)) (omega (arith, none))
    (text_lines rows) text (record {
      some = some;
      accepted = valid-accepted opening core set_by valid;
      valid = valid;
      begins = omega (arith, none);
      fit = text-fits rows;
      law = c.written_excerpts_are_read.ensures.lines;
    })

pub returns-clause-part : goal.returns-clause-part
returns-clause-part c = λ every rows opening past set_by text some accepted fit legal.
    let none = made-count [] in
    is-chain (start_after set_by past) every (at_opening opening) (map Valid past) (agree-past opening past legal) (made-count past)
    (text_lines rows) text (record {
      some = some;
      accepted = accepted;
      valid = tt;
      begins = omega (arith, none);
      fit = part-fits past rows fit;
      law = c.written_excerpts_are_read.ensures.lines;
    })
