use Rattle.std.proofs.Common.{◌≡◌, [], ◌∷◌, ◌++◌, append_assoc, true, List, Some, sym, ◌∙◌}
use Rattle.pie_explain.proofs.Names.{reads-more}
use Rattle.pie_audit.specs.Replay.{AuditsFrom, difference_from, Origin, count_after, next_number}
use Rattle.pie_record.specs.HistoryLines.{is_event}
use Rattle.pie_record.specs.declared.history_record.Line.{Line}
use Rattle.pie_explain.proofs.{DecidedFacts.not-here, DecidedFacts.still-past, decided_event.read_to.Goals.else-is_event-via-then-is_event+else-is_next, decided_event.read_to.Goals.else-is_event-via-else-is_event}
use Rattle.pie_explain.proofs.decided_event.read_to.Goals as goal

pub lines-preserved : goal.lines-preserved
lines-preserved g c =
    let line = c.read.new.line in
    let other : (origin : Origin) (lines : List Line) → AuditsFrom origin c.lines.replay.auditor lines → is_event line ≡ true
    → next_number (difference_from origin lines) (count_after origin lines) ≡ Some c.args.number → ⊥ =
    elim c.else-is_event.branch [
      | else-is_event-via-then-is_event+else-is_next w ↦ λ origin lines audits event. w.is_next.ensures.other origin lines audits w.if-is_next.false
      | else-is_event-via-else-is_event w ↦ λ origin lines audits event. λ same. let wrong = sym event ∙ (sym c.is_event.ensures ∙ w.if-is_event.false) in cc
    ] in
    reads-more c.lines.invariant (rw c.if-branch.true at c.in_ok-read.ensures.reads) (λ seen so start origin first before.
    let passed = so start origin first before in
    rw (← append_assoc first seen (line ∷ [])) (
      c.feed.ensures.follows start origin (first ++ seen) passed.0,
      λ none. not-here origin (first ++ seen) line c.args.number (passed.1 none) (other origin (first ++ seen) passed.0.audits),
      still-past origin first (first ++ seen) line c.args.number passed.2 (other origin (first ++ seen) passed.0.audits),
    ))
