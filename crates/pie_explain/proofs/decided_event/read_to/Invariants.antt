use Rattle.std.proofs.Common.{◌-◌, ◌^◌}
use Rattle.pie_audit.specs.Text.{ReadsWith}
use Rattle.pie_explain.proofs.DecidedFacts.{Passed}
use Rattle.pie_explain.proofs.decided_event.read_to.Given as goal

abbrev pub invariant-lines : goal.invariant-lines
invariant-lines g l = ReadsWith (Passed l.number l.fn.replay l.replay) l.fn.lines.remaining_lines l.lines

abbrev pub decreases-lines : goal.decreases-lines
decreases-lines g l = 2 ^ 32 - l.lines.read
