use Rattle.std.proofs.Common.{length}
use Rattle.pie_linux_history.proofs.columns.+handle_of.Given as goal

-- the remaining bytes become fewer
abbrev pub decreases-handle_of : goal.decreases-handle_of
decreases-handle_of l = length l.name.now
