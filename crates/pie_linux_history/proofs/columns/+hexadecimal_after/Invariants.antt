use Rattle.std.proofs.Common.{length}
use Rattle.pie_linux_history.proofs.columns.+hexadecimal_after.Given as goal

-- the remaining digits become fewer
abbrev pub decreases-hexadecimal_after : goal.decreases-hexadecimal_after
decreases-hexadecimal_after l = length l.digits.now
