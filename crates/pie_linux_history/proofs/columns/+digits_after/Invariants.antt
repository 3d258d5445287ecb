use Rattle.std.proofs.Common.{length}
use Rattle.pie_linux_history.proofs.columns.+digits_after.Given as goal

-- the remaining bytes become fewer
abbrev pub decreases-digits_after : goal.decreases-digits_after
decreases-digits_after l = length l.bytes.now
