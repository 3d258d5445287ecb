use Rattle.std.proofs.Common.{length}
use Rattle.pie_units.proofs.advising.request.+dash_place.Given as goal

-- the remaining bytes become fewer
abbrev pub decreases-dash_place : goal.decreases-dash_place
decreases-dash_place l = length l.text.now
