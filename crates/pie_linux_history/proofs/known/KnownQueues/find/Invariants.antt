use Rattle.pie_linux_history.proofs.KnownFacts.{Searched}
use Rattle.pie_linux_history.proofs.known.KnownQueues.find.Given as goal

abbrev pub invariant-loop-place : goal.invariant-loop-place
invariant-loop-place l = Searched l.name l.self.all.items l.place
