use Rattle.std.proofs.Common.{◌≡◌, []}
use Rattle.pie_linux_history.specs.declared.queues.StepsCounts.{StepsCounts}
use Rattle.pie_linux_history.specs.LookBack.{counts_of, lack_count}
use Rattle.pie_linux_history.proofs.{KnownFacts.represents-none, LookBackFacts.latest-none}
use Rattle.pie_linux_history.proofs.queues.Queues.new.Goals as goal

none : (counts : StepsCounts) → counts ≡ record { events = 0; steps = 0; lost = 0; without_returned = 0; without_protocol = 0; without_change = 0 }
    → counts ≡ counts_of []
unfolding lack_count
none counts is = is

pub returns : goal.returns
returns c = record { represents = represents-none _ c.new-known.ensures; counts_are = none _ c.new.ensures; moment_is = latest-none }
