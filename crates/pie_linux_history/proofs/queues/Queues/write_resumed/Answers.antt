use Rattle.pie_linux_history.proofs.CutFacts.{queues-are}
use Rattle.pie_linux_history.proofs.queues.Queues.write_resumed.Goals as goal

pub returns : goal.returns
returns c = λ entries read. rw (queues-are c.args.self.now.known.all.items entries read.represents, read.moment_is) at c.write.ensures
