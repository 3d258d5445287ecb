use Rattle.pie_linux_history.proofs.KnownFacts.{represents-lost}
use Rattle.pie_linux_history.proofs.queues.Queues.lose.Goals as goal

pub returns-clause-known : goal.returns-clause-known
returns-clause-known c = λ entries was. represents-lost c.args.self.now.known.all.items _ entries c.args.queue.now c.args.count (rw c.bytes.ensures at c.lose.ensures.queues) (rw c.bytes.ensures at c.lose.ensures.names) was
