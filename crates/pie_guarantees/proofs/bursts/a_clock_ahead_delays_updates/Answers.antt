use Rattle.pie_guarantees.proofs.BurstFacts.{refused_after, refused_ahead, refused_before}
use Rattle.pie_guarantees.proofs.bursts.a_clock_ahead_delays_updates.Goals as goal

pub returns : goal.returns
returns c = record { at_most = refused_before; ahead = refused_ahead; exactly = refused_after }
