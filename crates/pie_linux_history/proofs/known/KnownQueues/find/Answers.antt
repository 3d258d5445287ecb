use Rattle.std.proofs.Common.{◌∙◌, arith, sym}
use Rattle.pie_linux_history.proofs.KnownFacts.{searched-all, searched-here, searched-next}
use Rattle.pie_linux_history.proofs.known.KnownQueues.find.Goals as goal

pub returns-then-is : goal.returns-then-is
returns-then-is c = searched-here c.args.name.now c.args.self.now.all.items c.loop-place.place c.index.result.now (omega arith) c.index.ensures
    (sym c.is.ensures ∙ c.if-is.true) c.loop-place.invariant

pub loop-place-preserved : goal.loop-place-preserved
loop-place-preserved c = searched-next c.args.name.now c.args.self.now.all.items c.loop-place.place c.index.result.now (omega arith) c.index.ensures
    (sym c.is.ensures ∙ c.if-is.false) c.loop-place.invariant

pub returns : goal.returns
returns c = searched-all c.args.name.now c.args.self.now.all.items c.loop-place.place (omega arith) c.loop-place.invariant
