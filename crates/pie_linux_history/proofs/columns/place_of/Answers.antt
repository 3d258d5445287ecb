use Rattle.std.proofs.Common.{◌∙◌, sym, arith}
use Rattle.pie_linux_history.proofs.ColumnFacts.{place-here, place-next, place-none}
use Rattle.pie_linux_history.proofs.columns.place_of.Goals as goal

pub loop-place-preserved : goal.loop-place-preserved
loop-place-preserved c = c.loop-place.invariant ∙ place-next c.loop-place.place c.args.name.now c.args.names.now (omega arith) (cc c.as_bytes.ensures.value)

pub returns-then-has_word : goal.returns-then-has_word
returns-then-has_word c = sym (c.loop-place.invariant ∙ place-here c.loop-place.place c.args.name.now c.args.names.now (omega arith) (cc c.as_bytes.ensures.value))

pub returns : goal.returns
returns c = sym (c.loop-place.invariant ∙ place-none c.loop-place.place c.args.name.now c.args.names.now (omega arith))
