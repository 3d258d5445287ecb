use Rattle.std.proofs.Common.{sym, ◌∙◌}
use Rattle.pie_linux_history.specs.Cuts.{field_of}
use Rattle.pie_linux_history.proofs.CutFacts.{until_more, until_none}
use Rattle.pie_linux_history.proofs.row.row_of.Goals as goal

pub loop-place-init : goal.loop-place-init
loop-place-init c = record {
  fields = c.new-row.ensures.fields ∙ sym (until_none (field_of c.args.columns.now c.args.name.now c.args.step.now));
  partial = c.new-row.ensures.partial;
}

pub loop-place-preserved : goal.loop-place-preserved
loop-place-preserved c = record {
  fields = rw (
    until_more (field_of c.args.columns.now c.args.name.now c.args.step.now) c.loop-place.place,
    ← c.loop-place.invariant.fields,
    ← c.column_at.ensures,
    ← c.numbers_of-numbers.ensures,
  ) c.in_ok-push_field.ensures.fields;
  partial = c.in_ok-push_field.ensures.partial;
}
