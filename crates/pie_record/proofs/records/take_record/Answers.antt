use Rattle.pie_record.specs.Source.{source_left}
use Rattle.pie_record.proofs.InputFacts.{left_later}
use Rattle.pie_record.proofs.records.take_record.Goals as goal

pub loop-steps-preserved : goal.loop-steps-preserved
loop-steps-preserved g c = record {
  source = c.in-Ok-Again.ensures.source;
  left = left_later (source_left c.args.source.now) (source_left c.loop-steps.source) (source_left c.read_step.new.source) c.loop-steps.invariant.left
      (rw c.in-Ok-Again.field-0-is at c.in-Ok-Again.ensures.stepped);
}
