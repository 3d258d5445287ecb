use Rattle.std.proofs.Common.{append_assoc}
use Rattle.std.proofs.Output.{has_written_of_eq}
use Rattle.pie_units.specs.Time.{utc_text}
use Rattle.pie_units.proofs.WrittenFacts.{some-digits}
use Rattle.pie_units.proofs.utc.UtcDisplay.fmt.Goals as goal

pub returns-clause-writes : goal.returns-clause-writes
unfolding utc_text
returns-clause-writes g c = λ plain ok. has_written_of_eq _ _ _ _ _ (rw (
  c.laid_out.ensures,
  c.laid_out-2.ensures,
  c.laid_out-3.ensures,
  c.laid_out-4.ensures,
  c.laid_out-5.ensures,
  c.laid_out-6.ensures,
  c.laid_out-7.ensures,
  c.date_of-year.ensures,
) (simp (some-digits, append_assoc))) (c.write.ensures.writes plain ok)
