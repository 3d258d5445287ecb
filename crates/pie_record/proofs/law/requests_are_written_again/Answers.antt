use Rattle.pie_record.proofs.FieldFacts.{kind-first}
use Rattle.pie_record.proofs.ReadBack.{command-as-written, clock-as-written, same-before-three}
use Rattle.pie_record.proofs.law.requests_are_written_again.Goals as goal

pub returns : goal.returns
returns c = record {
  kind = kind-first;
  same = same-before-three;
  asked = λ version row caller command e. (command-as-written version row caller command e).is;
  clock = λ version row clock e. (clock-as-written version row clock e).0;
  fits = λ version row caller command held e. (command-as-written version row caller command e).fits.1;
}
