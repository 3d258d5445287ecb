use Rattle.pie_explain.proofs.SummaryNames.{append_assoc, utc_text}
use Rattle.pie_explain.proofs.summary_record.push_utc.Goals as goal

pub returns-clause-text : goal.returns-clause-text
unfolding utc_text
returns-clause-text c =
    rw (
      c.push_padded-7.ensures.text,
      c.push_padded-6.ensures.text,
      c.push_padded-5.ensures.text,
      c.push_padded-4.ensures.text,
      c.push_padded-3.ensures.text,
      c.push_padded-2.ensures.text,
      c.push_padded.ensures.text,
      c.date_of-date.ensures,
    ) (simp append_assoc)
