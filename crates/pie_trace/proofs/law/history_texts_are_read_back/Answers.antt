use Rattle.pie_trace.proofs.RunBack.{text_is_read_back}
use Rattle.pie_trace.proofs.law.history_texts_are_read_back.Goals as goal

pub returns : goal.returns
returns c = text_is_read_back c.promises_hold.ensures
