use Rattle.pie_guarantees.proofs.TextFacts.{opened_well, sets_read}
use Rattle.pie_guarantees.proofs.clean_histories.clean_histories_are_lawful.Goals as goal

pub returns : goal.returns
returns c = λ text opening lines events is_text clean.
    let opened = opened_well text opening lines is_text in
    record {
      opens = opened.accepted;
      params = opened.in_range;
      set = sets_read text opening lines is_text;
      legal = (c.clean_is_legal.ensures.clean_is_legal text opening lines events is_text clean).0.legal;
    }
