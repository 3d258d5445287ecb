use Rattle.pie_audit.proofs.Names.{Differs, records_of, text_finding}
use Rattle.pie_audit.proofs.LegalFacts.{clean-of-legal, differs-of-wrong, found-so, legal-of-clean, ok-same, answered-as, answered-finding}
use Rattle.pie_audit.proofs.law.clean_is_legal.Goals as goal

pub returns : goal.returns
returns c = record {
  legal_is_clean = λ text opening lines is_text legal. answered-as text opening lines _ is_text (clean-of-legal opening lines legal);
  clean_is_legal = λ text opening lines events is_text is.
      legal-of-clean opening lines events (ok-same _ _ (text_finding (records_of text)) (answered-finding text opening lines is_text) is);
  first_is_named = λ text opening lines event is_text first. answered-as text opening lines _ is_text (differs-of-wrong opening lines event first);
  named_is_first = λ text opening lines event is_text is.
      found-so opening lines (Differs event) (ok-same _ _ (text_finding (records_of text)) (answered-finding text opening lines is_text) is);
}
