use Rattle.pie_audit.proofs.Names.{◌++◌, map, Differs, Valid, text_lines}
use Rattle.pie_audit.proofs.LegalFacts.{clean-of-legal, differs-of-wrong, found-so, legal-of-clean}
use Rattle.pie_audit.proofs.law.clean_texts_are_legal.Goals as goal

pub returns : goal.returns
returns c = record {
  legal_is_clean = λ rows opening past. clean-of-legal opening (map Valid past ++ text_lines rows);
  clean_is_legal = λ rows opening past events. legal-of-clean opening (map Valid past ++ text_lines rows) events;
  first_is_named = λ rows opening past event. differs-of-wrong opening (map Valid past ++ text_lines rows) event;
  named_is_first = λ rows opening past event. found-so opening (map Valid past ++ text_lines rows) (Differs event);
}
