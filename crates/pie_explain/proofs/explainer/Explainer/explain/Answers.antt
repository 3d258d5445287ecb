use Rattle.pie_explain.proofs.Names.{◌≡◌, ◌∙◌, [], ◌∷◌, ◌++◌, Some, true, false, ap, refl, rules, is_some, events_of, none_of, sym}
use Rattle.pie_explain.proofs.ExplainFacts.{clock-same, ended-by, explained-by, explains-silent, explains-reported, given-none, given-reported}
use Rattle.pie_explain.proofs.explainer.Explainer.explain.Goals as goal

pub returns-then-differs-clause-explains : goal.returns-then-differs-clause-explains
returns-then-differs-clause-explains g c = λ start origin lines before out was explanation_texts.
    let some : is_some c.feed_of.new.self.auditor.differs ≡ true = search rules in
    let follows = c.feed_of.ensures.follows start origin lines was.follows in
    explains-silent c.args.line.now was follows (given-none start c.args.self.now.selection lines c.args.line.now
    was.follows.since follows.audits some)

pub returns-clause-explains : goal.returns-clause-explains
returns-clause-explains g c = λ start origin lines before out was explanation_texts.
    let agree : is_some c.feed_of.new.self.auditor.differs ≡ false = search rules in
    let follows = c.feed_of.ensures.follows start origin lines was.follows in
    let agreed = was.follows.audits.agrees c.requires.agree in
    let explanation = c.begin-explained.ensures.in_state ∙ explained-by origin c.core.result.now (events_of lines) c.args.number c.args.event.now
    c.args.state.now.replay.set_by c.clock-clock.result (rw c.core.ensures agreed.represents) in
    let explanation = rw (c.clock-clock.ensures, agreed.clock) at explanation in
    let given = given-reported c.args.self.now.selection c.args.line.now (Some c.begin-explained.result.explanation) was.follows follows.audits agree
    (ap Some explanation ∙ explanation_texts) in
    let later = follows.audits.agrees (none_of c.feed_of.new.self.auditor.differs agree) in
    let same = c.begin-explained.ensures.clock ∙ c.clock-clock.ensures ∙ agreed.clock
    ∙ sym (clock-same lines c.args.line.now (given.event c.begin-explained.result.explanation refl)) ∙ sym (c.clock.ensures ∙ later.clock) in
    let after = c.end.ensures c.begin-explained.ensures.event same ∙ ended-by origin c.core-2.result.now (events_of (lines ++ c.args.line.now ∷ []))
    c.begin-explained.result.explanation (rw c.core-2.ensures later.represents) in
    explains-reported c.args.line.now out was follows agree (given.is ∙ rw (← after) refl) (given.event c.begin-explained.result.explanation refl)
    c.increase.ensures (c.in_ok-report_event.ensures _ was.text was.shown was.says)
