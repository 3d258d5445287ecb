use Rattle.pie_explain.proofs.SummaryNames.{ℕ, ap, refl, subst, HoldsFlows, since}
use Rattle.std.proofs.Common.{Some}
use Rattle.std.proofs.lemmas.Result.{on_ok_weaker}
use Rattle.pie_explain.proofs.IntervalFacts.{keeps-push}
use Rattle.pie_explain.proofs.by_flow.FlowInterval.take.Goals as goal

pub returns : goal.returns
returns c = λ shown keeps.
    let every = c.args.every in
    let one = c.args.explained.now in
    let begun = subst (λ (n : ℕ). HoldsFlows c.begin.new.self (since every (Some n) shown)) c.interval_of-number.ensures (c.begin.ensures shown every keeps) in
    on_ok_weaker c.take-2.result (λ taken. keeps-push (HoldsFlows _) every _ shown one (ap Some c.interval_of-number.ensures) (record {
      span = c.take.ensures _ one refl c.time_of.ensures begun.span;
      flows = taken;
    })) (c.take-2.ensures _ begun.flows)
