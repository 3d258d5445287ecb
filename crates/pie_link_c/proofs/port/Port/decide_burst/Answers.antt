use Rattle.pie_link_c.specs.{AnswersWithin, WasBusy, command_by, events_answered}
use Rattle.pie_link_c.proofs.Names.{◌≡◌, ◌∙◌, ℕ, [], refl, ap, subst, length, map, List, CallerView, LinkView, HasSameNumbers, PieEvent}
use Rattle.std.proofs.Common.{inl, inr, rules}
use Rattle.pie_link_c.proofs.Bursting.{begun}
use Rattle.pie_link_c.proofs.port.Port.decide_burst.Goals as goal
use Rattle.pie_link_c.proofs.port.Port.decide_burst.Goals.{in-Ok, in-Err}

pub returns-clause-tried : goal.returns-clause-tried
returns-clause-tried g c =
    let call = g.K.BurstKind.call in
    let continues = g.K.BurstKind.continues in
    let events = c.args.burst.events.now in
    let inside = c.self.inside.caller in
    let after = c.try_answer_all.new.caller in
    let same : inside ≡ c.args.self.now = search (rules, c.self.view_is) in
    let lock : c.deref.result.now ≡ inside.lock = search (rules, c.self.invariant, c.deref.ensures) in
    elim c.match-try_answer_all.branch [
      | in-Ok w ↦
          (let has_result = w.in-Ok.ensures.answered c.args.burst [] (refl, begun call c.args.burst.caller events c.args.burst.done c.requires.fresh) in
          rw w.result-is
          (inl (record {
            replies = has_result.0;
            answered = subst (λ (b : CallerView). AnswersWithin c.args.budget continues b.lock b (map (command_by call) events) [] has_result.0 after) same
                (subst (λ (l : LinkView). AnswersWithin c.args.budget continues l inside (map (command_by call) events) [] has_result.0 after) lock has_result.2);
            stays = subst (λ (b : CallerView). HasSameNumbers b after) same w.in-Ok.ensures.stays;
            written_is = has_result.1.1.events_are ∙ ap (λ (n : ℕ). events_answered call n events has_result.0) c.requires.caller;
            counted = has_result.1.1.counted;
            done = w.code-is;
          })))
      | in-Err w ↦
          (rw (w.result-is, w.in-Err.ensures.busy.0)
          (inr (record {
            busy = subst (λ (b : CallerView). WasBusy b after) same w.in-Err.ensures.busy.1;
            stays = refl;
            counted = c.requires.fresh;
            some = λ empty. cc (w.in-Err.ensures.none (ap (λ (l : List PieEvent). length (map (command_by call) l)) empty));
            code_is = w.code-is;
          })))
    ]
