use Rattle.pie_storm.proofs.Names.{◌≡◌, ◌∙◌, Some, ap, sym, arith, slice_get, Apply, Fold, calls_of}
use Rattle.pie_storm.proofs.Making.{asked_next, folded_next}
use Rattle.pie_storm.proofs.StormFacts.{all_at, IsCallOf, calls_are}
use Rattle.pie_storm.proofs.worker.make_turn.Goals as goal

pub returns-in-Some-Apply : goal.returns-in-Some-Apply
returns-in-Some-Apply g c =
    let plan = c.args.plan.now in
    let number = c.args.number in
    let at = c.requires.at in
    let stays = c.apply.ensures.stays in
    let there : slice_get (calls_of plan number) c.args.k ≡ Some (Apply c.in-Some-Apply.command) =
    sym c.in-Some-Apply.ensures ∙ ap Some c.in-Some-Apply.field-0-is in
    let its = all_at (IsCallOf plan number) (calls_of plan number) c.args.k (Apply c.in-Some-Apply.command)
    (calls_are plan c.requires.link_for.sound number) there in
    let one : c.args.count ≡ 1 = omega (arith, c.requires.turn, c.requires.some, c.turn.ensures.size) in
    rw one (record {
      at = record { own = stays.0 ∙ at.own; first = stays.1 ∙ at.first; limit = stays.2 ∙ at.limit };
      few = c.added_by.ensures.few;
      well = λ well. well;
      came = λ well. rw c.added_by.ensures.value (asked_next plan number c.args.k c.args.link.now c.requires.link_for c.args.caller.now c.apply.new.caller at
          c.in-Some-Apply.command there c.apply.result c.apply.ensures.answered);
      folds_split = λ well folds. absurd (its.0 folds);
    })

pub returns-in-Some-Fold : goal.returns-in-Some-Fold
returns-in-Some-Fold g c =
    let at = c.requires.at in
    let stays = c.fold.ensures.stays in
    let there : slice_get (calls_of c.args.plan.now c.args.number) c.args.k ≡ Some (Fold c.in-Some-Fold.n) =
    sym c.in-Some-Fold.ensures ∙ ap Some c.in-Some-Fold.field-0-is in
    let next = folded_next c.args.plan.now c.args.number c.args.k c.args.link.now c.requires.link_for c.args.caller.now c.fold.new.caller at
    c.entries_look_back.ensures c.in-Some-Fold.n there c.args.folding.now.events.items c.take_in.new.self.events.items c.take_in.result
    c.fold.result c.fold.ensures.folded in
    let one : c.args.count ≡ 1 = omega (arith, c.requires.turn, c.requires.some, c.turn.ensures.size) in
    rw one (grind arith)
