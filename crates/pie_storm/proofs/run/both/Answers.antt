use Rattle.pie_storm.proofs.Names.{◌∙◌, refl, sym}
use Rattle.pie_storm.proofs.Gathering.{neither, together}
use Rattle.pie_storm.proofs.run.both.Goals as goal

pub returns : goal.returns
returns c = λ n below its.
    let number = c.first-number.ensures.value in
    let soon = c.too_soon-too_soon.ensures in
    together c.entries_look_back.ensures c.args.link.now c.args.plan.now n c.args.work c.args.last _ c.gathered.ensures refl
    (λ is. soon.its (number ∙ (its.at.first ∙ is))) (λ other. soon.another (λ is. other (sym its.at.first ∙ (sym number ∙ is))))
    refl (λ fine. let well = neither _ _ fine in (well.1, well.0)) below its
