use Rattle.pie_link.specs.Headline.{KeepsOneHistory}
use Rattle.pie_guarantees.proofs.clean_histories.links_are_lawful.Goals as goal

pub returns : goal.returns
unfolding KeepsOneHistory
returns c = λ link keeps opening origin key key_is lock ruled free.
    let there = keeps opening origin key key_is lock ruled free in
    let one = there.2.1 in
    (there.0, there.1, (there.2.0, (one, record { opens = one.accepted; params = one.in_range; set = one.set; legal = one.legal })))
