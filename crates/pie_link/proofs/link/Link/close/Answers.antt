use Rattle.pie_link.proofs.link.Link.close.Goals as goal

pub returns-in-Ok-clause-kept : goal.returns-in-Ok-clause-kept
returns-in-Ok-clause-kept c =
    let represents = c.in-Ok.ensures.represents in
    rw c.into_book.ensures (represents.0, record { legal = represents.2.represents_list.represents.running.legal; continues = rw (← c.caller.view_is) represents.1 }, represents.2.represents_list)
