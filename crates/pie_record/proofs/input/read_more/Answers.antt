use Rattle.std.proofs.Common.{rules, ◌≡◌, ◌-◌, ◌≤◌, ℕ, take, length}
use Rattle.std.proofs.lemmas.List.{with_items_is, places}
use Rattle.pie_record.proofs.InputFacts.{fill-keeps, room-made}
use Rattle.pie_record.proofs.input.read_more.Goals as goal

pub returns-then-count-gt0-clause-keeps : goal.returns-then-count-gt0-clause-keeps
returns-then-count-gt0-clause-keeps g c =
    let at : ℕ = c.args.at.now in
    let end : ℕ = c.args.end.now in
    let n : ℕ = end - at in
    let bytes = c.args.bytes.now.items in
    let made = c.allocate_if_empty.new.bytes.items in
    let moved = c.copy_within.new.self in
    let now = c.read_behind.new.bytes in
    let inside : end ≤ length made = search rules in
    let same : take n now ≡ take n moved.items = search rules in
    rw (with_items_is moved now (search (rules, places)), room-made bytes made at end c.requires.inside c.in-Ok.ensures.same)
    (fill-keeps made moved.items now at end c.in-Ok-read_behind.count c.requires.order inside c.copy_within.ensures.items same
    (g.R.Read.remaining c.args.reader.now) (g.R.Read.remaining c.read_behind.new.reader) c.in-Ok-read_behind.ensures.taken)
