use Rattle.std.proofs.Common.{map, sym, codes}
use Rattle.std.proofs.lemmas.List.{get_or-map, get_or_past, length-map}
use Rattle.pie_linux_history.proofs.columns.name_in.Goals as goal

pub returns-then-place-table : goal.returns-then-place-table
returns-then-place-table c = sym (get_or-map (λ name. name.now) c.args.table.now c.args.place _ (codes "qid") c.if-place-table.true)

pub returns-else-place-table : goal.returns-else-place-table
returns-else-place-table c = sym (get_or_past (map (λ name. name.now) c.args.table.now) c.args.place (codes "qid") (rw length-map c.if-place-table.false))
