use Rattle.pie_explain.proofs.SummaryNames.{◌≡◌, ◌∙◌, [], ◌∷◌, ◌++◌, List, ℕ, None, Option, Some, ap, filter, is_of, flow_sums, refl, subst, sym, Explained, Flow, HasFlows}
use Rattle.std.proofs.Common.{nat_eq}
use Rattle.std.specs.{Map.keys_of, Map.lookup, Option.IsSome}
use Rattle.indexmap.proofs.SetLemmas.{keys_insert_entry}
use Rattle.pie_explain.proofs.FlowFacts.{flow-taken, key-known, no-row, row-known}
use Rattle.pie_explain.proofs.flow.count.Goals as goal

pub returns-in-Some : goal.returns-in-Some
returns-in-Some c = λ shown has is.
    let a = c.args in
    let row = c.in-Some.row.now in
    let before = filter (is_of a.flow) shown in
    let found : Some row ≡ lookup (nat_eq a.flow) a.rows.now.entries = c.in-Some.ensures.value in
    let known = row-known a.flow before row (sym (has.found a.flow) ∙ sym found) in
    let sums = c.with-row.ensures before (ap (λ (r : Flow). r.sums) known) in
    let writes = c.get_mut.follows.holds (record { number = row.number; sums = c.with-row.result }) in
    flow-taken a.flow shown a.explained.now a.rows.now.entries _ (record { number = row.number; sums = c.with-row.result }) has is
    (λ i. record { number = (known i).number; sums = sums i }) (writes.1 ∙ key-known a.rows.now.entries a.flow row found)
    (writes.3 (subst (λ (o : Option Flow). IsSome o) found refl)).0 writes.4

pub returns-in-Ok : goal.returns-in-Ok
returns-in-Ok c = λ shown has is.
    let a = c.args in
    let before = filter (is_of a.flow) shown in
    let none : ◌≡◌ {A = Option Flow} None (lookup (nat_eq a.flow) a.rows.now.entries) = c.in_default.ensures.value in
    let first = no-row a.flow before (sym (has.found a.flow) ∙ sym none) in
    let same : c.get_mut.follows.lender-at-none.entries ≡ a.rows.now.entries = λ i. (c.get_mut.follows.holds-at-none i).entries in
    flow-taken a.flow shown a.explained.now c.get_mut.follows.lender-at-none.entries _ (record { number = a.flow; sums = c.with-sums.result })
    (subst (λ (rows : List (ℕ × Flow)). HasFlows rows shown) (sym same) has) is (λ i. record {
      number = a.flow;
      sums = (c.with-sums.ensures [] c.empty.ensures ∙ ap (λ (events : List Explained). flow_sums (events ++ a.explained.now ∷ [])) (sym first)) i;
    }) (ap keys_of c.in-Ok.ensures.entries ∙ keys_insert_entry nat_eq c.get_mut.follows.lender-at-none.entries a.flow _)
    c.in-Ok.ensures.updates.0 c.insert.ensures.unique
