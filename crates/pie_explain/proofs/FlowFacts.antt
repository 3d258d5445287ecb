-- The flows of events with one more.
use Rattle.pie_explain.proofs.SummaryNames.{◌≡◌, ℕ, suc, zero, Bool, true, false, cond, not, List, [], ◌∷◌, ◌++◌, map, filter, refl, sym, ap, ◌∙◌, subst, append-nil, length, ◌<◌, ◌+◌, Option, Some, None, if◌then◌else◌, cons_option, filter_map, values_of, eqb-true, eq-eqb, map_push, filter_map-append, Explained, Flow, FlowSums, added_up, flow_sums, is_of, HasFlows, distinct, first_of, in_order, placed, sums_beside, digits, greatest, greatest-push, kept, max, min, meter_input_of, replicate, sum, sum_by_push, ◌-◌, ◌^◌}
use Rattle.std.proofs.Common.{arith, nat_eq, take, true≢false, get_or}
use Rattle.std.specs.{Fmt.char_count, Fmt.format_spec, Fmt.padded_integral, List.IsDistinct, List.All, Map.keys_of, Map.lookup}
use Rattle.std.specs.Prelude.{slice_index_or}
use Rattle.std.proofs.{lemmas.Map.Made.is_some-lookup, lemmas.Map.Entries.lookup_from_place, lemmas.Option.slice_get-get_or, lemmas.List.Elements.All-head, lemmas.List.Elements.All-tail, lemmas.List.Elements.filter-append, lemmas.Cmp.nat_eq_equiv, lemmas.List.take-take, lemmas.List.take_more, lemmas.List.Sums.fold_push}
use Rattle.indexmap.specs.IndexSet.{insert_key}
use Rattle.pie_explain.specs.{FlowSums.flow_in, FlowSums.is_this, FlowSums.numbers_of, Flows.flow_of, Flows.flows_of, Flows.is_among, Flows.precedes, Flows.row_of}
use Rattle.pie_explain.proofs.CountFacts.{kept-more}
use Rattle.pie_explain.proofs.SumsFacts.{sum-push}

-- ---- numbers of flows

-- a greatest number with one more
greatest-more : (number : FlowSums → ℕ) (all : List FlowSums) (one : FlowSums)
    → greatest (greatest (map number all) ∷ number one ∷ []) ≡ greatest (map number (all ++ one ∷ []))
unfolding greatest
greatest-more number all one =
    ap (max (greatest (map number all))) (omega arith) ∙ sym (ap greatest (map_push number all one) ∙ greatest-push (map number all) (number one))

sum-more : (number : FlowSums → ℕ) (all : List FlowSums) (one : FlowSums)
    → kept (sum (kept (sum (map number all)) ∷ number one ∷ [])) ≡ kept (sum (map number (all ++ one ∷ [])))
sum-more number all one = sum-push number all one (two (kept (sum (map number all))) (number one)) refl refl
  where
    two : (n more : ℕ) → kept (sum (n ∷ more ∷ [])) ≡ min (n + more) 18446744073709551615
    two n more = omega arith

-- a sum of 128 bits with one more number
wide-more : (number : FlowSums → ℕ) (all : List FlowSums) (one : FlowSums)
    → min (sum (min (sum (map number all)) (2 ^ 128 - 1) ∷ number one ∷ [])) (2 ^ 128 - 1) ≡ min (sum (map number (all ++ one ∷ []))) (2 ^ 128 - 1)
wide-more number all one =
    let grown : sum (map number (all ++ one ∷ [])) ≡ sum (map number all) + number one =
    ap sum (map_push number all one) ∙ sum_by_push (λ (n : ℕ). n) (map number all) (number one) in
    two (min (sum (map number all)) (2 ^ 128 - 1)) (number one) ∙ kept-more (sum (map number all)) (number one) (2 ^ 128 - 1)
    ∙ ap (λ (n : ℕ). min n (2 ^ 128 - 1)) (sym grown)
  where
    two : (n more : ℕ) → min (sum (n ∷ more ∷ [])) (2 ^ 128 - 1) ≡ min (n + more) (2 ^ 128 - 1)
    two n more = omega arith

pub added-push : (all : List FlowSums) (one : FlowSums) → added_up (added_up all ∷ one ∷ []) ≡ added_up (all ++ one ∷ [])
unfolding added_up
added-push all one = λ i. record {
  arrivals = sum-more (λ n. n.arrivals) all one i;
  bytes = sum-more (λ n. n.bytes) all one i;
  queued = sum-more (λ n. n.queued) all one i;
  marked = sum-more (λ n. n.marked) all one i;
  early = sum-more (λ n. n.early) all one i;
  no_bytes = sum-more (λ n. n.no_bytes) all one i;
  no_packets = sum-more (λ n. n.no_packets) all one i;
  left = sum-more (λ n. n.left) all one i;
  carried = sum-more (λ n. n.carried) all one i;
  waited = wide-more (λ n. n.waited) all one i;
  greatest_wait = greatest-more (λ n. n.greatest_wait) all one i;
  held = sum-more (λ n. n.held) all one i;
}

-- the sums of events with one more
pub flow_sums_push : (shown : List Explained) (one : Explained)
    → added_up (flow_sums shown ∷ numbers_of (meter_input_of one) ∷ []) ≡ flow_sums (shown ++ one ∷ [])
flow_sums_push shown one =
    added-push (map (λ e. numbers_of (meter_input_of e)) shown) (numbers_of (meter_input_of one))
    ∙ ap added_up (sym (map_push (λ (e : Explained). numbers_of (meter_input_of e)) shown one))

-- a number in at least eight hexadecimal digits
pub eight_digits : (n : ℕ) → padded_integral (format_spec 32 0 4 8 18446744073709551615) false [] (digits 16 false n)
    ≡ replicate (8 - length (digits 16 false n)) 48 ++ digits 16 false n
unfolding padded_integral char_count
eight_digits n =
    let same : 8 - length (digits 16 false n) - 0 - 0 ≡ 8 - length (digits 16 false n) = omega arith in
    rw (same, append-nil (digits 16 false n)) refl

-- ---- the sums of all flows

-- the events of a flow, with one more that is of it or is not
of-push : (flow : ℕ) (shown : List Explained) (one : Explained) (b : Bool) → is_of flow one ≡ b
    → filter (is_of flow) (shown ++ one ∷ []) ≡ filter (is_of flow) shown ++ cond b (one ∷ []) []
of-push flow shown one b e =
    filter-append (is_of flow) shown (one ∷ []) ∙ ap (λ (c : Bool). filter (is_of flow) shown ++ cond c (one ∷ []) []) e

-- the row of another flow is unchanged
found-same : (flow : ℕ) (shown : List Explained) (one : Explained) → is_of flow one ≡ false
    → row_of flow (filter (is_of flow) shown) ≡ row_of flow (filter (is_of flow) (shown ++ one ∷ []))
found-same flow shown one e = ap (row_of flow) (sym (of-push flow shown one false e ∙ append-nil (filter (is_of flow) shown)))

pub none_shown : (rows : List (ℕ × Flow)) → rows ≡ [] → HasFlows rows []
unfolding distinct IsDistinct
none_shown rows none = record {
  keys = ap keys_of none;
  found = λ flow. ap (lookup (nat_eq flow)) none;
  apart = subst (λ (rs : List (ℕ × Flow)). IsDistinct nat_eq (keys_of rs)) (sym none) tt;
}

-- a flow's row has the sums of its events
pub row-known : (flow : ℕ) (all : List Explained) (row : Flow) → row_of flow all ≡ Some row → row ≡ (record { number = flow; sums = flow_sums all })
row-known flow [] row is = cc
row-known flow (first ∷ all) row is = cc

-- a flow without a row has no event
pub no-row : (flow : ℕ) (all : List Explained) → row_of flow all ≡ None → all ≡ []
no-row flow [] none = refl
no-row flow (first ∷ all) none = cc

-- a known flow has its key
pub key-known : (rows : List (ℕ × Flow)) (flow : ℕ) (row : Flow) → Some row ≡ lookup (nat_eq flow) rows
    → keys_of rows ≡ insert_key nat_eq (keys_of rows) flow
key-known rows flow row is = rw (← is_some-lookup (nat_eq flow) rows, ← is) refl

pub flow-taken : (flow : ℕ) (shown : List Explained) (one : Explained) (rows now : List (ℕ × Flow)) (row : Flow) → HasFlows rows shown
    → Some flow ≡ flow_in one → row ≡ (record { number = flow; sums = flow_sums (filter (is_of flow) shown ++ one ∷ []) })
    → keys_of now ≡ insert_key nat_eq (keys_of rows) flow → ((q : ℕ) → lookup (nat_eq q) now ≡ cond (nat_eq flow q) (Some row) (lookup (nat_eq q) rows))
    → IsDistinct nat_eq (keys_of now) → HasFlows now (shown ++ one ∷ [])
unfolding distinct
flow-taken flow shown one rows now row has is row-is keys-are updates apart = record {
  keys = keys-are ∙ ap (λ ks. insert_key nat_eq ks flow) has.keys
      ∙ sym (ap distinct (filter_map-append flow_in shown (one ∷ []) ∙ ap (λ (f : Option ℕ). filter_map flow_in shown ++ cons_option f []) (sym is))
      ∙ fold_push (insert_key nat_eq) [] (filter_map flow_in shown) flow);
  found = λ q. updates q ∙ by q (nat_eq flow q) refl;
  apart = apart;
}
  where
    flipped : (q : ℕ) → nat_eq flow q ≡ false → (b : Bool) → nat_eq q flow ≡ b → b ≡ false
    flipped q e false other = refl
    flipped q e true other = absurd (true≢false (sym (eq-eqb flow q (sym (eqb-true q flow other))) ∙ e))

    some : (flow : ℕ) (before : List Explained) (one : Explained)
        → Some (record { number = flow; sums = flow_sums (before ++ one ∷ []) }) ≡ row_of flow (before ++ one ∷ [])
    some flow [] one = refl
    some flow (first ∷ before) one = refl

    by : (q : ℕ) (b : Bool) → nat_eq flow q ≡ b → cond b (Some row) (lookup (nat_eq q) rows) ≡ row_of q (filter (is_of q) (shown ++ one ∷ []))
    by q true e =
        let here = eqb-true flow q e in
        ap Some row-is ∙ some flow (filter (is_of flow) shown) one ∙ (λ i. row_of (here i) (filter (is_of (here i)) shown ++ one ∷ []))
        ∙ ap (row_of q) (sym (of-push q shown one true (ap (is_this q) (sym is) ∙ eq-eqb q flow (sym here))))
    by q false e = has.found q ∙ found-same q shown one (ap (is_this q) (sym is) ∙ flipped q e (nat_eq q flow) refl)

pub nothing_taken : (shown : List Explained) (one : Explained) (rows : List (ℕ × Flow)) → HasFlows rows shown → None ≡ flow_in one
    → HasFlows rows (shown ++ one ∷ [])
nothing_taken shown one rows has is = record {
  keys = has.keys ∙ sym (ap distinct (filter_map-append flow_in shown (one ∷ [])
      ∙ ap (λ (f : Option ℕ). filter_map flow_in shown ++ cons_option f []) (sym is) ∙ append-nil (filter_map flow_in shown)));
  found = λ flow. has.found flow ∙ found-same flow shown one (ap (is_this flow) (sym is));
  apart = has.apart;
}

-- all rows, in order
pub rows_listed : (shown : List Explained) (rows : List (ℕ × Flow)) → HasFlows rows shown → values_of rows ≡ flows_of shown
rows_listed shown rows has = listed rows own ∙ ap (map (flow_of shown)) has.keys
  where
    own : All (λ (e : ℕ × Flow). e.1 ≡ flow_of shown e.0) rows
    own = λ k d within.
        let e : ℕ × Flow = get_or rows k d in
        let there = lookup_from_place nat_eq_equiv rows k e.0 e.1 has.apart (slice_get-get_or rows k d within) in
        row-known e.0 (filter (is_of e.0) shown) e.1 (sym (has.found e.0) ∙ there)

    listed : (rows : List (ℕ × Flow)) → All (λ (e : ℕ × Flow). e.1 ≡ flow_of shown e.0) rows → values_of rows ≡ map (flow_of shown) (keys_of rows)
    listed [] all = refl
    listed (e ∷ rows) all = λ i.
        All-head (λ (e : ℕ × Flow). e.1 ≡ flow_of shown e.0) e rows all i
        ∷ listed rows (All-tail (λ (e : ℕ × Flow). e.1 ≡ flow_of shown e.0) e rows all) i

-- ---- the first of them

take-twice : {X : Type 0} (m : ℕ) (x : X) (xs : List X) → take m (x ∷ take m xs) ≡ take m (x ∷ xs)
take-twice zero x xs = refl
take-twice (suc m) x xs = ap (λ ys. x ∷ ys) (take-take m (suc m) xs (omega arith))

take-placed : (m : ℕ) (flows : List Flow) (one : Flow) → take m (placed (take m flows) one) ≡ take m (placed flows one)
take-placed zero flows one = refl
take-placed (suc m) [] one = refl
take-placed (suc m) (x ∷ flows) one = by (precedes one x) (take-placed m flows one)
  where
    by : (b : Bool) → take m (placed (take m flows) one) ≡ take m (placed flows one) → take (suc m) (if b then one ∷ x ∷ take m flows else x ∷ placed (take m flows) one)
        ≡ take (suc m) (if b then one ∷ x ∷ flows else x ∷ placed flows one)
    by true rest = ap (λ (fs : List Flow). one ∷ fs) (take-twice m x flows)
    by false rest = ap (λ (fs : List Flow). x ∷ fs) rest

pub none_first : (m : ℕ) → [] ≡ first_of m []
unfolding in_order
none_first zero = refl
none_first (suc m) = refl

pub first_of_push : (m : ℕ) (flows : List Flow) (one : Flow) → take m (placed (first_of m flows) one) ≡ first_of m (flows ++ one ∷ [])
unfolding in_order
first_of_push m flows one = take-placed m (in_order flows) one ∙ ap (take m) (sym (fold_push placed [] flows one))

-- ---- the others

abbrev beside : List Flow → List Flow → List Flow
beside some flows = filter (λ one. not (is_among some one)) flows

pub beside_more : (some flows : List Flow) (one : Flow) → is_among some one ≡ false
    → added_up (sums_beside some flows ∷ one.sums ∷ []) ≡ sums_beside some (flows ++ one ∷ [])
beside_more some flows one e =
    added-push (map (λ f. f.sums) (beside some flows)) one.sums
    ∙ ap added_up (sym (map_push (λ (f : Flow). f.sums) (beside some flows) one))
    ∙ ap (λ (fs : List Flow). added_up (map (λ f. f.sums) fs))
    (sym (filter-append (λ f. not (is_among some f)) flows (one ∷ [])
    ∙ ap (λ (b : Bool). beside some flows ++ cond (not b) (one ∷ []) []) e))

pub beside_same : (some flows : List Flow) (one : Flow) → is_among some one ≡ true
    → sums_beside some flows ≡ sums_beside some (flows ++ one ∷ [])
beside_same some flows one e =
    ap (λ (fs : List Flow). added_up (map (λ f. f.sums) fs))
    (sym (filter-append (λ f. not (is_among some f)) flows (one ∷ [])
    ∙ ap (λ (b : Bool). beside some flows ++ cond (not b) (one ∷ []) []) e ∙ append-nil (beside some flows)))
