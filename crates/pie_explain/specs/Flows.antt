-- The flows of a list of events, each with its numbers, and those with the most bytes.
use Rattle.std.specs.Prelude.{ℕ, ◌≡◌, ◌==◌, ◌&&◌, ◌||◌, nat_eq, nat_lt, Bool, not, List, [], ◌∷◌, map, filter, fold, take, None, Option, Some, if◌then◌else◌}
use Rattle.std.specs.{List.IsDistinct, List.filter_map, List.list_any, Map.keys_of, Map.lookup}
use Rattle.indexmap.specs.IndexSet.{insert_key}
use Rattle.pie_explain.specs.declared.{explanation.Explained.Explained, flow.Flow.Flow, flow_sums.FlowSums.FlowSums}
use Rattle.pie_explain.specs.FlowSums.{added_up, flow_in, flow_sums, is_of}

-- ---- each flow once

-- each of these numbers once, in the order of its first place
unfoldable pub distinct : List ℕ → List ℕ
distinct numbers = fold (insert_key nat_eq) [] numbers

-- the flows that have events among these
abbrev pub flows_in : List Explained → List ℕ
flows_in all = distinct (filter_map flow_in all)

-- a flow, with the numbers of its events among these
abbrev pub flow_of : List Explained → ℕ → Flow
flow_of all flow = record { number = flow; sums = flow_sums (filter (is_of flow) all) }

-- all flows of these events
abbrev pub flows_of : List Explained → List Flow
flows_of all = map (flow_of all) (flows_in all)

-- ---- the most bytes first

-- true if flow `one` comes before `other`: more of its bytes arrived, or equally many and its number is less
abbrev pub precedes : Flow → Flow → Bool
precedes one other = nat_lt other.sums.bytes one.sums.bytes || one.sums.bytes == other.sums.bytes && nat_lt one.number other.number

-- flows with one more, inserted before the first flow that it precedes
abbrev pub placed : List Flow → Flow → List Flow
placed [] one = one ∷ []
placed (first ∷ flows) one = if precedes one first then one ∷ first ∷ flows else first ∷ placed flows one

-- flows in their order
unfoldable pub in_order : List Flow → List Flow
in_order flows = fold placed [] flows

-- the first `most` flows
abbrev pub first_of : ℕ → List Flow → List Flow
first_of most flows = take most (in_order flows)

-- true if a flow is one of these
abbrev pub is_among : List Flow → Flow → Bool
is_among some one = list_any (λ other. one.number == other.number) some

-- the numbers of all flows except these
abbrev pub sums_beside : List Flow → List Flow → FlowSums
sums_beside some flows = added_up (map (λ one. one.sums) (filter (λ one. not (is_among some one)) flows))

-- ---- the rows kept

-- a flow with these events, if there are some
abbrev pub row_of : ℕ → List Explained → Option Flow
row_of flow [] = None
row_of flow (one ∷ all) = Some (record { number = flow; sums = flow_sums (one ∷ all) })

-- the rows are those of all flows of the events, by their numbers
pub record HasFlows (rows : List (ℕ × Flow)) (all : List Explained) : Type 0 where
  pub keys : keys_of rows ≡ flows_in all
  pub found : (flow : ℕ) → lookup (nat_eq flow) rows ≡ row_of flow (filter (is_of flow) all)
  pub apart : IsDistinct nat_eq (keys_of rows)
