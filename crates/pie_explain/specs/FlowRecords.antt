-- Sums by flow as CSV records, and their output.
use Rattle.std.specs.Prelude.{ℕ, ◌-◌, ◌/◌, nat_lt, max, Bool, false, List, [], ◌∷◌, ◌++◌, length, replicate, codes, if◌then◌else◌, ◌≡◌}
use Rattle.std.specs.Fmt.{digits}
use Rattle.pie_explain.specs.declared.{flow.Flow.Flow, flow_sums.FlowSums.FlowSums, flow_words.Name.Name, aggregates.Span.Span, explanation.Explained.Explained, by_flow.ByFlow.ByFlow, by_flow.FlowInterval.FlowInterval}
use Rattle.pie_explain.specs.declared.flow_words.Name.TheVariants as name
use Rattle.pie_explain.specs.Aggregates.{kept, span_of}
use Rattle.pie_explain.specs.Flows.{first_of, sums_beside, HasFlows, flows_of}
use Rattle.pie_explain.specs.SummaryRecord.{joined, last_fields, number_fields}
use Rattle.pie_explain.specs.Record.{header_of}
use Rattle.pie_explain.specs.Report.{IsBegun, IsEnded}
use Rattle.pie_explain.specs.Interval.{Keeps, at_end, at_last}
use Rattle.pie_aqm.specs.History.{Place}

-- a flow's number in eight hexadecimal digits
unfoldable pub flow_text : ℕ → List ℕ
flow_text flow = joined (codes "0x" ∷ replicate (8 - length (digits 16 false flow)) 48 ∷ digits 16 false flow ∷ [])

-- the name of a row
abbrev pub name_field : Name → List ℕ
name_field (name.Of flow) = flow_text flow
name_field (name.Others count) = codes "others"

-- the mean wait of the packets that left, rounded down; 0 if none did
abbrev pub mean_wait : FlowSums → ℕ
mean_wait sums = kept (sums.waited / max sums.left 1)

-- the names of the fields
abbrev pub flow_names : List ℕ
flow_names =
    codes "first_moment,last_moment,flow,arrivals,arrived_bytes,enqueue,mark,early,bytes,packets,left,carried_bytes,greatest_wait,mean_wait,"
    ++ codes "byte_microseconds"

abbrev pub flow_numbers : FlowSums → List ℕ
flow_numbers sums = sums.arrivals ∷ sums.bytes ∷ sums.queued ∷ sums.marked ∷ sums.early ∷ sums.no_bytes ∷ sums.no_packets ∷ sums.left
    ∷ sums.carried ∷ sums.greatest_wait ∷ mean_wait sums ∷ []

-- a record, with a wall-clock time or not
unfoldable pub flow_record : Bool → Span → Name → FlowSums → List ℕ
flow_record by_wall span name sums =
    joined (number_fields (span.moments.first ∷ span.moments.last ∷ []) ∷ name_field name ∷ codes "," ∷ number_fields (flow_numbers sums)
    ∷ last_fields by_wall sums.held span.times.count span.times.first ∷ [])

-- the records of several flows, one after another
abbrev pub each_record : Bool → Span → List Flow → List ℕ
each_record by_wall span [] = []
each_record by_wall span (flow ∷ flows) = flow_record by_wall span (name.Of flow.number) flow.sums ++ each_record by_wall span flows

-- the record of the flows after the first `most`; nothing if there are none
abbrev pub others_record : Bool → Span → ℕ → List Flow → List Flow → List ℕ
others_record by_wall span most first flows =
    if nat_lt most (length flows) then flow_record by_wall span (name.Others (length flows - most)) (sums_beside first flows) else []

-- the records of the first `most` of these flows, and of the others
abbrev pub flows_text : Bool → Span → ℕ → List Flow → List ℕ
flows_text by_wall span most flows =
    each_record by_wall span (first_of most flows) ++ others_record by_wall span most (first_of most flows) flows

-- the header row
abbrev pub flow_header : Bool → List ℕ
flow_header by_wall = header_of flow_names by_wall

-- the records of the sums of these events by flow
abbrev pub text_by_flow : ByFlow → List Explained → List ℕ
text_by_flow by_flow all = flows_text by_flow.form.by_wall (span_of all) by_flow.most (flows_of all)

-- the text at an event that begins an interval: the records of the interval before
abbrev pub IsFlowsAt : ByFlow → Place Explained → List ℕ → Type 0
IsFlowsAt by_flow place text = text ≡ at_end by_flow.every (text_by_flow by_flow) place

-- the text of flows before its end, and the whole text, with the records of the last interval
abbrev pub HasFlowsSoFar : ByFlow → List Explained → List ℕ → Type 0
HasFlowsSoFar by_flow = IsBegun (flow_header by_flow.form.by_wall) (IsFlowsAt by_flow)

abbrev pub HasAllFlows : ByFlow → List Explained → List ℕ → Type 0
HasAllFlows by_flow all = IsEnded (flow_header by_flow.form.by_wall) (IsFlowsAt by_flow) (at_last by_flow.every (text_by_flow by_flow) all) all

-- the state of an interval after these events: their span, and their flows
pub record HoldsFlows (interval : FlowInterval) (all : List Explained) : Type 0 where
  pub span : interval.span ≡ span_of all
  pub flows : HasFlows interval.rows.entries all

abbrev pub keeps_flows : ByFlow → FlowInterval → List Explained → Type 0
keeps_flows by_flow interval all = Keeps (HoldsFlows interval) by_flow.every interval.number all
