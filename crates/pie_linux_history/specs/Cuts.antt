-- The pieces of a text: the rows of each piece, and the rows of the running queues that begin it, as text.
use Rattle.std.specs.Prelude.{ℕ, ◌+◌, ◌-◌, ◌%◌, ◌^◌, ◌≡◌, ◌++◌, ◌∷◌, ◌==◌, ◌&&◌, ◌||◌, if◌then◌else◌, not, nat_le, nat_lt, List, [], filter, get_or, length, max, min, Bool, true, false, Option, Some, None, option_map, Result, Ok, Err, codes, zero, suc}
use Rattle.std.specs.Fmt.{decimal}
use Rattle.std.specs.List.{filter_map, flat_map, fold, list_any, position_from, slice_get}
use Rattle.std.specs.Str.{bytes_eq}
use Rattle.pie_linux.specs.Enqueue.{one_if}
use Rattle.pie_linux.specs.declared.state.LinuxState.{LinuxState}
use Rattle.pie_record.specs.{Field.fault_at, Text.Row, Text.text_of}
use Rattle.pie_record.specs.declared.fault.RecordFault.{RecordFault}
use Rattle.pie_record.specs.declared.fault.TraceFault.TheVariants as fault
use Rattle.pie_linux_history.specs.declared.{columns.Columns.Columns, cutter.StepPieces.StepPieces, cutter.StepPieces.TheVariants.Every, cutter.StepPieces.TheVariants.Span, fault.StepsFault.StepsFault, fault.StepsFault.TheVariants.Trace, numbers.FlowNumbers.FlowNumbers, numbers.QueueNumbers.QueueNumbers, numbers.Waiting.Waiting, queues.StepDifference.StepDifference, queues.StepsCounts.StepsCounts, step.Kind.Kind, step.Step.Step, text.StepsFinding.StepsFinding, text.StepsFinding.TheVariants.Clean, text.StepsFinding.TheVariants.Differs}
use Rattle.pie_linux_history.specs.declared.step.Kind.TheVariants as kind
use Rattle.pie_linux_history.specs.{Audit.next, Audit.verdict, Audit.with_entry, Columns.blank, Columns.columns_of, Columns.moment_of, Decisions.difference_32, Differences.numbers_of, LookBack.Entry, LookBack.Followed, LookBack.Lost, LookBack.Took, LookBack.counts_of, LookBack.entry_in, LookBack.followed, LookBack.is_opening, LookBack.latest, LookBack.name_of, Resumes.new_state, Resumes.number_field, Right.of_flows, Right.percent_of, Right.state_of_pie, Views.FlowView, Views.QueueView}

-- ---- the row of a step

abbrev pub word_of : Kind → List ℕ
word_of kind.Flow = codes "flow"
word_of kind.Wait = codes "wait"
word_of _ = codes "resume"

abbrev pub family_of : Bool → List ℕ
family_of has_flows = if has_flows then codes "fq_pie" else codes "pie"

abbrev pub flow_text : Option ℕ → List ℕ
flow_text None = codes "-1"
flow_text (Some flow) = decimal flow

-- the field in the column with this number, for a queue with this name, a step and its numbers; 0 in a column that is not read
abbrev pub field_by : List ℕ → Step → List ℕ → Option ℕ → List ℕ
field_by name step numbers None = codes "0"
field_by name step numbers (Some column) =
    if column == 58 then name
    else if column == 56 then word_of step.kind
    else if column == 57 then family_of step.has_flows
    else if column == 55 then flow_text step.flow
    else decimal (get_or numbers column 0)

-- the number of the column in this place
abbrev pub column_of : Columns → ℕ → Option ℕ
column_of columns place = if place == columns.queue then Some 58 else position_from (λ at. at == place) 0 columns.places

abbrev pub field_of : Columns → List ℕ → Step → ℕ → List ℕ
field_of columns name step place = field_by name step (numbers_of step) (column_of columns place)

-- the first `count` fields of a row
unfoldable pub fields_until : (ℕ → List ℕ) → ℕ → Row
fields_until field zero = []
fields_until field (suc count) = fields_until field count ++ field count ∷ []

abbrev pub row_of : Columns → List ℕ → Step → Row
row_of columns name step = fields_until (field_of columns name step) columns.count

-- ---- the rows of a running queue

-- the row `resume` of a queue with these numbers, the memory that is not of its waiting packets, and the state of pie
unfoldable pub resume_step : QueueNumbers → ℕ → LinuxState → Step
resume_step numbers memory state = record (blank kind.Resume numbers.has_flows true) {
  kind = kind.Resume;
  has_flows = numbers.has_flows;
  length_after = numbers.length;
  bytes_after = numbers.bytes;
  limit = numbers.params.limit;
  readings = number_field numbers.over_memory ∷ number_field numbers.cursor ∷ memory ∷ [];
  truesize = numbers.memory_limit;
  x0 = percent_of numbers.params.marks;
  x1 = of_flows numbers.has_flows numbers.flows;
  x2 = numbers.quantum;
  after = state_of_pie numbers.has_flows state (blank kind.Resume numbers.has_flows true).after;
  params = numbers.params;
  stats = numbers.stats;
}

-- the row of a flow of fq_pie in which `length` packets wait
unfoldable pub flow_step : FlowNumbers → ℕ → Step
flow_step numbers length = record (blank kind.Flow true true) {
  backlog = numbers.backlog;
  length_after = length;
  x1 = one_if numbers.listed;
  after = numbers.state;
}

-- the row of a waiting packet
unfoldable pub wait_step : Bool → Waiting → Step
wait_step has_flows waiting = record (blank kind.Wait has_flows true) {
  packet_length = waiting.length;
  size = waiting.size;
  truesize = waiting.truesize;
  enqueued = waiting.enqueued;
  moment = waiting.moment;
  x0 = 0;
}

-- the text of a row of a queue with this name and this last step
abbrev pub queue_row : Columns → List ℕ → ℕ → Option ℕ → ℕ → Step → List ℕ
queue_row columns name number flow moment step =
    text_of (row_of columns name (record step { flow = flow; number = number; moment = moment }))

abbrev pub wait_row : Columns → List ℕ → ℕ → Bool → Option ℕ → Waiting → List ℕ
wait_row columns name number has_flows flow waiting = queue_row columns name number flow waiting.moment (wait_step has_flows waiting)

-- true for the numbers of a new flow
abbrev pub is_new_state : LinuxState → Bool
is_new_state state = (state.qdelay == new_state.qdelay) && ((state.qdelay_old == new_state.qdelay_old) && ((state.burst_time == new_state.burst_time)
    && ((state.dq_tstamp == new_state.dq_tstamp) && ((state.prob == new_state.prob) && ((state.accu_prob == new_state.accu_prob)
    && ((state.dq_count == new_state.dq_count) && ((state.avg_dq_rate == new_state.avg_dq_rate) && (state.backlog_old == new_state.backlog_old))))))))

abbrev pub is_new : FlowNumbers → Bool
is_new numbers = is_new_state numbers.state && ((numbers.backlog == 0) && not numbers.listed)

-- a number of 32 bits
abbrev pub in_32 : ℕ → ℕ
in_32 number = min number (2 ^ 32 - 1)

-- the flow's row, unless it is pie's or as a new one, and the rows of its waiting packets from the first one on
abbrev pub named_flow : Bool → ℕ → Option ℕ
named_flow has_flows place = if has_flows then Some (in_32 place) else None

abbrev pub is_told : Bool → FlowView → Bool
is_told has_flows flow = has_flows && not (is_new flow.numbers && (length flow.waiting == 0))

abbrev pub flow_row : Columns → List ℕ → ℕ → ℕ → Bool → ℕ → FlowView → List ℕ
flow_row columns name number moment has_flows place flow =
    if is_told has_flows flow then queue_row columns name number (named_flow has_flows place) moment (flow_step flow.numbers (in_32 (length flow.waiting))) else []

abbrev pub flow_rows : Columns → List ℕ → ℕ → ℕ → Bool → ℕ → FlowView → List ℕ
flow_rows columns name number moment has_flows place flow = flow_row columns name number moment has_flows place flow
    ++ flat_map (wait_row columns name number has_flows (named_flow has_flows place)) flow.waiting

-- the rows of flows from this place on
unfoldable pub flows_rows : Columns → List ℕ → ℕ → ℕ → Bool → ℕ → List FlowView → List ℕ
flows_rows columns name number moment has_flows place [] = []
flows_rows columns name number moment has_flows place (flow ∷ rest) =
    flow_rows columns name number moment has_flows place flow ++ flows_rows columns name number moment has_flows (place + 1) rest

-- a queue's memory without that of its waiting packets
abbrev pub less_memory : ℕ → Waiting → ℕ
less_memory memory waiting = difference_32 memory waiting.truesize

abbrev pub less_flow : ℕ → FlowView → ℕ
less_flow memory flow = fold less_memory memory flow.waiting

abbrev pub other_memory : QueueView → ℕ
other_memory queue = fold less_flow queue.numbers.memory queue.flows

-- the state of pie
abbrev pub state_of_first : Option FlowView → LinuxState
state_of_first None = new_state
state_of_first (Some flow) = flow.numbers.state

-- the rows of a queue with this name after the step with this number: none if it has ended
unfoldable pub queue_rows : Columns → List ℕ → ℕ → ℕ → QueueView → List ℕ
queue_rows columns name number moment queue =
    queue_row columns name number None moment (resume_step queue.numbers (other_memory queue) (state_of_first (slice_get queue.flows 0)))
    ++ flows_rows columns name number moment queue.numbers.has_flows 0 queue.flows

-- ---- the queues before a piece

-- a queue with its name
pub record Named : Type 0 where
  pub name : List ℕ
  pub was : Followed

-- the names of the queues, in the order in which they began
abbrev pub has_name : List ℕ → List (List ℕ) → Bool
has_name name names = list_any (λ other. bytes_eq other name) names

abbrev pub with_name : List ℕ → List (List ℕ) → List (List ℕ)
with_name name names = if has_name name names then names else names ++ name ∷ []

abbrev pub without_name : List ℕ → List (List ℕ) → List (List ℕ)
without_name name names = filter (λ other. not (bytes_eq other name)) names

abbrev pub names_after : List (List ℕ) → Entry → List (List ℕ)
names_after names (Lost queue count) = without_name (name_of queue) names
names_after names (Took queue step) = if is_opening step.kind then with_name (name_of queue) names else names
names_after names _ = names

unfoldable pub names_of : List Entry → List (List ℕ)
names_of entries = fold names_after [] entries

abbrev pub named_by : List Entry → List ℕ → Option Named
named_by entries name = option_map (λ was. record { name = name; was = was }) (followed name entries)

-- the queues after these rows
unfoldable pub queues_of : List Entry → List Named
queues_of entries = filter_map (named_by entries) (names_of entries)

abbrev pub named_rows : Columns → ℕ → Named → List ℕ
named_rows columns moment one =
    if one.was.queue.ended then [] else queue_rows columns one.name one.was.last moment one.was.queue

-- the rows of each queue that is alive after these rows
abbrev pub resumed_rows : Columns → List Entry → List ℕ
resumed_rows columns entries = flat_map (named_rows columns (latest entries)) (queues_of entries)

-- ---- the rows of pieces

-- a text that is cut
pub record Plan : Type 0 where
  pub pieces : StepPieces
  pub names : Row
  pub columns : Columns

abbrev pub plan : StepPieces → Row → Columns → Plan
plan pieces names columns = record { pieces = pieces; names = names; columns = columns }

-- true for a row in a piece: its number, counted from 1, and its moment
abbrev pub selects : StepPieces → ℕ → ℕ → Bool
selects (Span span) number moment =
    nat_le span.first number && (nat_le number span.last && (nat_le span.from moment && nat_le moment span.to))
selects (Every every) number moment = not (every == 0)

-- true for the first row of a piece: the row before it, at `before`, is in no piece, or in another one
abbrev pub begins_piece : StepPieces → ℕ → ℕ → ℕ → Bool
begins_piece (Span span) number before moment =
    selects (Span span) number moment && not (nat_lt 1 number && selects (Span span) (number - 1) before)
begins_piece (Every every) number before moment = not (every == 0) && ((number - 1) % every == 0)

-- true for a row after the last piece
abbrev pub is_after : StepPieces → ℕ → ℕ → Bool
is_after (Span span) number moment = nat_lt span.last number || nat_lt span.to moment
is_after (Every every) number moment = false

-- the effective moment of a row after these ones
abbrev pub moment_at : Columns → List Entry → Row → ℕ
moment_at columns entries row = max (latest entries) (moment_of columns row)

-- the beginning of a piece before the row with this number and this moment, if it is the first one of it: the first row of the text, and the rows of the queues
abbrev pub beginning_at : Plan → List Entry → ℕ → ℕ → List ℕ
beginning_at plan entries number moment =
    if begins_piece plan.pieces number (latest entries) moment then text_of plan.names ++ resumed_rows plan.columns entries else []

-- the row, if it is in a piece
abbrev pub copied_at : StepPieces → ℕ → ℕ → Row → List ℕ
copied_at pieces number moment row = if selects pieces number moment then text_of row else []

-- the pieces, the number of copied rows, and the finding
pub record Cut : Type 0 where
  pub text : List ℕ
  pub count : ℕ
  pub finding : Result StepsFinding StepsFault

abbrev pub no_rows : Result StepsFinding StepsFault → Cut
no_rows finding = record { text = []; count = 0; finding = finding }

abbrev pub joined : List ℕ → ℕ → Cut → Cut
joined text count later = record { text = text ++ later.text; count = count + later.count; finding = later.finding }

-- the fault of a row that cannot be read
abbrev pub flaw_of : Result Entry RecordFault → Option RecordFault
flaw_of (Ok entry) = None
flaw_of (Err what) = Some what

abbrev pub fault_in : Columns → Row → Option RecordFault
fault_in columns row = flaw_of (entry_in None columns row)

-- the finding, unless one of the rows after `before` others cannot be read
abbrev pub unless_fault : ℕ → Result Entry RecordFault → Result StepsFinding StepsFault → Result StepsFinding StepsFault
unless_fault before (Ok entry) later = later
unless_fault before (Err what) later = Err (Trace (fault_at (next (before + 1)) what))

unfoldable pub checked : Columns → ℕ → StepsFinding → List Row → Result StepsFinding StepsFault
checked columns before finding [] = Ok finding
checked columns before finding (row ∷ rows) = unless_fault before (entry_in None columns row) (checked columns (before + 1) finding rows)

-- the row with this number and this moment, taken with this result; `at_end` after a difference, and otherwise `later`
abbrev pub with_row : Plan → List Entry → ℕ → ℕ → Row → Cut → Cut
with_row plan entries number moment row later =
    joined (beginning_at plan entries number moment ++ copied_at plan.pieces number moment row) (one_if (selects plan.pieces number moment)) later

abbrev pub cut_by : Plan → List Entry → ℕ → ℕ → Row → Result (Option StepDifference) StepsFault → (StepsFinding → Cut) → Cut → Cut
cut_by plan entries number moment row (Err why) at_end later = no_rows (Err why)
cut_by plan entries number moment row (Ok (Some found)) at_end later = with_row plan entries number moment row (at_end (Differs found 1))
cut_by plan entries number moment row (Ok None) at_end later = with_row plan entries number moment row later

abbrev pub at_end : Plan → ℕ → List Row → StepsFinding → Cut
at_end plan before rows finding = no_rows (checked plan.columns before finding rows)

-- the pieces from the rows that follow others. Each row up to the end of the last piece is decided, up to the first difference; the rows after it are read
unfoldable pub cut_after : Plan → List Entry → List Row → Cut
cut_after plan entries [] = no_rows (Ok (Clean (counts_of entries)))
cut_after plan entries (row ∷ rows) =
    if is_after plan.pieces (length entries + 1) (moment_at plan.columns entries row)
    then at_end plan (length entries) (row ∷ rows) (Clean (counts_of entries))
    else cut_by plan entries (length entries + 1) (moment_at plan.columns entries row) row (verdict entries (next (counts_of entries).events) (entry_in None plan.columns row))
    (at_end plan (length entries + 1) rows) (cut_after plan (with_entry entries (entry_in None plan.columns row)) rows)

-- the pieces from a row on, after the finding `over` if there is one
abbrev pub cut_from : Plan → Option StepsFinding → List Entry → ℕ → List Row → Cut
cut_from plan None entries before rows = cut_after plan entries rows
cut_from plan (Some finding) entries before rows = at_end plan before rows finding

-- the finding before a row that is after the last piece or not
abbrev pub found_before : Bool → Option StepsFinding → StepsCounts → Option StepsFinding
found_before after (Some finding) counts = Some finding
found_before after None counts = if after then Some (Clean counts) else None

abbrev pub cut_with : StepPieces → Row → List Row → Result Columns StepsFault → Cut
cut_with pieces names rows (Err why) = no_rows (Err why)
cut_with pieces names rows (Ok columns) = cut_after (plan pieces names columns) [] rows

-- the pieces of a text of these records, whose first one names the columns
abbrev pub cut_of : StepPieces → List Row → Cut
cut_of pieces [] = no_rows (Err (Trace fault.NoOpen))
cut_of pieces (names ∷ rows) = cut_with pieces names rows (columns_of names)

-- the count and the finding of a cut
abbrev pub IsEnd : Cut → Result (ℕ × StepsFinding) StepsFault → Type 0
IsEnd cut (Ok done) = (cut.count ≡ done.0) × (cut.finding ≡ Ok done.1)
IsEnd cut (Err why) = cut.finding ≡ Err why
