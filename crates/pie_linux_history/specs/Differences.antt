-- A comparison of a recorded step with the step of the rules: the first column, in order, whose number differs.
use Rattle.std.specs.Prelude.{ℕ, ◌+◌, ◌-◌, ◌^◌, ◌==◌, ◌∷◌, [], ◌&&◌, ◌||◌, if◌then◌else◌, Bool, true, false, not, nat_le, List, Option, Some, None, get_or, unwrap_or}
use Rattle.std.specs.Option.{option_or}
use Rattle.pie_linux.specs.Enqueue.{one_if}
use Rattle.pie_linux_history.specs.declared.{difference.Difference.Difference, step.Kind.Kind, step.Step.Step}
use Rattle.pie_linux_history.specs.declared.step.Kind.TheVariants as kind

-- the numbers of a step, in the order of the table of columns
unfoldable pub numbers_of : Step → List ℕ
numbers_of step =
    step.number ∷
    step.length_before ∷
    step.bytes_before ∷
    step.limit ∷
    step.early ∷
    step.draws ∷
    step.returned ∷
    step.size ∷
    step.packet_length ∷
    step.stats.packets_in ∷
    step.stats.dropped ∷
    step.stats.overlimit ∷
    step.stats.ecn_mark ∷
    step.stats.maxq ∷
    step.backlog ∷
    step.length_after ∷
    step.bytes_after ∷
    step.after.qdelay ∷
    step.after.qdelay_old ∷
    step.after.burst_time ∷
    step.after.dq_tstamp ∷
    step.after.prob ∷
    step.after.accu_prob ∷
    step.after.dq_count ∷
    step.enqueued ∷
    step.moment ∷
    step.word ∷
    get_or step.readings 0 0 ∷
    get_or step.readings 1 0 ∷
    get_or step.readings 2 0 ∷
    step.params.target ∷
    step.after.avg_dq_rate ∷
    step.after.backlog_old ∷
    step.x0 ∷
    step.x1 ∷
    step.x2 ∷
    step.mtu ∷
    one_if step.contained ∷
    step.hash ∷
    step.truesize ∷
    step.params.tupdate ∷
    step.params.limit ∷
    step.params.alpha ∷
    step.params.beta ∷
    one_if step.params.ecn ∷
    one_if step.params.bytemode ∷
    one_if step.params.dq_rate_estimator ∷
    step.priority ∷
    step.reads ∷
    step.returned_packets ∷
    step.returned_bytes ∷
    one_if step.is_drop ∷
    step.moved ∷
    step.protocol ∷
    step.header ∷ []

-- a flow, 2^32 - 1 for -1
abbrev pub flow_number : Option ℕ → ℕ
flow_number flow = unwrap_or flow (2 ^ 32 - 1)

-- a column of the state
abbrev pub is_state : ℕ → Bool
is_state column = (nat_le 17 column && nat_le column 23) || ((column == 31) || (column == 32))

-- true if a column of a step of the rules is compared: each one in a text with the column `rq`. In other texts the columns are, at an arrival, `qlen0` to `ret`,
-- the counters, `backlog`, the state, and `x0` to `x2` of fq_pie; at the limit no `backlog`, and no state of fq_pie; at a departure `size`, `pktlen`, `backlog`
-- to `enq`, and the state; at an update `backlog` and the state; at a round the flow; of pie's changes `limit`, `size`, the counters and the state, and of its
-- resets the counters and the state
abbrev pub is_counter : ℕ → Bool
is_counter column = nat_le 9 column && nat_le column 13

abbrev pub is_compared_at : Kind → Step → ℕ → Bool
is_compared_at kind.Enqueue right column =
    if (nat_le 1 column && nat_le column 6) || is_counter column then true
    else if column == 14 then not (right.early == 255)
    else if nat_le 33 column && nat_le column 35 then right.has_flows
    else is_state column && (not right.has_flows || not (right.early == 255))
is_compared_at kind.Dequeue right column =
    (column == 7) || ((column == 8) || ((nat_le 14 column && nat_le column 24) || ((column == 31) || (column == 32))))
is_compared_at kind.Update right column = (column == 14) || is_state column
is_compared_at kind.Timer right column = column == 55
is_compared_at kind.Change right column =
    not right.has_flows && (((column == 3) || ((column == 7) || is_counter column)) || is_state column)
is_compared_at kind.Reset right column = not right.has_flows && (is_counter column || is_state column)
is_compared_at _ right column = false

abbrev pub is_compared : Step → ℕ → Bool
is_compared right column = right.has_returned || is_compared_at right.kind right column

-- the difference of a column of a step of the rules: none if the recorded number is the right one
abbrev pub difference_of : Step → ℕ → ℕ → ℕ → Option Difference
difference_of step column recorded right =
    if (recorded == right) || not (is_compared step column) then None
    else Some (record { column = column; recorded = recorded; right = right })

-- the first difference of two lists of numbers, which begin with the column of this number
unfoldable pub first_difference : Step → ℕ → List ℕ → List ℕ → Option Difference
first_difference step column [] rights = None
first_difference step column (recorded ∷ more) [] = None
first_difference step column (recorded ∷ more) (right ∷ rights) =
    option_or (difference_of step column recorded right) (first_difference step (column + 1) more rights)

-- the first difference of a recorded step: its flow, the 56th column, or another column in the order of the table
unfoldable pub step_difference : Step → Step → Option Difference
step_difference recorded right =
    option_or (difference_of right 55 (flow_number recorded.flow) (flow_number right.flow))
    (first_difference right 0 (numbers_of recorded) (numbers_of right))
