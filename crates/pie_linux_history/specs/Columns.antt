-- The columns of a text of steps, and the step in a row. Fields and keywords are lists of bytes.
use Rattle.std.specs.Prelude.{ℕ, ◌+◌, ◌*◌, ◌-◌, ◌%◌, ◌^◌, ◌++◌, ◌∷◌, ◌==◌, ◌&&◌, ◌||◌, if◌then◌else◌, Bool, true, false, not, nat_le, nat_lt, List, [], drop, replicate, length, map, get_or, min, Option, Some, None, unwrap_or, Result, Ok, Err, codes, zero, suc}
use Rattle.std.specs.Option.{ok_or, option_map}
use Rattle.std.specs.Str.{bytes_eq, is_utf8}
use Rattle.pie_record.specs.{Names.field_at, Text.Row, Field.and_then, Field.is_word, Field.most_u32, Field.most_u64, Field.number}
use Rattle.pie_record.specs.declared.fault.RecordFault.{RecordFault}
use Rattle.pie_record.specs.declared.fault.RecordFault.TheVariants as flaw
use Rattle.pie_linux.specs.declared.{params.LinuxParams.LinuxParams, state.LinuxState.LinuxState, params.MarkLimit.TheVariants.Percent, params.MarkLimit.TheVariants.Tenth}
use Rattle.pie_linux_history.specs.declared.{columns.Columns.Columns, columns.TheConstants.NAMES, fault.StepsFault.StepsFault, fault.StepsFault.TheVariants.NoColumn, step.Kind.Kind, step.QueueName.QueueName, step.Step.Step}
use Rattle.pie_linux_history.specs.declared.step.Kind.TheVariants as kind

-- the first `count` values of a sequence, or its first error
unfoldable pub collected : {E : Type 0} → (ℕ → Result ℕ E) → ℕ → Result (List ℕ) E
collected value zero = Ok []
collected value (suc count) = and_then (collected value count) (λ before. and_then (value count) (λ next. Ok (before ++ next ∷ [])))

-- ---- the first row

-- the first place with this name among fields that begin at `place`
unfoldable pub place_from : ℕ → List ℕ → Row → Option ℕ
place_from place name [] = None
place_from place name (field ∷ rest) = if bytes_eq field name then Some place else place_from (place + 1) name rest

-- the table of names
abbrev pub known : List (List ℕ)
known = map (λ name. name.now) NAMES

-- the name of the column with this number: after those of the table the queue's
abbrev pub name_of : ℕ → List ℕ
name_of column = get_or known column (codes "qid")

-- true for a column that a text may lack: `prio`, `nt`, `rq`, `rqb`, `drop`, `moved`
abbrev pub is_optional : ℕ → Bool
is_optional column = nat_le 47 column && nat_lt column 53

-- the place of a column, of an optional one that the text lacks the place behind the last field, which is read as 0
abbrev pub place_or : Row → ℕ → Option ℕ → Result ℕ StepsFault
place_or names column (Some place) = Ok place
place_or names column None = if is_optional column then Ok (length names) else Err (NoColumn column)

abbrev pub column_at : Row → ℕ → Result ℕ StepsFault
column_at names column = place_or names column (place_from 0 (name_of column) names)

unfoldable pub columns_of : Row → Result Columns StepsFault
columns_of names = and_then (collected (column_at names) 58) (λ places. and_then (column_at names 58) (λ queue.
    Ok (record { queue = queue; places = places; count = length names })))

-- ---- fields

-- the field at a place, empty if there is none
abbrev pub field_or : Row → ℕ → List ℕ
field_or row place = unwrap_or (field_at row place) []

-- a decimal number, an empty field is 0
abbrev pub decimal_in : List ℕ → ℕ → Result ℕ RecordFault
decimal_in [] most = Ok 0
decimal_in (digit ∷ digits) most = ok_or (number most (digit ∷ digits)) flaw.Number

unfoldable pub decimal_at : Row → ℕ → ℕ → Result ℕ RecordFault
decimal_at row place most = decimal_in (field_or row place) most

-- a number of at most four hexadecimal digits in small letters, an empty field is 0
abbrev pub hex_digit : ℕ → Option ℕ
hex_digit byte =
    if nat_le 48 byte && nat_le byte 57 then Some (byte - 48)
    else if nat_le 97 byte && nat_le byte 102 then Some (byte - 97 + 10)
    else None

unfoldable pub hexadecimal_after : ℕ → List ℕ → Result ℕ RecordFault
hexadecimal_after value [] = Ok value
hexadecimal_after value (byte ∷ bytes) = and_then (ok_or (hex_digit byte) flaw.Number) (λ digit. hexadecimal_after ((16 * value + digit) % 2 ^ 16) bytes)

unfoldable pub hexadecimal_at : Row → ℕ → Result ℕ RecordFault
hexadecimal_at row place = if nat_lt 4 (length (field_or row place)) then Err flaw.Number else hexadecimal_after 0 (field_or row place)

-- the digits before the first byte that is none
unfoldable pub digits_after : ℕ → List ℕ → ℕ
digits_after value [] = value
digits_after value (byte ∷ bytes) =
    unwrap_or (option_map (λ digit. digits_after ((16 * value + digit) % 2 ^ 16) bytes) (hex_digit byte)) value

-- the handle in the name of a queue: DEVICE/HANDLE:/NUMBER
unfoldable pub handle_of : List ℕ → ℕ
handle_of [] = 0
handle_of (byte ∷ bytes) = if byte == 47 then digits_after 0 bytes * 65536 else handle_of bytes

-- a number of 32 bits
abbrev pub narrow : ℕ → ℕ
narrow number = min number (2 ^ 32 - 1)

-- the flow: -1 is none
unfoldable pub flow_at : Row → ℕ → Result (Option ℕ) RecordFault
flow_at row place = if is_word (codes "-1") (field_at row place) then Ok None
    else and_then (decimal_at row place most_u32) (λ flow. Ok (Some (narrow flow)))

-- the column `type`
unfoldable pub kind_at : Row → ℕ → Result Kind RecordFault
kind_at row place =
    if is_word (codes "enq") (field_at row place) then Ok kind.Enqueue
    else if is_word (codes "deq") (field_at row place) then Ok kind.Dequeue
    else if is_word (codes "calc") (field_at row place) then Ok kind.Update
    else if is_word (codes "timer") (field_at row place) then Ok kind.Timer
    else if is_word (codes "wait") (field_at row place) then Ok kind.Wait
    else if is_word (codes "flow") (field_at row place) then Ok kind.Flow
    else if is_word (codes "init") (field_at row place) then Ok kind.Init
    else if is_word (codes "resume") (field_at row place) then Ok kind.Resume
    else if is_word (codes "change") (field_at row place) then Ok kind.Change
    else if is_word (codes "reset") (field_at row place) then Ok kind.Reset
    else if is_word (codes "destroy") (field_at row place) then Ok kind.Destroy
    else if is_word (codes "empty") (field_at row place) then Ok kind.Empty
    else Err flaw.Word

-- the column `kind`: true for fq_pie
unfoldable pub has_flows_at : Row → ℕ → Result Bool RecordFault
has_flows_at row place =
    if is_word (codes "pie") (field_at row place) then Ok false
    else if is_word (codes "fq_pie") (field_at row place) then Ok true
    else Err flaw.Word

-- ---- a row

-- the greatest number of a column: `seq` and `a_qdelay` to `target` have 64 bits, the others 32
abbrev pub most_of : ℕ → ℕ
most_of column = if (column == 0) || (nat_le 17 column && nat_le column 30) then most_u64 else most_u32

abbrev pub number_in : Columns → Row → ℕ → Result ℕ RecordFault
number_in columns row column = decimal_at row (get_or columns.places column 0) (most_of column)

-- the numbers of the first 53 columns
unfoldable pub numbers_of : Columns → Row → Result (List ℕ) RecordFault
numbers_of columns row = collected (number_in columns row) 53

-- the number of the column with this name in the table of names
abbrev pub column : List ℕ → ℕ
column name = unwrap_or (place_from 0 name known) 58

-- the number of a column of 64 bits, and of one of 32
abbrev pub wide : List ℕ → List ℕ → ℕ
wide numbers name = get_or numbers (column name) 0

abbrev pub short : List ℕ → List ℕ → ℕ
short numbers name = narrow (get_or numbers (column name) 0)

abbrev pub is_set : List ℕ → List ℕ → Bool
is_set numbers name = not (wide numbers name == 0)

abbrev pub state_of : List ℕ → LinuxState
state_of numbers = record {
  qdelay = wide numbers (codes "a_qdelay");
  qdelay_old = wide numbers (codes "a_qdelay_old");
  burst_time = wide numbers (codes "a_burst_time");
  dq_tstamp = wide numbers (codes "a_dq_tstamp");
  prob = wide numbers (codes "a_prob");
  accu_prob = wide numbers (codes "a_accu_prob");
  dq_count = wide numbers (codes "a_dq_count");
  avg_dq_rate = short numbers (codes "a_avg_dq_rate");
  backlog_old = short numbers (codes "a_backlog_old");
}

abbrev pub params_of : List ℕ → Bool → LinuxParams
params_of numbers has_flows = record {
  target = wide numbers (codes "target");
  tupdate = short numbers (codes "tupdate");
  limit = short numbers (codes "plimit");
  alpha = short numbers (codes "alpha");
  beta = short numbers (codes "beta");
  ecn = is_set numbers (codes "ecn");
  bytemode = is_set numbers (codes "bytemode");
  dq_rate_estimator = is_set numbers (codes "dqrate");
  marks = if has_flows then Percent (short numbers (codes "x0")) else Tenth;
}

-- the step with these numbers, without a flow, a protocol and a header
unfoldable pub step_of : List ℕ → Kind → Bool → Bool → Step
step_of numbers kind has_flows has_returned = record {
  kind = kind;
  has_flows = has_flows;
  has_returned = has_returned;
  number = wide numbers (codes "seq");
  moment = wide numbers (codes "ns");
  flow = None;
  backlog = short numbers (codes "backlog");
  size = short numbers (codes "size");
  packet_length = short numbers (codes "pktlen");
  mtu = short numbers (codes "mtu");
  length_before = short numbers (codes "qlen0");
  length_after = short numbers (codes "qlen1");
  bytes_before = short numbers (codes "bl0");
  bytes_after = short numbers (codes "bl1");
  limit = short numbers (codes "limit");
  returned = short numbers (codes "ret");
  protocol = 0;
  header = 0;
  contained = is_set numbers (codes "room");
  early = short numbers (codes "early");
  draws = short numbers (codes "nrnd");
  word = wide numbers (codes "rnd");
  enqueued = wide numbers (codes "enq");
  readings = wide numbers (codes "t0") ∷ wide numbers (codes "t1") ∷ wide numbers (codes "t2") ∷ [];
  reads = short numbers (codes "nt");
  hash = short numbers (codes "hash");
  priority = short numbers (codes "prio");
  truesize = short numbers (codes "truesize");
  x0 = short numbers (codes "x0");
  x1 = short numbers (codes "x1");
  x2 = short numbers (codes "x2");
  after = state_of numbers;
  params = params_of numbers has_flows;
  stats = record {
    packets_in = short numbers (codes "packets_in");
    dropped = short numbers (codes "dropped");
    overlimit = short numbers (codes "overlimit");
    ecn_mark = short numbers (codes "ecn_mark");
    maxq = short numbers (codes "maxq");
  };
  returned_packets = short numbers (codes "rq");
  returned_bytes = short numbers (codes "rqb");
  is_drop = is_set numbers (codes "drop");
  moved = short numbers (codes "moved");
}

-- the step whose numbers are 0: `pie_drop_early` was not called
unfoldable pub blank : Kind → Bool → Bool → Step
blank kind has_flows has_returned = record (step_of (replicate 53 0) kind has_flows has_returned) { early = 255 }

-- the place in a row of the column with this name
abbrev pub place : Columns → List ℕ → ℕ
place columns name = get_or columns.places (column name) 0

-- true if the text has the column `rq`, that is, its rows say which packets the device returned
abbrev pub has_returned : Columns → Bool
has_returned columns = not (place columns (codes "rq") == columns.count)

-- the step in a row
unfoldable pub step_in : Columns → Row → Result Step RecordFault
step_in columns row =
    if length row == columns.count then
    and_then (kind_at row (place columns (codes "type"))) (λ kind. and_then (has_flows_at row (place columns (codes "kind"))) (λ has_flows.
    and_then (flow_at row (place columns (codes "flow"))) (λ flow. and_then (hexadecimal_at row (place columns (codes "proto"))) (λ protocol.
    and_then (hexadecimal_at row (place columns (codes "l3"))) (λ header. and_then (numbers_of columns row) (λ numbers.
    Ok (record (step_of numbers kind has_flows (has_returned columns)) { flow = flow; protocol = protocol; header = header })))))))
    else Err flaw.Fields

-- the moment of a row, 0 if the row has none
abbrev pub or_zero : Result ℕ RecordFault → ℕ
or_zero (Ok number) = number
or_zero (Err what) = 0

unfoldable pub moment_of : Columns → Row → ℕ
moment_of columns row = if length row == columns.count then or_zero (decimal_at row (place columns (codes "ns")) most_u64) else 0

-- ---- lost steps

-- the bytes of a name, filled up with zeros
abbrev pub padded : List ℕ → List ℕ
padded name = name ++ drop (length name) (replicate 64 0)

-- the name of a queue: at most 64 bytes of UTF-8
abbrev pub queue_name : List ℕ → Option QueueName
queue_name name =
    if nat_lt 64 (length name) then None
    else if is_utf8 name then Some (record { bytes = padded name; len = length name })
    else None

-- `lost,<count>,<queue>`
unfoldable pub lost_in : Row → Result (Option (QueueName × ℕ)) RecordFault
lost_in row =
    if is_word (codes "lost") (field_at row 0) then (
    if length row == 3 then and_then (decimal_at row 1 most_u64) (λ count. and_then (ok_or (queue_name (field_or row 2)) flaw.Word) (λ queue. Ok (Some (queue, count))))
    else Err flaw.Fields)
    else Ok None
