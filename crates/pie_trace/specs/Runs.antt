-- The run of a text: its result and its output (`RunsText`). The state of a run is the look-back over a history, or a
-- running core, with or without a history that leads to it.
use Rattle.pie_trace.specs.Names.{Answer, Apply, BadParams, CoreView, Err, Fold, List, Ok, Opening, Progress, Refusal, Request, Result, Row, Show, Tally, Version, [], apply_in, code_of_fold, code_of_params, core_after, nat_lt, registers_of, rows_text, ℕ, Appends, BookRepresents, BookView, None, Option, Some, TraceFault, cond, false, is_io_or_memory, length, opening_refusal, request_of, text_of, Beginning, Event, RecordFault, Represents, and_then, beginning_of, progress_after, take}
use Rattle.pie_book.specs.Book.{tail_length_after_fold, tail_length_with_one}
use Rattle.pie_trace.specs.HistoryText.{before_fault, end_at, end_left, history_rows, refused_count, requests_of, text_left, first_fault, end_in, fault_in, resumed_progress, steps_of, text_in, Reply, after, clocked, fold_reply, refused, reply, reply_to_command, shown, tallied, history_row, is_refused}
use Rattle.pie_trace.specs.declared.run.RunEnd.{RunEnd}
use Rattle.std.specs.Prelude.{if◌then◌else◌, ◌+◌, ◌∷◌, ◌≡◌, ◌++◌, ◌==◌}
use Rattle.pie_record.specs.declared.trace_record.Request.TheVariants as request
use Rattle.pie_excerpt.specs.Beginning.{fault_within}
use Rattle.pie_excerpt.specs.Preamble.{resume_of}
use Rattle.pie_excerpt.specs.declared.resume.Resume.{Resume}
use Rattle.pie_trace.specs.declared.session.Session.{Session}
use Rattle.pie_record.specs.declared.fault.TraceFault.TheVariants as fault

-- ---- a running core

-- the core that decides the next command, and the number of events in the event log
pub record Running : Type 0 where
  pub core : CoreView
  pub tail_length : ℕ

-- the reply to a request in this state: the core's answer to a command, and the core's registers and statistics
abbrev pub reply_in : Opening → Running → Request → Reply
reply_in opening it (Apply caller command) = reply_to_command (apply_in opening it.core it.tail_length command)
reply_in opening it BadParams = refused code_of_params
reply_in opening it (Fold n) = if nat_lt it.tail_length n then refused code_of_fold else fold_reply n
reply_in opening it Show = shown (registers_of it.core)
reply_in opening it Tally = tallied it.core.stats
reply_in opening it (request.Clock clock) = clocked

-- the state of the run after a command with this result
abbrev pub decided : Opening → Running → CoreView → Result Answer Refusal → Running
decided opening it next (Ok answer) =
    record { core = next; tail_length = tail_length_with_one opening.choices.mode opening.limits.tail it.tail_length }
decided opening it next (Err why) = it

-- the state of the run after a request
abbrev pub running_after : Opening → Running → Request → Running
running_after opening it (Apply caller command) =
    decided opening it (core_after it.core command) (apply_in opening it.core it.tail_length command)
running_after opening it (Fold n) = record { core = it.core; tail_length = tail_length_after_fold it.tail_length n }
running_after opening it _ = it

-- the replies to these requests, one after another
unfoldable pub replies_in : Opening → Running → List Request → List Reply
replies_in opening it [] = []
replies_in opening it (request ∷ requests) = reply_in opening it request ∷ replies_in opening (running_after opening it request) requests

-- the state of the run after these requests
unfoldable pub running_through : Opening → Running → List Request → Running
running_through opening it [] = it
running_through opening it (request ∷ requests) = running_through opening (running_after opening it request) requests

-- the result of a run in this state
abbrev pub end_in_state : Running → ℕ → RunEnd
end_in_state it refusals = record { events = it.core.count; refused = refusals; registers = registers_of it.core; stats = it.core.stats }

-- the text written for these records, up to the first that has a fault
unfoldable pub text_in_state : Version → ℕ → Opening → ℕ → Running → List Row → List ℕ
text_in_state version max_records opening number it rows =
    let good = before_fault version max_records number rows in
    rows_text (history_rows version number good (replies_in opening it (requests_of version good)))

-- the result of a run that was in this state before these records
abbrev pub end_from_state : Version → Opening → Running → ℕ → List Row → RunEnd
end_from_state version opening it refusals rows =
    let requests = requests_of version rows in
    end_in_state (running_through opening it requests) (refusals + refused_count (replies_in opening it requests))

-- ---- the two kinds of run

pub data RunState : Type 0 where
  looking_back : Progress → RunState
  running : Running → RunState

abbrev pub reply_at : Opening → RunState → Request → Reply
reply_at opening (looking_back progress) request = reply opening progress request
reply_at opening (running it) request = reply_in opening it request

abbrev pub run_state_after : Opening → RunState → Request → RunState
run_state_after opening (looking_back progress) request = looking_back (after opening progress request)
run_state_after opening (running it) request = running (running_after opening it request)

abbrev pub end_of_state : Opening → RunState → ℕ → RunEnd
end_of_state opening (looking_back progress) refusals = end_at opening progress refusals
end_of_state opening (running it) refusals = end_in_state it refusals

abbrev pub text_at : Version → ℕ → Opening → ℕ → RunState → List Row → List ℕ
text_at version max_records opening number (looking_back progress) rows = text_left version max_records opening number progress rows
text_at version max_records opening number (running it) rows = text_in_state version max_records opening number it rows

-- the result of a run that was in this state before these records
abbrev pub end_after : Version → Opening → RunState → ℕ → List Row → RunEnd
end_after version opening (looking_back progress) refusals rows = end_left version opening progress refusals rows
end_after version opening (running it) refusals rows = end_from_state version opening it refusals rows

-- ---- A pass over records, and its progress; and the pass of a run of a trace.

-- ---- a pass over records: it reads them one after another, writes, and returns a result

-- the outcome of a pass: the first fault, if there is one; otherwise the result; and the output. Result and output
-- depend on the state before
pub record Pass (X A : Type 0) : Type 1 where
  pub found : Option TraceFault
  pub can_precede : X → Type 0
  pub gives : X → Option A
  pub text : X → List ℕ

-- the output of the pass, after every possible past, is appended to the writer's bytes
abbrev pub Writes : {X A : Type 0} → Pass X A → Option (List ℕ) → Option (List ℕ) → Type 0
Writes {X} pass before now = (past : X) → pass.can_precede past → Appends before now (pass.text past)

-- the end of a pass, unless the reader, the writer or memory failed: a result, or the fault
abbrev pub HasOutcome : {X A : Type 0} → Pass X A → Result A TraceFault → Option (List ℕ) → Option (List ℕ) → Type 0
HasOutcome {X} pass (Ok value) before now =
    (pass.found ≡ None) × ((past : X) → pass.can_precede past → pass.gives past ≡ Some value) × Writes pass before now
HasOutcome pass (Err why) before now = is_io_or_memory why ≡ false → (pass.found ≡ Some why) × Writes pass before now

-- ---- the run of a trace

-- a book is in this state of a run from its opening
pub record IsAt (book : BookView) (opening : Opening) (progress : Progress) : Type 0 where
  pub opened : book.opening ≡ opening
  pub accepted : opening_refusal opening.limits opening.moment ≡ None
  pub book_represents : BookRepresents book progress.history
  pub tail_length : length book.tail ≡ progress.tail_length

-- a book runs with this core from this opening, and its event log has this number of events
pub record IsRunning (book : BookView) (opening : Opening) (it : Running) : Type 0 where
  pub opened : book.opening ≡ opening
  pub accepted : opening_refusal opening.limits opening.moment ≡ None
  pub core : book.running ≡ it.core
  pub tail_length : length book.tail ≡ it.tail_length

-- a book is in this state, of either kind
abbrev pub IsInState : BookView → Opening → RunState → Type 0
IsInState book opening (looking_back progress) = IsAt book opening progress
IsInState book opening (running it) = IsRunning book opening it

-- 1 if a reply is a refusal, otherwise 0
abbrev pub refusals_in : Reply → ℕ
refusals_in given = cond (is_refused given) 1 0

-- the effect of a request: the book is in the state after it, a refusal is counted, and the text is that of its
-- history record
pub record IsReplied (version : Version) (number : ℕ) (row : Row) (request : Request) (opening : Opening) (new : BookView) (refusals_before refusals_then : ℕ)
    (text : List ℕ) (run_state : RunState) : Type 0 where
  pub is_in_state : IsInState new opening (run_state_after opening run_state request)
  pub refusals : refusals_then ≡ refusals_before + refusals_in (reply_at opening run_state request)
  pub made : text ≡ text_of (history_row version number row (reply_at opening run_state request))

-- the effect of a request, for each record that makes it, and for each state of the book before
abbrev pub Replies : Version → ℕ → Request → BookView → BookView → ℕ → ℕ → List ℕ → Type 0
Replies version number request old new refusals_before refusals_then text =
    (row : Row) → request_of version row ≡ Ok request → (run_state : RunState) → IsInState old old.opening run_state
    → IsReplied version number row request old.opening new refusals_before refusals_then text run_state

-- the outcome of the run of these records, by the book's running core, and for every history that the book
-- represents: the first fault, the result, and the history text up to the first record that has a fault. `number`
-- is the number of the first record, and `refusals` the number of refusals before it
abbrev pub runs_on : Version → ℕ → Opening → ℕ → BookView → ℕ → List Row → Pass RunState RunEnd
runs_on version max_records opening number book refusals rows = record {
  found = first_fault version max_records number rows;
  can_precede = IsInState book opening;
  gives = λ from. Some (end_after version opening from refusals rows);
  text = λ from. text_at version max_records opening number from rows;
}

-- ---- The run of a text from its beginning on: the answers of its core, and those after each history that it continues.

-- ---- The beginning of a text with at most `max_records` records

-- the beginning, or `TooLong` if it has more than `max_records` records
abbrev pub within_max : ℕ → Beginning → Result Beginning TraceFault
within_max max_records begun = if nat_lt max_records begun.records_read then Err fault.TooLong else Ok begun

-- the contents of a first record that announces at least `max_records` packets, more than the other records that are read
abbrev pub long_by : ℕ → Result Resume RecordFault → Option Resume
long_by max_records (Err what) = None
long_by max_records (Ok r) = if nat_lt r.snapshot.packets max_records then None else Some r

-- the first fault is then that of a record that is read, or of the one past them
abbrev pub within_by : ℕ → Option Resume → List Row → List Row → Result Beginning TraceFault
within_by max_records (Some r) rows later = Err (fault_within max_records r later)
within_by max_records None rows later = and_then (beginning_of rows) (within_max max_records)

-- the beginning, or its first fault: a record past the last that is read is too long, before any other fault of it
abbrev pub beginning_within : ℕ → List Row → Result Beginning TraceFault
beginning_within max_records [] = Err fault.NoOpen
beginning_within max_records (row ∷ rows) =
    if max_records == 0 then Err fault.TooLong else within_by max_records (long_by max_records (resume_of row)) (row ∷ rows) rows

-- the first fault of a text, if any
unfoldable pub fault_of_run : ℕ → List Row → Option TraceFault
fault_of_run max_records rows = fault_in max_records (beginning_within max_records rows)

-- the history text of a text after these events
unfoldable pub text_of_run : ℕ → List Event → List Row → List ℕ
text_of_run max_records past rows = text_in max_records past rows (beginning_within max_records rows)

-- the result of the run of a text without a fault, after these events: the numbers of the whole
unfoldable pub end_of_run : ℕ → List Event → List Row → Option RunEnd
end_of_run max_records past rows = end_in past (beginning_within max_records rows)

-- the state of the run of a text after these events and the records before the first that has a fault
abbrev pub progress_resumed : ℕ → List Event → Beginning → Progress
progress_resumed max_records past begun =
    progress_after begun.opening (resumed_progress past) (steps_of (requests_of begun.version (before_fault begun.version max_records (begun.records_read + 1) begun.left)))

-- ---- the run of a text

-- the possible states of a run before the records after the beginning, if the beginning has no fault: at its core,
-- whatever its numbers are; and after every history that leads to this core, with an empty event log
abbrev pub CanPrecede : ℕ → List Row → RunState → Type 0
CanPrecede max_records rows (looking_back progress) = (past : List Event) × (progress ≡ resumed_progress past)
    × ((begun : Beginning) → beginning_within max_records rows ≡ Ok begun → Represents begun.opening begun.core past)
CanPrecede max_records rows (running it) =
    (begun : Beginning) → beginning_within max_records rows ≡ Ok begun → (it.core ≡ begun.core) × (it.tail_length ≡ 0)

-- the result of the run from this state on, if the text has no fault
abbrev pub end_by : RunState → Result Beginning TraceFault → Option RunEnd
end_by run_state (Err why) = None
end_by run_state (Ok begun) = Some (end_after begun.version begun.opening run_state 0 begun.left)

-- the history text: the records of its beginning as they were read, and each other with its reply
abbrev pub text_by : ℕ → RunState → List Row → Result Beginning TraceFault → List ℕ
text_by max_records run_state rows (Err why) = []
text_by max_records run_state rows (Ok begun) =
    rows_text (take begun.records_read rows) ++ text_at begun.version max_records begun.opening (begun.records_read + 1) run_state begun.left

-- the run of a text: its first fault; otherwise the result and the history text from this state on. They are those of
-- the beginning's core, whatever its numbers are; and for every history that leads to these numbers, those of the whole
-- from there on
abbrev pub run_by : ℕ → List Row → Pass RunState RunEnd
run_by max_records rows = record {
  found = fault_in max_records (beginning_within max_records rows);
  can_precede = CanPrecede max_records rows;
  gives = λ run_state. end_by run_state (beginning_within max_records rows);
  text = λ run_state. text_by max_records run_state rows (beginning_within max_records rows);
}

-- the result and the output of a run
abbrev pub RunsText : ℕ → List Row → Result RunEnd TraceFault → Option (List ℕ) → Option (List ℕ) → Type 0
RunsText max_records rows result before now = HasOutcome (run_by max_records rows) result before now

-- ---- the state of a run at its beginning

-- the beginning was read and written, and the book is in each of the possible states of the run
pub record HasBegun (max_records : ℕ) (rows : List Row) (version : Version) (book : BookView) (read : ℕ) (left : Option (List Row))
    (before now : Option (List ℕ)) : Type 0 where
  pub others : List Row
  pub set_by : Option ℕ
  pub core : CoreView
  pub remain : left ≡ Some others
  pub found : beginning_within max_records rows
      ≡ Ok (record { version = version; opening = book.opening; set_by = set_by; core = core; records_read = read; left = others })
  pub is_in_state : (run_state : RunState) → CanPrecede max_records rows run_state → IsInState book book.opening run_state
  pub written : Appends before now (rows_text (take read rows))

-- the beginning of a run: as above; or its first fault was found and nothing is written, unless a device or memory
-- failed
abbrev pub StartsBy : ℕ → List Row → Result Session TraceFault → Option (List Row) → Option (List ℕ) → Option (List ℕ) → Type 0
StartsBy max_records rows (Ok it) left before now = HasBegun max_records rows it.version it.book it.records_read left before now
StartsBy max_records rows (Err why) left before now = is_io_or_memory why ≡ false → (beginning_within max_records rows ≡ Err why) × Appends before now []
