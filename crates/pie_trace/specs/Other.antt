-- The other history: the events before a moment are the history's own; then a change of the parameters is inserted, and
-- each later command is decided after the events of the other history.
use Rattle.pie_trace.specs.Names.{Answer, Arrive, Bool, Command, Depart, Err, Event, Invalid, Line, List, Moment, None, Note, Ok, Opening, Option, Origin, RawParams, Refusal, Reset, Result, Row, SetParams, Some, Stats, TraceFault, Unix, Update, Valid, Version, When, ℕ, [], answer_in, at_core, at_opening, caller_moment, core_along, count_by, decision, event_of, event_row, false, first_bad, is_none, latest_clock, length, line_in, map, min, nat_le, not, option_map_or, refusal_by_rule, refusal_of, registers_after, stats_after, true, unix_at, unwrap_or}
use Rattle.pie_record.specs.declared.clock.Clock.{Clock}
use Rattle.pie_trace.specs.declared.{alteration.Alteration.Alteration, omitted.Omitted.Omitted, other_params.OtherParams.OtherParams}
use Rattle.std.specs.Prelude.{if◌then◌else◌, ◌&&◌, ◌||◌, ◌++◌, ◌+◌, ◌-◌, ◌^◌, ◌∷◌}

-- ---- the parameters

-- parameters with these values
abbrev pub over : OtherParams → RawParams → RawParams
over other params = record {
  target = unwrap_or other.target params.target;
  t_update = unwrap_or other.t_update params.t_update;
  max_burst = unwrap_or other.max_burst params.max_burst;
  alpha = unwrap_or other.alpha params.alpha;
  beta = unwrap_or other.beta params.beta;
  mean_pkt = unwrap_or other.mean_pkt params.mean_pkt;
  limit_bytes = unwrap_or other.limit_bytes params.limit_bytes;
  mark_ecnth = unwrap_or other.mark_ecnth params.mark_ecnth;
  dq_threshold = unwrap_or other.dq_threshold params.dq_threshold;
}

-- parameters with these values if all are then in their ranges, otherwise the parameters
abbrev pub changed : OtherParams → RawParams → RawParams
changed other params = if is_none (first_bad (over other params)) then over other params else params

-- the command of the other history: a change of the parameters keeps these values
abbrev pub altered : OtherParams → Command → Command
altered other (SetParams moment params) = SetParams moment (changed other params)
altered other command = command

-- ---- one command

-- the refusal of a command after these events, without regard to an event log
abbrev pub refusal_at : Origin → List Event → Command → Option Refusal
refusal_at (at_opening opening) before command = refusal_by_rule opening before command
refusal_at (at_core opening first set_by) before command = refusal_of (core_along first before) command

-- the answer to a command after these events
abbrev pub answer_at : Origin → List Event → Command → Answer
answer_at (at_opening opening) before command = decision opening before command
answer_at (at_core opening first set_by) before command = answer_in (core_along first before) command

-- the parameters after these events
abbrev pub params_at : Origin → List Event → RawParams
params_at (at_opening opening) before = (registers_after opening before).params
params_at (at_core opening first set_by) before = (core_along first before).controller.params

-- the number of these events and those before them
abbrev pub count_at : Origin → List Event → ℕ
count_at (at_opening opening) before = length before
count_at (at_core opening first set_by) before = (core_along first before).count

-- the statistics of these events and those before them
abbrev pub stats_at : Origin → List Event → Stats
stats_at (at_opening opening) before = stats_after opening before
stats_at (at_core opening first set_by) before = (core_along first before).stats

-- the event of a command with this answer, if there is an answer
abbrev pub event_if : ℕ → Command → Option Answer → List Event
event_if caller command None = []
event_if caller command (Some answer) = event_of caller command answer ∷ []

-- the answer, unless the command is refused
abbrev pub answer_unless : Option Refusal → Answer → Option Answer
answer_unless None answer = Some answer
answer_unless (Some why) answer = None

-- the answer to a command after these events, unless it is refused
abbrev pub answer_after : Origin → List Event → Command → Option Answer
answer_after origin before command = answer_unless (refusal_at origin before command) (answer_at origin before command)

-- the event of a command after these events: none if the command is refused
abbrev pub decided : Origin → List Event → ℕ → Command → List Event
decided origin before caller command = event_if caller command (answer_after origin before command)

-- ---- one line of the history

-- the state between two lines: the lines of the history so far, and the events of the other history. Both include those
-- before the text. `begun` is true if an event of the text had the moment or a later one. `before` is then the number of
-- events before the change, otherwise 0. `omitted` are the events of the text that the other history does not have,
-- because it refuses their commands
pub record Point : Type 0 where
  pub origin : Origin
  pub lines : List Line
  pub events : List Event
  pub begun : Bool
  pub before : ℕ
  pub omitted : List Event

-- true if a moment is `from` or a later one; a wall-clock time is compared with that of the moment by this clock record
abbrev pub is_at : When → Option Clock → ℕ → Bool
is_at (Moment from) clock moment = nat_le from moment
is_at (Unix from) clock moment = option_map_or (λ (c : Clock). nat_le from (unix_at c moment)) clock false

-- true if a line is an event of this moment or a later one, by this clock record
abbrev pub is_reached : When → Option Clock → Line → Bool
is_reached from clock (Valid event) = is_at from clock (caller_moment event.command)
is_reached from clock _ = false

-- true if a line is an event of the alteration's moment or a later one, by the last clock record before it
abbrev pub reaches : Alteration → Point → Line → Bool
reaches alteration point line = is_reached alteration.from (latest_clock point.lines) line

-- true if a line is the first event of the moment or a later one; below, true if it is such an event or comes after one
abbrev pub begins_with : Alteration → Point → Line → Bool
begins_with alteration point line = not point.begun && reaches alteration point line

abbrev pub begun_with : Alteration → Point → Line → Bool
begun_with alteration point line = point.begun || reaches alteration point line

-- the moment of the change before an event of this moment
abbrev pub change_moment : When → ℕ → ℕ
change_moment (Moment from) moment = from
change_moment (Unix from) moment = moment

-- the change of the parameters at this moment, after these events
abbrev pub change : Alteration → Origin → List Event → ℕ → List Event
change alteration origin before moment = decided origin before 0 (SetParams moment (changed alteration.params (params_at origin before)))

-- the change before a line
abbrev pub change_at : Alteration → Point → Line → List Event
change_at alteration point (Valid event) = change alteration point.origin point.events (change_moment alteration.from (caller_moment event.command))
change_at alteration point _ = []

-- the change, if it comes before this line
abbrev pub change_before : Alteration → Point → Line → List Event
change_before alteration point line = if begins_with alteration point line then change_at alteration point line else []

-- the number of events before the change, with this line
abbrev pub before_with : Alteration → Point → Line → ℕ
before_with alteration point line = if begins_with alteration point line then count_at point.origin point.events else point.before

-- the command of a line in the other history
abbrev pub command_with : Alteration → Bool → Command → Command
command_with alteration begun command = if begun then altered alteration.params command else command

-- the answer of the other history to the command of an event
abbrev pub answer_with : Alteration → Point → Event → Option Answer
answer_with alteration point event = answer_after point.origin (point.events ++ change_before alteration point (Valid event))
    (command_with alteration (begun_with alteration point (Valid event)) event.command)

-- the events of the other history at a line
abbrev pub events_at : Alteration → Point → Line → List Event
events_at alteration point (Valid event) = change_before alteration point (Valid event)
    ++ event_if event.caller (command_with alteration (begun_with alteration point (Valid event)) event.command) (answer_with alteration point event)
events_at alteration point _ = []

-- the event itself, if the other history has no answer to its command
abbrev pub omitted_if : Event → Option Answer → List Event
omitted_if event None = event ∷ []
omitted_if event (Some answer) = []

-- the event that the other history omits at a line
abbrev pub omitted_at : Alteration → Point → Line → List Event
omitted_at alteration point (Valid event) = omitted_if event (answer_with alteration point event)
omitted_at alteration point _ = []

-- the state after a line
abbrev pub point_after : Alteration → Point → Line → Point
point_after alteration point line = record {
  origin = point.origin;
  lines = point.lines ++ line ∷ [];
  events = point.events ++ events_at alteration point line;
  begun = begun_with alteration point line;
  before = before_with alteration point line;
  omitted = point.omitted ++ omitted_at alteration point line;
}

-- the records of the other history at a line, whose record is `row`: those of its events. A clock record is written as it
-- was read. So is a note before the change; later notes are about the history's own events, and are left out
abbrev pub rows_at : Alteration → Point → Line → Row → List Row
rows_at alteration point (Valid event) row = map event_row (events_at alteration point (Valid event))
rows_at alteration point (Invalid badly) row = []
rows_at alteration point Note row = if point.begun then [] else row ∷ []
rows_at alteration point line row = row ∷ []

-- ---- the lines of a text

-- a line with its record
pub record ReadLine : Type 0 where
  pub line : Line
  pub row : Row

-- the lines of these records, with the records, up to the first that has a fault; `number` is the number of the first
unfoldable pub read_from : Version → ℕ → List Row → List ReadLine
read_from version number [] = []
read_from version number (row ∷ rows) = up_to (line_in version (2 ^ 32) number row) row (read_from version (number + 1) rows)
  where
    up_to : Result Line TraceFault → Row → List ReadLine → List ReadLine
    up_to (Ok line) row later = (record { line = line; row = row }) ∷ later
    up_to (Err why) row later = []

-- the records of the other history for these lines
unfoldable pub other_rows : Alteration → Point → List ReadLine → List Row
other_rows alteration point [] = []
other_rows alteration point (read ∷ later) = rows_at alteration point read.line read.row ++ other_rows alteration (point_after alteration point read.line) later

-- the state after these lines
unfoldable pub point_at_end : Alteration → Point → List ReadLine → Point
point_at_end alteration point [] = point
point_at_end alteration point (read ∷ later) = point_at_end alteration (point_after alteration point read.line) later

-- the state before the first line of a text that continues these events
abbrev pub first_point : Opening → List Event → Point
first_point opening past =
    record { origin = at_opening opening; lines = map Valid past; events = past; begun = false; before = 0; omitted = [] }

-- ---- the omitted commands

-- true for a command of this kind
abbrev pub is_arrive : Command → Bool
is_arrive (Arrive moment packet word) = true
is_arrive _ = false

abbrev pub is_depart : Command → Bool
is_depart (Depart moment) = true
is_depart _ = false

abbrev pub is_update : Command → Bool
is_update (Update moment) = true
is_update _ = false

abbrev pub is_reset : Command → Bool
is_reset (Reset moment) = true
is_reset _ = false

abbrev pub is_change : Command → Bool
is_change (SetParams moment params) = true
is_change _ = false

-- the number of these events whose command is of this kind, at most 2^64 - 1
abbrev pub count_of : (Command → Bool) → List Event → ℕ
count_of is events = min (count_by (λ (event : Event). is event.command) events) (2 ^ 64 - 1)

-- the numbers of these events
abbrev pub counts_of : List Event → Omitted
counts_of events = record {
  arrivals = count_of is_arrive events;
  departures = count_of is_depart events;
  updates = count_of is_update events;
  resets = count_of is_reset events;
  changes = count_of is_change events;
}
