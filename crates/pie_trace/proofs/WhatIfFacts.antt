-- Facts about the other history: the text of events, one command, the pass over a text, and the laws.
use Rattle.std.proofs.Common.{rules}
use Rattle.pie_audit.specs.{Replay.AuditorView, Replay.AuditsFrom, Replay.Begins, Replay.CanBeMade, Replay.Origin, Replay.RepresentsAfter, Replay.at_core, Replay.at_opening}
use Rattle.pie_book.specs.{Book.event_of, Book.refused_or, Core.CoreView, Core.Represents, Core.answer_in, Core.refusal_of, Core.registers_of, Decision.IsLegal, Decision.IsLegalAt, Decision.decision, Decision.refusal_by_rule}
use Rattle.pie_event.specs.{Event.caller_moment, declared.command.Answer.Answer, declared.command.Command.Command, declared.command.Command.TheVariants.SetParams, declared.command.Event.Event, declared.opening.Opening.Opening, declared.refusal.Refusal.Refusal, declared.registers.Registers.Registers}
use Rattle.pie_excerpt.specs.{Beginning.Beginning}
use Rattle.pie_record.specs.{HistoryLines.IsRecordOf, HistoryLines.clock_in_line, HistoryLines.line_of, Text.Row, Text.text_of, Write.event_row, Write.line_rows, Write.rows_unless_note, declared.clock.Clock.Clock, declared.fault.TraceFault.TraceFault, declared.history_record.Line.Line, declared.history_record.Line.TheVariants.Invalid, declared.history_record.Line.TheVariants.Note, declared.history_record.Line.TheVariants.Valid, declared.version.Version.Version}
use Rattle.pie_trace.proofs.{Names.latest_clock-made, Names.latest_clock-push, Names.line_in-line, Names.reads-one, RunFacts.Halts, RunFacts.RunsAs, RunFacts.comes-behind, RunFacts.legal-pop}
use Rattle.pie_trace.specs.{Other.Point, Other.ReadLine, Other.answer_after, Other.answer_unless, Other.begins_with, Other.begun_with, Other.change, Other.change_before, Other.change_moment, Other.changed, Other.command_with, Other.count_at, Other.count_of, Other.counts_of, Other.decided, Other.events_at, Other.first_point, Other.is_arrive, Other.is_change, Other.is_depart, Other.is_reached, Other.is_reset, Other.is_update, Other.omitted_at, Other.params_at, Other.point_after, Other.reaches, Other.rows_at, Runs.HasOutcome, WhatIf.HasStarted, WhatIf.IsAt, WhatIf.end_after, WhatIf.end_at, WhatIf.end_by, WhatIf.rest_pass, WhatIf.whole_pass, declared.alteration.Alteration.Alteration, declared.decider.Decider.Decider, declared.decider.Outcome.Outcome, declared.other_history.Start.Start}
use Rattle.std.proofs.{Common.Bool, Common.List, Common.[], Common.ap, Common.append_assoc, Common.arith, Common.cond, Common.false, Common.map, Common.refl, Common.subst, Common.sym, Common.take, Common.true, Common.ℕ, Common.◌++◌, Common.◌+◌, Common.◌-◌, Common.◌^◌, Common.◌∙◌, Common.◌∷◌, Common.◌≡◌, Common.◌≤◌, KnownBytes.Appends-nil, lemmas.Bool.Decides.nat_tests, lemmas.List.Concat.flat_map-append, lemmas.List.Elements.All-head, lemmas.List.Elements.All-nil, lemmas.List.Elements.All-tail, lemmas.List.Sums.sum_by-append, lemmas.List.append-nil, lemmas.List.map-append}
use Rattle.std.specs.{Io.KnownBytes.Appends, Option.option_or, Prelude.All, Prelude.Err, Prelude.None, Prelude.Ok, Prelude.Option, Prelude.Result, Prelude.Some, Prelude.if◌then◌else◌, Prelude.min, Prelude.⊤, Prelude.◌||◌}
unfoldable use Rattle.pie_audit.specs.{Replay.difference_from, Replay.events_of, Text.text_fault, Text.text_lines}
unfoldable use Rattle.pie_book.specs.{Decision.registers_after}
unfoldable use Rattle.pie_excerpt.specs.{Beginning.beginning_of}
unfoldable use Rattle.pie_record.specs.{HistoryLines.fault_from, HistoryLines.latest_clock, HistoryLines.line_in, HistoryLines.lines_from, Text.rows_text}
unfoldable use Rattle.pie_trace.specs.{Other.other_rows, Other.point_at_end, Other.read_from, WhatIf.other_text}
use Rattle.pie_record.specs.declared.fault.TraceFault.TheVariants as fault
use Rattle.pie_record.specs.declared.history_record.Line.TheVariants as variant
use Rattle.pie_trace.specs.declared.decider.Outcome.TheVariants as outcome

-- ==== The text of events

-- the text of the records of these events
abbrev pub texts : List Event → List ℕ
texts events = rows_text (map event_row events)

pub one_text : (row : Row) → rows_text (row ∷ []) ≡ text_of row
unfolding rows_text
one_text row = append-nil (text_of row)

pub unchanged : (rows : List ℕ) → rows ≡ rows ++ rows_text []
unfolding rows_text
unchanged rows = sym (append-nil rows)

pub rows-both : (first later : List Row) → rows_text (first ++ later) ≡ rows_text first ++ rows_text later
unfolding rows_text
rows-both first later = flat_map-append text_of first later

texts-both : (first later : List Event) → texts (first ++ later) ≡ texts first ++ texts later
texts-both first later = ap rows_text (map-append event_row first later) ∙ rows-both (map event_row first) (map event_row later)

-- the texts of events were added, and then those of others
pub added-both : (first later : List Event) (rows between now : List ℕ) → between ≡ rows ++ texts first → now ≡ between ++ texts later
    → now ≡ rows ++ texts (first ++ later)
added-both first later rows between now one other = search (rules, append_assoc, texts-both)

-- ==== The numbers of omitted commands with one more

-- the number of one kind with one more event
pub count-more : (is : Command → Bool) (events : List Event) (event : Event)
    → count_of is (events ++ event ∷ []) ≡ min (count_of is events + cond (is event.command) 1 0) (2 ^ 64 - 1)
count-more is events event = search (rules, sum_by-append)

-- one more number, at most 2^64 - 1
abbrev pub more_if : Bool → ℕ → ℕ
more_if is number = min (number + cond is 1 0) (2 ^ 64 - 1)

-- all numbers with one more event
pub counted : (events : List Event) (event : Event) → counts_of (events ++ event ∷ []) ≡ record {
  arrivals = more_if (is_arrive event.command) (counts_of events).arrivals;
  departures = more_if (is_depart event.command) (counts_of events).departures;
  updates = more_if (is_update event.command) (counts_of events).updates;
  resets = more_if (is_reset event.command) (counts_of events).resets;
  changes = more_if (is_change event.command) (counts_of events).changes;
}
counted events event = rw (
  count-more is_arrive events event,
  count-more is_depart events event,
  count-more is_update events event,
  count-more is_reset events event,
  count-more is_change events event,
) refl

-- ==== One command of the other history

-- the answer of a result, if it is not a refusal
abbrev pub answer_of_result : Result Answer Refusal → Option Answer
answer_of_result (Ok answer) = Some answer
answer_of_result (Err why) = None

by-refusal : (refusal : Option Refusal) (answer : Answer) (result : Result Answer Refusal) → result ≡ refused_or refusal answer
    → answer_of_result result ≡ answer_unless refusal answer
by-refusal refusal answer result is = grind (arith, nat_tests, is)

-- the answer of the core's result
pub answer-is : (origin : Origin) (core : CoreView) (events : List Event) (command : Command) (result : Result Answer Refusal)
    → ((opening : Opening) (history : List Event) → Represents opening core history
    → result ≡ refused_or (refusal_by_rule opening history command) (decision opening history command))
    → result ≡ refused_or (refusal_of core command) (answer_in core command) → RepresentsAfter origin core events
    → answer_of_result result ≡ answer_after origin events command
answer-is a0 a1 a2 a3 a4 a5 a6 a7 = search (rules, by-refusal)

-- the parameters of a core
pub params-is : (origin : Origin) (core : CoreView) (events : List Event) (registers : Registers)
    → ((opening : Opening) (history : List Event) → Represents opening core history → registers ≡ registers_after opening history)
    → registers ≡ registers_of core → RepresentsAfter origin core events → registers.params ≡ params_at origin events
params-is a0 a1 a2 a3 a4 a5 a6 = search rules

-- the number of events of a core
pub count-is : (origin : Origin) (core : CoreView) (events : List Event) (registers : Registers)
    → ((opening : Opening) (history : List Event) → Represents opening core history → registers ≡ registers_after opening history)
    → registers ≡ registers_of core → RepresentsAfter origin core events → registers.count ≡ count_at origin events
unfolding registers_after
count-is a0 a1 a2 a3 a4 a5 a6 = search rules

-- no clock record comes before a text
pub clock-none : (origin : Origin) (core : CoreView) (lines : List Line) → Begins origin core lines → latest_clock lines ≡ None
clock-none (at_opening opening) core lines begins = rw begins.1 (latest_clock-made begins.0)
clock-none (at_core opening first set_by) core lines begins = rw begins.1 (latest_clock-made [])

-- ---- one line

-- the last clock record with one more line
pub clock-with : (lines : List Line) (line : Line) (clock : Option Clock) → clock ≡ latest_clock lines
    → option_or (clock_in_line line) clock ≡ latest_clock (lines ++ line ∷ [])
clock-with lines line clock is = rw is (sym (latest_clock-push lines line))

-- a line that is no event
pub quiet : (alteration : Alteration) (decider : Decider) (point : Point) (line : Line) (auditor : AuditorView)
    → events_at alteration point line ≡ [] → omitted_at alteration point line ≡ [] → ((clock : Option Clock) → is_reached alteration.from clock line ≡ false)
    → IsAt decider point → AuditsFrom point.origin auditor (point.lines ++ line ∷ [])
    → IsAt (record { auditor = auditor; core = decider.core; begun = decider.begun; before = decider.before; omitted = decider.omitted; clock = option_or (clock_in_line line) decider.clock })
    (point_after alteration point line)
quiet alteration decider point line auditor none kept other at audits = search (rules, append-nil, clock-with)

-- ==== The pass over a text, one record after another

-- ---- the remaining records

module _ (alteration : Alteration) (version : Version) (number : ℕ) (decider : Decider) where
  -- no record remains
  pub rest-none : (end : Outcome) (now : Option (List ℕ)) → ((point : Point) → IsAt decider point → end ≡ end_at point)
      → HasOutcome (rest_pass alteration version number decider []) (Ok end) now now
  unfolding fault_from read_from other_rows point_at_end rows_text
  rest-none end now ends = (refl, λ point at. ap (λ (e : Outcome). Some e) (sym (ends point at)), λ point at. Appends-nil now)

  -- the next has a fault
  pub rest-faulty : (row : Row) (rest : List Row) (why : TraceFault) → line_in version (2 ^ 32) number row ≡ Err why
      → Halts (rest_pass alteration version number decider (row ∷ rest)) why
  unfolding fault_from read_from other_rows rows_text
  rest-faulty row rest why parsed = (rw parsed refl, λ past may. rw parsed refl)

  -- the next is a line, and the records of the other history were added for it
  pub rest-next : (later : Decider) (row : Row) (line : Line) → number ≤ 2 ^ 32 → line_of version row ≡ Ok line
      → ((point : Point) → IsAt decider point → IsAt later (point_after alteration point line)) → (rest : List Row)
      → RunsAs (rest_pass alteration version number decider (row ∷ rest)) (rest_pass alteration version (number + 1) later rest)
      (λ (point : Point). rows_text (rows_at alteration point line row))
  unfolding fault_from read_from other_rows point_at_end
  rest-next later row line within reads goes rest =
      let good : line_in version (2 ^ 32) number row ≡ Ok line = line_in-line version (2 ^ 32) number row line within reads in
      record {
        found = rw good refl;
        next = λ point at. (
          point_after alteration point line,
          goes point at,
          rw good refl,
          rw good (rows-both (rows_at alteration point line row)
              (other_rows alteration (point_after alteration point line) (read_from version (number + 1) rest))),
        );
      }

-- ---- a text

-- there is no record, or the beginning has a fault
pub whole-faulty : (alteration : Alteration) (rows : List Row) (why : TraceFault) (before now : Option (List ℕ)) → beginning_of rows ≡ Err why
    → Appends before now [] → HasOutcome (whole_pass alteration rows) (Err why) before now
unfolding text_fault other_text rows_text
whole-faulty alteration rows why before now faulty nothing = λ works. (rw faulty refl, λ point may. rw faulty nothing)

pub whole-empty : (alteration : Alteration) (now : Option (List ℕ)) → HasOutcome (whole_pass alteration []) (Err fault.NoOpen) now now
unfolding beginning_of
whole-empty alteration now = whole-faulty alteration [] fault.NoOpen now now refl (Appends-nil now)

-- the beginning was written, and the remaining records were decided again
pub whole-on : (alteration : Alteration) (rows : List Row) (start : Start) (left : Option (List Row)) (before between now : Option (List ℕ))
    (result : Result Outcome TraceFault) → HasStarted rows start left before between
    → ((others : List Row) → left ≡ Some others
    → HasOutcome (rest_pass alteration start.version (start.records_read + 1) start.decider others) result between now)
    → HasOutcome (whole_pass alteration rows) result before now
unfolding text_fault other_text
whole-on alteration rows start left before between now result h ran =
    comes-behind (whole_pass alteration rows) (rest_pass alteration start.version (start.records_read + 1) start.decider h.begun.left)
    (λ (point : Point). rows_text (take h.begun.records_read rows)) before between now result
    (record {
      found = rw (h.found, h.version, h.read) refl;
      next = λ point may. (
        point,
        h.at point (may h.begun h.found),
        rw (h.found, h.version, h.read) refl,
        rw (h.found, h.version, h.read) (rows-both (take h.begun.records_read rows)
            (other_rows alteration point (read_from h.begun.version (h.begun.records_read + 1) h.begun.left))),
      );
    })
    (λ point may. h.written) (ran h.begun.left h.remain)

-- ==== The other history is legal

-- a command that is decided after legal events keeps them legal
abbrev pub OneMore : Type 0
OneMore = (opening : Opening) (history : List Event) (caller : ℕ) (command : Command) → IsLegal opening history
    → refusal_by_rule opening history command ≡ None → IsLegal opening (history ++ event_of caller command (decision opening history command) ∷ [])

module _ (one : OneMore) (alteration : Alteration) (opening : Opening) where
  decided-legal : (events : List Event) (caller : ℕ) (command : Command) → IsLegal opening events
      → IsLegal opening (events ++ decided (at_opening opening) events caller command)
  decided-legal events caller command legal = search (rules, append-nil)

  change-legal : (events : List Event) (begins : Bool) (moment : ℕ) → IsLegal opening events
      → IsLegal opening (events ++ (if begins then change alteration (at_opening opening) events moment else []))
  change-legal events true moment legal =
      decided-legal events 0 (SetParams moment (changed alteration.params (params_at (at_opening opening) events))) legal
  change-legal events false moment legal = rw (append-nil events) legal

  -- a state with this opening
  abbrev here : List Line → List Event → Bool → ℕ → List Event → Point
  here lines events begun before omitted =
      record { origin = at_opening opening; lines = lines; events = events; begun = begun; before = before; omitted = omitted }

  line-legal : (lines : List Line) (events : List Event) (begun : Bool) (before : ℕ) (omitted : List Event) (line : Line) → IsLegal opening events
      → IsLegal opening (events ++ events_at alteration (here lines events begun before omitted) line)
  line-legal lines events begun before omitted (Valid event) legal =
      let point : Point = here lines events begun before omitted in
      let first : List Event = change_before alteration point (Valid event) in
      let command : Command = command_with alteration (begun_with alteration point (Valid event)) event.command in
      rw (← append_assoc events first (decided (at_opening opening) (events ++ first) event.caller command))
      (decided-legal (events ++ first) event.caller command
      (change-legal events (begins_with alteration point (Valid event)) (change_moment alteration.from (caller_moment event.command)) legal))
  line-legal lines events begun before omitted (Invalid badly) legal = rw (append-nil events) legal
  line-legal lines events begun before omitted Note legal = rw (append-nil events) legal
  line-legal lines events begun before omitted (variant.Clock clock) legal = rw (append-nil events) legal

  legal-further : (lines : List Line) (events : List Event) (begun : Bool) (before : ℕ) (omitted : List Event) (reads : List ReadLine)
      → IsLegal opening events → IsLegal opening (point_at_end alteration (here lines events begun before omitted) reads).events
  unfolding point_at_end
  legal-further lines events begun before omitted [] legal = legal
  legal-further lines events begun before omitted (read ∷ later) legal =
      let point : Point = here lines events begun before omitted in
      let next : Point = point_after alteration point read.line in
      legal-further next.lines next.events next.begun next.before next.omitted later (line-legal lines events begun before omitted read.line legal)

  pub legal_other : (past : List Event) (reads : List ReadLine) → IsLegal opening past
      → IsLegal opening (point_at_end alteration (first_point opening past) reads).events
  legal_other past reads legal = legal-further (map Valid past) past false 0 [] reads legal

-- ==== A history before the moment is written again

-- ---- the lines that were read

read-lines : (version : Version) (number : ℕ) (rows : List Row)
    → map (λ (read : ReadLine). read.line) (read_from version number rows) ≡ lines_from version (2 ^ 32) number rows
unfolding read_from lines_from
read-lines version number [] = refl
read-lines version number (row ∷ rows) = grind (arith, nat_tests, read-lines version (number + 1) rows)

read-rows : (version : Version) (number : ℕ) (rows : List Row) → fault_from version (2 ^ 32) number rows ≡ None
    → map (λ (read : ReadLine). read.row) (read_from version number rows) ≡ rows
unfolding read_from fault_from
read-rows version number [] good = refl
read-rows version number (row ∷ rows) good = grind (arith, nat_tests, good, read-rows version (number + 1) rows)

-- a record is read as a line
abbrev IsReadLine : Version → ReadLine → Type 0
IsReadLine version read = line_of version read.row ≡ Ok read.line

read-each : (version : Version) (number : ℕ) (rows : List Row) → All (IsReadLine version) (read_from version number rows)
unfolding read_from
read-each version number [] = All-nil (IsReadLine version)
read-each version number (row ∷ rows) = grind (arith, nat_tests, reads-one, read-each version (number + 1) rows)

-- ---- one line

-- the event of a line, if it is one
abbrev event_list : Line → List Event
event_list (Valid event) = event ∷ []
event_list _ = []

-- the line is an event that the rules give there, in its own record, or a note or a clock record
abbrev KeepsLine : Origin → List Event → Line → Row → Type 0
KeepsLine origin before (Valid event) row = (decided origin before event.caller event.command ≡ event ∷ []) × (row ≡ event_row event)
KeepsLine origin before (Invalid badly) row = ⊥
KeepsLine origin before _ row = ⊤

-- each line is one of these
unfoldable AreKept : Origin → List Event → List ReadLine → Type 0
AreKept origin before [] = ⊤
AreKept origin before (read ∷ later) = KeepsLine origin before read.line read.row × AreKept origin (before ++ event_list read.line) later

or-first : (a b : Bool) → (a || b) ≡ false → a ≡ false
or-first a0 a1 a2 = search rules

module _ (alteration : Alteration) where
  line-kept : (point : Point) (line : Line) (row : Row) → point.begun ≡ false → begun_with alteration point line ≡ false
      → KeepsLine point.origin point.events line row
      → (events_at alteration point line ≡ event_list line) × (rows_at alteration point line row ≡ row ∷ [])
  line-kept a0 a1 a2 a3 a4 a5 = search (rules, append-nil)

  -- no event was reached, if none is at the end
  not-begun : (point : Point) (reads : List ReadLine) → (point_at_end alteration point reads).begun ≡ false → point.begun ≡ false
  unfolding point_at_end
  not-begun point [] none = none
  not-begun point (read ∷ later) none =
      or-first point.begun (reaches alteration point read.line) (not-begun (point_after alteration point read.line) later none)

  rows-kept : (point : Point) (reads : List ReadLine) → (point_at_end alteration point reads).begun ≡ false → AreKept point.origin point.events reads
      → other_rows alteration point reads ≡ map (λ (read : ReadLine). read.row) reads
  unfolding other_rows AreKept point_at_end
  rows-kept point [] none kept = refl
  rows-kept point (read ∷ later) none kept =
      let after : Point = point_after alteration point read.line in
      let is = line-kept point read.line read.row (not-begun point (read ∷ later) none) (not-begun after later none) kept.0 in
      ap (λ (rows : List Row). rows ++ other_rows alteration after later) is.1
      ∙ ap (λ (rows : List Row). read.row ∷ rows)
      (rows-kept after later none (subst (λ (events : List Event). AreKept point.origin (point.events ++ events) later) (sym is.0) kept.1))

-- ---- legal lines

legal-front : (opening : Opening) (first more : List Event) → IsLegal opening (first ++ more) → IsLegal opening first
legal-front opening first [] legal = rw (append-nil first) at legal
legal-front opening first (event ∷ more) legal =
    (legal-pop opening first event (legal-front opening (first ++ event ∷ []) more (rw (append_assoc first (event ∷ []) more) legal))).0

legal-at : (opening : Opening) (before later : List Event) (event : Event) → IsLegal opening (before ++ event ∷ later)
    → IsLegalAt opening (record { before = before; event = event })
legal-at opening before later event legal =
    (legal-pop opening before event (legal-front opening (before ++ event ∷ []) later (rw (append_assoc before (event ∷ []) later) legal))).1

abbrev pub WrittenAgain : Type 0
WrittenAgain = (row : Row) (line : Line) → IsRecordOf row line → line_rows line ≡ rows_unless_note line row

same-head : (one other : Row) → one ∷ [] ≡ other ∷ [] → one ≡ other
same-head one other e = cc

module _ (again : WrittenAgain) (opening : Opening) (version : Version) where
  are-kept : (before : List Event) (reads : List ReadLine) → All (IsReadLine version) reads → All CanBeMade (map (λ (read : ReadLine). read.line) reads)
      → IsLegal opening (before ++ events_of (map (λ (read : ReadLine). read.line) reads)) → AreKept (at_opening opening) before reads
  unfolding AreKept events_of
  are-kept before [] each made legal = tt
  are-kept before (read ∷ later) each made legal =
      by read.line read.row (All-head (IsReadLine version) read later each) (All-head CanBeMade read.line _ made) legal
      (λ front. are-kept front later (All-tail (IsReadLine version) read later each) (All-tail CanBeMade read.line _ made))
    where
      others : List Event
      others = events_of (map (λ (read : ReadLine). read.line) later)

      by : (line : Line) (row : Row) → line_of version row ≡ Ok line → CanBeMade line
          → IsLegal opening (before ++ events_of (line ∷ map (λ (read : ReadLine). read.line) later))
          → ((front : List Event) → IsLegal opening (front ++ others) → AreKept (at_opening opening) front later)
          → KeepsLine (at_opening opening) before line row × AreKept (at_opening opening) (before ++ event_list line) later
      by (Valid event) row reads can legal further =
          let here = legal-at opening before others event legal in (
            (
              rw (here.taken, ← here.answered) refl,
              sym (same-head (event_row event) row (again row (Valid event) (record { version = version; reads = reads }))),
            ),
            further (before ++ event ∷ []) (rw (append_assoc before (event ∷ []) others) legal),
          )
      by (Invalid badly) row reads can legal further = absurd can
      by Note row reads can legal further = (tt, further (before ++ []) (rw (append-nil before) legal))
      by (variant.Clock clock) row reads can legal further = (tt, further (before ++ []) (rw (append-nil before) legal))

-- ---- a text

-- an end without an event of the moment
not-reached : (difference : Option ℕ) (point : Point) → end_by difference point ≡ outcome.NoEvents → point.begun ≡ false
not-reached difference point is = search rules

module _ (again : WrittenAgain) (alteration : Alteration) where
  pub text-again : (rows : List Row) (begun : Beginning) (opening : Opening) (past : List Event)
      → end_after alteration (first_point opening past) (beginning_of rows) ≡ Some outcome.NoEvents → beginning_of rows ≡ Ok begun
      → text_fault rows ≡ None → All CanBeMade (text_lines rows) → IsLegal opening (past ++ events_of (text_lines rows))
      → other_text alteration (first_point opening past) rows ≡ rows_text (take begun.records_read rows ++ begun.left)
  unfolding other_text text_fault text_lines
  text-again rows begun opening past none e good made legal =
      let number : ℕ = begun.records_read + 1 in
      let reads : List ReadLine = read_from begun.version number begun.left in
      let point : Point = point_at_end alteration (first_point opening past) reads in
      let end : Some (end_at point) ≡ Some outcome.NoEvents = rw e at none in
      let before = not-reached (difference_from point.origin point.lines) point (some-same end) in
      let same = read-lines begun.version number begun.left in
      let kept = are-kept again opening begun.version past reads (read-each begun.version number begun.left) (rw same (rw e at made))
      (rw same (rw e at legal)) in
      let is = rows-kept alteration (first_point opening past) reads before kept ∙ read-rows begun.version number begun.left (rw e at good) in
      rw e (ap (λ (later : List Row). rows_text (take begun.records_read rows ++ later)) is)
    where
      some-same : {one other : Outcome} → Some one ≡ Some other → one ≡ other
      some-same is = cc
