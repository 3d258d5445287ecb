-- The history text of a trace is read back: its opening, the events of its run, and notes.
use Rattle.std.proofs.Common.{rules}
use Rattle.pie_trace.proofs.Names.{All, All-append, All-cons, All-nil, AreLegal, AreLinesOf, Apply, BadParams, Begins, Bool, CanBeMade, Clean, Clock, Command, Draft, Err, Event, Finding, FirstKind, RecordFault, Fold, FoldRefusal, IsHistoryText, IsLegal, Line, List, Mode, None, Ok, Opening, Option, Progress, Promises, Refusal, Reply, Represents, Request, Result, Row, RunEnd, Show, Some, Tally, TextsAreReadBack, TraceFault, Version, [], after, and_then, ap, append-nil, append_assoc, arith, before_fault, code_of, decision, drop, end_left, end_of, event_of, false, fault_from, fault_of, field_at, filter_map-append, first_bad, first_fault, first_fields, first_kind, flat_map-append, fold_outcome, fold_reply, tail_length_with_one, history_row, history_rows, history_text, if◌then◌else◌, is_refused_full, kind-first, kind_word, length, length-append, line_in-line, line_of, line_of_reply, lines_from, lines_left, lines_of_replies, lost-later, map, nat_lt, nat_tests, opening_of, opening_read, opening_refusal, or_full, progress_after, progress_at_end, record_fault, recorded, records_of, refl, refusal_by_rule, refused, refused_or, registers_after, replies, reply, reply_to_command, reply_to_fold, request_of, requests_of, beginning_of, opened_at, Beginning, resumed_progress, rows_left, rows_text, rows_without_fault, run_lines, start, steps_of, subst, sym, take, take-append-drop, text_finding, text_left, true, version_of, ℕ, ◌++◌, ◌+◌, ◌-◌, ◌<◌, ◌==◌, ◌^◌, ◌∙◌, ◌∷◌, ◌≡◌, ◌≢◌, ◌≤◌}
use Rattle.pie_audit.specs.{Replay.event_in, Replay.events_of, Replay.EventsAreLines}
use Rattle.pie_audit.specs.Text.{IsTextAfter, IsFound, text_fault, text_lines, fault_after, whole_finding}
use Rattle.pie_event.specs.Event.{CommandFits, ParamsFit}
use Rattle.pie_excerpt.specs.{Beginning.IsWellBegun, Beginning.Continues, Preamble.queued_row}
use Rattle.pie_queue.specs.declared.packet.Waiting.{Waiting}
use Rattle.pie_record.specs.{FirstRecord.opening_by, declared.history_record.Line.TheVariants.Note, declared.history_record.Line.TheVariants.Valid}
use Rattle.pie_record.specs.Plain.{lost_row}
use Rattle.pie_trace.proofs.RunFacts.{first-one, progress_after-request, whole-opened}
use Rattle.pie_trace.specs.{answered, beginning_within, progress_resumed, end_of_run, fault_of_run, text_of_run, text_in, within_max}
use Rattle.pie_event.specs.declared.refusal.Refusal.TheVariants as refusal
use Rattle.pie_record.specs.declared.trace_record.Request.TheVariants as request
use Rattle.pie_record.specs.declared.history_record.Line.TheVariants as line

-- the state of a run: its history is legal, fits its types, and contains the events of the event log
pub record Sound (opening : Opening) (progress : Progress) : Type 0 where
  pub legal : IsLegal opening progress.history
  pub fit : All (λ event. CommandFits event.command) progress.history
  pub bounded : progress.tail_length ≤ length progress.history

-- an opening that a book accepts
pub record Opens (opening : Opening) : Type 0 where
  pub accepted : opening_refusal opening.limits opening.moment ≡ None
  pub params : ParamsFit opening.params

code-small : (why : Refusal) → code_of why < 2 ^ 64
code-small why = grind (arith, nat_tests)

-- ---- one record

-- the reply to a command: an event by the rules, or a refusal
pub requested-by : (P : Reply → Progress → Type 0) (opening : Opening) (progress : Progress) (caller : ℕ) (command : Command)
    → (refusal_by_rule opening progress.history command ≡ None → P (answered (decision opening progress.history command))
    (recorded opening progress caller command (Ok (decision opening progress.history command))))
    → ((why : Refusal) → P (refused (code_of why)) progress)
    → P (reply opening progress (Apply caller command)) (after opening progress (Apply caller command))
requested-by P opening progress caller command taken refuses =
    by (refusal_by_rule opening progress.history command) (is_refused_full opening.choices.mode (progress.tail_length == opening.limits.tail)) refl
  where
    by : (o : Option Refusal) (full : Bool) → refusal_by_rule opening progress.history command ≡ o
        → P (reply_to_command (refused_or (or_full o full) (decision opening progress.history command)))
        (recorded opening progress caller command (refused_or (or_full o full) (decision opening progress.history command)))
    by None false free = taken free
    by None true free = refuses refusal.HistoryFull
    by (Some why) full free = refuses why

fold-enough : (progress : Progress) (n : ℕ) (events : List Event) → fold_outcome progress n ≡ Ok events → n ≤ progress.tail_length
fold-enough progress n events e = grind (arith, nat_tests, e)

with-one : (mode : Mode) (max_records tail_length : ℕ) → tail_length_with_one mode max_records tail_length ≤ tail_length + 1
with-one mode max_records tail_length = grind (arith, nat_tests)

after-fold : (tail_length n : ℕ) → (if nat_lt tail_length n then tail_length else tail_length - n) ≤ tail_length
after-fold tail_length n = grind (arith, nat_tests)

module _ (version : Version) (promises : Promises) (opening : Opening) where
  -- the state of a run after a record is sound
  after-sound : (progress : Progress) (row : Row) (request : Request) → request_of version row ≡ Ok request → Sound opening progress
      → Sound opening (after opening progress request)
  after-sound progress row (Apply caller command) reads sound = requested-by (λ given later. Sound opening later) opening progress caller command
      (λ free.
      let event : Event = event_of caller command (decision opening progress.history command) in
      let more = length-append progress.history (event ∷ []) in
      let within = sound.bounded in
      let one = with-one opening.choices.mode opening.limits.tail progress.tail_length in
      let fit : CommandFits command = promises.again.fits version row caller command promises.params reads in
      record {
        legal = promises.legal_with_one_more opening progress.history caller command sound.legal free;
        fit = All-append (λ (e : Event). CommandFits e.command) progress.history (event ∷ []) sound.fit
            (All-cons (λ (e : Event). CommandFits e.command) event [] fit (All-nil (λ (e : Event). CommandFits e.command)));
        bounded = omega (arith, more);
      }) (λ why. sound)
  after-sound progress row (Fold n) reads sound =
      let within = sound.bounded in
      let less = after-fold progress.tail_length n in
      record { legal = sound.legal; fit = sound.fit; bounded = omega (arith, less) }
  after-sound progress row _ reads sound = sound

module _ (version : Version) (promises : Promises) (opening : Opening) (opens : Opens opening) where
  count-small : (progress : Progress) → Sound opening progress → length progress.history < 2 ^ 64
  unfolding registers_after
  count-small progress sound = (promises.registers opening progress.history opens.accepted opens.params sound.legal sound.fit).count

  -- the history record of a reply has its line
  record-written : (number : ℕ) (row : Row) (request : Request) (progress : Progress) → number < 2 ^ 64 → Sound opening progress
      → request_of version row ≡ Ok request
      → line_of version (history_row version number row (reply opening progress request)) ≡ Ok (line_of_reply request (reply opening progress request))
  record-written number row (Apply caller command) progress small sound reads =
      requested-by (λ given later. line_of version (history_row version number row given) ≡ Ok (line_of_reply (Apply caller command) given)) opening
      progress caller command
      (λ free. promises.back.answered version row caller command (decision opening progress.history command) reads
      (promises.kinds opening progress.history command)
      (promises.answers opening progress.history command opens.accepted opens.params sound.legal sound.fit free))
      (λ why. promises.back.refused version number (code_of why) small (code-small why))
  record-written number row BadParams progress small sound reads = promises.back.refused version number 7 small (omega arith)
  record-written number row (Fold n) progress small sound reads = by (fold_outcome progress n) refl
    where
      by : (o : Result (List Event) FoldRefusal) → fold_outcome progress n ≡ o
          → line_of version (history_row version number row (reply_to_fold n o)) ≡ Ok (line_of_reply (Fold n) (reply_to_fold n o))
      by (Err why) e = promises.back.refused version number 6 small (omega arith)
      by (Ok events) e =
          let enough = fold-enough progress n events e in
          let within = sound.bounded in
          let count = count-small progress sound in
          promises.back.folded version n (omega arith)
  record-written number row Show progress small sound reads =
      promises.back.shown version _ (promises.registers opening progress.history opens.accepted opens.params sound.legal sound.fit)
  record-written number row Tally progress small sound reads =
      promises.back.tallied version _ (promises.stats opening progress.history opens.accepted opens.params sound.legal sound.fit)
  record-written number row (Clock clock) progress small sound reads = promises.back.clock version row clock reads

-- ---- all records

abbrev RowsAreLines : Version → Opening → ℕ → Progress → List Row → List Request → Type 0
RowsAreLines version opening number progress rows requests = AreLinesOf version (history_rows version number rows (replies opening progress requests))
    (lines_of_replies requests (replies opening progress requests))

-- induction over the records up to the first that has a fault: a property of no records, and of a record with a
-- request before others that have the property
pub each-good : (version : Version) (max_records : ℕ) (opening : Opening) (P : ℕ → Progress → List Row → List Request → Type 0)
    → ((number : ℕ) (progress : Progress) → P number progress [] [])
    → ((number : ℕ) (progress : Progress) (row : Row) (rows : List Row) (request : Request) (requests : List Request) → number ≤ max_records
    → request_of version row ≡ Ok request → P (number + 1) (after opening progress request) rows requests
    → P number progress (row ∷ rows) (request ∷ requests))
    → (number : ℕ) (progress : Progress) (rows : List Row)
    → P number progress (before_fault version max_records number rows) (requests_of version (before_fault version max_records number rows))
unfolding requests_of before_fault record_fault
each-good version max_records opening P none one number progress [] = none number progress
each-good version max_records opening P none one number progress (row ∷ rows) =
    by (record_fault version max_records number row) (request_of version row) refl refl
    (λ request. each-good version max_records opening P none one (number + 1) (after opening progress request) rows)
  where
    rest : List Row
    rest = before_fault version max_records (number + 1) rows

    by : (o : Option TraceFault) (r : Result Request RecordFault) → record_fault version max_records number row ≡ o → request_of version row ≡ r
        → ((request : Request) → P (number + 1) (after opening progress request) rest (requests_of version rest))
        → P number progress (before_fault version max_records number (row ∷ rows)) (requests_of version (before_fault version max_records number (row ∷ rows)))
    by o r e q later = grind (arith, nat_tests)

pub rows-lines : (version : Version) (promises : Promises) (max_records : ℕ) (opening : Opening) (number : ℕ) (progress : Progress) (rows : List Row)
    → max_records ≤ 2 ^ 32
    → Opens opening → Sound opening progress
    → AreLinesOf version (rows_left version max_records opening number progress rows) (lines_left version max_records opening number progress rows)
unfolding replies history_rows lines_of_replies AreLinesOf
rows-lines version promises max_records opening number progress rows few opens =
    each-good version max_records opening (λ number progress rows requests. Sound opening progress → RowsAreLines version opening number progress rows requests)
    (λ number progress sound. tt)
    (λ number progress row rows request requests within reads later sound. (
      record-written version promises opening opens number row request progress (omega (arith, within, few)) sound reads,
      later (after-sound version promises opening progress row request reads sound),
    )) number progress rows

-- the number of history records is within the limit
pub few-left : (version : Version) (max_records : ℕ) (opening : Opening) (number : ℕ) (progress : Progress) (rows : List Row) → number ≤ max_records + 1
    → number + length (rows_left version max_records opening number progress rows) ≤ max_records + 1
unfolding replies history_rows
few-left version max_records opening number progress rows =
    each-good version max_records opening (λ number progress rows requests. number ≤ max_records + 1
    → number + length (history_rows version number rows (replies opening progress requests)) ≤ max_records + 1)
    (λ number progress within. omega (arith, within))
    (λ number progress row rows request requests here reads later within. let more = later (omega (arith, here)) in omega (arith, more))
    number progress rows

-- ---- a text that was written

-- the first record opens a history, and each of the others is a line
pub record Written (kind : FirstKind) (rest : Row) (rows : List Row) (opening : Opening) (lines : List Line) : Type 0 where
  pub opens : opening_of (kind_word kind ∷ rest) ≡ Ok opening
  pub are_lines : AreLinesOf (version_of (kind_word kind ∷ rest)) rows lines
  pub few : length rows < 2 ^ 32

-- records that each are a line are all read
all-answered : (version : Version) (max_records number : ℕ) (rows : List Row) (lines : List Line) → number + length rows ≤ max_records + 1
    → AreLinesOf version rows lines → rows_without_fault version max_records number rows ≡ rows
unfolding AreLinesOf lines_from
all-answered version max_records number [] lines within are_lines = refl
all-answered version max_records number (row ∷ rows) [] within are_lines = absurd are_lines
all-answered version max_records number (row ∷ rows) (line ∷ lines) within are_lines =
    grind (arith, nat_tests, line_in-line, all-answered version max_records (number + 1) rows lines (omega arith) are_lines.1)

module _ (texts : TextsAreReadBack) (kind : FirstKind) (rest : Row) (rows : List Row) (opening : Opening) (lines : List Line) where
  pub written-tells : Written kind rest rows opening lines → IsHistoryText (rows_text ((kind_word kind ∷ rest) ∷ rows)) opening lines
  written-tells w = texts.history kind rest rows opening lines w.opens (texts.fields _ rows lines w.are_lines) w.are_lines w.few

  pub written-read : Written kind rest rows opening lines → records_of (rows_text ((kind_word kind ∷ rest) ∷ rows)) ≡ (kind_word kind ∷ rest) ∷ rows
  written-read w = texts.first kind rest rows (texts.fields _ rows lines w.are_lines)

  pub written-kept : Written kind rest rows opening lines → rows_without_fault (version_of (kind_word kind ∷ rest)) (2 ^ 32) 2 rows ≡ rows
  written-kept w = let few = w.few in all-answered (version_of (kind_word kind ∷ rest)) (2 ^ 32) 2 rows lines (omega arith) w.are_lines

-- ---- the first record

-- the kind of a first record is its first field
pub first-word : (row : Row) (is : FirstKind) → first_kind row ≡ Some is → row ≡ kind_word is ∷ drop 1 row
unfolding first_kind
first-word row is e = kind-first row (kind_word is) (grind (arith, nat_tests, e))

pub record Opened (row : Row) (opening : Opening) : Type 0 where
  pub begins : Begins row
  pub accepted : opening_refusal opening.limits opening.moment ≡ None
  pub in_range : first_bad opening.params ≡ None

pub opened : Promises → (row : Row) (opening : Opening) → opening_of row ≡ Ok opening → Opened row opening
unfolding opening_of
opened promises row opening = by (first_kind row) refl
  where
    read : (kind : FirstKind) → first_kind row ≡ Some kind → (o : Result Draft RecordFault) → opening_read kind o ≡ Ok opening
        → Opened row opening
    read kind is (Err what) e = cc
    read kind is (Ok draft) e =
        let c = promises.opens kind draft opening e in
        subst (λ (o : Opening). Opened row o) c.same (record {
          begins = record { kind = kind; rest = drop 1 row; is = first-word row kind is };
          accepted = c.accepted;
          in_range = c.in_range;
        })

    by : (o : Option FirstKind) → first_kind row ≡ o → opening_by o row ≡ Ok opening → Opened row opening
    by None is e = cc
    by (Some kind) is e = read kind is (first_fields row kind) e

-- ---- the whole text

pub sound-start : (promises : Promises) (opening : Opening) → Sound opening start
sound-start promises opening = record { legal = promises.legal_at_first opening; fit = All-nil (λ (e : Event). CommandFits e.command); bounded = omega arith }

-- the records of the beginning, and those of the replies
pub text-begun : (max_records : ℕ) (past : List Event) (rows : List Row) (b : Beginning)
    → text_in max_records past rows (Ok b)
    ≡ rows_text (take b.records_read rows ++ rows_left b.version max_records b.opening (b.records_read + 1) (resumed_progress past) b.left)
unfolding text_left rows_text
text-begun max_records past rows b = grind (arith, nat_tests, flat_map-append)

pub text-whole : (max_records : ℕ) (row : Row) (rows : List Row) (opening : Opening) → 0 < max_records → opening_of row ≡ Ok opening
    → history_text max_records (row ∷ rows) ≡ rows_text (row ∷ rows_left (version_of row) max_records opening 2 start rows)
unfolding history_text
text-whole max_records row rows opening some opens =
    rw (whole-opened max_records row rows opening some opens)
    (text-begun max_records [] (row ∷ rows) (opened_at (version_of row) opening rows)
    ∙ ap (λ (first : List Row). rows_text (first ++ rows_left (version_of row) max_records opening 2 start rows)) (first-one row rows))

pub run-written : (promises : Promises) (max_records : ℕ) (kind : FirstKind) (rest : Row) (rows : List Row) (opening : Opening) → max_records ≤ 2 ^ 32
    → opening_of (kind_word kind ∷ rest) ≡ Ok opening → 0 < max_records → let version = version_of (kind_word kind ∷ rest) in
    Written kind rest (rows_left version max_records opening 2 start rows) opening (lines_left version max_records opening 2 start rows)
run-written promises max_records kind rest rows opening few opens some =
    let version : Version = version_of (kind_word kind ∷ rest) in
    let is = opened promises (kind_word kind ∷ rest) opening opens in
    let fit : Opens opening = record { accepted = is.accepted; params = promises.params opening.params is.in_range } in
    let count = few-left version max_records opening 2 start rows (omega arith) in
    record {
      opens = opens;
      are_lines = rows-lines version promises max_records opening 2 start rows few fit (sound-start promises opening);
      few = omega (arith, count);
    }

pub text_is_read_back : (promises : Promises) (max_records : ℕ) (row : Row) (rows : List Row) (opening : Opening)
    → 0 < max_records → max_records ≤ 2 ^ 32 → opening_of row ≡ Ok opening
    → IsHistoryText (history_text max_records (row ∷ rows)) opening (run_lines (version_of row) max_records opening rows)
unfolding run_lines
text_is_read_back promises max_records row rows opening some few opens =
    let is = (opened promises row opening opens).begins in
    subst (λ (first : Row). IsHistoryText (history_text max_records (first ∷ rows)) opening (run_lines (version_of first) max_records opening rows)) (sym is.is)
    (let there = ap opening_of (sym is.is) ∙ opens in
    rw (text-whole max_records (kind_word is.kind ∷ is.rest) rows opening some there)
    (written-tells promises.texts is.kind is.rest _ opening _ (run-written promises max_records is.kind is.rest rows opening few there some)))

-- ==== The audit of a run's history text finds it clean

-- ---- The events of a run are those of its lines

events-both : (first more : List Line) → events_of (first ++ more) ≡ events_of first ++ events_of more
unfolding events_of
events-both first more = filter_map-append event_in first more

-- after a line, the run's history is the history before it with the line's event, and is legal
pub record IsStepOfLine (opening : Opening) (progress : Progress) (line : Line) (later : Progress) : Type 0 where
  pub events : progress.history ++ events_of (line ∷ []) ≡ later.history
  pub legal : IsLegal opening progress.history → IsLegal opening later.history

-- a line without an event is a step that leaves the history unchanged
lines-none : (opening : Opening) (progress : Progress) (line : Line) (tail_length : ℕ) → event_in line ≡ None
    → IsStepOfLine opening progress line (record { history = progress.history; tail_length = tail_length })
unfolding events_of
lines-none opening progress line tail_length none = record { events = rw none (append-nil progress.history); legal = λ legal. legal }

lines-next : Promises → (opening : Opening) (progress : Progress) (request : Request)
    → IsStepOfLine opening progress (line_of_reply request (reply opening progress request)) (after opening progress request)
unfolding events_of
lines-next promises opening progress (Apply caller command) =
    requested-by (λ given later. IsStepOfLine opening progress (line_of_reply (Apply caller command) given) later) opening progress caller command
    (λ free. record { events = refl; legal = λ legal. promises.legal_with_one_more opening progress.history caller command legal free })
    (λ why. lines-none opening progress Note progress.tail_length refl)
lines-next promises opening progress (Fold n) = lines-none opening progress Note (after opening progress (Fold n)).tail_length refl
lines-next promises opening progress (request.Clock clock) = lines-none opening progress (line.Clock clock) progress.tail_length refl
lines-next promises opening progress _ = lines-none opening progress Note progress.tail_length refl

abbrev AllAnswered : Opening → Progress → List Request → Type 0
AllAnswered opening progress requests =
    (progress.history ++ events_of (lines_of_replies requests (replies opening progress requests))
    ≡ (progress_after opening progress (steps_of requests)).history)
    × (IsLegal opening progress.history → IsLegal opening (progress_after opening progress (steps_of requests)).history)

lines-all : Promises → (opening : Opening) (progress : Progress) (requests : List Request) → AllAnswered opening progress requests
unfolding lines_of_replies replies progress_after steps_of events_of
lines-all promises opening progress [] = (append-nil progress.history, λ legal. legal)
lines-all promises opening progress (request ∷ requests) =
    let here = lines-next promises opening progress request in
    let later = lines-all promises opening (after opening progress request) requests in
    let first : Line = line_of_reply request (reply opening progress request) in
    let rest = lines_of_replies requests (replies opening (after opening progress request) requests) in
    let events : progress.history ++ events_of (first ∷ rest)
    ≡ (progress_after opening (after opening progress request) (steps_of requests)).history =
    ap (λ (events : List Event). progress.history ++ events) (events-both (first ∷ []) rest)
    ∙ sym (append_assoc progress.history (events_of (first ∷ [])) (events_of rest))
    ∙ ap (λ (history : List Event). history ++ events_of rest) here.events ∙ later.0 in
    rw (progress_after-request opening progress request requests) (events, λ legal. later.1 (here.legal legal))

pub all-made : (requests : List Request) (given : List Reply) → All CanBeMade (lines_of_replies requests given)
unfolding lines_of_replies
all-made [] given = All-nil CanBeMade
all-made (request ∷ requests) [] = All-nil CanBeMade
all-made (request ∷ requests) (reply ∷ given) = grind (arith, nat_tests, all-made requests given)

-- after the lines of a legal history, the lines of a continued run are legal, and their events are the run's
pub record AreRuns (opening : Opening) (lines : List Line) (history : List Event) : Type 0 where
  pub legal : AreLegal opening lines
  pub events : events_of lines ≡ history

pub lines-legal : Promises → (opening : Opening) (progress : Progress) (before : List Line) (requests : List Request) → All CanBeMade before
    → events_of before ≡ progress.history → IsLegal opening progress.history
    → AreRuns opening (before ++ lines_of_replies requests (replies opening progress requests)) (progress_after opening progress (steps_of requests)).history
lines-legal promises opening progress before requests made are_lines legal =
    let all = lines-all promises opening progress requests in
    let lines = lines_of_replies requests (replies opening progress requests) in
    let events : events_of (before ++ lines) ≡ (progress_after opening progress (steps_of requests)).history =
    events-both before lines ∙ ap (λ (history : List Event). history ++ events_of lines) are_lines ∙ all.0 in
    record {
      legal = record {
        made = All-append CanBeMade before lines made (all-made requests (replies opening progress requests));
        legal = subst (λ (history : List Event). IsLegal opening history) (sym events) (all.1 legal);
      };
      events = events;
    }

-- ---- the whole text

-- the law of reading back a history text
abbrev pub ReadBack : Type 0
ReadBack = (max_records : ℕ) (row : Row) (rows : List Row) (opening : Opening) → 0 < max_records → max_records ≤ 2 ^ 32 → opening_of row ≡ Ok opening
    → IsHistoryText (history_text max_records (row ∷ rows)) opening (run_lines (version_of row) max_records opening rows)

-- the law that legal lines have a clean finding
abbrev pub LegalIsClean : Type 0
LegalIsClean = (text : List ℕ) (opening : Opening) (lines : List Line) → IsHistoryText text opening lines → AreLegal opening lines
    → text_finding (records_of text) ≡ Ok (Clean (length (events_of lines)))

pub run_clean : ReadBack → LegalIsClean → Promises → (max_records : ℕ) (row : Row) (rows : List Row)
    (opening : Opening) → 0 < max_records → max_records ≤ 2 ^ 32 → opening_of row ≡ Ok opening
    → text_finding (records_of (history_text max_records (row ∷ rows)))
    ≡ Ok (Clean (length (progress_at_end opening (requests_of (version_of row) (before_fault (version_of row) max_records 2 rows))).history))
unfolding run_lines events_of
run_clean read_back clean promises max_records row rows opening some few opens =
    let asked = requests_of (version_of row) (before_fault (version_of row) max_records 2 rows) in
    let runs = lines-legal promises opening start [] asked (All-nil CanBeMade) refl (promises.legal_at_first opening) in
    clean (history_text max_records (row ∷ rows)) opening _ (read_back max_records row rows opening some few opens) runs.legal
    ∙ ap (λ (events : List Event). let found : Result Finding TraceFault = Ok (Clean (length events)) in found) runs.events

-- ---- a trace with no fault

pub before-all : (version : Version) (max_records number : ℕ) (rows : List Row) → first_fault version max_records number rows ≡ None
    → before_fault version max_records number rows ≡ rows
unfolding first_fault before_fault
before-all version max_records number [] e = refl
before-all version max_records number (row ∷ rows) e = by (record_fault version max_records number row) refl e (λ f. before-all version max_records (number + 1) rows f)
  where
    by : (o : Option TraceFault) → record_fault version max_records number row ≡ o → first_fault version max_records number (row ∷ rows) ≡ None
        → (first_fault version max_records (number + 1) rows ≡ None → before_fault version max_records (number + 1) rows ≡ rows)
        → before_fault version max_records number (row ∷ rows) ≡ row ∷ rows
    by o r e later = grind (arith, nat_tests)

pub whole_clean : ReadBack → LegalIsClean → Promises → (max_records : ℕ) (rows : List Row) (end : RunEnd) → max_records ≤ 2 ^ 32 → fault_of max_records rows ≡ None
    → end_of max_records rows ≡ Some end → text_finding (records_of (history_text max_records rows)) ≡ Ok (Clean end.events)
unfolding fault_of end_of
whole_clean read_back clean promises max_records [] end few sound run_end = cc
whole_clean read_back clean promises max_records (row ∷ rows) end few sound run_end = by (opening_of row) refl
  where
    found : ℕ → Result Finding TraceFault
    found events = Ok (Clean events)

    by : (o : Result Opening TraceFault) → opening_of row ≡ o → text_finding (records_of (history_text max_records (row ∷ rows))) ≡ Ok (Clean end.events)
    by (Err why) opens = absurd (grind (arith, nat_tests, sound, opens))
    by (Ok opening) opens =
        let some : 0 < max_records = grind (arith, nat_tests, sound) in
        let none : first_fault (version_of row) max_records 2 rows ≡ None = grind (arith, nat_tests, sound, opens) in
        let same : end_left (version_of row) opening start 0 rows ≡ end = grind (arith, nat_tests, some, run_end, opens) in
        run_clean read_back clean promises max_records row rows opening some few opens
        ∙ ap (λ (all : List Row). found (length (progress_at_end opening (requests_of (version_of row) all)).history))
        (before-all (version_of row) max_records 2 rows none)
        ∙ ap (λ (r : RunEnd). found r.events) same

-- ==== The audit finds the output of a run clean, with the events before it

-- the laws of the crates below
pub record Below : Type 0 where
  pub promises : Promises
  pub opens : (rows : List Row) (begun : Beginning) → beginning_of rows ≡ Ok begun → IsWellBegun begun
  pub behind : (rows more : List Row) (begun : Beginning) (opening : Opening) (past : List Event) (lines : List Line) → beginning_of rows ≡ Ok begun
      → Continues rows opening past → AreLinesOf begun.version more lines → begun.records_read + length more ≤ 2 ^ 32
      → IsTextAfter (rows_text (take begun.records_read rows ++ more)) opening past lines
  pub clean : (rows : List Row) (opening : Opening) (past : List Event) → AreLegal opening (map Valid past ++ text_lines rows)
      → whole_finding opening past rows ≡ Clean (length (events_of (map Valid past ++ text_lines rows)))
  pub events : EventsAreLines

-- ---- the beginning

-- a beginning with at most `max_records` records
record Within (max_records : ℕ) (rows : List Row) (b : Beginning) : Type 0 where
  begun : beginning_of rows ≡ Ok b
  few : b.records_read ≤ max_records

behind : (max_records : ℕ) (rows : List Row) (b : Beginning) → beginning_within max_records rows ≡ Ok b → and_then (beginning_of rows) (within_max max_records) ≡ Ok b
behind a0 a1 a2 a3 = search rules

within : (max_records : ℕ) (rows : List Row) (b : Beginning) → beginning_within max_records rows ≡ Ok b → Within max_records rows b
within max_records rows b e = grind (arith, nat_tests, behind)

-- ---- the text

text-resumed : (max_records : ℕ) (past : List Event) (rows : List Row) (b : Beginning) → beginning_within max_records rows ≡ Ok b
    → text_of_run max_records past rows
    ≡ rows_text (take b.records_read rows ++ rows_left b.version max_records b.opening (b.records_read + 1) (resumed_progress past) b.left)
unfolding text_of_run
text-resumed max_records past rows b e = rw e (text-begun max_records past rows b)

-- legal lines are found clean
lines-clean : Below → (text : List ℕ) (opening : Opening) (past : List Event) (lines : List Line) (history : List Event)
    → IsTextAfter text opening past lines → AreRuns opening (map Valid past ++ lines) history → IsFound text opening past (Clean (length history))
lines-clean law text opening past lines history is_text runs = grind (arith, nat_tests)

pub resumed-clean : Below → (max_records : ℕ) (rows : List Row) (opening : Opening) (past : List Event) (b : Beginning) → max_records ≤ 2 ^ 32
    → Continues rows opening past → All (λ event. CommandFits event.command) past → beginning_within max_records rows ≡ Ok b
    → IsFound (text_of_run max_records past rows) opening past (Clean (length (progress_resumed max_records past b).history))
resumed-clean law max_records rows opening past b few goes fit e =
    let at = within max_records rows b e in
    let same : goes.beginning ≡ b = cc in
    let opened : b.opening ≡ opening = subst (λ (it : Beginning). it.opening ≡ opening) same goes.opened in
    let shows : Represents opening b.core past = subst (λ (it : Beginning). Represents opening it.core past) same goes.represents in
    let legal : IsLegal b.opening past = subst (λ (o : Opening). IsLegal o past) (sym opened) shows.legal in
    let well = law.opens rows b at.begun in
    let opens : Opens b.opening = record { accepted = well.accepted; params = law.promises.params b.opening.params well.in_range } in
    let sound : Sound b.opening (resumed_progress past) = record { legal = legal; fit = fit; bounded = omega arith } in
    let more = rows_left b.version max_records b.opening (b.records_read + 1) (resumed_progress past) b.left in
    let lines = lines_left b.version max_records b.opening (b.records_read + 1) (resumed_progress past) b.left in
    let are_lines : AreLinesOf b.version more lines = rows-lines b.version law.promises max_records b.opening (b.records_read + 1) (resumed_progress past) b.left few opens sound in
    let within = at.few in
    let count = few-left b.version max_records b.opening (b.records_read + 1) (resumed_progress past) b.left (omega (arith, within)) in
    let is_text : IsTextAfter (rows_text (take b.records_read rows ++ more)) opening past lines =
    law.behind rows more b opening past lines at.begun goes are_lines (omega (arith, count, few)) in
    let runs = lines-legal law.promises b.opening (resumed_progress past) (map Valid past)
    (requests_of b.version (before_fault b.version max_records (b.records_read + 1) b.left))
    (law.events.made past) (law.events.events past) legal in
    subst (λ (text : List ℕ). IsFound text opening past (Clean (length (progress_resumed max_records past b).history)))
    (sym (text-resumed max_records past rows b e))
    (lines-clean law (rows_text (take b.records_read rows ++ more)) opening past lines (progress_resumed max_records past b).history is_text
    (subst (λ (o : Opening). AreRuns o (map Valid past ++ lines) (progress_resumed max_records past b).history) opened runs))

-- ---- a text without a fault

pub resumed-whole : Below → (max_records : ℕ) (rows : List Row) (opening : Opening) (past : List Event) (end : RunEnd) → max_records ≤ 2 ^ 32
    → Continues rows opening past → All (λ event. CommandFits event.command) past → fault_of_run max_records rows ≡ None
    → end_of_run max_records past rows ≡ Some end → IsFound (text_of_run max_records past rows) opening past (Clean end.events)
unfolding fault_of_run end_of_run
resumed-whole law max_records rows opening past end few goes fit sound run_end = by (beginning_within max_records rows) refl
  where
    found : ℕ → Type 0
    found events = IsFound (text_of_run max_records past rows) opening past (Clean events)

    by : (read : Result Beginning TraceFault) → beginning_within max_records rows ≡ read → found end.events
    by (Err why) is = absurd (grind (arith, nat_tests, sound, is))
    by (Ok b) is =
        let none : first_fault b.version max_records (b.records_read + 1) b.left ≡ None = grind (arith, nat_tests, sound, is) in
        let same : end_left b.version b.opening (resumed_progress past) 0 b.left ≡ end = grind (arith, nat_tests, run_end, is) in
        subst (λ (r : RunEnd). found r.events) same
        (subst (λ (rest : List Row). found (length (progress_after b.opening (resumed_progress past) (steps_of (requests_of b.version rest))).history))
        (before-all b.version max_records (b.records_read + 1) b.left none) (resumed-clean law max_records rows opening past b few goes fit is))

-- ==== The run of an excerpt after a history gives the answers of the whole from there on

replies-append : (opening : Opening) (from : Progress) (xs ys : List Request)
    → replies opening from (xs ++ ys) ≡ replies opening from xs ++ replies opening (progress_after opening from (steps_of xs)) ys
unfolding replies steps_of progress_after
replies-append opening from [] ys = refl
replies-append opening from (request ∷ xs) ys = grind (arith, nat_tests, replies-append opening (after opening from request) xs ys)

progress-append : (opening : Opening) (from : Progress) (xs ys : List Request)
    → progress_after opening from (steps_of (xs ++ ys)) ≡ progress_after opening (progress_after opening from (steps_of xs)) (steps_of ys)
unfolding steps_of progress_after
progress-append opening from [] ys = refl
progress-append opening from (request ∷ xs) ys = grind (arith, nat_tests, progress-append opening (after opening from request) xs ys)

pub whole_replies : (opening : Opening) (earlier later : List Request)
    → let there = progress_at_end opening earlier in
    replies opening start (earlier ++ Fold there.tail_length ∷ later)
    ≡ replies opening start earlier ++ fold_reply there.tail_length ∷ replies opening (resumed_progress there.history) later
unfolding replies
whole_replies opening earlier later = grind (arith, nat_tests, replies-append)

pub whole_ends : (opening : Opening) (earlier later : List Request)
    → let there = progress_at_end opening earlier in
    progress_at_end opening (earlier ++ Fold there.tail_length ∷ later) ≡ progress_after opening (resumed_progress there.history) (steps_of later)
unfolding progress_after steps_of
whole_ends opening earlier later = grind (arith, nat_tests, progress-append)

-- ==== A record of lost events is a fault of every text

-- a record of `count` lost events among these records
record HasLost (count : ℕ) (rows : List Row) : Type 0 where
  before : List Row
  after : List Row
  is : rows ≡ before ++ (lost_row count ∷ after)

-- a `lost` record of the rows is among those after the packets of the queue
behind-queue : (count : ℕ) (waiting : List Waiting) (before after left : List Row)
    → before ++ (lost_row count ∷ after) ≡ map queued_row waiting ++ left → HasLost count left
unfolding queued_row
behind-queue count [] before after left is = record { before = before; after = after; is = sym is }
behind-queue count (packet ∷ waiting) [] after left is = cc
behind-queue count (packet ∷ waiting) (row ∷ before) after left is =
    grind (
      arith,
      nat_tests,
      behind-queue count waiting before after left (let rest : before ++ (lost_row count ∷ after) ≡ map queued_row waiting ++ left = cc in rest),
    )

-- the laws of pie_excerpt on all beginnings
module _ (again : (row : Row) (rows : List Row) (begun : Beginning) → beginning_of (row ∷ rows) ≡ Ok begun
    → take begun.records_read (row ∷ rows) ≡ row ∷ map queued_row begun.core.waiting)
    (alone : (rows more : List Row) (begun : Beginning) → beginning_of rows ≡ Ok begun
    → beginning_of (take begun.records_read rows ++ more) ≡ Ok (record begun { left = more })) where
  -- the records behind a preamble are those that its reader left
  left-is : (rows : List Row) (begun : Beginning) → beginning_of rows ≡ Ok begun → drop begun.records_read rows ≡ begun.left
  left-is rows begun is = same (beginning_of rows) (record begun { left = drop begun.records_read rows }) begun
      (ap beginning_of (sym (take-append-drop begun.records_read rows)) ∙ alone rows (drop begun.records_read rows) begun is) is
    where
      same : (read : Result Beginning TraceFault) (a b : Beginning) → read ≡ Ok a → read ≡ Ok b → a.left ≡ b.left
      same read a b e f = cc

  begun-left : (count : ℕ) (before after : List Row) (begun : Beginning) → beginning_of (before ++ (lost_row count ∷ after)) ≡ Ok begun
      → HasLost count begun.left
  unfolding beginning_of opening_of first_kind field_at
  begun-left count [] after begun is = cc
  begun-left count (row ∷ before) after begun is =
      let rows : List Row = row ∷ (before ++ (lost_row count ∷ after)) in
      let whole : row ∷ (before ++ (lost_row count ∷ after)) ≡ row ∷ (map queued_row begun.core.waiting ++ begun.left) =
      sym (take-append-drop begun.records_read rows)
      ∙ ap (λ (front : List Row). front ++ drop begun.records_read rows) (again row (before ++ (lost_row count ∷ after)) begun is)
      ∙ ap (λ (left : List Row). row ∷ (map queued_row begun.core.waiting ++ left)) (left-is rows begun is) in
      behind-queue count begun.core.waiting before after begun.left
      (let rest : before ++ (lost_row count ∷ after) ≡ map queued_row begun.core.waiting ++ begun.left = cc in rest)

  pub lost_part_is_fault : (count : ℕ) (before after : List Row) → text_fault (before ++ (lost_row count ∷ after)) ≢ None
  unfolding text_fault
  lost_part_is_fault count before after = by (beginning_of (before ++ (lost_row count ∷ after))) refl
    where
      by : (r : Result Beginning TraceFault) → beginning_of (before ++ (lost_row count ∷ after)) ≡ r → fault_after r ≢ None
      by (Err why) is = λ e. cc
      by (Ok begun) is = let has = begun-left count before after begun is in λ e.
          lost-later begun.version (2 ^ 32) (begun.records_read + 1) count has.before has.after
          (ap (λ (rs : List Row). fault_from begun.version (2 ^ 32) (begun.records_read + 1) rs) (sym has.is) ∙ e)
