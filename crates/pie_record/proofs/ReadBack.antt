-- A record of a command or of the wall-clock time has exactly the fields with which it is written, and its numbers fit their types; so has a line of
-- a history. A record that was written is read as its line, and that of a line, except a note, is the record that is written for it.
-- The record of an opening is read back as that opening. A text of it and of records of lines is read back as that opening and those lines.
use Rattle.std.proofs.Common.{rules, ap, subst, ◌∙◌, arith, sym, length-append}
use Rattle.std.proofs.lemmas.Bool.{eqb-true, and_parts, ne_eqb}
use Rattle.std.proofs.lemmas.Bool.Decides.{nat_tests}
use Rattle.std.proofs.lemmas.Slice.Eq.{bytes_eq-Decides}
use Rattle.pie_record.specs.Names.{Answer, Command, Clock, Field}
use Rattle.pie_record.specs.{One, Two, ◌≡◌, ◌<◌, ◌==◌, ◌^◌, ℕ, List, [], ◌∷◌, ◌++◌, Bool, true, length, decimal, refl, Option, Some, None, Result, Ok, codes, ⊤, field_at, Packet, AnswerFits, RegistersFit, StatsFit, Empty, Left, Updated, Done, Arrive, Depart, Update, Reset, SetParams, Event, CommandFields, CommandKind, RecordFault, Line, Version, Three, clock_in, clock_row, most_moment, command_at, command_kind, is_kind, most_u128, most_u64, packet_at, expect_keyword, active_line, answer_at, departure_at, event_line, has_length, line_by, line_for, line_of, made, note_line, numbers_at, registers_at, shown_line, update_at, verdict_of, number, EventFits, AreLinesOf, Row, request_of, word_of_answer, command_fields, event_row, line_rows, without_notes, fits, Registers, Stats, answer_fields, counted, flag, folded_row, refused_row, shown_row, tallied_row, All, and_then, lines_from, ◌≤◌, drop, map, first_bad, RawParams, CommandFits, ParamsFit, arrival_at, command_fields_at, change_at, change_to, command_length, most_u16, params_at, NineFit, command_request, fold_request, request_by, nine_of, BadChange, command_word, false, ◌+◌, ◌||◌, if◌then◌else◌, is_word, rows_unless_note, Opening, usual, default_profile, Elements, Half, Zero, Mode, Bounded, Rolling, Profile, are_of_version_two, opening_refusal, TraceFault, Draft, FirstKind, chosen_at, decay_at, draft_at, first_fields, first_kind, holds_limits, limits_at, profile_of, version_one_fields, version_three_fields, version_two_fields, one_of_two, opening_of, opening_read, LimitsFit, delay_word, mode_word, picking_word, profile_number, size_word, step_word, are_default, are_usual, chosen_row, earlier_row, is_earlier, opening_row, version_three_row, Decay, Choices, Limits, OpenRefusal, Err, Checked, checked_opening, refused_opening, HasField, rows_text, kind_word, version_of, after_opening, remaining_from, fault_from, history_opening, history_version, Begins, IsHistoryText, written_rows, IsRecordOf}
use Rattle.pie_record.proofs.FieldFacts.{and_after, back_ecn, back_u32, back_u64, field-read, number-then, one-way, no-flaw, packet-read, tested, Says, numbers-back, read-as, Has, HasAll, has-all, ok-same, ParamsRead, params-back, params-read, word-has, found, same-bytes, number-back}
use Rattle.pie_record.proofs.HistoryFacts.{read-all, line_in-line, records_of-written}
use Rattle.std.proofs.lemmas.List.{length-map}
use Rattle.std.proofs.lemmas.List.Elements.{All-head, All-nil, All-tail}
use Rattle.pie_record.specs.declared.history_record.Line.TheVariants.{Valid}
use Rattle.pie_record.specs.declared.command.CommandFields.TheVariants as fields
use Rattle.pie_record.specs.declared.fault.RecordFault.TheVariants as flaw
use Rattle.pie_record.specs.declared.history_record.Line.TheVariants as line
use Rattle.pie_record.specs.declared.trace_record.Request.TheVariants as request
use Rattle.pie_record.specs.declared.words.AnswerKeyword.TheVariants as said
use Rattle.pie_record.specs.declared.command.CommandKind.TheVariants as kind
use Rattle.pie_event.specs.declared.opening.Profile.TheVariants as profiles
use Rattle.pie_record.specs.declared.first_record.FirstKind.TheVariants as kinds
use Rattle.pie_record.specs.declared.fault.OpenFault.TheVariants as open_fault
use Rattle.pie_record.specs.declared.fault.TraceFault.TheVariants as fault

-- ---- the command that was read

abbrev pub kind_of : Command → CommandKind
kind_of (Arrive moment packet word) = kind.Arrive
kind_of (Depart moment) = kind.Depart
kind_of (Update moment) = kind.Update
kind_of (Reset moment) = kind.Reset
kind_of (SetParams moment params) = kind.Params

abbrev pub command_row_kind : CommandFields → CommandKind
command_row_kind (fields.Command caller command) = kind_of command
command_row_kind (fields.BadParams change) = kind.Params

-- the fields of the command
abbrev pub command_row_fields : CommandFields → Row
command_row_fields (fields.Command caller command) = command_fields caller command
command_row_fields (fields.BadParams change) = command_fields change.caller (SetParams change.moment change.params)

-- new parameters, one of which is out of its range, whose numbers fit their types
pub record ChangeFits (change : BadChange) : Type 0 where
  pub caller : change.caller ≤ most_u16
  pub moment : change.moment < 2 ^ 64
  pub nine : NineFit change.params
  pub field : Field
  pub bad : first_bad change.params ≡ Some field

abbrev pub CommandFieldsFit : CommandFields → Type 0
CommandFieldsFit (fields.Command caller command) = (caller ≤ most_u16) × CommandFits command
CommandFieldsFit (fields.BadParams change) = ChangeFits change

pub nine-of-fits : (params : RawParams) → ParamsFit params → NineFit params
nine-of-fits params fits = search rules

fits-of-nine : (params : RawParams) → NineFit params → first_bad params ≡ None → ParamsFit params
fits-of-nine params nine good = search rules

-- ---- the fields of a command that was read

-- a row that reads as a command has the command's fields after its keyword, and they fit their types
pub record Reads (row : Row) (k : CommandKind) (asks : CommandFields) : Type 0 where
  pub kind : k ≡ command_row_kind asks
  pub has : HasAll row 1 (drop 1 (command_row_fields asks))
  pub fits : CommandFieldsFit asks

arrival-read : (row : Row) (caller moment : ℕ) (command : Command) → Has row 1 (decimal caller) → Has row 2 (decimal moment) → caller ≤ most_u16
    → moment < 2 ^ 64 → arrival_at row moment ≡ Ok command → Reads row kind.Arrive (fields.Command caller command)
unfolding arrival_at command_fields
arrival-read row caller moment command who when few small e =
    let p = and_after (packet_at row 3) _ command e in
    let w = number-then row 6 most_u64 _ command (omega arith) p.rest in
    let packet = packet-read row 3 p.got p.is in
    read-as (λ (c : Command). Reads row kind.Arrive (fields.Command caller c)) (Arrive moment p.got w.got) command w.rest
    (record { kind = refl; has = search rules; fits = (few, (small, packet.fits, w.small)) })

change-read : (row : Row) (caller moment : ℕ) (asks : CommandFields) → Has row 1 (decimal caller) → Has row 2 (decimal moment) → caller ≤ most_u16
    → moment < 2 ^ 64 → Says (change_at row caller moment) asks → Reads row kind.Params asks
unfolding change_at command_fields
change-read row caller moment asks who when few small e =
    let p = and_after (params_at row 3) (λ (p : RawParams). let it : Result CommandFields RecordFault = Ok (change_to caller moment p (first_bad p)) in it) asks e in
    by p.got (params-read row p.got p.is) (first_bad p.got) refl p.rest
  where
    by : (p : RawParams) → ParamsRead row p → (bad : Option Field) → first_bad p ≡ bad → Says (Ok (change_to caller moment p bad)) asks
        → Reads row kind.Params asks
    by p read first bad e = grind (arith, nat_tests, read-as, fits-of-nine)

pub command-read : (row : Row) (k : CommandKind) (asks : CommandFields) → Says (command_at row k) asks → Reads row k asks
unfolding command_at command_fields
command-read row k asks e =
    let a = number-then row 1 most_u16 _ asks (omega arith) e in
    let b = number-then row 2 most_u64 _ asks (omega arith) a.rest in by k a.got b.got a.there b.there a.within (omega (arith, b.within)) b.rest
  where
    short : (caller : ℕ) (command : Command) → HasAll row 1 (drop 1 (command_fields caller command)) → CommandFieldsFit (fields.Command caller command)
        → Says (Ok (fields.Command caller command)) asks → Reads row (kind_of command) asks
    short caller command has fits e = read-as (Reads row (kind_of command)) _ asks e (record { kind = refl; has = has; fits = fits })

    by : (k : CommandKind) (caller moment : ℕ) → Has row 1 (decimal caller) → Has row 2 (decimal moment) → caller ≤ most_u16 → moment < 2 ^ 64
        → Says (command_fields_at row k caller moment) asks → Reads row k asks
    by kind.Arrive caller moment who when few small e =
        let c = and_after (arrival_at row moment) (λ (command : Command). Ok (fields.Command caller command)) asks e in
        read-as (Reads row kind.Arrive) (fields.Command caller c.got) asks c.rest (arrival-read row caller moment c.got who when few small c.is)
    by kind.Depart caller moment who when few small e = short caller (Depart moment) (who, (when, tt)) (few, small) e
    by kind.Update caller moment who when few small e = short caller (Update moment) (who, (when, tt)) (few, small) e
    by kind.Reset caller moment who when few small e = short caller (Reset moment) (who, (when, tt)) (few, small) e
    by kind.Params caller moment who when few small e = change-read row caller moment asks who when few small e

pub kind-has : (row : Row) (k : CommandKind) → command_kind row ≡ Some k → Has row 0 (command_word k)
unfolding command_kind
kind-has row k e = grind (arith, nat_tests, word-has, found)

-- the row of a command begins with its keyword, has the length and the kind of its command, whatever fields follow
pub command-shape : (asks : CommandFields) (more : Row) → (command_row_fields asks ≡ command_word (command_row_kind asks) ∷ drop 1 (command_row_fields asks))
    × (command_length (command_row_kind asks) ≡ length (command_row_fields asks)) × (command_kind (command_row_fields asks ++ more) ≡ Some (command_row_kind asks))
unfolding command_kind field_at command_fields
command-shape asks more = grind (arith, nat_tests)

-- the record of a command alone
pub record WrittenAs (row : Row) (asks : CommandFields) : Type 0 where
  pub is : row ≡ command_row_fields asks
  pub fits : CommandFieldsFit asks

written-as : (row : Row) (k : CommandKind) (asks : CommandFields) → command_kind row ≡ Some k → length row ≡ command_length k → Says (command_at row k) asks
    → WrittenAs row asks
written-as row k asks known long says =
    let read = command-read row k asks says in
    let shape = command-shape asks [] in
    let whole = long ∙ ap command_length read.kind ∙ shape.1 ∙ ap length shape.0 in
    record {
      is = has-all row 0 (command_word k ∷ drop 1 (command_row_fields asks)) (omega (arith, whole)) (kind-has row k known, read.has)
          ∙ ap (λ (o : CommandKind). command_word o ∷ drop 1 (command_row_fields asks)) read.kind ∙ sym shape.0;
      fits = read.fits;
    }

-- ---- the wall-clock time

abbrev pub ClockFits : Clock → Type 0
ClockFits clock = (clock.moment ≤ most_moment) × (clock.unix ≤ most_u64)

pub record ClockRead (version : Version) (row : Row) (clock : Clock) : Type 0 where
  pub reads : clock_in version row ≡ Ok clock
  pub fits : ClockFits clock
  pub is : is_kind row (codes "clock") ≡ true → row ≡ clock_row clock

clock-fields : (row : Row) (clock : Clock) → clock_in Three row ≡ Ok clock
    → ClockFits clock × (is_kind row (codes "clock") ≡ true → row ≡ clock_row clock)
unfolding clock_in clock_row
clock-fields row clock e =
    let long = tested (length row == 3) _ _ clock e in
    let a = number-then row 1 most_moment _ clock (omega arith) long.1 in
    let b = number-then row 2 most_u64 _ clock (omega arith) a.rest in
    subst (λ (c : Clock). ClockFits c × (is_kind row (codes "clock") ≡ true → row ≡ codes "clock" ∷ decimal c.moment ∷ decimal c.unix ∷ []))
    (ok-same (record { moment = a.got; unix = b.got }) clock b.rest) (
      (a.within, b.within),
      λ is. has-all row 0 (codes "clock" ∷ decimal a.got ∷ decimal b.got ∷ []) (eqb-true (length row) 3 long.0)
          (word-has row (codes "clock") is, (a.there, (b.there, tt))),
    )

pub clock-read : (version : Version) (row : Row) (clock : Clock) → clock_in version row ≡ Ok clock → ClockRead version row clock
unfolding clock_in
clock-read Three row clock e = let fields = clock-fields row clock e in record { reads = e; fits = fields.0; is = fields.1 }
clock-read _ row clock e = cc

-- ---- a record of a trace

pub command-as-written : (version : Version) (row : Row) (caller : ℕ) (command : Command) → request_of version row ≡ Ok (request.Apply caller command)
    → WrittenAs row (fields.Command caller command)
unfolding request_of command_request fold_request
command-as-written version row caller command e = by (command_kind row) refl e
  where
    by : (o : Option CommandKind) → command_kind row ≡ o → request_by o version row ≡ Ok (request.Apply caller command)
        → WrittenAs row (fields.Command caller command)
    by (Some k) known e = written-as row k (fields.Command caller command) known (grind (arith, nat_tests, e)) (grind (arith, nat_tests, e))
    by None known e = absurd (grind (arith, nat_tests, e))

pub clock-as-written : (version : Version) (row : Row) (clock : Clock) → request_of version row ≡ Ok (request.Clock clock)
    → (row ≡ clock_row clock) × ClockRead version row clock
unfolding request_of command_request fold_request
clock-as-written version row clock e =
    let read = clock-read version row clock (grind (arith, nat_tests, e)) in (read.is (grind (arith, nat_tests, e)), read)

-- versions one and two read the same request from a record
pub same-before-three : (row : Row) → request_of One row ≡ request_of Two row
unfolding request_of clock_in
same-before-three row = grind (arith, nat_tests)

-- ---- written commands are read back

back_u16 : (n : ℕ) → n ≤ most_u16 → number most_u16 (decimal n) ≡ Some n
back_u16 n fits = number-back most_u16 n fits (omega arith)

params-behind : (a b c : List ℕ) (params : RawParams) (more : Row) → NineFit params
    → params_at (a ∷ b ∷ c ∷ (map decimal (nine_of params) ++ more)) 3 ≡ Ok params
unfolding params_at numbers_at field_at
params-behind a b c params more fits = params-back params more fits

-- the fields of a command are read back, whatever fields follow
pub command-back : (asks : CommandFields) (more : Row) → CommandFieldsFit asks → command_at (command_row_fields asks ++ more) (command_row_kind asks) ≡ Ok asks
unfolding command_at arrival_at change_at packet_at field_at command_fields
command-back (fields.Command caller (Arrive moment packet word)) more f = grind (arith, nat_tests, back_u16, back_u64, back_u32, back_ecn)
command-back (fields.Command caller (SetParams moment params)) more f =
    rw (back_u16 caller f.0, back_u64 moment f.1.0, params-behind _ _ _ params more (nine-of-fits params f.1.1), f.1.1.in_range) refl
command-back (fields.BadParams change) more f =
    rw (back_u16 change.caller f.caller, back_u64 change.moment f.moment, params-behind _ _ _ change.params more f.nine, f.bad) refl
command-back (fields.Command caller _) more f = rw (back_u16 caller f.0, back_u64 _ f.1) refl

-- the numbers of a line fit their types, and an event that cannot be made has a parameter out of its range
abbrev pub LineFits : Line → Type 0
LineFits (line.Valid event) = EventFits event
LineFits (line.Invalid change) = ChangeFits change
LineFits line.Note = ⊤
LineFits (line.Clock clock) = ClockFits clock

-- ---- the answer that was read

-- fields after others
has-behind : (row : Row) (place : ℕ) (front back : Row) → HasAll row place front → HasAll row (place + length front) back
    → HasAll row place (front ++ back)
has-behind row place [] back has more = let here : place + 0 ≡ place = omega arith in rw here at more
has-behind row place (field ∷ front) back has more =
    let there : place + length (field ∷ front) ≡ place + 1 + length front = omega arith in
    (has.0, has-behind row (place + 1) front back has.1 (rw there at more))

-- a word that had to be at a place
word-there : (row : Row) (place : ℕ) (word : List ℕ) (value : Unit {0}) → Says (expect_keyword row place word) value → Has row place word
word-there row place word value e = by (field_at row place) (tested (is_word word (field_at row place)) _ flaw.Word value e).0
  where
    by : (o : Option (List ℕ)) → is_word word o ≡ true → o ≡ Some word
    by None is = cc
    by (Some field) is = ap Some (same-bytes field word is)

-- answers that the fields of a command can have: invalid new parameters are recorded with the answer of valid ones
abbrev CanHave : CommandFields → Answer → Type 0
CanHave (fields.Command caller command) answer = fits command answer ≡ true
CanHave (fields.BadParams change) answer = answer ≡ Done

-- a record ends with the fields of an answer, after those of its command, which can have it; its numbers fit their types
record Ends (row : Row) (asks : CommandFields) (answer : Answer) : Type 0 where
  has : HasAll row (command_length (command_row_kind asks)) (answer_fields answer)
  long : length row ≡ command_length (command_row_kind asks) + length (answer_fields answer)
  can : CanHave asks answer
  numbers : AnswerFits answer

verdict-word : (text : List ℕ) (answer : Answer) → verdict_of text ≡ Some answer → answer_fields answer ≡ text ∷ []
unfolding verdict_of answer_fields
verdict-word text answer e = grind (arith, nat_tests, e, bytes_eq-Decides)

verdict-read : (moment : ℕ) (packet : Packet) (w : ℕ) (text : List ℕ) (answer : Answer) → verdict_of text ≡ Some answer
    → (fits (Arrive moment packet w) answer ≡ true) × AnswerFits answer
unfolding verdict_of
verdict-read moment packet w text answer e = (grind (arith, nat_tests, e), grind (arith, nat_tests, e))

-- the answer `done`
done-ends : (row : Row) (asks : CommandFields) (answer : Answer) → CanHave asks Done → (length row == command_length (command_row_kind asks) + 1) ≡ true
    → Says (and_then (expect_keyword row (command_length (command_row_kind asks)) (word_of_answer said.Done)) (λ _. Ok Done)) answer → Ends row asks answer
unfolding answer_fields
done-ends row asks answer can long e = grind (arith, nat_tests, and_after, read-as, word-there, eqb-true)

departure-ends : (row : Row) (caller moment : ℕ) (answer : Answer) → has_length kind.Depart (length row) ≡ true → Says (departure_at row) answer
    → Ends row (fields.Command caller (Depart moment)) answer
unfolding departure_at answer_fields
departure-ends row caller moment answer long e = by (length row == 4) refl long e
  where
    by : (b : Bool) → (length row == 4) ≡ b → (b || (length row == 7)) ≡ true
        → Says (if b then and_then (expect_keyword row 3 (word_of_answer said.Empty)) (λ _. Ok Empty) else and_then (expect_keyword row 3 (word_of_answer said.Left))
        (λ _. and_then (packet_at row 4) (λ packet. Ok (Left packet)))) answer
        → Ends row (fields.Command caller (Depart moment)) answer
    by true four long e =
        let a = and_after (expect_keyword row 3 (word_of_answer said.Empty)) _ answer e in
        read-as (Ends row (fields.Command caller (Depart moment))) Empty answer a.rest (record {
          has = (word-there row 3 (word_of_answer said.Empty) a.got a.is, tt);
          long = eqb-true (length row) 4 four;
          can = refl;
          numbers = tt;
        })
    by false four long e =
        let a = and_after (expect_keyword row 3 (word_of_answer said.Left)) _ answer e in
        let p = and_after (packet_at row 4) _ answer a.rest in
        let read = packet-read row 4 p.got p.is in
        read-as (Ends row (fields.Command caller (Depart moment))) (Left p.got) answer p.rest (record {
          has = (word-there row 3 (word_of_answer said.Left) a.got a.is, (read.tag, (read.size, (read.ecn, tt))));
          long = eqb-true (length row) 7 long;
          can = refl;
          numbers = read.fits;
        })

update-ends : (row : Row) (caller moment : ℕ) (answer : Answer) → (length row == 6) ≡ true → Says (update_at row) answer
    → Ends row (fields.Command caller (Update moment)) answer
unfolding update_at answer_fields
update-ends row caller moment answer long e =
    let a = number-then row 3 most_u64 _ answer (omega arith) e in
    let b = number-then row 4 most_u64 _ answer (omega arith) a.rest in
    let c = number-then row 5 most_u64 _ answer (omega arith) b.rest in
    read-as (Ends row (fields.Command caller (Update moment))) (Updated a.got b.got c.got) answer c.rest (record {
      has = (a.there, (b.there, (c.there, tt)));
      long = eqb-true (length row) 6 long;
      can = refl;
      numbers = (a.small, b.small, c.small);
    })

answer-ends : (row : Row) (asks : CommandFields) (answer : Answer) → has_length (command_row_kind asks) (length row) ≡ true
    → Says (answer_at row (command_row_kind asks)) answer → Ends row asks answer
unfolding answer_at answer_fields
answer-ends row (fields.Command caller (Arrive moment packet w)) answer long e =
    let field = field-read verdict_of (field_at row 7) flaw.Word answer e in
    let word = verdict-word field.text answer field.reads in
    let can = verdict-read moment packet w field.text answer field.reads in
    record {
      has = rw word (field.is, tt);
      long = rw word (eqb-true (length row) 8 long);
      can = can.0;
      numbers = can.1;
    }
answer-ends row (fields.Command caller (Depart moment)) answer long e = departure-ends row caller moment answer long e
answer-ends row (fields.Command caller (Update moment)) answer long e = update-ends row caller moment answer long e
answer-ends row (fields.Command caller (Reset moment)) answer long e = done-ends row _ answer refl long e
answer-ends row (fields.Command caller (SetParams moment params)) answer long e = done-ends row _ answer refl long e
answer-ends row (fields.BadParams change) answer long e = done-ends row _ answer refl long e

-- ---- a line that was read: its numbers fit their types, and its record, except a note's, is the record that is written for it

abbrev IsReadFrom : Row → Line → Type 0
IsReadFrom row parsed = LineFits parsed × (line_rows parsed ≡ rows_unless_note parsed row)

event-read : (row : Row) (k : CommandKind) (parsed : Line) → command_kind row ≡ Some k → Says (event_line row k) parsed → IsReadFrom row parsed
unfolding event_line
event-read row k parsed known e =
    let long = tested (has_length k (length row)) _ _ parsed e in
    let a = and_after (command_at row k) _ parsed long.1 in
    let b = and_after (answer_at row k) (λ (answer : Answer). let it : Result Line RecordFault = Ok (line_for a.got answer) in it) parsed a.rest in
    let read = command-read row k a.got a.is in
    let ends = answer-ends row a.got b.got (subst (λ (k : CommandKind). has_length k (length row) ≡ true) read.kind long.0)
    (subst (λ (k : CommandKind). Says (answer_at row k) b.got) read.kind b.is) in
    read-as (IsReadFrom row) (line_for a.got b.got) parsed b.rest (by a.got b.got read ends)
  where
    whole : (asks : CommandFields) (answer : Answer) → Reads row k asks → Ends row asks answer → command_row_fields asks ++ answer_fields answer ≡ row
    whole asks answer read ends =
        let fields = command_row_fields asks in
        let shape = command-shape asks (answer_fields answer) in
        let kind = rw read.kind at (kind-has row k known) in
        let front : HasAll row 0 fields = subst (λ (fields : Row). HasAll row 0 fields) (sym shape.0) (kind, read.has) in
        let zero-is : length fields ≡ 0 + length fields = omega arith in
        let back : HasAll row (length fields) (answer_fields answer) = rw shape.1 at ends.has in
        let long : length row ≡ length (fields ++ answer_fields answer) = ends.long ∙ rw shape.1 (sym (length-append fields (answer_fields answer))) in
        sym (has-all row 0 (fields ++ answer_fields answer) (omega (arith, long)) (has-behind row 0 fields (answer_fields answer) front
        (subst (λ (n : ℕ). HasAll row n (answer_fields answer)) zero-is back)))

    by : (asks : CommandFields) (answer : Answer) → Reads row k asks → Ends row asks answer → IsReadFrom row (line_for asks answer)
    by (fields.Command caller command) answer read ends = (
      record { kind = ends.can; caller = read.fits.0; command = read.fits.1; answer = ends.numbers },
      ap (λ (r : Row). r ∷ []) (whole (fields.Command caller command) answer read ends),
    )
    by (fields.BadParams change) answer read ends =
        (read.fits, ap (λ (r : Row). r ∷ []) (rw ends.can at (whole (fields.BadParams change) answer read ends)))

clock-parsed : (version : Version) (row : Row) (parsed : Line) → is_kind row (codes "clock") ≡ true
    → Says (and_then (clock_in version row) (λ clock. Ok (line.Clock clock))) parsed → IsReadFrom row parsed
clock-parsed version row parsed is e =
    let a = and_after (clock_in version row) (λ (clock : Clock). let it : Result Line RecordFault = Ok (line.Clock clock) in it) parsed e in
    let read = clock-read version row a.got a.is in
    read-as (IsReadFrom row) (line.Clock a.got) parsed a.rest (read.fits, ap (λ (r : Row). r ∷ []) (sym (read.is is)))

noted : (row : Row) (parsed : Line) → parsed ≡ line.Note → IsReadFrom row parsed
noted row parsed e = rw e (tt, refl)

pub reads-line : (version : Version) (row : Row) (parsed : Line) → line_of version row ≡ Ok parsed → IsReadFrom row parsed
unfolding line_of note_line shown_line registers_at
reads-line version row parsed e = by (command_kind row) refl e
  where
    by : (o : Option CommandKind) → command_kind row ≡ o → Says (line_by o version row) parsed → IsReadFrom row parsed
    by (Some k) known e = event-read row k parsed known e
    by None known e =
        one-way (is_kind row (codes "refused")) _ _ _ e (λ is e. noted row parsed (grind (arith, nat_tests, e))) (λ e.
        one-way (is_kind row (codes "folded")) _ _ _ e (λ is e. noted row parsed (grind (arith, nat_tests, e))) (λ e.
        one-way (is_kind row (codes "shown")) _ _ _ e (λ is e. noted row parsed (grind (arith, nat_tests, e))) (λ e.
        one-way (is_kind row (codes "tallied")) _ _ _ e (λ is e. noted row parsed (grind (arith, nat_tests, e))) (λ e.
        one-way (is_kind row (codes "clock")) _ _ _ e (clock-parsed version row parsed) (λ e. absurd (no-flaw flaw.Kind parsed e))))))

pub lines_written : (row : Row) (parsed : Line) → IsRecordOf row parsed → line_rows parsed ≡ rows_unless_note parsed row
lines_written row parsed is = (reads-line is.version row parsed is.reads).1

pub lines-fit : (version : Version) (max_records number : ℕ) (rows : List Row) → All LineFits (lines_from version max_records number rows)
lines-fit version max_records number rows = read-all LineFits version max_records number rows (λ row parsed e. (reads-line version row parsed e).0)

-- ---- an event's record is read as it was written

record AnswerBack (row : Row) (kind : CommandKind) (answer : Answer) : Type 0 where
  long : has_length kind (length row) ≡ true
  reads : answer_at row kind ≡ Ok answer

answer-back : (asks : CommandFields) (answer : Answer) → CanHave asks answer → AnswerFits answer
    → AnswerBack (command_row_fields asks ++ answer_fields answer) (command_row_kind asks) answer
unfolding answer_at verdict_of departure_at update_at packet_at field_at command_fields answer_fields
answer-back asks answer can f = grind (arith, nat_tests, back_u64, back_u32, back_ecn)

line-back : (version : Version) (asks : CommandFields) (answer : Answer) → CommandFieldsFit asks → CanHave asks answer → AnswerFits answer
    → line_of version (command_row_fields asks ++ answer_fields answer) ≡ Ok (line_for asks answer)
unfolding line_of event_line
line-back version asks answer fits can numbers = grind (arith, nat_tests, answer-back, command-shape, command-back)

-- the record of a command followed by an answer that the command can have
pub answered_back : (version : Version) (row : Row) (caller : ℕ) (command : Command) (answer : Answer)
    → request_of version row ≡ Ok (request.Apply caller command) → fits command answer ≡ true → AnswerFits answer
    → line_of version (row ++ answer_fields answer) ≡ Ok (made caller command answer)
answered_back version row caller command answer e can said =
    let written = command-as-written version row caller command e in
    ap (λ (r : Row). line_of version (r ++ answer_fields answer)) written.is
    ∙ line-back version (fields.Command caller command) answer written.fits can said

-- the record of an event
pub event-back : (version : Version) (event : Event) → EventFits event → line_of version (event_row event) ≡ Ok (line.Valid event)
event-back version event fits = line-back version (fields.Command event.caller event.command) event.answer (fits.caller, fits.command) fits.kind fits.answer

-- the line of a wall-clock record, from version three on
clock-line : (version : Version) (clock : Clock)
    → line_of version (clock_row clock) ≡ and_then (clock_in version (clock_row clock)) (λ clock. Ok (line.Clock clock))
unfolding line_of command_kind field_at clock_row
clock-line version clock = refl

pub clock_reads : (version : Version) (row : Row) (clock : Clock) → request_of version row ≡ Ok (request.Clock clock)
    → line_of version row ≡ Ok (line.Clock clock)
clock_reads version row clock e =
    let written = clock-as-written version row clock e in
    ap (line_of version) written.0 ∙ clock-line version clock
    ∙ rw (subst (λ (r : Row). clock_in version r ≡ Ok clock) written.0 written.1.reads) refl

clock-back : (clock : Clock) → ClockFits clock → line_of Three (clock_row clock) ≡ Ok (line.Clock clock)
unfolding line_of command_kind field_at clock_row clock_in
clock-back clock fits = grind (arith, nat_tests, number-back)

-- the records of a line that was read are read as that line, and those of a note as no line
pub line-again : (parsed : Line) → LineFits parsed → AreLinesOf Three (line_rows parsed) (without_notes (parsed ∷ []))
unfolding AreLinesOf
line-again (line.Valid event) fits = (event-back Three event fits, tt)
line-again (line.Invalid change) fits = (line-back Three (fields.BadParams change) Done fits refl tt, tt)
line-again line.Note fits = tt
line-again (line.Clock clock) fits = (clock-back clock fits, tt)

-- ---- notes

pub refused_note : (version : Version) (record_number code : ℕ) → record_number < 2 ^ 64 → code < 2 ^ 64
    → line_of version (refused_row record_number code) ≡ Ok line.Note
unfolding line_of command_kind note_line numbers_at field_at refused_row
refused_note version record_number code a b = rw (back_u64 record_number a, back_u64 code b) refl

pub folded_note : (version : Version) (n : ℕ) → n < 2 ^ 64 → line_of version (folded_row n) ≡ Ok line.Note
unfolding line_of command_kind note_line numbers_at field_at folded_row
folded_note version n a = rw (back_u64 n a) refl

back-flag : (b : Bool) → number 1 (decimal (flag b)) ≡ Some (flag b)
back-flag b = number-back 1 (flag b) (grind (arith, nat_tests)) (grind (arith, nat_tests))

registers-back : (r : Registers) (version : Version) → RegistersFit r → registers_at (shown_row version r) ≡ Ok tt
unfolding registers_at field_at shown_row
registers-back r version f =
    let row = shown_row version r in
    rw (
      numbers-back row 1 (r.count ∷ r.moment ∷ []) (search rules) (search rules),
      back_u32 r.packets f.packets,
      numbers-back row 4 (r.bytes ∷ r.prob ∷ r.old ∷ r.accu ∷ r.burst ∷ r.last ∷ r.average ∷ []) (search rules) (search rules),
    ) refl

active-note : (r : Registers) → RegistersFit r → active_line (shown_row Two r) ≡ Ok line.Note
unfolding field_at shown_row
active-note r f = rw (registers-back r Two f, back-flag r.measuring, back-flag r.active) refl

pub shown_note : (version : Version) (r : Registers) → RegistersFit r → line_of version (shown_row version r) ≡ Ok line.Note
unfolding line_of command_kind shown_line field_at shown_row
shown_note One r f = rw (registers-back r One f, back-flag r.measuring) refl
shown_note _ r f = active-note r f

pub tallied_note : (version : Version) (s : Stats) → StatsFit s → line_of version (tallied_row s) ≡ Ok line.Note
unfolding line_of command_kind note_line field_at tallied_row
tallied_note version s f =
    rw (
      numbers-back (tallied_row s) 1 (counted s) (search rules) (search rules),
      number-back most_u128 s.waited (omega (arith, f.waited)) f.waited,
    ) refl

are_default-true : (p : RawParams) → are_default p ≡ true → p ≡ default_profile
are_default-true p e = grind (arith, nat_tests, e)

-- ---- the numbers of an opening, and its parameters or nothing

abbrev pub numbers_row : ℕ → Limits → Row → Row
numbers_row moment limits params = map decimal (moment ∷ limits.packets ∷ limits.tail ∷ limits.events ∷ []) ++ params

-- the draft of these numbers, parameters and choices
abbrev pub drafted : ℕ → Limits → RawParams → Choices → Result Draft RecordFault
drafted moment limits params choices = Ok (record { moment = moment; limits = limits; params = params; choices = choices })

params-after : (a b c d : List ℕ) (params : RawParams) (more : Row) → NineFit params
    → params_at (a ∷ b ∷ c ∷ d ∷ (map decimal (nine_of params) ++ more)) 4 ≡ Ok params
unfolding params_at numbers_at field_at
params-after a b c d params more fits = params-back params more fits

longer : (a b c d e : List ℕ) (more : Row) → (length (a ∷ b ∷ c ∷ d ∷ e ∷ more) == 4) ≡ false
longer a b c d e more = ne_eqb (length (a ∷ b ∷ c ∷ d ∷ e ∷ more)) 4 (λ same. omega (arith, same))

-- the numbers and the nine parameters are read as their draft, whatever fields follow: computing skips the fields before them
pub long-draft : (choices : Choices) (moment : ℕ) (limits : Limits) (params : RawParams) (more : Row) → moment < 2 ^ 64 → LimitsFit limits
    → NineFit params
    → draft_at (numbers_row moment limits (map decimal (nine_of params) ++ more)) 0 choices ≡ drafted moment limits params choices
unfolding draft_at limits_at field_at
long-draft choices moment limits params more small fits nine =
    rw (back_u64 _ small, back_u32 _ fits.packets, back_u32 _ fits.tail, back_u64 _ fits.events, longer, params-after _ _ _ _ params more nine) refl

-- the fields of the parameters: none in the short form, in which the parameters are the defaults
abbrev params_row : RawParams → Bool → Row
params_row params short = if short then [] else map decimal (nine_of params)

draft-back : (choices : Choices) (moment : ℕ) (limits : Limits) (params : RawParams) (short : Bool) → are_default params ≡ short → moment < 2 ^ 64
    → LimitsFit limits → ParamsFit params
    → draft_at (numbers_row moment limits (params_row params short)) 0 choices ≡ drafted moment limits params choices
unfolding draft_at limits_at field_at
draft-back choices moment limits params true same small fits set =
    rw (back_u64 moment small, back_u32 limits.packets fits.packets, back_u32 limits.tail fits.tail, back_u64 limits.events fits.events)
    (ap (λ (p : RawParams). drafted moment limits p choices) (sym (are_default-true params same)))
draft-back choices moment limits params false other small fits set =
    long-draft choices moment limits params [] small fits (nine-of-fits params set)

-- an accepted draft opens its own values, if a first record of this kind may have its limits
accepted-draft : (kind : FirstKind) (moment : ℕ) (limits : Limits) (params : RawParams) (choices : Choices) → opening_refusal limits moment ≡ None
    → first_bad params ≡ None → holds_limits kind limits ≡ true
    → opening_read kind (drafted moment limits params choices) ≡ Ok (record { moment = moment; limits = limits; params = params; choices = choices })
accepted-draft kind moment limits params choices accepted good held = rw (good, held, accepted) refl

-- ---- the record of an earlier version than three

abbrev chosen : Profile → Mode → Choices
chosen profile mode = record { mode = mode; profile = profile; elements = usual }

-- the kind of a first record of version one or two
abbrev earlier_kind : Profile → Mode → FirstKind
earlier_kind profiles.One Bounded = kinds.Open
earlier_kind profiles.One Rolling = kinds.Rolling
earlier_kind profiles.Two mode = kinds.Open2

held-earlier : (profile : Profile) (mode : Mode) (limits : Limits) → are_of_version_two limits ≡ true
    → holds_limits (earlier_kind profile mode) limits ≡ true
held-earlier profile mode limits e = grind (arith, nat_tests, e)

earlier-read : (profile : Profile) (mode : Mode) (moment : ℕ) (limits : Limits) (params : RawParams) (short : Bool)
    → opening_of (earlier_row profile mode ++ numbers_row moment limits (params_row params short))
    ≡ opening_read (earlier_kind profile mode) (draft_at (numbers_row moment limits (params_row params short)) 0 (chosen profile mode))
unfolding opening_of first_kind version_one_fields version_two_fields profile_of one_of_two draft_at limits_at params_at numbers_at field_at
earlier-read profile mode moment limits params short = grind (arith, nat_tests)

usual-elements : (e : Elements) → are_usual e ≡ true → e ≡ usual
usual-elements e same = grind (arith, nat_tests, same)

-- ---- version three: each of its keywords is read back

-- the draft of a record with these keywords
pub chosen-read : (row : Row) (c : Choices) (has_decay : Bool) (place : ℕ) → field_at row 1 ≡ Some (profile_number c.profile)
    → field_at row 2 ≡ Some (delay_word c.elements.delay) → field_at row 3 ≡ Some (picking_word c.elements.picking)
    → field_at row 4 ≡ Some (step_word c.elements.step) → field_at row 5 ≡ Some (size_word c.elements.size)
    → decay_at row 6 has_decay ≡ Ok c.elements.decay → field_at row place ≡ Some (mode_word c.mode) → chosen_at row has_decay place ≡ draft_at row (place + 1) c
unfolding chosen_at profile_of one_of_two
chosen-read row c has_decay place profile delay picking step size decay mode = grind (arith, nat_tests)

-- the choices with another decay; one of the two decays makes the record a field longer
abbrev decaying : Choices → Decay → Choices
decaying c decay = record c { elements = record c.elements { decay = decay } }

three-read : (word : List ℕ) (c : Choices) (moment : ℕ) (limits : Limits) (params : RawParams) (short : Bool)
    → first_fields (word ∷ (chosen_row c ++ numbers_row moment limits (params_row params short))) kinds.Open3
    ≡ draft_at (numbers_row moment limits (params_row params short)) 0 c
unfolding version_three_fields draft_at limits_at params_at numbers_at field_at one_of_two
three-read word c moment limits params short = by c.elements.decay short
  where
    row : Decay → Bool → Row
    row decay short = word ∷ (chosen_row (decaying c decay) ++ numbers_row moment limits (params_row params short))

    by : (decay : Decay) (short : Bool) → first_fields (row decay short) kinds.Open3
        ≡ draft_at (numbers_row moment limits (params_row params short)) 0 (decaying c decay)
    by Zero true = chosen-read (row Zero true) (decaying c Zero) false 6 refl refl refl refl refl refl refl
    by Zero false = chosen-read (row Zero false) (decaying c Zero) false 6 refl refl refl refl refl refl refl
    by Half true = chosen-read (row Half true) (decaying c Half) true 7 refl refl refl refl refl refl refl
    by Half false = chosen-read (row Half false) (decaying c Half) true 7 refl refl refl refl refl refl refl

pub opening-back : (o : Opening) → opening_refusal o.limits o.moment ≡ None → ParamsFit o.params → opening_of (opening_row o) ≡ Ok o
unfolding opening_row opening_of first_kind field_at
opening-back o accepted set = by (is_earlier o) (are_default o.params) refl refl
  where
    small : o.moment < 2 ^ 64
    small = grind (arith, accepted)

    limited : LimitsFit o.limits
    limited = record { packets = grind (arith, accepted); tail = grind (arith, accepted); events = grind (arith, accepted) }

    by : (early short : Bool) → is_earlier o ≡ early → are_default o.params ≡ short
        → opening_of ((if early then earlier_row o.choices.profile o.choices.mode else version_three_row o.choices)
        ++ numbers_row o.moment o.limits (params_row o.params short)) ≡ Ok o
    by true short early same =
        let each = and_parts (are_usual o.choices.elements) (are_of_version_two o.limits) early in
        let kind = earlier_kind o.choices.profile o.choices.mode in
        let choices = chosen o.choices.profile o.choices.mode in
        earlier-read o.choices.profile o.choices.mode o.moment o.limits o.params short
        ∙ ap (opening_read kind) (draft-back choices o.moment o.limits o.params short same small limited set)
        ∙ accepted-draft kind o.moment o.limits o.params choices accepted set.in_range
        (held-earlier o.choices.profile o.choices.mode o.limits each.1)
        ∙ ap (λ (e : Elements). let opened : Result Opening TraceFault = Ok (record {
          moment = o.moment;
          limits = o.limits;
          params = o.params;
          choices = record { mode = o.choices.mode; profile = o.choices.profile; elements = e };
        }) in opened) (sym (usual-elements o.choices.elements each.0))
    by false short late same =
        ap (opening_read kinds.Open3) (three-read _ o.choices o.moment o.limits o.params short
        ∙ draft-back o.choices o.moment o.limits o.params short same small limited set)
        ∙ accepted-draft kinds.Open3 o.moment o.limits o.params o.choices accepted set.in_range refl

pub checked : (kind : FirstKind) (draft : Draft) (opening : Opening) → checked_opening kind (first_bad draft.params) draft ≡ Ok opening
    → Checked draft opening
checked kind draft opening e =
    let good : first_bad draft.params ≡ None = grind (arith, nat_tests, e) in by (opening_refusal draft.limits draft.moment) refl (rw good at e) good
  where
    by : (why : Option OpenRefusal) → opening_refusal draft.limits draft.moment ≡ why
        → (if holds_limits kind draft.limits then refused_opening why draft else Err (fault.Opening open_fault.Limits)) ≡ Ok opening
        → first_bad draft.params ≡ None → Checked draft opening
    by why is e good = record { same = grind (arith, nat_tests, e); accepted = grind (arith, nat_tests, is, e); in_range = good }

-- ---- rows of lines

pub remaining-read : (version : Version) (max_records number : ℕ) (rows : List Row) (lines : List Line) → number + length rows ≤ max_records + 1
    → AreLinesOf version rows lines
    → remaining_from version max_records number rows ≡ record { lines = lines; fault = None }
unfolding AreLinesOf lines_from fault_from
remaining-read version max_records number [] [] within read = refl
remaining-read version max_records number (row ∷ rows) (line ∷ lines) within read =
    grind (arith, nat_tests, line_in-line, remaining-read version max_records (number + 1) rows lines (omega arith) read.1)
remaining-read version max_records number _ _ within read = absurd read

-- a row that reads as a line has a field
pub field-reads : (version : Version) (row : Row) (line : Line) → line_of version row ≡ Ok line → HasField row
unfolding line_of command_kind field_at
field-reads version [] line e = cc
field-reads version (field ∷ rest) line e = omega arith

pub fields-read : (version : Version) (rows : List Row) (lines : List Line) → AreLinesOf version rows lines → All HasField rows
unfolding AreLinesOf
fields-read version [] lines read = All-nil HasField
fields-read version (row ∷ rows) [] read = absurd read
fields-read version (row ∷ rows) (line ∷ lines) read = grind (arith, nat_tests, field-reads, fields-read version rows lines read.1)

-- a text of a first record that opens the book and of rows of these lines
pub history-read : (kind : FirstKind) (rest : Row) (rows : List Row) (opening : Opening) (lines : List Line)
    → opening_of (kind_word kind ∷ rest) ≡ Ok opening
    → All HasField rows → AreLinesOf (version_of (kind_word kind ∷ rest)) rows lines → length rows < 2 ^ 32
    → IsHistoryText (rows_text ((kind_word kind ∷ rest) ∷ rows)) opening lines
unfolding history_opening history_version after_opening
history-read kind rest rows opening lines opens some read few = grind (arith, nat_tests, records_of-written, remaining-read)

-- ---- the text of a history

pub events-read : (version : Version) (events : List Event) → All EventFits events → AreLinesOf version (map event_row events) (map Valid events)
unfolding AreLinesOf
events-read version [] fit = tt
events-read version (event ∷ events) fit =
    (event-back version event (All-head EventFits event events fit), events-read version events (All-tail EventFits event events fit))

opening_row-begins : (o : Opening) → Begins (opening_row o)
unfolding opening_row
opening_row-begins o = grind (arith, nat_tests)

pub written-back : (opening : Opening) (events : List Event) → opening_refusal opening.limits opening.moment ≡ None → ParamsFit opening.params
    → All EventFits events → length events < 2 ^ 32
    → IsHistoryText (rows_text (written_rows opening events)) opening (map Valid events)
written-back opening events accepted set fit few =
    let first = opening_row-begins opening in
    let opens : opening_of (kind_word first.kind ∷ first.rest) ≡ Ok opening = ap opening_of (sym first.is) ∙ opening-back opening accepted set in
    let many = length-map events event_row in
    let read = events-read (version_of (kind_word first.kind ∷ first.rest)) events fit in
    subst (λ (row : Row). IsHistoryText (rows_text (row ∷ map event_row events)) opening (map Valid events)) (sym first.is)
    (history-read first.kind first.rest (map event_row events) opening (map Valid events) opens (fields-read _ _ _ read) read (omega arith))
