-- The contents of a valid text: an accepted opening, and parameters in their ranges.
use Rattle.std.proofs.lemmas.Bool.Decides.{nat_tests}
use Rattle.std.proofs.Common.{arith}
use Rattle.pie_guarantees.proofs.LawfulFacts.{◌≡◌, ℕ, List, [], ◌∷◌, subst, All, None, Some, Option, Result, Ok, Err, All-cons, All-head, All-nil, All-tail, first_bad, Command, Event, Opening, SetsInRange}
use Rattle.std.specs.List.{filter_map}
use Rattle.pie_event.specs.Event.{opening_refusal, CommandFits}
use Rattle.pie_record.specs.declared.fault.RecordFault.{RecordFault}
use Rattle.pie_record.specs.declared.first_record.Draft.{Draft}
use Rattle.pie_record.specs.declared.first_record.FirstKind.{FirstKind}
use Rattle.pie_record.specs.declared.history_record.Line.{Line}
use Rattle.pie_record.specs.declared.history_record.Line.TheVariants as line
use Rattle.pie_record.specs.FirstRecord.{first_fields, first_kind, opening_by, opening_of, opening_read}
use Rattle.pie_record.specs.HistoryLines.{history_opening}
use Rattle.pie_record.specs.ReadBack.{IsHistoryText}
use Rattle.pie_record.specs.Text.{Row, records_of}
use Rattle.pie_record.proofs.InputFacts.{LineFits, lines-fit}
use Rattle.pie_record.proofs.ReadBack.{checked}
use Rattle.pie_audit.specs.Replay.{event_in, events_of}

-- ---- the opening

pub record OpensWell (opening : Opening) : Type 0 where
  pub accepted : opening_refusal opening.limits opening.moment ≡ None
  pub in_range : first_bad opening.params ≡ None

row-opens : (row : Row) (opening : Opening) → opening_of row ≡ Ok opening → OpensWell opening
unfolding opening_of
row-opens row opening = by (first_kind row)
  where
    read : (kind : FirstKind) (o : Result Draft RecordFault) → opening_read kind o ≡ Ok opening → OpensWell opening
    read kind (Err what) e = cc
    read kind (Ok draft) e =
        let c = checked kind draft opening e in
        subst (λ (o : Opening). OpensWell o) c.same (record { accepted = c.accepted; in_range = c.in_range })

    by : (o : Option FirstKind) → opening_by o row ≡ Ok opening → OpensWell opening
    by None e = cc
    by (Some kind) e = read kind (first_fields row kind) e

pub opened_well : (text : List ℕ) (opening : Opening) (lines : List Line) → IsHistoryText text opening lines → OpensWell opening
unfolding history_opening
opened_well text opening lines is_text = by (records_of text) is_text.opens
  where
    by : (rows : List Row) → history_opening rows ≡ Ok opening → OpensWell opening
    by [] e = cc
    by (row ∷ rows) e = row-opens row opening e

-- ---- the lines of a text

in-range : (command : Command) → CommandFits command → SetsInRange command
in-range command fits = grind (arith, nat_tests)

sets : (lines : List Line) → All LineFits lines → All (λ event. SetsInRange event.command) (events_of lines)
unfolding events_of
sets [] all = All-nil (λ (event : Event). SetsInRange event.command)
sets (line.Valid event ∷ lines) all =
    All-cons (λ (e : Event). SetsInRange e.command) event (filter_map event_in lines)
    (in-range event.command (All-head LineFits (line.Valid event) lines all).command) (sets lines (All-tail LineFits (line.Valid event) lines all))
sets (line.Invalid change ∷ lines) all = sets lines (All-tail LineFits (line.Invalid change) lines all)
sets (line.Note ∷ lines) all = sets lines (All-tail LineFits line.Note lines all)
sets (line.Clock clock ∷ lines) all = sets lines (All-tail LineFits (line.Clock clock) lines all)

pub sets_read : (text : List ℕ) (opening : Opening) (lines : List Line) → IsHistoryText text opening lines
    → All (λ event. SetsInRange event.command) (events_of lines)
sets_read text opening lines is_text = grind (arith, nat_tests, sets, lines-fit)
