-- Facts about the event that a reader decides again: no line before it is the first difference with its number.
use Rattle.std.proofs.Common.{◌∙◌, ap, append_assoc, arith, refl, subst, sym}
use Rattle.std.specs.Option.{option_or}
use Rattle.std.specs.Prelude.{ℕ, Bool, true, false, List, [], Option, Some, None, Result, Ok, Err, IfSome, cond, map, if◌then◌else◌, ◌≡◌, ◌+◌, ◌<◌, ◌∷◌, ◌++◌}
use Rattle.pie_aqm.specs.Steps.{delay_in}
use Rattle.pie_explain.proofs.ExplainFacts.{ended-by, explained-by}
use Rattle.pie_explain.proofs.Names.{along-push, append-nil, count-push, difference-push, nat_tests}
use Rattle.pie_audit.specs.{Replay.AuditorView, Replay.difference_from, Replay.differs_from, Replay.finding_by, Replay.line_places, Replay.Origin, Replay.RepresentsAfter, Replay.at_core, Replay.at_opening, Replay.count_after, Replay.start_after, Replay.start_at, Replay.Replays, Replay.next_number, Replay.Start, Beginnings.ReplaysText, Text.BeginsAtCore, Text.remaining_of, Text.text_fault}
use Rattle.pie_audit.specs.declared.{auditor.Finding.TheVariants.Differs, replay.Replay.Replay}
use Rattle.pie_book.specs.{Core.CoreView, Core.Represents, Core.answer_in, Core.core_after, Core.refusal_of, Core.registers_of, Decision.wait_of, Book.refused_or, Book.step_in}
use Rattle.pie_book.proofs.CoreFacts.{next_decided, refusal_is}
use Rattle.pie_event.specs.Event.{effect}
use Rattle.pie_event.specs.declared.{command.Answer.Answer, command.Command.Command, command.Event.Event, opening.Opening.Opening, refusal.Refusal.Refusal, registers.Registers.Registers, command.Setter.Setter}
use Rattle.pie_excerpt.specs.Beginning.{Beginning, beginning_of}
use Rattle.pie_explain.specs.{DecidedEvent.DecidesAfter, DecidedEvent.DecidesEvent, DecidedEvent.HasReached, DecidedEvent.IsDecided, DecidedEvent.IsPast, DecidedEvent.last_decided, DecidedEvent.decision_at, DecidedEvent.decision_by, DecidedEvent.result_after, DecidedEvent.wait_if_decided, DecidedEvent.with_answer, Explanation.explanation_in, Explanation.with_core}
use Rattle.pie_explain.specs.declared.{decided_event.DecidedEvent.DecidedEvent, decided_event.EventDecision.EventDecision, decided_event.EventDecision.TheVariants.Answered, explanation.Explained.Explained, explanation.Explanation.Explanation}
use Rattle.pie_record.specs.{HistoryLines.RemainingLines, HistoryLines.event_count, HistoryLines.is_event, Text.Row}
use Rattle.pie_record.specs.declared.{clock.Clock.Clock, fault.TraceFault.TraceFault, history_record.Line.Line, history_record.Line.TheVariants.Invalid, history_record.Line.TheVariants.Valid}
use Rattle.pie_queue.specs.Queue.{bytes_of}

-- the lines that were read after any others were decided again, the first difference among them does not have this number, and none of the decided
-- events has it
abbrev pub Passed : ℕ → Replay → Replay → List Line → Type 0
Passed number old new seen = (start : Start) (origin : Origin) (first : List Line) → Replays start origin first old.auditor old.set_by
    → Replays start origin (first ++ seen) new.auditor new.set_by
    × (difference_from origin first ≡ None → difference_from origin (first ++ seen) ≡ Some number → ⊥)
    × IsPast origin first (first ++ seen) number

-- before the first line
pub passed_none : (number : ℕ) (replay : Replay) → Passed number replay replay []
passed_none number replay start origin first before =
    subst (λ (lines : List Line). Replays start origin lines replay.auditor replay.set_by
    × (difference_from origin first ≡ None → difference_from origin lines ≡ Some number → ⊥) × IsPast origin first lines number)
    (sym (append-nil first)) (
      before,
      λ none some. let wrong = sym none ∙ some in cc,
      λ none under. rw none under,
    )

-- a line that differs is an event
differing : (origin : Origin) (lines : List Line) (line : Line) → differs_from origin lines line ≡ true → is_event line ≡ true
differing origin lines (Valid event) found = refl
differing origin lines (Invalid change) found = refl
differing origin lines _ found = cc

pub not-here : (origin : Origin) (lines : List Line) (line : Line) (number : ℕ) → (difference_from origin lines ≡ Some number → ⊥)
    → (is_event line ≡ true → next_number (difference_from origin lines) (count_after origin lines) ≡ Some number → ⊥)
    → difference_from origin (lines ++ line ∷ []) ≡ Some number → ⊥
not-here origin lines line number before other is =
    by (difference_from origin lines) (differs_from origin lines line) (is_event line) (count_after origin lines) (differing origin lines line) before other
    (sym (difference-push origin lines line) ∙ is)
  where
    by : (found : Option ℕ) (differs event : Bool) (count : ℕ) → (differs ≡ true → event ≡ true) → (found ≡ Some number → ⊥)
        → (event ≡ true → next_number found count ≡ Some number → ⊥)
        → option_or found (if differs then Some (count + 1) else None) ≡ Some number → ⊥
    by (Some event) differs is count events before other same = before same
    by None true is count events before other same = other (events refl) same
    by None false is count events before other same = cc

-- one line more, which is no event with this number
pub still-past : (origin : Origin) (first lines : List Line) (line : Line) (number : ℕ) → IsPast origin first lines number
    → (is_event line ≡ true → next_number (difference_from origin lines) (count_after origin lines) ≡ Some number → ⊥)
    → IsPast origin first (lines ++ line ∷ []) number
still-past origin first lines line number before other none under =
    rw (difference-push origin lines line, count-push origin lines line) (by (difference_from origin lines) (differs_from origin lines line)
    (is_event line) (count_after origin lines) (differing origin lines line) (before none under) other)
  where
    past : (count : ℕ) → count < number → (Some (count + 1) ≡ Some number → ⊥) → count + 1 < number
    past count under other = let ne : count + 1 ≡ number → ⊥ = λ e. other (ap (λ (n : ℕ). Some n) e) in grind (arith, nat_tests, ne, under)

    by : (found : Option ℕ) (differs event : Bool) (count : ℕ) → (differs ≡ true → event ≡ true) → last_decided (finding_by found count) < number
        → (event ≡ true → next_number found count ≡ Some number → ⊥)
        → last_decided (finding_by (option_or found (if differs then Some (count + 1) else None)) (count + cond event 1 0)) < number
    by (Some event) differs is count events under other = under
    by None true true count events under other = past count under (other refl)
    by None true false count events under other = let wrong = events refl in cc
    by None false true count events under other = past count under (other refl)
    by None false false count events under other = omega (arith, under)

-- ---- the decision on an event

-- the answer of a result that is no refusal
answer-is : (refused : Option Refusal) (answer given : Answer) → Ok answer ≡ refused_or refused given → answer ≡ given
answer-is None answer given is = cc
answer-is (Some why) answer given is = cc

-- an explanation with another answer, the time in the queue that belongs to it, and the numbers after it
abbrev pub explained_with : Explanation → Answer → ℕ → Registers → ℕ → Explained
explained_with found answer waited after delay =
    record { explanation = record found { event = with_answer found.event answer; waited = waited }; after = after; delay = delay }

-- the result of a core's step is that of the rules after the events before it, and the core then represents one event more
result-by : (origin : Origin) (core : CoreView) (events : List Event) (command : Command) → RepresentsAfter origin core events
    → step_in core command ≡ result_after origin events command
result-by (at_opening opening) core events command shows =
    λ i. refused_or (refusal_is opening core events shows command i) (next_decided opening core events shows command i)
result-by (at_core opening first it) core events command stands = ap (λ (c : CoreView). step_in c command) stands

stepped : (origin : Origin) (core later : CoreView) (events : List Event) (event : Event) → later ≡ core_after core event.command
    → ((opening : Opening) (history : List Event) → Represents opening core history → Represents opening later (history ++ event ∷ []))
    → RepresentsAfter origin core events → RepresentsAfter origin later (events ++ event ∷ [])
stepped (at_opening opening) core later events event is represents shows = represents opening events shows
stepped (at_core opening first it) core later events event is represents stands =
    is ∙ ap (λ (c : CoreView). core_after c event.command) stands ∙ sym (along-push first events event)

module _ (core later : CoreView) (number : ℕ) (event : Event) (set_by : Setter) (clock : Option Clock) (answer : Answer) (found : Explanation)
    (waited : ℕ) (after : Registers) (delay : ℕ) where
  -- the result of the core's own step
  abbrev pub StepsTo : Type 0
  StepsTo = (found ≡ explanation_in core number event set_by clock) × (waited ≡ wait_if_decided core event.command found.moment)
      × (Ok answer ≡ step_in core event.command) × (later ≡ core_after core event.command)
      × (after ≡ registers_of later) × (delay ≡ delay_in later.controller (bytes_of later.waiting))

  pub decided-is : (origin : Origin) (events : List Event) → StepsTo
      → ((opening : Opening) (history : List Event) → Represents opening core history → Represents opening later (history ++ with_answer event answer ∷ []))
      → RepresentsAfter origin core events
      → Answered (explained_with found answer waited after delay)
      ≡ decision_by origin events number event set_by clock (result_after origin events event.command)
  unfolding explanation_in
  decided-is origin events steps represents shows =
      let given : answer ≡ answer_in core event.command = answer-is (refusal_of core event.command) _ _ steps.2 in
      let own : explained_with found answer waited after delay
      ≡ with_core later (explanation_in core number (with_answer event answer) set_by clock) = λ i. record {
        explanation = record (steps.0 i) {
          event = with_answer (steps.0 i).event answer;
          waited = (steps.1 ∙ (λ j. wait_of (effect event.command (sym given j)) (steps.0 j).moment core.waiting)) i;
        };
        after = steps.4 i;
        delay = steps.5 i;
      } in
      ap Answered (own ∙ ap (with_core later) (explained-by origin core events number (with_answer event answer) set_by clock shows)
      ∙ ended-by origin later (events ++ with_answer event answer ∷ []) _ (stepped origin core later events _ steps.3 represents shows))
      ∙ ap (λ (r : Result Answer Refusal). decision_by origin events number event set_by clock r)
      (steps.2 ∙ result-by origin core events event.command shows)

-- ---- the text

-- the event that was reached is decided by its place
pub reached-decided : (start : Start) (origin : Origin) (first : List Line) (all : RemainingLines) (number : ℕ) (auditor : AuditorView) (set_by : Setter)
    (line : Line) (decision : EventDecision) → HasReached start origin first all number auditor set_by line
    → ((lines : List Line) → Replays start origin lines auditor set_by → number ≡ count_after origin lines + 1 → decision ≡ decision_at start origin lines line)
    → IsDecided start origin (first ++ all.lines) number (record { recorded = line; decision = decision })
reached-decided start origin first all number auditor set_by line decision reached decides = record {
  before = first ++ reached.seen;
  later = reached.later;
  split = ap (λ (ls : List Line). first ++ ls) reached.split ∙ sym (append_assoc first reached.seen (line ∷ reached.later));
  event = reached.event;
  agree = sym reached.replays.audits.differs ∙ reached.agree;
  counted = reached.counted;
  decision = decides (first ++ reached.seen) reached.replays reached.counted;
}

finding-differs : (found : Option ℕ) (count number : ℕ) → finding_by found count ≡ Differs number → found ≡ Some number
finding-differs None count number is = cc
finding-differs (Some event) count number is = cc

none-first : (origin : Origin) → difference_from origin [] ≡ None
unfolding difference_from line_places
none-first origin = refl

count-first : (opening : Opening) (core : CoreView) (set_by : Option ℕ) (number : ℕ) → core.count < number
    → count_after (at_core opening core set_by) [] < number
unfolding event_count
count-first opening core set_by number after = omega (arith, after)

pub faulted : (rows : List Row) (why : TraceFault) → beginning_of rows ≡ Err why → text_fault rows ≡ Some why
unfolding text_fault
faulted rows why is = rw is refl

-- the beginning of a text that has no fault
abbrev pub IsBegun : List Row → Type 0
IsBegun rows = (begun : Beginning) × (beginning_of rows ≡ Ok begun)

begun-by : (rows : List Row) (known : Result Beginning TraceFault) → beginning_of rows ≡ known → ((why : TraceFault) → beginning_of rows ≡ Err why → ⊥)
    → IsBegun rows
begun-by rows (Ok begun) is none = (begun, is)
begun-by rows (Err why) is none = absurd (none why is)

at-core : (rows : List Row) (begun : Beginning) → beginning_of rows ≡ Ok begun → BeginsAtCore rows begun.opening begun.core begun.set_by
at-core rows begun is = (begun.version, begun.records_read, begun.left, is)

pub text-decides : (rows : List Row) (opening : Opening) (auditor : AuditorView) (set_by : Setter) (before : ℕ) (remaining_lines : Option RemainingLines)
    (number : ℕ) (result : Result (Option DecidedEvent) TraceFault) → ReplaysText rows opening auditor set_by before remaining_lines
    → ((start : Start) (origin : Origin) (first : List Line) → Replays start origin first auditor set_by
    → IfSome remaining_lines (λ all. DecidesAfter start origin first all number result))
    → DecidesEvent rows number result
text-decides rows opening auditor set_by before remaining_lines number (Ok (Some decided)) text decides = (
  λ whole core named is. rw text.comes at (decides (start_at core named) (at_core whole core named) [] (text.stands whole core named is).follows),
  λ whole past named it. rw text.comes at (decides (start_after named past) (at_opening whole) (map Valid past) (text.continued whole past named it).follows),
  text.begins,
)
text-decides rows opening auditor set_by before remaining_lines number (Ok None) text decides =
    let at : (begun : Beginning) → beginning_of rows ≡ Ok begun → DecidesAfter (start_at begun.core begun.set_by)
    (at_core begun.opening begun.core begun.set_by) [] (remaining_of rows) number (Ok None) =
    λ begun is. rw text.comes at (decides (start_at begun.core begun.set_by) (at_core begun.opening begun.core begun.set_by) []
    (text.stands begun.opening begun.core begun.set_by (at-core rows begun is)).follows) in
    let begun = begun-by rows (beginning_of rows) refl text.begins in (
      (at begun.0 begun.1).0,
      λ it is differs. (at it is).1 (none-first (at_core it.opening it.core it.set_by)) (finding-differs _ _ number differs),
      λ it is after. (at it is).2 (none-first (at_core it.opening it.core it.set_by)) (count-first it.opening it.core it.set_by number after),
    )
text-decides rows opening auditor set_by before remaining_lines number (Err why) text decides =
    let begun = begun-by rows (beginning_of rows) refl text.begins in
    let it = begun.0 in
    rw text.comes at (decides (start_at it.core it.set_by) (at_core it.opening it.core it.set_by) []
    (text.stands it.opening it.core it.set_by (at-core rows it begun.1)).follows)
