-- The explanations of the events of a history's lines.
use Rattle.std.specs.Prelude.{◌+◌, ◌∷◌, ◌++◌, if◌then◌else◌}
use Rattle.pie_explain.specs.Names.{ℕ, Bool, true, false, List, [], Option, Some, None, option_map, filter_map, Line, Valid, latest_clock, events_of, Explained, Explanation, Selection, Setter, picks, setter_from_start, nat_lt, Start, Origin, count_after, difference_from, ended_after, explanation_after, moment_after, setter_in}
use Rattle.pie_audit.specs.Replay.{LinePlace, line_places, number_at}

-- the explanation if the flag is true
abbrev pub explanation_if : Bool → Explanation → Option Explanation
explanation_if true found = Some found
explanation_if false found = None

-- the explanation of a line after these lines, if the line is an event with the next number that is chosen
abbrev pub explanation_of : Origin → Selection → List Line → Setter → Line → Option Explanation
explanation_of origin selection lines set_by (Valid event) =
    explanation_if (picks selection (count_after origin lines + 1) (moment_after origin (events_of lines) event) (latest_clock lines) event)
    (explanation_after origin (events_of lines) (count_after origin lines + 1) event set_by (latest_clock lines))
explanation_of origin selection lines set_by _ = None

-- `None` from the first event that differs on
abbrev pub explanation_unless : Option ℕ → Option Explanation → Option Explanation
explanation_unless (Some event) found = None
explanation_unless None found = found

abbrev pub explanation_before_difference : Origin → List Line → Option Explanation → Option Explanation
explanation_before_difference origin lines found = explanation_unless (difference_from origin lines) found

-- the explanation at a place, if no event up to it, itself included, differs
abbrev pub explanation_at : Origin → Selection → LinePlace → Option Explained
explanation_at origin selection place =
    option_map (ended_after origin (events_of (place.before ++ place.line ∷ [])))
    (explanation_before_difference origin (place.before ++ place.line ∷ [])
    (explanation_of origin selection place.before (setter_in origin place.before) place.line))

-- the explanations of the chosen events of these lines, in order
unfoldable pub explanations : Origin → Selection → List Line → List Explained
explanations origin selection lines = filter_map (explanation_at origin selection) (line_places lines)

-- ---- Excerpts: the events after the preamble

-- an explanation with the event that set the probability as far as the text names it
abbrev pub with_known_setter : Start → Explained → Explained
with_known_setter start one = record one { explanation = record one.explanation { set_by = setter_from_start start one.explanation.set_by } }

-- the explanation at a place, if its event is one of the text
abbrev pub explanation_since : Start → Origin → Selection → LinePlace → Option Explained
explanation_since start origin selection place =
    if nat_lt start.events (number_at origin place) then option_map (with_known_setter start) (explanation_at origin selection place) else None

-- the explanations of the chosen events of a text, given the lines of its whole history, in order
unfoldable pub explanations_since : Start → Origin → Selection → List Line → List Explained
explanations_since start origin selection lines = filter_map (explanation_since start origin selection) (line_places lines)
