-- Worked examples: the events that the options of `pie explain` and `pie cut` choose, and the numbers of a storm.
use Rattle.pie_commands.proofs.Names.{◌≡◌, [], ◌∷◌, None, Some, codes, refl, List, Row, Text}
use Rattle.clap.specs.declared.builder.value_parser.Reading.TheVariants.{AsWritten}
use Rattle.pie_commands.specs.Cuts.{around, between}
unfoldable use Rattle.pie_commands.specs.Cuts.{pieces_of}
unfoldable use Rattle.pie_commands.specs.Selections.{selection_of}
use Rattle.pie_commands.specs.Values.{number_or}
use Rattle.pie_commands.specs.declared.cut.Pieces.TheVariants.{Every, Excerpt, Last}
use Rattle.pie_explain.specs.declared.choice.EventChoice.{EventChoice}
use Rattle.pie_explain.specs.declared.choice.EventChoice.TheVariants.{Number, Lost, All}
use Rattle.pie_explain.specs.declared.selection.Selection.{Selection}
use Rattle.pie_units.specs.declared.utc.When.TheVariants.{Moment, Unix}
use Rattle.pie_units.specs.Number.{is_word, time_scale, digit_count, number_after}
use Rattle.pie_units.specs.Time.{day_number, date_part, has_marks, nanos_in, seconds_part, unix_of, utc_in, utc_with}

-- an option with this value; a flag has the value `true`
abbrev option : Text → Text → Row
option name value = record { id = name; values = value ∷ []; count = None; source = None; reading = AsWritten }

abbrev flag : Text → Row
flag name = option name (codes "true")

storm : let options = option (codes "senders") (codes "3") ∷ [] in
    (number_or (codes "senders") 2 8 2 options ≡ 3) × (number_or (codes "packets") 1 10_000 100 options ≡ 100)
storm = (refl, refl)

-- these events, at every moment
abbrev at_all_moments : EventChoice → Selection
at_all_moments which = record { which = which; from = None; to = None }

chosen : (selection_of (flag (codes "csv") ∷ option (codes "event") (codes "10") ∷ []) ≡ Some (at_all_moments (Number 10)))
    × (selection_of (flag (codes "all") ∷ option (codes "from") (codes "1.5ms") ∷ option (codes "to") (codes "2s") ∷ [])
    ≡ Some (record { which = All; from = Some (Moment 1_500_000); to = Some (Moment 2_000_000_000) }))
    × (selection_of (flag (codes "wall") ∷ []) ≡ Some (at_all_moments All))
    × (selection_of (flag (codes "all") ∷ option (codes "from") (codes "soon") ∷ []) ≡ None)
    × (selection_of (option (codes "tag") (codes "7") ∷ flag (codes "all") ∷ []) ≡ None)
    × (selection_of (flag (codes "full") ∷ []) ≡ None)
    × (selection_of (flag (codes "summary") ∷ option (codes "every") (codes "1s") ∷ []) ≡ None)
unfolding selection_of digit_count number_after is_word time_scale
chosen = (refl, refl, refl, refl, refl, refl, refl)

from_day-chosen : selection_of (flag (codes "lost") ∷ flag (codes "wall") ∷ option (codes "from") (codes "2026-11-24T20:00:00Z") ∷ [])
    ≡ Some (record { which = Lost; from = Some (Unix 1795550400000000000); to = None })
unfolding selection_of digit_count number_after utc_in utc_with unix_of seconds_part date_part has_marks nanos_in day_number
from_day-chosen = refl

cut : (pieces_of (option (codes "event") (codes "10") ∷ option (codes "around") (codes "3") ∷ []) ≡ Some (Excerpt (around 10 3)))
    × (pieces_of (option (codes "from") (codes "2s") ∷ []) ≡ Some (Excerpt (between (Some (Moment 2_000_000_000)) None)))
    × (pieces_of (option (codes "from") (codes "2") ∷ option (codes "to") (codes "1") ∷ []) ≡ None)
    × (pieces_of (option (codes "last") (codes "7") ∷ []) ≡ Some (Last 7))
    × (pieces_of (option (codes "every") (codes "1000") ∷ []) ≡ Some (Every 1000))
    × (pieces_of (option (codes "around") (codes "3") ∷ []) ≡ None)
    × (pieces_of (option (codes "last") (codes "3") ∷ option (codes "every") (codes "3") ∷ []) ≡ None)
unfolding pieces_of digit_count number_after is_word time_scale
cut = (refl, refl, refl, refl, refl, refl, refl)
