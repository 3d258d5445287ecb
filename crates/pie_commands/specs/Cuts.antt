-- `pie cut`: the pieces of a history, or of recorded steps of Linux, that its options choose.
use Rattle.std.specs.Prelude.{ℕ, ◌==◌, ◌+◌, ◌-◌, ◌^◌, ◌<◌, List, Option, Some, None, ⊤, codes, min, unwrap_or, if◌then◌else◌}
use Rattle.clap.specs.Words.{Row}
use Rattle.pie_cut.specs.declared.span.Span.{Span}
use Rattle.pie_linux_history.specs.declared.cutter.RowSpan.{RowSpan}
use Rattle.pie_linux_history.specs.declared.cutter.StepPieces.{StepPieces}
use Rattle.pie_linux_history.specs.declared.cutter.StepPieces.TheVariants as step_pieces
use Rattle.pie_units.specs.declared.utc.When.{When}
use Rattle.pie_units.specs.declared.utc.When.TheVariants.{Moment, Unix}
use Rattle.pie_commands.specs.Values.{bounds_of, number_given}
use Rattle.pie_commands.specs.declared.cut.Pieces.{Pieces}
use Rattle.pie_commands.specs.declared.cut.Pieces.TheVariants.{Every, Excerpt, Last}

-- the event with this number, with `more` events before it and `more` events after it
abbrev pub around : ℕ → ℕ → Span
around event more = record { first = event - more; last = min (event + more) (2 ^ 64 - 1); from = None; to = None }

-- the events from one bound to another: moments, or wall-clock times
abbrev pub between : Option When → Option When → Span
between from to = record { first = 0; last = 2 ^ 64 - 1; from = from; to = to }

-- the selection by these bounds, if there is one
abbrev pub within : Option When → Option When → Option Span
within None None = None
within from to = Some (between from to)

-- the pieces, if they are stated in exactly one way: an event, with some around it or none; the last events; segments; or the events within bounds
abbrev pub chosen : Option ℕ → Option ℕ → Option ℕ → Option ℕ → Option Span → Option Pieces
chosen (Some event) more None None None = Some (Excerpt (around event (unwrap_or more 0)))
chosen None None (Some many) None None = Some (Last many)
chosen None None None (Some every) None = if every == 0 then None else Some (Every every)
chosen None None None None (Some span) = Some (Excerpt span)
chosen _ _ _ _ _ = None

-- the pieces, if the bounds are valid and in order
abbrev pub wanted_at : Option ℕ → Option ℕ → Option ℕ → Option ℕ → Option (Option When × Option When) → Option Pieces
wanted_at event more last every (Some bounds) = chosen event more last every (within bounds.0 bounds.1)
wanted_at _ _ _ _ None = None

-- the pieces of these options; none if they are not valid together
unfoldable pub pieces_of : List Row → Option Pieces
pieces_of options = wanted_at (number_given (codes "event") options) (number_given (codes "around") options) (number_given (codes "last") options)
    (number_given (codes "every") options) (bounds_of options)

-- the number of events of a segment is above 0
abbrev pub HasSome : Pieces → Type 0
HasSome (Excerpt span) = ⊤
HasSome (Every every) = 0 < every
HasSome (Last many) = ⊤

-- ---- recorded steps of Linux

-- a bound of moments; none for a wall-clock time, which recorded steps do not have
abbrev pub moment_bound : Option When → ℕ → Option ℕ
moment_bound None unbounded = Some unbounded
moment_bound (Some (Moment moment)) unbounded = Some moment
moment_bound (Some (Unix time)) unbounded = None

abbrev pub row_span : ℕ → ℕ → Option ℕ → Option ℕ → Option StepPieces
row_span first last (Some from) (Some to) = Some (step_pieces.Span (record { first = first; last = last; from = from; to = to }))
row_span first last _ _ = None

-- the pieces of recorded steps, by the numbers and the moments of their rows; none for the last events, whose numbers are not known
abbrev pub step_pieces_of : Pieces → Option StepPieces
step_pieces_of (Excerpt span) = row_span span.first span.last (moment_bound span.from 0) (moment_bound span.to (2 ^ 64 - 1))
step_pieces_of (Every every) = Some (step_pieces.Every every)
step_pieces_of (Last many) = None
