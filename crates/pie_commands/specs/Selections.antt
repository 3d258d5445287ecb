-- `pie explain`: the events that its options choose, and the kind of output.
use Rattle.std.specs.Prelude.{ℕ, ◌==◌, ◌&&◌, ◌||◌, Bool, true, false, not, List, Option, Some, None, Result, Ok, Err, codes, if◌then◌else◌, is_some}
use Rattle.std.specs.Result.{result_ok}
use Rattle.clap.specs.Words.{Row}
use Rattle.pie_explain.specs.declared.choice.EventChoice.{EventChoice}
use Rattle.pie_explain.specs.declared.choice.EventChoice.TheVariants.{Number, Tag, Lost, Marked, All}
use Rattle.pie_explain.specs.declared.form.Form.{Form}
use Rattle.pie_explain.specs.declared.selection.Selection.{Selection}
use Rattle.pie_explain.specs.declared.interval_lines.LineStyle.{LineStyle}
use Rattle.pie_units.specs.declared.utc.MomentFault.{MomentFault}
use Rattle.pie_units.specs.declared.utc.When.{When}
use Rattle.pie_commands.specs.Values.{bounds_of, flag_given, moment_given, number_given}
use Rattle.pie_commands.specs.declared.explain.OutputKind.{OutputKind}
use Rattle.pie_commands.specs.declared.explain.OutputKind.TheVariants.{Digest, Flows, Records, Sums, Words}

-- ---- the events

-- the length of an interval in an option's value, if it is valid
abbrev pub every_in : Result (Option ℕ) MomentFault → Option ℕ
every_in (Ok every) = every
every_in (Err why) = None

abbrev pub every_of : List Row → Option ℕ
every_of options = every_in (moment_given (codes "every") options)

-- true if these options request words for lost and marked packets between summaries
abbrev pub is_digest : List Row → Bool
is_digest options = flag_given (codes "digest") options

-- the number of flows with a row of their own, if these options request sums by flow
abbrev pub flows_of : List Row → Option ℕ
flows_of options = number_given (codes "flows") options

-- true if an option chooses events
abbrev pub is_selected : List Row → Bool
is_selected options =
    (is_some (number_given (codes "event") options) || is_some (number_given (codes "tag") options))
    || (flag_given (codes "lost") options || (flag_given (codes "marked") options || flag_given (codes "all") options))

-- true if these options request summaries, of all chosen events, of each interval, or by flow; or if they choose no events
abbrev pub is_summary : List Row → Bool
is_summary options =
    not (is_selected options)
    || ((flag_given (codes "summary") options || is_some (every_of options)) || (is_digest options || is_some (flows_of options)))

-- true if these options request objects of JSON
abbrev pub is_json : List Row → Bool
is_json options = flag_given (codes "json") options

-- true unless options exclude each other: a digest and sums by flow, JSON and CSV or a digest, lines for each interval without intervals, or one
-- summary with intervals
abbrev pub may_combine : Bool → List Row → Bool
may_combine has_every options =
    (not (is_digest options && is_some (flows_of options)) && not (is_json options && (flag_given (codes "csv") options || is_digest options)))
    && (not (flag_given (codes "full") options && not has_every) && not (flag_given (codes "summary") options && has_every))

-- the chosen events, if at most one of the five options chooses some; without any of them all events
abbrev pub chosen : Option ℕ → Option ℕ → Bool → Bool → Bool → Option EventChoice
chosen (Some event) None false false false = Some (Number event)
chosen None (Some tag) false false false = Some (Tag tag)
chosen None None true false false = Some Lost
chosen None None false true false = Some Marked
chosen None None false false _ = Some All
chosen _ _ _ _ _ = None

-- the events that these options choose
abbrev pub chosen_events : List Row → Option EventChoice
chosen_events options = chosen (number_given (codes "event") options) (number_given (codes "tag") options) (flag_given (codes "lost") options)
    (flag_given (codes "marked") options) (flag_given (codes "all") options)

-- true unless the length of an interval is 0
abbrev pub lasts : Option ℕ → Bool
lasts None = true
lasts (Some every) = not (every == 0)

-- the selection of these events between these bounds, if the length of an interval is valid and above 0, and the options do not exclude each other
abbrev pub selection_at : Option (Option When × Option When) → Option (Option ℕ) → Option EventChoice → List Row → Option Selection
selection_at (Some bounds) (Some every) (Some which) options =
    if lasts every && may_combine (is_some every) options then Some (record { which = which; from = bounds.0; to = bounds.1 }) else None
selection_at _ _ _ options = None

-- the selection of these options; none if they are not valid together
unfoldable pub selection_of : List Row → Option Selection
selection_of options = selection_at (bounds_of options) (result_ok (moment_given (codes "every") options)) (chosen_events options) options

-- ---- the kind of output

-- the form: CSV or words, with wall-clock times or without
abbrev pub form_of : List Row → Bool → Form
form_of options csv = record { csv = csv; by_wall = flag_given (codes "wall") options }

-- the kind of output that has each event by itself: as a CSV record, or in words
abbrev pub each_kind : Form → OutputKind
each_kind form = if form.csv then Records (record { by_wall = form.by_wall }) else Words (record { by_wall = form.by_wall })

-- the kind of summaries: of each interval in words a line of this style, unless `full`
abbrev pub sums_kind : Bool → LineStyle → Option ℕ → Form → OutputKind
sums_kind full style every form =
    Sums (record { form = form; every = every; style = if is_some every && not (form.csv || full) then Some style else None })

-- the kind of output about the chosen events: each event; sums by flow; or summaries, with or without a digest of
-- lost and marked packets. Sums and summaries cover all events or each interval
abbrev pub output_kind_by : Bool → Bool → Option ℕ → Bool → LineStyle → Option ℕ → Form → OutputKind
output_kind_by true packets (Some most) full style every form =
    Flows (record { form = form; every = every; most = most })
output_kind_by true true None full style every form = Digest (record { form = form; every = every; style = None })
output_kind_by true false None full style every form = sums_kind full style every form
output_kind_by false packets flows full style every form = each_kind form

-- the kind of output of these options: with `--json` in CSV, whose objects are written
abbrev pub output_kind_of : LineStyle → List Row → OutputKind
output_kind_of style options =
    output_kind_by (is_summary options) (is_digest options) (flows_of options) (flag_given (codes "full") options) style (every_of options)
    (form_of options (flag_given (codes "csv") options || is_json options))
