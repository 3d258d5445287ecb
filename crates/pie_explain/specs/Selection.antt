-- The selection of the events to explain: the chosen ones, with an effective moment within the bounds.
use Rattle.std.specs.Prelude.{ℕ, Bool, true, false, not, ◌&&◌, ◌||◌, Option, Some, None, nat_le, is_some}
use Rattle.pie_event.specs.declared.command.Event.{Event}
use Rattle.pie_record.specs.declared.clock.Clock.{Clock}
use Rattle.pie_record.specs.Field.{unix_at}
use Rattle.pie_explain.specs.declared.selection.Selection.{Selection}
use Rattle.pie_units.specs.declared.{utc.When.When, utc.When.TheVariants.Moment, utc.When.TheVariants.Unix}
use Rattle.pie_explain.specs.Choice.{chooses}

-- the wall-clock time at a moment, by a clock record
abbrev pub time_of : Option Clock → ℕ → Option ℕ
time_of None moment = None
time_of (Some clock) moment = Some (unix_at clock moment)

-- true if a moment is not before the first bound, or there is no first bound
abbrev pub is_from : Option When → ℕ → Option ℕ → Bool
is_from None moment time = true
is_from (Some (Moment first)) moment time = nat_le first moment
is_from (Some (Unix first)) moment (Some time) = nat_le first time
is_from (Some (Unix first)) moment None = false

-- true if a moment is not after the last bound, or there is no last bound
abbrev pub is_to : Option When → ℕ → Option ℕ → Bool
is_to None moment time = true
is_to (Some (Moment last)) moment time = nat_le moment last
is_to (Some (Unix last)) moment (Some time) = nat_le time last
is_to (Some (Unix last)) moment None = false

-- true if the event with this number and effective moment is selected. `clock` is the last clock record before it
abbrev pub picks : Selection → ℕ → ℕ → Option Clock → Event → Bool
picks selection number moment clock event = chooses selection.which number event
    && (is_from selection.from moment (time_of clock moment) && is_to selection.to moment (time_of clock moment))

-- the selection has no bound
abbrev pub is_whole : Selection → Bool
is_whole selection = not (is_some selection.from || is_some selection.to)
