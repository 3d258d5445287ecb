-- Intervals of equal length: the explained events that are summed up together.
use Rattle.std.specs.Prelude.{ℕ, ◌≡◌, ◌/◌, ◌==◌, max, if◌then◌else◌, Bool, true, false, not, List, [], map, Option, Some, None, is_some}
use Rattle.std.specs.List.{after_last}
use Rattle.pie_aqm.specs.History.{Place, last_or}
use Rattle.pie_explain.specs.declared.explanation.Explained.{Explained}

-- the number of the interval of a moment, counted from moment 0. Each interval lasts `every` nanoseconds, at least
-- 1; without a length the number is 0
abbrev pub interval_of : Option ℕ → ℕ → ℕ
interval_of None moment = 0
interval_of (Some every) moment = moment / max every 1

-- the interval of an event, by its effective moment
abbrev pub interval_at : Option ℕ → Explained → ℕ
interval_at every one = interval_of every one.explanation.moment

-- the interval of the last of these events
abbrev pub last_interval : Option ℕ → List Explained → Option ℕ
last_interval every all = last_or None (map (λ one. Some (interval_at every one)) all)

-- true if an event is not in this interval
abbrev pub is_elsewhere : Option ℕ → ℕ → Explained → Bool
is_elsewhere every interval one = not (interval_at every one == interval)

-- the events after the last one that is not in this interval
abbrev pub since : Option ℕ → Option ℕ → List Explained → List Explained
since every None all = []
since every (Some interval) all = after_last (is_elsewhere every interval) all

-- the last events, as far back as they are in the same interval
abbrev pub last_events : Option ℕ → List Explained → List Explained
last_events every all = since every (last_interval every all) all

-- true if an event in this interval comes after one of another interval
abbrev pub ends_interval : Option ℕ → ℕ → Bool
ends_interval None interval = false
ends_interval (Some before) interval = not (before == interval)

-- true for the first event of an interval: there is no event before it, or that is in another interval
abbrev pub starts_interval : Option ℕ → ℕ → Bool
starts_interval None interval = true
starts_interval (Some before) interval = not (before == interval)

-- true if an event begins an interval after another one
abbrev pub ends_at : Option ℕ → Place Explained → Bool
ends_at every place = ends_interval (last_interval every place.before) (interval_at every place.event)

-- the output at an event: the summary of the last events before it, if they are in another interval
abbrev pub at_end : Option ℕ → (List Explained → List ℕ) → Place Explained → List ℕ
at_end every summary_text place = if ends_at every place then summary_text (last_events every place.before) else []

-- true if there is a summary at the end: all events are summed together, or there is an event, whose interval is then known
abbrev pub has_summary : Option ℕ → Option ℕ → Bool
has_summary None last = true
has_summary (Some every) last = is_some last

-- the output at the end: the summary of the last events
abbrev pub at_last : Option ℕ → (List Explained → List ℕ) → List Explained → List ℕ
at_last every summary_text all = if has_summary every (last_interval every all) then summary_text (last_events every all) else []

-- the state after these events: the number of the last event's interval, and a state of the last events, as far back as they are in that interval
pub record Keeps (of : List Explained → Type 0) (every under_way : Option ℕ) (all : List Explained) : Type 0 where
  pub last : under_way ≡ last_interval every all
  pub kept : of (last_events every all)
