-- The output of summaries of the explained events as CSV records.
use Rattle.std.specs.Prelude.{ℕ, ◌≡◌, Bool, false, ◌&&◌, ◌||◌, List, [], ◌++◌, Option}
use Rattle.pie_aqm.specs.History.{Place}
use Rattle.pie_explain.specs.declared.{explanation.Explained.Explained, choice.EventChoice.TheVariants.Lost, choice.EventChoice.TheVariants.Marked, interval.Interval.Interval, interval.Sums.Sums}
use Rattle.pie_explain.specs.Record.{header_of}
use Rattle.pie_explain.specs.Choice.{chooses}
use Rattle.pie_explain.specs.Report.{IsBegun, IsEnded}
use Rattle.pie_explain.specs.Interval.{Keeps, at_end, at_last}
use Rattle.pie_explain.specs.SummaryRecord.{field_names, record_of, wait_99}
use Rattle.pie_explain.specs.Sums.{sums_of, waits_of}

-- the header row
unfoldable pub header : Bool → List ℕ
header by_wall = header_of field_names by_wall

-- these numbers as a record
abbrev pub summary_text : Bool → Sums → List ℕ → List ℕ
summary_text by_wall sums ranges = record_of by_wall sums.meter (wait_99 ranges sums.meter)

-- the record of these events
abbrev pub summary_text_of : Bool → List Explained → List ℕ
summary_text_of by_wall all = summary_text by_wall (sums_of all) (waits_of all)

-- true if `--lost` or `--marked` chooses the event
abbrev pub is_lost_or_marked : Explained → Bool
is_lost_or_marked one = chooses Lost one.explanation.number one.explanation.event || chooses Marked one.explanation.number one.explanation.event

-- a text about an event: empty, unless packets are explained, and the event lost or marked one
abbrev pub IsAbout : Bool → Explained → List ℕ → Type 0
IsAbout packets one text = (packets && is_lost_or_marked one) ≡ false → text ≡ []

-- the text at an event: the record of the interval before it, if the event begins another, and then a text about the event
abbrev pub IsSummaryAt : Bool → Option ℕ → Bool → Place Explained → List ℕ → Type 0
IsSummaryAt packets every by_wall place text =
    (about : List ℕ) × (text ≡ at_end every (summary_text_of by_wall) place ++ about) × IsAbout packets place.event about

-- the text of summaries before its end, and the whole text, with the record of the last interval
abbrev pub IsDigest : Bool → Option ℕ → Bool → List Explained → List ℕ → Type 0
IsDigest packets every by_wall = IsBegun (header by_wall) (IsSummaryAt packets every by_wall)

abbrev pub IsWholeDigest : Bool → Option ℕ → Bool → List Explained → List ℕ → Type 0
IsWholeDigest packets every by_wall all =
    IsEnded (header by_wall) (IsSummaryAt packets every by_wall) (at_last every (summary_text_of by_wall) all) all

-- the state of an interval after these events: their numbers, and their waiting times
pub record HoldsSums (interval : Interval) (all : List Explained) : Type 0 where
  pub sums : interval.sums ≡ sums_of all
  pub waits : interval.waits.value ≡ waits_of all

abbrev pub keeps : Option ℕ → Interval → List Explained → Type 0
keeps every interval all = Keeps (HoldsSums interval) every interval.number all
