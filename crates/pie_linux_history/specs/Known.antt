-- The queues of an audit represent the rows so far: by each name they have the queue that a look-back over the rows finds.
use Rattle.std.specs.Prelude.{ℕ, ◌≡◌, ◌++◌, ◌∷◌, if◌then◌else◌, List, [], map, true, false, Option, Some, None, IfOk, IfSome, Result, Ok, Err, suc, zero}
use Rattle.std.specs.Str.{bytes_eq}
use Rattle.pie_record.specs.Text.{Row, TakesRow}
use Rattle.pie_record.specs.declared.fault.RecordFault.{RecordFault}
use Rattle.pie_linux_history.specs.declared.{columns.Columns.Columns, fault.StepsFault.StepsFault, known.Known.Known, queues.Queues.Queues, queues.StepDifference.StepDifference}
use Rattle.pie_linux_history.specs.{Audit.next, Audit.verdict, Cuts.Named, Cuts.names_of, Decided.dropped_in, Decided.last_in, Decided.taken_in, LookBack.Entry, LookBack.Followed, LookBack.counts_of, LookBack.entry_in, LookBack.followed, LookBack.latest, LookBack.name_of}

abbrev pub tracked : Known → Followed
tracked known = record { last = known.last; queue = known.queue; differs = known.differs }

abbrev pub named : Known → Named
named known = record { name = name_of known.name; was = tracked known }

abbrev pub known_names : List Known → List (List ℕ)
known_names queues = map (λ known. name_of known.name) queues

-- the first queue with this name
unfoldable pub looked_up : List ℕ → List Known → Option Followed
looked_up name [] = None
looked_up name (known ∷ rest) = if bytes_eq (name_of known.name) name then Some (tracked known) else looked_up name rest

-- the place of the first queue with this name
unfoldable pub IsPlaceOf : List ℕ → List Known → ℕ → Type 0
IsPlaceOf name [] place = ⊥
IsPlaceOf name (known ∷ rest) zero = bytes_eq (name_of known.name) name ≡ true
IsPlaceOf name (known ∷ rest) (suc place) = (bytes_eq (name_of known.name) name ≡ false) × IsPlaceOf name rest place

-- by each name the queues have what a look-back finds, and they are in the order in which they began
pub record Represents (queues : List Known) (entries : List Entry) : Type 0 where
  pub by_name : (name : List ℕ) → looked_up name queues ≡ followed name entries
  pub names_are : known_names queues ≡ names_of entries

-- the queues, the step and its packets after a row
pub record Leaves (queues : Queues) (entries : List Entry) (entry : Entry) : Type 0 where
  pub represents : Represents queues.known.all.items (entries ++ entry ∷ [])
  pub last_is : queues.last ≡ last_in entry
  pub taken_is : queues.taken ≡ taken_in entries entry
  pub lost_are : queues.lost.items ≡ dropped_in entries entry

-- the queues and the counts represent the rows so far
pub record HasRead (queues : Queues) (entries : List Entry) : Type 0 where
  pub represents : Represents queues.known.all.items entries
  pub counts_are : queues.counts ≡ counts_of entries
  pub moment_is : queues.moment ≡ latest entries

-- a row was taken after others, with this result
pub record Takes (queues : Queues) (entries : List Entry) (entry : Result Entry RecordFault) (result : Result (Option StepDifference) StepsFault) : Type 0 where
  pub result_is : result ≡ verdict entries (next (counts_of entries).events) entry
  pub read : IfOk entry (λ one. HasRead queues (entries ++ one ∷ []))
  pub leaves : IfOk entry (λ one. Leaves queues entries one)

-- the next row was taken: the first of those that remain, if they are known
pub record TookNext (chosen : Option (List ℕ)) (columns : Columns) (entries : List Entry) (rows : Option (List Row)) (taken : Result (Option StepDifference) StepsFault) (later : Option (List Row)) (queues : Queues) : Type 0 where
  pub row : Row
  pub took : TakesRow rows true row later
  pub takes : Takes queues entries (entry_in chosen columns row) taken

abbrev pub TakesNext : Option (List ℕ) → Columns → List Entry → Option (List Row) → Result (Option (Option StepDifference)) StepsFault → Option (List Row) → Queues → Type 0
TakesNext chosen columns entries rows (Ok None) later queues = IfSome rows (λ all. all ≡ []) × HasRead queues entries
TakesNext chosen columns entries rows (Ok (Some found)) later queues = TookNext chosen columns entries rows (Ok found) later queues
TakesNext chosen columns entries rows (Err why) later queues = TookNext chosen columns entries rows (Err why) later queues
