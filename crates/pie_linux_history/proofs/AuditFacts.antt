-- The outcome of the rows that remain is the outcome of all.
use Rattle.std.specs.Prelude.{ℕ, Bool, false, true, ◌+◌, ◌-◌, ◌^◌, ◌<◌, ◌≤◌, ◌≡◌, ◌++◌, ◌∷◌, [], length, min, List, Option, Some, None, IfSome, option_map, Result, Ok, Err}
use Rattle.std.proofs.Common.{append-nil, append_assoc, arith, length-append, refl, ◌∙◌, subst, sym, ap}
use Rattle.std.proofs.lemmas.List.{length-take, take_all, take-append-le}
use Rattle.std.specs.List.{cons_option}
use Rattle.pie_record.specs.Text.{Row, TakesRow, Took, records_of}
use Rattle.pie_record.specs.declared.fault.RecordFault.{RecordFault}
use Rattle.pie_linux_history.specs.declared.{columns.Columns.Columns, fault.StepsFault.StepsFault, queues.Queues.Queues, queues.StepDifference.StepDifference, text.Differences.Differences, text.StepsFinding.StepsFinding}
use Rattle.pie_linux_history.specs.{Audit.Begins, Audit.Ends, Audit.HasFound, Audit.Outcome, Audit.ReadsColumns, Audit.difference_in, Audit.differences_of, Audit.finding_by, Audit.finding_of, Audit.found_in, Audit.first_of_both, Audit.has_failed, Audit.is_failure, Audit.outcome_after, Audit.outcome_by, Audit.outcome_of, Audit.with_entry, Known.HasRead, Known.Leaves, Known.Takes, Known.TookNext, Decided.for_each, Decided.number_of, LookBack.Entry, LookBack.entry_in}

-- a list for each row, with one more row
pub for-each-more : {A : Type 0} (one : List Entry → Entry → List A) (before rest : List Entry) (entry : Entry)
    → for_each one before (rest ++ entry ∷ []) ≡ for_each one before rest ++ one (before ++ rest) entry
unfolding for_each
for-each-more one before [] entry = rw (append-nil before, append-nil (one before entry)) refl
for-each-more one before (first ∷ rest) entry =
    rw (for-each-more one (before ++ first ∷ []) rest entry, append_assoc before (first ∷ []) rest)
    (sym (append_assoc (one before first) (for_each one (before ++ first ∷ []) rest) (one (before ++ first ∷ rest) entry)))

-- these rows remain, if the rows are known
abbrev pub Remain : Option (List ℕ) → Columns → List Entry → Option (List Row) → List Entry → Option (List Row) → Type 0
Remain chosen columns start all entries later =
    IfSome all (λ rows. (rest : List Row) × (later ≡ Some rest) × (outcome_after chosen columns start rows ≡ outcome_after chosen columns entries rest))

-- the rows before have no fault
pub record GoesOn (chosen : Option (List ℕ)) (columns : Columns) (start : List Entry) (all : Option (List Row)) (has : List Entry → Type 0) (later : Option (List Row)) (queues : Queues) : Type 0 where
  pub entries : List Entry
  pub has_them : has entries
  pub read : HasRead queues entries
  pub same : Remain chosen columns start all entries later

remain-all : (chosen : Option (List ℕ)) (columns : Columns) (start : List Entry) (all : Option (List Row)) → Remain chosen columns start all start all
remain-all chosen columns start None = tt
remain-all chosen columns start (Some rows) = (rows, refl, refl)

pub goes-first : (chosen : Option (List ℕ)) (columns : Columns) (start : List Entry) (all : Option (List Row)) (has : List Entry → Type 0) (queues : Queues)
    → has start → HasRead queues start → GoesOn chosen columns start all has all queues
goes-first chosen columns start all has queues had read =
    record { entries = start; has_them = had; read = read; same = remain-all chosen columns start all }

-- a row with its result
outcome-row : (chosen : Option (List ℕ)) (columns : Columns) (entries : List Entry) (row : Row) (rest : List Row) (taken : Result (Option StepDifference) StepsFault)
    (queues : Queues) → Takes queues entries (entry_in chosen columns row) taken
    → outcome_after chosen columns entries (row ∷ rest)
    ≡ first_of_both entries taken (outcome_after chosen columns (with_entry entries (entry_in chosen columns row)) rest)
unfolding outcome_after
outcome-row chosen columns entries row rest taken queues takes = rw takes.result_is refl

row-of : (chosen : Option (List ℕ)) (columns : Columns) (start : List Entry) (all : Option (List Row)) (entries : List Entry) (later after : Option (List Row)) (row : Row)
    (taken : Result (Option StepDifference) StepsFault) (queues : Queues) → Takes queues entries (entry_in chosen columns row) taken → TakesRow later true row after
    → Remain chosen columns start all entries later
    → IfSome all (λ rows. (rest : List Row) × (after ≡ Some rest) × (outcome_after chosen columns start rows
    ≡ first_of_both entries taken (outcome_after chosen columns (with_entry entries (entry_in chosen columns row)) rest)))
row-of chosen columns start None entries later after row taken queues takes took remain = tt
row-of chosen columns start (Some rows) entries later after row taken queues takes took remain =
    let t : Took row remain.0 after = rw remain.1 at took in
    (t.rest, t.remain, remain.2 ∙ rw t.first (outcome-row chosen columns entries row t.rest taken queues takes))

-- the next row has no fault
on-by : (chosen : Option (List ℕ)) (columns : Columns) (start : List Entry) (all : Option (List Row)) (entries : List Entry) (has : List Entry → Type 0) (after : Option (List Row)) (new : Queues)
    (found : Option StepDifference) (entry : Result Entry RecordFault) → Takes new entries entry (Ok found)
    → ((one : Entry) → HasRead new (entries ++ one ∷ []) → Leaves new entries one → cons_option found [] ≡ difference_in entries one → has (entries ++ one ∷ []))
    → Remain chosen columns start all (with_entry entries entry) after → GoesOn chosen columns start all has after new
on-by chosen columns start all entries has after new found (Ok one) takes had remain = record {
  entries = entries ++ one ∷ [];
  has_them = had one takes.read takes.leaves (ap found_in takes.result_is);
  read = takes.read;
  same = remain;
}
on-by chosen columns start all entries has after new found (Err what) takes had remain = let e = takes.result_is in cc

pub goes-on : (chosen : Option (List ℕ)) (columns : Columns) (start : List Entry) (all : Option (List Row)) (had has : List Entry → Type 0) (later : Option (List Row)) (queues : Queues) (after : Option (List Row)) (new : Queues)
    (found : Option StepDifference) → (was : GoesOn chosen columns start all had later queues) → TookNext chosen columns was.entries later (Ok found) after new
    → ((one : Entry) → HasRead new (was.entries ++ one ∷ []) → Leaves new was.entries one → cons_option found [] ≡ difference_in was.entries one
    → has (was.entries ++ one ∷ []))
    → GoesOn chosen columns start all has after new
goes-on chosen columns start all had has later queues after new found was took more =
    on-by chosen columns start all was.entries has after new found (entry_in chosen columns took.row) took.takes more
    (row-of chosen columns start all was.entries later after took.row (Ok found) new took.takes took.took was.same)

-- a number of elements, with one more
pub number-more : {A : Type 0} (all : List A) (one : A) (count : ℕ) → count ≡ number_of all → min (count + 1) (2 ^ 64 - 1) ≡ number_of (all ++ one ∷ [])
number-more all one count is = rw (length-append, is) (omega arith)

-- the differences with one more, which is kept or not
pub found-kept : (found now : Differences) (all : List StepDifference) (one : StepDifference) → HasFound found all → length found.first.items < 100
    → now.count ≡ min (found.count + 1) (2 ^ 64 - 1) → now.first.items ≡ found.first.items ++ one ∷ [] → HasFound now (all ++ one ∷ [])
found-kept found now all one was few counted kept =
    let short : length all < 100 = omega (arith, ap length was.first_are, length-take 100 all, few) in
    let more : length (all ++ one ∷ []) ≤ 100 = rw length-append (omega (arith, short)) in
    record {
      count_is = counted ∙ number-more all one found.count was.count_is;
      first_are = kept ∙ rw (was.first_are, take_all 100 all (omega (arith, short)), take_all 100 (all ++ one ∷ []) more) refl;
    }

pub found-full : (found now : Differences) (all : List StepDifference) (one : StepDifference) → HasFound found all → 100 ≤ length found.first.items
    → now.count ≡ min (found.count + 1) (2 ^ 64 - 1) → now.first ≡ found.first → HasFound now (all ++ one ∷ [])
found-full found now all one was full counted same =
    let many : 100 ≤ length all = omega (arith, ap length was.first_are, length-take 100 all, full) in
    record {
      count_is = counted ∙ number-more all one found.count was.count_is;
      first_are = rw (same, was.first_are, take-append-le 100 all (one ∷ []) many) refl;
    }

-- the differences with those of one more row
pub found-more : (found : Differences) (entries : List Entry) (one : Entry) (more : List StepDifference) → more ≡ difference_in entries one
    → HasFound found (differences_of entries ++ more) → HasFound found (differences_of (entries ++ one ∷ []))
found-more found entries one more is has = rw (for-each-more difference_in [] entries one, ← is) has

pub found-none : (found : Differences) → HasFound found [] → HasFound found (differences_of [])
unfolding for_each
found-none found has = has

-- a fault in the next row ends the text
ends-by : (chosen : Option (List ℕ)) (columns : Columns) (start : List Entry) (all : Option (List Row)) (entries : List Entry) (row : Row) (after : Option (List Row))
    (why : StepsFault)
    → IfSome all (λ rows. (rest : List Row) × (after ≡ Some rest) × (outcome_after chosen columns start rows
    ≡ first_of_both entries (Err why) (outcome_after chosen columns (with_entry entries (entry_in chosen columns row)) rest)))
    → IfSome all (λ rows. outcome_after chosen columns start rows ≡ (entries, Err why))
ends-by chosen columns start None entries row after why is = tt
ends-by chosen columns start (Some rows) entries row after why is = is.2

pub ends-at : (chosen : Option (List ℕ)) (columns : Columns) (start : List Entry) (all : Option (List Row)) (has has_now : List Entry → Type 0) (later : Option (List Row)) (queues : Queues) (after : Option (List Row)) (new : Queues)
    (why : StepsFault) → ((rows : List Entry) → has rows → has_now rows) → (was : GoesOn chosen columns start all has later queues) → TookNext chosen columns was.entries later (Err why) after new
    → Ends has_now (outcome_after chosen columns start) all (Err why)
ends-at chosen columns start all has has_now later queues after new why moved was took = record {
  entries = was.entries;
  has_them = moved was.entries was.has_them;
  same = ends-by chosen columns start all was.entries took.row after why
      (row-of chosen columns start all was.entries later after took.row (Err why) new took.takes took.took was.same);
}

-- there is no next row
over-by : (chosen : Option (List ℕ)) (columns : Columns) (start : List Entry) (all : Option (List Row)) (entries : List Entry) (later : Option (List Row)) (new : Queues)
    → IfSome later (λ rows. rows ≡ []) → HasRead new entries → Remain chosen columns start all entries later
    → IfSome all (λ rows. outcome_after chosen columns start rows ≡ (entries, Ok (finding_by new.counts (differences_of entries))))
unfolding outcome_after
over-by chosen columns start None entries later new none read remain = tt
over-by chosen columns start (Some rows) entries later new none read remain =
    let over : remain.0 ≡ [] = rw remain.1 at none in
    remain.2 ∙ rw (over, read.counts_are) refl

pub ends-over : (chosen : Option (List ℕ)) (columns : Columns) (start : List Entry) (all : Option (List Row)) (has has_now : List Entry → Type 0) (later : Option (List Row)) (queues new : Queues)
    (finding : StepsFinding) → ((rows : List Entry) → has rows → has_now rows) → (was : GoesOn chosen columns start all has later queues) → IfSome later (λ rows. rows ≡ []) × HasRead new was.entries
    → finding ≡ finding_by new.counts (differences_of was.entries) → Ends has_now (outcome_after chosen columns start) all (Ok finding)
ends-over chosen columns start all has has_now later queues new finding moved was none is = rw is (record {
  entries = was.entries;
  has_them = moved was.entries was.has_them;
  same = over-by chosen columns start all was.entries later new none.0 none.1 was.same;
})

-- ---- the first row

pub begins-with : (chosen : Option (List ℕ)) (all : Option (List Row)) (columns : Columns) (later : Option (List Row))
    → IfSome all (λ rows. false ≡ false → ReadsColumns rows (Ok columns) later) → Begins chosen all columns later
begins-with chosen None columns later reads = tt
begins-with chosen (Some []) columns later reads = let e = reads refl in cc
begins-with chosen (Some (names ∷ rows)) columns later reads =
    let r = reads refl in (rows, r.1, ap (λ (found : Result Columns StepsFault). outcome_by chosen found rows) (sym r.0))

refused-by : (chosen : Option (List ℕ)) (rows : List Row) (why : StepsFault) (later : Option (List Row)) → ReadsColumns rows (Err why) later
    → outcome_of chosen rows ≡ ([], Err why)
refused-by chosen [] why later reads = cc
refused-by chosen (names ∷ rows) why later reads = ap (λ (found : Result Columns StepsFault). outcome_by chosen found rows) (sym reads.0)

pub refused-with : (chosen : Option (List ℕ)) (text : Option (List ℕ)) (why : StepsFault) (later : Option (List Row)) (failed : Bool) → failed ≡ false
    → IfSome (option_map records_of text) (λ rows. failed ≡ false → ReadsColumns rows (Err why) later)
    → IfSome text (λ bytes. outcome_of chosen (records_of bytes) ≡ ([], Err why))
refused-with chosen None why later failed ok reads = tt
refused-with chosen (Some bytes) why later failed ok reads = refused-by chosen (records_of bytes) why later (reads ok)

-- the rows of a text that began ended
pub ends-text : (chosen : Option (List ℕ)) (all : Option (List Row)) (columns : Columns) (later : Option (List Row)) (has : List Entry → Type 0) (result : Result StepsFinding StepsFault)
    → Begins chosen all columns later → Ends has (outcome_after chosen columns []) later result → Ends has (outcome_of chosen) all result
ends-text chosen None columns later has result begins ends = record { entries = ends.entries; has_them = ends.has_them; same = tt }
ends-text chosen (Some rows) columns later has result begins ends = record {
  entries = ends.entries;
  has_them = ends.has_them;
  same = begins.2 ∙ (rw begins.1 at ends.same);
}

-- the result of these rows
pub ends-result : (chosen : Option (List ℕ)) (text : Option (List ℕ)) (has : List Entry → Type 0) (result : Result StepsFinding StepsFault)
    → Ends has (outcome_of chosen) (option_map records_of text) result → IfSome text (λ bytes. (outcome_of chosen (records_of bytes)).1 ≡ result)
ends-result chosen None has result ends = tt
ends-result chosen (Some bytes) has result ends = ap (λ (both : Outcome). both.1) ends.same

-- the finding of an audit, and the rows before a fault
pub audit-result : (chosen : Option (List ℕ)) (text : Option (List ℕ)) (has : List Entry → Type 0) (result : Result StepsFinding StepsFault)
    → (has_failed result ≡ false → Ends has (outcome_of chosen) (option_map records_of text) result)
    → IfSome text (λ bytes. has_failed result ≡ false → result ≡ finding_of chosen (records_of bytes))
audit-result chosen None has result ends = tt
audit-result chosen (Some bytes) has result ends = λ ok. sym (ap (λ (both : Outcome). both.1) (ends ok).same)

pub audit-has : {other : List Entry → Type 0} (chosen : Option (List ℕ)) (text : Option (List ℕ)) (has : List Entry → Type 0) (result : Result StepsFinding StepsFault)
    → (has_failed result ≡ false → Ends (λ rows. has rows × other rows) (outcome_of chosen) (option_map records_of text) result)
    → IfSome text (λ bytes. has_failed result ≡ false → has (outcome_of chosen (records_of bytes)).0)
audit-has chosen None has result ends = tt
audit-has chosen (Some bytes) has result ends = λ ok. subst has (sym (ap (λ (both : Outcome). both.0) (ends ok).same)) (ends ok).has_them.0

pub audit-refused : (chosen : Option (List ℕ)) (text : Option (List ℕ)) (why : StepsFault) (found : Differences) → HasFound found []
    → (is_failure why ≡ false → IfSome text (λ bytes. outcome_of chosen (records_of bytes) ≡ ([], Err why)))
    → IfSome text (λ bytes. is_failure why ≡ false → HasFound found (differences_of (outcome_of chosen (records_of bytes)).0))
audit-refused chosen None why found has refuses = tt
audit-refused chosen (Some bytes) why found has refuses = λ ok. rw (refuses ok) (found-none found has)
