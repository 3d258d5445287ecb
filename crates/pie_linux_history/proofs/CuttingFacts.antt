-- The rows of a text that is cut: what is written so far, followed by the cut of the rows that remain, is the cut of all.
use Rattle.std.specs.Prelude.{ℕ, ◌+◌, ◌-◌, ◌≡◌, ◌<◌, ◌++◌, ◌∷◌, [], Bool, true, false, List, length, max, Option, Some, None, IfSome, option_map, Result, Ok, Err, unwrap_or}
use Rattle.std.specs.Io.KnownBytes.{Appends, append_known}
use Rattle.std.proofs.Common.{append-nil, append_assoc, ap, arith, length-append, refl, sym, ◌∙◌}
use Rattle.std.proofs.KnownBytes.{Appends-nil, Appends-trans, Keeps-refl, append_known-grown}
use Rattle.pie_linux.specs.Enqueue.{one_if}
use Rattle.pie_record.specs.{Field.fault_at, Text.Row, Text.TakesRow, Text.Took, Text.records_of}
use Rattle.pie_record.specs.declared.fault.RecordFault.{RecordFault}
use Rattle.pie_linux_history.specs.declared.{columns.Columns.Columns, cutter.StepPieces.StepPieces, fault.StepsFault.StepsFault, fault.StepsFault.TheVariants.Trace, queues.Queues.Queues, queues.StepDifference.StepDifference, queues.StepsCounts.StepsCounts, text.StepsFinding.StepsFinding, text.StepsFinding.TheVariants.Clean, text.StepsFinding.TheVariants.Differs}
use Rattle.pie_linux_history.specs.{Columns.columns_of, Columns.moment_of, Audit.ReadsColumns, Audit.has_failed, Audit.is_failure, Audit.next, Audit.with_entry, Cuts.Cut, Cuts.IsEnd, Cuts.Plan, Cuts.at_end, Cuts.beginning_at, Cuts.checked, Cuts.copied_at, Cuts.cut_after, Cuts.cut_by, Cuts.cut_from, Cuts.cut_of, Cuts.fault_in, Cuts.flaw_of, Cuts.found_before, Cuts.is_after, Cuts.joined, Cuts.moment_at, Cuts.no_rows, Cuts.plan, Cuts.selects, Cuts.unless_fault, Cutting.CutOn, Cutting.CutsRow, Cutting.CutsRows, Cutting.Stands, Known.HasRead, Known.Takes, LookBack.Entry, LookBack.counts_of, LookBack.entry_in}

-- ---- parts of a cut

cut-same : (a b : List ℕ) (m n : ℕ) (finding : Result StepsFinding StepsFault) → a ≡ b → m ≡ n
    → (let cut : Cut = record { text = a; count = m; finding = finding } in cut) ≡ record { text = b; count = n; finding = finding }
cut-same a b m n finding ab mn = rw (ab, mn) refl

joined-none : (cut : Cut) → cut ≡ joined [] 0 cut
joined-none cut = cut-same cut.text cut.text cut.count (0 + cut.count) cut.finding refl (omega arith)

joined-twice : (first second : List ℕ) (m n : ℕ) (cut : Cut) → joined first m (joined second n cut) ≡ joined (first ++ second) (m + n) cut
joined-twice first second m n cut = cut-same _ _ _ _ cut.finding (sym (append_assoc first second cut.text)) (omega arith)

-- ---- a row that is taken

-- what a row adds
abbrev row_text : Plan → List Entry → ℕ → ℕ → Row → List ℕ
row_text plan entries number moment row = beginning_at plan entries number moment ++ copied_at plan.pieces number moment row

abbrev row_count : Plan → ℕ → ℕ → ℕ
row_count plan number moment = one_if (selects plan.pieces number moment)

-- the cut from a row that is taken
cut-taken : (plan : Plan) (entries : List Entry) (row : Row) (rows : List Row) (taken : Result (Option StepDifference) StepsFault) (queues : Queues)
    → is_after plan.pieces (length entries + 1) (moment_at plan.columns entries row) ≡ false → Takes queues entries (entry_in None plan.columns row) taken
    → cut_after plan entries (row ∷ rows)
    ≡ cut_by plan entries (length entries + 1) (moment_at plan.columns entries row) row taken
    (at_end plan (length entries + 1) rows) (cut_after plan (with_entry entries (entry_in None plan.columns row)) rows)
unfolding cut_after
cut-taken plan entries row rows taken queues before takes = rw (before, takes.result_is) refl

on-by : (plan : Plan) (entries : List Entry) (row : Row) (entry : Result Entry RecordFault) (queues : Queues) (page now : List ℕ) (written more : ℕ)
    → Takes queues entries entry (Ok None)
    → now ≡ page ++ row_text plan entries (length entries + 1) (moment_at plan.columns entries row) row
    → more ≡ written + row_count plan (length entries + 1) (moment_at plan.columns entries row)
    → ((rows : List Row) → cut_after plan entries (row ∷ rows)
    ≡ joined (row_text plan entries (length entries + 1) (moment_at plan.columns entries row) row) (row_count plan (length entries + 1) (moment_at plan.columns entries row))
    (cut_after plan (with_entry entries entry) rows))
    → CutOn plan None None entries (length entries + 1) row page now written more queues
on-by plan entries row (Err what) queues page now written more takes added counted same = let e = takes.result_is in cc
on-by plan entries row (Ok one) queues page now written more takes added counted same = record {
  after = entries ++ one ∷ [];
  text = row_text plan entries (length entries + 1) (moment_at plan.columns entries row) row;
  count = row_count plan (length entries + 1) (moment_at plan.columns entries row);
  text_is = added;
  count_is = counted;
  stands = (takes.read, rw length-append (omega arith));
  same = same;
}

-- the finding of a row that is taken
abbrev pub finding_of_row : Result (Option StepDifference) StepsFault → Result (Option StepsFinding) StepsFault
finding_of_row (Ok None) = Ok None
finding_of_row (Ok (Some found)) = Ok (Some (Differs found 1))
finding_of_row (Err why) = Err why

row-cut : (plan : Plan) (entries : List Entry) (row : Row) (taken : Result (Option StepDifference) StepsFault) (queues : Queues) (page now : List ℕ) (written more : ℕ)
    → is_after plan.pieces (length entries + 1) (moment_at plan.columns entries row) ≡ false → Takes queues entries (entry_in None plan.columns row) taken
    → now ≡ page ++ row_text plan entries (length entries + 1) (moment_at plan.columns entries row) row
    → more ≡ written + row_count plan (length entries + 1) (moment_at plan.columns entries row)
    → CutsRow plan None entries (length entries + 1) row (finding_of_row taken) page now written more queues
row-cut plan entries row (Ok None) queues page now written more before takes added counted =
    on-by plan entries row (entry_in None plan.columns row) queues page now written more takes added counted
    (λ rows. cut-taken plan entries row rows (Ok None) queues before takes)
row-cut plan entries row (Ok (Some found)) queues page now written more before takes added counted = record {
  after = entries;
  text = row_text plan entries (length entries + 1) (moment_at plan.columns entries row) row;
  count = row_count plan (length entries + 1) (moment_at plan.columns entries row);
  text_is = added;
  count_is = counted;
  stands = tt;
  same = λ rows. cut-taken plan entries row rows (Ok (Some found)) queues before takes;
}
row-cut plan entries row (Err why) queues page now written more before takes added counted =
    λ rows. ap (λ (cut : Cut). cut.finding) (cut-taken plan entries row rows (Err why) queues before takes)

pub row-refused : (plan : Plan) (entries : List Entry) (number moment : ℕ) (row : Row) (why : StepsFault) (queues : Queues) (page now : List ℕ) (written more : ℕ)
    → number ≡ length entries + 1 → moment ≡ moment_at plan.columns entries row → is_after plan.pieces number moment ≡ false
    → Takes queues entries (entry_in None plan.columns row) (Err why)
    → CutsRow plan None entries number row (Err why) page now written more queues
row-refused plan entries number moment row why queues page now written more is at before takes =
    λ rows. ap (λ (cut : Cut). cut.finding) (cut-taken plan entries row rows (Err why) queues (rw (is, at) at before) takes)

pub row-taken : (plan : Plan) (entries : List Entry) (number moment : ℕ) (row : Row) (taken : Result (Option StepDifference) StepsFault) (queues : Queues)
    (page begun now : List ℕ) (written more : ℕ) → number ≡ length entries + 1 → moment ≡ moment_at plan.columns entries row → is_after plan.pieces number moment ≡ false
    → Takes queues entries (entry_in None plan.columns row) taken
    → begun ≡ page ++ beginning_at plan entries number moment → now ≡ begun ++ copied_at plan.pieces number moment row
    → more ≡ written + one_if (selects plan.pieces number moment)
    → CutsRow plan None entries number row (finding_of_row taken) page now written more queues
row-taken plan entries number moment row taken queues page begun now written more is at before takes begins copies counted =
    let copies_all : now ≡ (page ++ beginning_at plan entries number moment) ++ copied_at plan.pieces number moment row = rw begins at copies in
    let added : now ≡ page ++ row_text plan entries (length entries + 1) (moment_at plan.columns entries row) row =
    rw (is, at) at (copies_all ∙ append_assoc page (beginning_at plan entries number moment) (copied_at plan.pieces number moment row)) in
    rw is (row-cut plan entries row taken queues page now written more (rw (is, at) at before) takes added (rw (is, at) at counted))

-- ---- a row after the last piece

abbrev read_so : ℕ → Option RecordFault → StepsFinding → Result (Option StepsFinding) StepsFault
read_so number None finding = Ok (Some finding)
read_so number (Some what) finding = Err (Trace (fault_at (next number) what))

end-by : (plan : Plan) (before : ℕ) (row : Row) (rows : List Row) (finding : StepsFinding) (entry : Result Entry RecordFault) → entry_in None plan.columns row ≡ entry
    → at_end plan before (row ∷ rows) finding ≡ no_rows (unless_fault before entry (checked plan.columns (before + 1) finding rows))
unfolding checked
end-by plan before row rows finding entry is = rw is refl

end-first : (plan : Plan) (entries : List Entry) (row : Row) (rows : List Row) (finding : StepsFinding) (after : Bool)
    → is_after plan.pieces (length entries + 1) (moment_at plan.columns entries row) ≡ after
    → found_before after None (counts_of entries) ≡ Some finding
    → cut_after plan entries (row ∷ rows) ≡ at_end plan (length entries + 1 - 1) (row ∷ rows) finding
unfolding cut_after
end-first plan entries row rows finding true after is =
    let e : length entries + 1 - 1 ≡ length entries = omega arith in
    let f : Clean (counts_of entries) ≡ finding = cc in rw (after, e, ← f) refl
end-first plan entries row rows finding false after is = cc

-- the cut from a row of which there is a finding before it
from-end : (plan : Plan) (over : Option StepsFinding) (entries : List Entry) (number : ℕ) (row : Row) (rows : List Row) (finding : StepsFinding) (queues : Queues)
    → Stands queues entries over number
    → found_before (is_after plan.pieces number (moment_at plan.columns entries row)) over (counts_of entries) ≡ Some finding
    → cut_from plan over entries (number - 1) (row ∷ rows) ≡ at_end plan (number - 1) (row ∷ rows) finding
from-end plan (Some found) entries number row rows finding queues stands is = let e : found ≡ finding = cc in rw e refl
from-end plan None entries number row rows finding queues stands is =
    rw stands.1 (end-first plan entries row rows finding (is_after plan.pieces (length entries + 1) (moment_at plan.columns entries row)) refl (rw stands.1 at is))

read-by : (plan : Plan) (over : Option StepsFinding) (entries : List Entry) (number : ℕ) (row : Row) (finding : StepsFinding) (queues : Queues)
    (page : List ℕ) (written : ℕ) (flaw : Option RecordFault) (entry : Result Entry RecordFault) → entry_in None plan.columns row ≡ entry
    → 0 < number → Stands queues entries over number
    → found_before (is_after plan.pieces number (moment_at plan.columns entries row)) over (counts_of entries) ≡ Some finding
    → flaw ≡ flaw_of entry
    → CutsRow plan over entries number row (read_so number flaw finding) page page written written queues
read-by plan over entries number row finding queues page written flaw (Ok one) reads first stands is flawed =
    let e : number - 1 + 1 ≡ number = omega arith in
    rw flawed (record {
      after = entries;
      text = [];
      count = 0;
      text_is = sym (append-nil page);
      count_is = omega arith;
      stands = tt;
      same = λ rows. rw e at (from-end plan over entries number row rows finding queues stands is
          ∙ end-by plan (number - 1) row rows finding (Ok one) reads);
    })
read-by plan over entries number row finding queues page written flaw (Err what) reads first stands is flawed =
    let e : number - 1 + 1 ≡ number = omega arith in
    rw flawed (λ rows. rw e at (ap (λ (cut : Cut). cut.finding) (from-end plan over entries number row rows finding queues stands is
    ∙ end-by plan (number - 1) row rows finding (Err what) reads)))

pub row-read : (plan : Plan) (over : Option StepsFinding) (entries : List Entry) (number moment : ℕ) (row : Row) (finding : StepsFinding) (queues : Queues) (counts : StepsCounts)
    (page : List ℕ) (written : ℕ) (flaw : Option RecordFault) → 0 < number → Stands queues entries over number
    → moment ≡ max queues.moment (moment_of plan.columns row) → counts ≡ queues.counts
    → found_before (is_after plan.pieces number moment) over counts ≡ Some finding
    → flaw ≡ fault_in plan.columns row
    → CutsRow plan over entries number row (read_so number flaw finding) page page written written queues
row-read plan None entries number moment row finding queues counts page written flaw first stands at counted is flawed =
    let counts_are : counts ≡ counts_of entries = counted ∙ stands.0.counts_are in
    let moment_is : moment ≡ moment_at plan.columns entries row = rw stands.0.moment_is at at in
    read-by plan None entries number row finding queues page written flaw (entry_in None plan.columns row) refl first stands (rw (counts_are, moment_is) at is) flawed
row-read plan (Some found) entries number moment row finding queues counts page written flaw first stands at counted is flawed =
    read-by plan (Some found) entries number row finding queues page written flaw (entry_in None plan.columns row) refl first stands is flawed

-- ---- all rows

-- the text so far, and the rows that remain
pub record CutSo (plan : Plan) (rows : List Row) (was now : Option (List ℕ)) (over : Option StepsFinding) (entries : List Entry) (before written : ℕ) (later : Option (List Row)) : Type 0 where
  pub rest : List Row
  pub text : List ℕ
  pub later_is : later ≡ Some rest
  pub text_is : Appends was now text
  pub same : cut_after plan [] rows ≡ joined text written (cut_from plan over entries before rest)

pub record Cutting (plan : Plan) (all : Option (List Row)) (was now : Option (List ℕ)) (over : Option StepsFinding) (before written : ℕ) (later : Option (List Row)) (queues : Queues) : Type 0 where
  pub entries : List Entry
  pub stands : Stands queues entries over (before + 1)
  pub so_far : IfSome all (λ rows. CutSo plan rows was now over entries before written later)

so-first : (plan : Plan) (all : Option (List Row)) (was : Option (List ℕ)) → IfSome all (λ rows. CutSo plan rows was was None [] 0 0 all)
so-first plan None was = tt
so-first plan (Some rows) was = record { rest = rows; text = []; later_is = refl; text_is = Appends-nil was; same = joined-none (cut_after plan [] rows) }

pub cutting-first : (plan : Plan) (all : Option (List Row)) (was : Option (List ℕ)) (queues : Queues) → HasRead queues [] → Cutting plan all was was None 0 0 all queues
cutting-first plan all was queues read = record { entries = []; stands = (read, refl); so_far = so-first plan all was }

so-next : (plan : Plan) (all : Option (List Row)) (was now : Option (List ℕ)) (over over_then : Option StepsFinding) (entries after : List Entry) (before written more : ℕ)
    (later later_then : Option (List Row)) (now_then : Option (List ℕ)) (row : Row) (text : List ℕ) (count : ℕ)
    → TakesRow later true row later_then → Appends now now_then text → more ≡ written + count
    → ((rows : List Row) → cut_from plan over entries before (row ∷ rows) ≡ joined text count (cut_from plan over_then after (before + 1) rows))
    → IfSome all (λ rows. CutSo plan rows was now over entries before written later)
    → IfSome all (λ rows. CutSo plan rows was now_then over_then after (before + 1) more later_then)
so-next plan None was now over over_then entries after before written more later later_then now_then row text count took added counted same so = tt
so-next plan (Some rows) was now over over_then entries after before written more later later_then now_then row text count took added counted same so =
    let t : Took row so.rest later_then = rw so.later_is at took in
    record {
      rest = t.rest;
      text = so.text ++ text;
      later_is = t.remain;
      text_is = Appends-trans was now now_then so.text text so.text_is added;
      same = so.same ∙ rw (t.first, same t.rest, counted) (joined-twice so.text text written count (cut_from plan over_then after (before + 1) t.rest));
    }

moved-on : (out out_then : Option (List ℕ)) (page now left text : List ℕ) → now ≡ page ++ text → Appends (append_known out now) (append_known out_then left) []
    → Appends (append_known out page) (append_known out_then left) text
moved-on out out_then page now left text grows moved =
    rw (append-nil text) at (Appends-trans (append_known out page) (append_known out now) (append_known out_then left) text []
    (append_known-grown (append_known out page) out page now text (Keeps-refl (append_known out page)) grows) moved)

pub cutting-next : (plan : Plan) (all : Option (List Row)) (was out out_then : Option (List ℕ)) (page now left : List ℕ) (over over_then : Option StepsFinding) (before number written more : ℕ)
    (later later_then : Option (List Row)) (row : Row) (queues queues_then : Queues) → number ≡ before + 1
    → (so : Cutting plan all was (append_known out page) over before written later queues) → TakesRow later true row later_then
    → CutOn plan over over_then so.entries number row page now written more queues_then
    → Appends (append_known out now) (append_known out_then left) []
    → Cutting plan all was (append_known out_then left) over_then number more later_then queues_then
cutting-next plan all was out out_then page now left over over_then before number written more later later_then row queues queues_then is so took on moved =
    let e : before + 1 - 1 ≡ before = omega arith in
    record {
      entries = on.after;
      stands = on.stands;
      so_far = rw is (so-next plan all was (append_known out page) over over_then so.entries on.after before written more later later_then (append_known out_then left) row on.text on.count
          took (moved-on out out_then page now left on.text on.text_is moved) on.count_is (λ rows. rw (is, e) at (on.same rows)) so.so_far);
    }

-- no row remains
abbrev pub end_of : Option StepsFinding → StepsCounts → StepsFinding
end_of over counts = unwrap_or over (Clean counts)

none-left : (plan : Plan) (over : Option StepsFinding) (entries : List Entry) (before : ℕ) (queues : Queues) → Stands queues entries over (before + 1)
    → cut_from plan over entries before [] ≡ no_rows (Ok (end_of over queues.counts))
unfolding cut_after checked
none-left plan None entries before queues stands = rw stands.0.counts_are refl
none-left plan (Some finding) entries before queues stands = refl

pub cutting-over : (plan : Plan) (all : Option (List Row)) (was now : Option (List ℕ)) (over : Option StepsFinding) (before written : ℕ) (later later_then : Option (List Row)) (row : Row)
    (queues : Queues) → Cutting plan all was now over before written later queues → TakesRow later false row later_then
    → IfSome all (λ rows. false ≡ false → CutsRows (cut_after plan [] rows) (Ok (written, end_of over queues.counts)) was now)
cutting-over plan None was now over before written later later_then row queues so took = tt
cutting-over plan (Some rows) was now over before written later later_then row queues so took = λ ok.
    let none : so.so_far.rest ≡ [] = rw so.so_far.later_is at took in
    let same : cut_after plan [] rows ≡ joined so.so_far.text written (no_rows (Ok (end_of over queues.counts))) =
    so.so_far.same ∙ rw none (ap (joined so.so_far.text written) (none-left plan over so.entries before queues so.stands)) in
    let count : written + 0 ≡ written = omega arith in
    rw same (count, refl, rw (append-nil so.so_far.text) so.so_far.text_is)

pub cutting-refused : (plan : Plan) (all : Option (List Row)) (was now : Option (List ℕ)) (over : Option StepsFinding) (before number written : ℕ) (later later_then : Option (List Row)) (row : Row)
    (queues : Queues) (why : StepsFault) (so : Cutting plan all was now over before written later queues) → number ≡ before + 1 → TakesRow later true row later_then
    → (is_failure why ≡ false → (rows : List Row) → (cut_from plan over so.entries (number - 1) (row ∷ rows)).finding ≡ Err why)
    → IfSome all (λ rows. is_failure why ≡ false → (cut_after plan [] rows).finding ≡ Err why)
cutting-refused plan None was now over before number written later later_then row queues why so is took refuses = tt
cutting-refused plan (Some rows) was now over before number written later later_then row queues why so is took refuses = λ ok.
    let t : Took row so.so_far.rest later_then = rw so.so_far.later_is at took in
    let e : before + 1 - 1 ≡ before = omega arith in
    rw (so.so_far.same, t.first) (rw (is, e) at (refuses ok t.rest))

-- ---- a text

refused-rows : (pieces : StepPieces) (why : StepsFault) (later : Option (List Row)) (rows : List Row) → ReadsColumns rows (Err why) later → IsEnd (cut_of pieces rows) (Err why)
refused-rows pieces why later [] reads = cc
refused-rows pieces why later (names ∷ rows) reads = rw (← reads.0) refl

pub cut-refused : (text : Option (List ℕ)) (pieces : StepPieces) (why : StepsFault) (later : Option (List Row))
    → IfSome (option_map records_of text) (λ rows. is_failure why ≡ false → ReadsColumns rows (Err why) later)
    → IfSome text (λ bytes. is_failure why ≡ false → IsEnd (cut_of pieces (records_of bytes)) (Err why))
cut-refused None pieces why later reads = tt
cut-refused (Some bytes) pieces why later reads = λ ok. refused-rows pieces why later (records_of bytes) (reads ok)

pub cut-all : (text : Option (List ℕ)) (pieces : StepPieces) (names : Row) (columns : Columns) (later : Option (List Row)) (result : Result (ℕ × StepsFinding) StepsFault)
    (before now : Option (List ℕ)) → TakesRow (option_map records_of text) true names later → columns_of names ≡ Ok columns
    → IfSome later (λ rows. has_failed result ≡ false → CutsRows (cut_after (plan pieces names columns) [] rows) result before now)
    → IfSome text (λ bytes. has_failed result ≡ false → CutsRows (cut_of pieces (records_of bytes)) result before now)
cut-all None pieces names columns later result before now took named cuts = tt
cut-all (Some bytes) pieces names columns later result before now took named cuts =
    λ ok. rw (took.first, named) ((rw took.remain at cuts) ok)

pub cut-end : (text : Option (List ℕ)) (pieces : StepPieces) (result : Result (ℕ × StepsFinding) StepsFault) (before now : Option (List ℕ))
    → IfSome text (λ bytes. has_failed result ≡ false → CutsRows (cut_of pieces (records_of bytes)) result before now)
    → IfSome text (λ bytes. has_failed result ≡ false → IsEnd (cut_of pieces (records_of bytes)) result)
cut-end None pieces result before now cuts = tt
cut-end (Some bytes) pieces (Ok done) before now cuts = λ ok. ((cuts ok).0, (cuts ok).1)
cut-end (Some bytes) pieces (Err why) before now cuts = cuts

pub cut-text : (text : Option (List ℕ)) (pieces : StepPieces) (done : ℕ × StepsFinding) (before now out out_then : Option (List ℕ))
    → ((all : List ℕ) → Appends before now all → Appends out out_then all)
    → IfSome text (λ bytes. false ≡ false → CutsRows (cut_of pieces (records_of bytes)) (Ok done) before now)
    → IfSome text (λ bytes. Appends out out_then (cut_of pieces (records_of bytes)).text)
cut-text None pieces done before now out out_then all cuts = tt
cut-text (Some bytes) pieces done before now out out_then all cuts = all _ (cuts refl).2
