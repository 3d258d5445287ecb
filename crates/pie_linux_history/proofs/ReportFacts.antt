-- A report that receives one more row.
use Rattle.std.specs.Prelude.{ℕ, false, true, ◌<◌, ◌≤◌, get_or, take, ◌+◌, ◌-◌, ◌^◌, ◌≡◌, ◌++◌, ◌∷◌, [], ⊤, List, Option, Some, None, IsOk, OnOk, Result, Ok, Err, length, map, min, option_map, suc, zero}
use Rattle.std.specs.List.{cons_option, filter_map}
use Rattle.std.specs.Io.KnownBytes.{Appends, append_known}
use Rattle.std.proofs.Common.{add-zero, ap, append-nil, append_assoc, arith, refl, subst, sym, ◌∙◌}
use Rattle.std.proofs.lemmas.List.{map-append, take_all, take_more}
use Rattle.std.proofs.lemmas.List.Sums.{sum_by-append}
use Rattle.std.proofs.lemmas.List.Elements.{filter_map-append}
use Rattle.pie_record.specs.Text.{Row}
use Rattle.pie_explain.specs.Report.{Extends, Grows}
use Rattle.pie_explain.specs.declared.{explanation.Explained.Explained, selection.Selection.Selection}
use Rattle.pie_linux_history.specs.declared.{decided.DecidedStep.DecidedStep, decided.StepNumbers.StepNumbers, decided.Taken.Taken, explained.DecidedPacket.DecidedPacket, explained.ExplainedPacket.ExplainedPacket, fault.StepsFault.StepsFault, queues.Queues.Queues, reports.Beside.Beside, step.QueueName.QueueName, step.Step.Step, text.StepsFinding.StepsFinding}
use Rattle.pie_linux_history.specs.{Audit.Ends, Audit.Outcome, Decided.decided_by, Decided.decided_in, Decided.decided_of, Decided.dropped_in, Decided.for_each, Decided.plain, Decided.step_in, Decided.with_numbers, Known.HasRead, Known.Leaves, LookBack.Entry, Reports.IsReport, Reports.IsTexts, Reports.IsWoven, Reports.ReportsEvents, Reports.ReportsPackets, Reports.ReportsThese, Reports.Writes, Reports.all_selected, Reports.all_texts, Reports.explained_packet, Reports.packet_if, Reports.packets_in, Reports.packets_of, Reports.selected, Reports.selects, Reports.texts_before, Reports.texts_beside, Reports.texts_if, Reports.texts_of}
use Rattle.pie_linux_history.proofs.AuditFacts.{for-each-more, number-more}

-- ---- text

-- more bytes were added to the page
appends-more : (before out : Option (List ℕ)) (page later text more : List ℕ) → Appends before (append_known out page) text → later ≡ page ++ more
    → Appends before (append_known out later) (text ++ more)
appends-more None out page later text more h e = tt
appends-more (Some xs) None page later text more h e = absurd h
appends-more (Some xs) (Some ys) page later text more h e = rw (e, ← append_assoc ys page more, h, append_assoc xs text more) refl

appends-page : (known : Option (List ℕ)) (page : List ℕ) → Appends known (append_known known page) page
appends-page None page = tt
appends-page (Some xs) page = refl

-- the page was written out: the output has the same bytes
appends-kept : (before out later : Option (List ℕ)) (text : List ℕ) → Appends before out text → Appends out later [] → Appends before later text
appends-kept None out later text h moved = tt
appends-kept (Some xs) None later text h moved = absurd h
appends-kept (Some xs) (Some ys) None text h moved = absurd moved
appends-kept (Some xs) (Some ys) (Some zs) text h moved = rw (moved, append-nil ys, h) refl

appends-page-out : (before out now : Option (List ℕ)) (page text : List ℕ) → Appends before (append_known out page) text → Appends out now page → Appends before now text
appends-page-out None out now page text h moved = tt
appends-page-out (Some xs) None now page text h moved = absurd h
appends-page-out (Some xs) (Some ys) None page text h moved = absurd moved
appends-page-out (Some xs) (Some ys) (Some zs) page text h moved = rw (moved, h) refl

pub writes-more : {had has : List ℕ → Type 0} (before out : Option (List ℕ)) (page page_then : List ℕ) → (was : Writes had before (append_known out page))
    → Grows has was.text page page_then → Writes has before (append_known out page_then)
writes-more before out page page_then was grows = record {
  text = was.text ++ grows.more;
  says_it = grows.says;
  written = appends-more before out page page_then was.text grows.more was.written grows.grown;
}

pub writes-kept : {has : List ℕ → Type 0} (before out later : Option (List ℕ)) → Writes has before out → Appends out later [] → Writes has before later
writes-kept before out later was moved =
    record { text = was.text; says_it = was.says_it; written = appends-kept before out later was.text was.written moved }

pub writes-out : {has : List ℕ → Type 0} (before out now : Option (List ℕ)) (page : List ℕ) → Writes has before (append_known out page) → Appends out now page → Writes has before now
writes-out before out now page was moved =
    record { text = was.text; says_it = was.says_it; written = appends-page-out before out now page was.text was.written moved }

pub writes-first : {has : List ℕ → Type 0} (known : Option (List ℕ)) (page : List ℕ) → Grows has [] [] page → Writes has known (append_known known page)
writes-first known page grows = record { text = grows.more; says_it = grows.says; written = rw grows.grown (appends-page known grows.more) }

pub grows-same : {has : List ℕ → Type 0} (text page : List ℕ) → has text → Grows has text page page
grows-same {has} text page is =
    record { more = []; grown = sym (append-nil page); says = subst has (sym (append-nil text)) is }

pub grows_none : (text page : List ℕ) → Grows (λ (all : List ℕ). ⊤) text page page
grows_none text page = grows-same text page tt

pub grows-then : {had has : List ℕ → Type 0} (text page mid now : List ℕ) → (first : Grows had text page mid) → Grows has (text ++ first.more) mid now
    → Grows has text page now
grows-then {had} {has} text page mid now first second = record {
  more = first.more ++ second.more;
  grown = second.grown ∙ rw first.grown (append_assoc page first.more second.more);
  says = subst has (append_assoc text first.more second.more) second.says;
}

-- ---- rows

decided-none : decided_of [] ≡ []
unfolding for_each
decided-none = refl

-- the decided step of the last row
pub decided-is : (queues : Queues) (entries : List Entry) (entry : Entry) → HasRead queues (entries ++ entry ∷ []) → Leaves queues entries entry
    → decided_by queues.counts.events queues.moment queues.last queues.taken ≡ decided_in entries entry
unfolding decided_in
decided-is queues entries entry read leaves = rw (read.counts_are, read.moment_is, leaves.last_is, leaves.taken_is) refl

plain-with : (event moment : ℕ) (last : QueueName × Step) (arrival : Option DecidedPacket) (before after : Option StepNumbers)
    → option_map plain (with_numbers event moment last arrival before after) ≡ with_numbers event moment last arrival before after
plain-with event moment last arrival None after = refl
plain-with event moment last arrival (Some before) None = refl
plain-with event moment last arrival (Some before) (Some after) = refl

plain-by : (event moment : ℕ) (last : Option (QueueName × Step)) (taken : Option Taken)
    → option_map plain (decided_by event moment last taken) ≡ decided_by event moment last taken
plain-by event moment None taken = refl
plain-by event moment (Some last) None = refl
plain-by event moment (Some last) (Some taken) = plain-with event moment last taken.decision.arrival taken.before taken.after

plain-in : (entries : List Entry) (entry : Entry) → option_map plain (decided_in entries entry) ≡ decided_in entries entry
unfolding decided_in
plain-in entries entry = plain-by _ _ _ _

pub full-is : (queues : Queues) (entries : List Entry) (entry : Entry) (full decided : Option DecidedStep) → option_map plain full ≡ option_map plain decided
    → decided ≡ decided_by queues.counts.events queues.moment queues.last queues.taken → HasRead queues (entries ++ entry ∷ []) → Leaves queues entries entry
    → option_map plain full ≡ decided_in entries entry
full-is queues entries entry full decided same is read leaves =
    same ∙ ap (option_map plain) (is ∙ decided-is queues entries entry read leaves) ∙ plain-in entries entry

-- ---- events

-- the selected steps with one more step
selected-push : (selection : Selection) (steps : List DecidedStep) (one : DecidedStep) (found : Option Explained) → selected selection one ≡ found
    → all_selected selection (steps ++ one ∷ []) ≡ all_selected selection steps ++ cons_option found []
unfolding all_selected
selected-push selection steps one found is =
    filter_map-append (selected selection) steps (one ∷ []) ∙ ap (λ (o : Option Explained). filter_map (selected selection) steps ++ cons_option o []) is

steps-more : (entries : List Entry) (entry : Entry) (steps : List DecidedStep) (full : Option DecidedStep) → map plain steps ≡ decided_of entries
    → option_map plain full ≡ decided_in entries entry → map plain (steps ++ cons_option full []) ≡ decided_of (entries ++ entry ∷ [])
steps-more entries entry steps None are is = rw (append-nil steps, for-each-more step_in [] entries entry, ← is, append-nil (decided_of entries)) are
steps-more entries entry steps (Some one) are is =
    rw (map-append, for-each-more step_in [] entries entry, ← is, are) refl

-- texts within a text, and then more of both
woven-front : (count : ℕ) (first plain text : List ℕ) → IsWoven count plain text → IsWoven count (first ++ plain) (first ++ text)
unfolding IsWoven
woven-front zero first plain text was = ap (λ (x : List ℕ). first ++ x) was
woven-front (suc count) first plain text was =
    (first ++ was.0, was.1, was.2, was.3, was.4, rw was.5 (sym (append_assoc first was.0 was.2)), rw was.6 (sym (append_assoc first was.0 (was.1 ++ was.3))))

woven-then : (count more : ℕ) (plain text later then_text : List ℕ) → IsWoven count plain text → IsWoven more later then_text
    → IsWoven (count + more) (plain ++ later) (text ++ then_text)
unfolding IsWoven
woven-then zero more plain text later then_text was next =
    let e : 0 + more ≡ more = omega arith in rw (e, was) (woven-front more plain later then_text next)
woven-then (suc count) more plain text later then_text was next =
    let e : suc count + more ≡ suc (count + more) = omega arith in rw e (
      was.0,
      was.1,
      was.2 ++ later,
      was.3 ++ then_text,
      woven-then count more was.2 was.3 later then_text was.4 next,
      rw was.5 (append_assoc was.0 was.2 later),
      rw (was.6, append_assoc was.0 (was.1 ++ was.3) then_text, append_assoc was.1 was.3 then_text) refl,
    )

pub woven-record : (event page now : List ℕ) → now ≡ page ++ event → Grows (IsWoven 0 event) [] page now
unfolding IsWoven
woven-record event page now is = record { more = event; grown = is; says = refl }

pub woven-packet : (event page mid now : List ℕ) → mid ≡ page ++ event → Grows (λ (text : List ℕ). ⊤) [] mid now → Grows (IsWoven 1 event) [] page now
unfolding IsWoven
woven-packet event page mid now is grows = record {
  more = event ++ grows.more;
  grown = grows.grown ∙ rw is (append_assoc page event grows.more);
  says = (event, grows.more, [], [], refl, sym (append-nil event), rw append-nil refl);
}

pub extends_by : (page more : List ℕ) → Extends page (page ++ more)
extends_by page more = record { more = more; grown = refl }

-- a field within a record
pub woven-field : (event first last page begun comma mid now : List ℕ) → event ≡ first ++ last → begun ≡ page ++ first → comma ≡ begun ++ 44 ∷ [] → Extends comma mid
    → now ≡ mid ++ last → Grows (IsWoven 1 event) [] page now
unfolding IsWoven
woven-field event first last page begun comma mid now split one two three four = record {
  more = first ++ ((44 ∷ [] ++ three.more) ++ last);
  grown = four ∙ rw (three.grown, two, one) (simp append_assoc);
  says = (first, 44 ∷ [] ++ three.more, last, last, refl, split, refl);
}

plus-none : (count : ℕ) → count + 0 ≡ count
plus-none count = omega arith

texts-more : (beside : Beside) (selection : Selection) (steps : List DecidedStep) (one : DecidedStep) (count : ℕ) → texts_of beside selection one ≡ count
    → all_texts beside selection (steps ++ one ∷ []) ≡ all_texts beside selection steps + count
unfolding all_texts
texts-more beside selection steps one count is = rw (sum_by-append, is) (omega arith)

-- no step, a step that is not selected, and a selected step
pub events-none : {shows : List Explained → Type 0} {so_far : List Explained → List ℕ → Type 0} {beside : Beside} {selection : Selection} {count : ℕ} {text : List ℕ}
    (entries : List Entry) (entry : Entry) (page : List ℕ) → (let none : Option DecidedStep = None in none) ≡ decided_in entries entry
    → ReportsEvents shows so_far beside selection count entries text
    → Grows (ReportsEvents shows so_far beside selection count (entries ++ entry ∷ [])) text page page
events-none {text} entries entry page none was = grows-same text page (record {
  steps = was.steps;
  are = rw append-nil at (steps-more entries entry was.steps None was.are none);
  shown = was.shown;
  text_is = was.text_is;
  counted = was.counted;
})

pub events-same : {shows : List Explained → Type 0} {so_far : List Explained → List ℕ → Type 0} {beside : Beside} {selection : Selection} {count : ℕ} {text : List ℕ}
    (entries : List Entry) (entry : Entry) (page : List ℕ) (one : DecidedStep) → option_map plain (Some one) ≡ decided_in entries entry
    → selected selection one ≡ None → ReportsEvents shows so_far beside selection count entries text
    → Grows (ReportsEvents shows so_far beside selection count (entries ++ entry ∷ [])) text page page
events-same {beside} {selection} {text} entries entry page one it none was =
    let same : all_selected selection (was.steps ++ one ∷ []) ≡ all_selected selection was.steps =
    selected-push selection was.steps one None none ∙ append-nil (all_selected selection was.steps) in
    let texts : all_texts beside selection (was.steps ++ one ∷ []) ≡ all_texts beside selection was.steps =
    texts-more beside selection was.steps one 0 (ap (texts_if beside one) none) ∙ plus-none (all_texts beside selection was.steps) in
    grows-same text page (record {
      steps = was.steps ++ one ∷ [];
      are = steps-more entries entry was.steps (Some one) was.are it;
      shown = rw same was.shown;
      text_is = record { plain = was.text_is.plain; says_it = rw same was.text_is.says_it; woven = rw texts was.text_is.woven };
      counted = rw same was.counted;
    })

pub events-more : {shows shows_then : List Explained → Type 0} {so_far : List Explained → List ℕ → Type 0} {beside : Beside} {selection : Selection} {count : ℕ} {text : List ℕ}
    (entries : List Entry) (entry : Entry) (empty event page now : List ℕ) (one : DecidedStep) (full : Explained) → option_map plain (Some one) ≡ decided_in entries entry
    → selected selection one ≡ Some full → empty ≡ [] → (was : ReportsEvents shows so_far beside selection count entries text)
    → shows_then (all_selected selection was.steps ++ full ∷ [])
    × Grows (so_far (all_selected selection was.steps ++ full ∷ [])) was.text_is.plain empty event
    → Grows (IsWoven (texts_beside beside one.arrival) event) [] page now
    → Grows (ReportsEvents shows_then so_far beside selection (min (count + 1) (2 ^ 64 - 1)) (entries ++ entry ∷ [])) text page now
events-more {beside} {selection} {count} {text} entries entry empty event page now one full it some none was grows puts =
    let more : all_selected selection (was.steps ++ one ∷ []) ≡ all_selected selection was.steps ++ full ∷ [] = selected-push selection was.steps one (Some full) some in
    let is : event ≡ grows.1.more = rw none at grows.1.grown in
    record {
      more = puts.more;
      grown = puts.grown;
      says = record {
        steps = was.steps ++ one ∷ [];
        are = steps-more entries entry was.steps (Some one) was.are it;
        shown = rw more grows.0;
        text_is = record {
          plain = was.text_is.plain ++ grows.1.more;
          says_it = rw more grows.1.says;
          woven = rw (texts-more beside selection was.steps one (texts_beside beside one.arrival) (ap (texts_if beside one) some), ← is)
              (woven-then (all_texts beside selection was.steps) (texts_beside beside one.arrival) was.text_is.plain text event puts.more was.text_is.woven puts.says);
        };
        counted = rw more (number-more (all_selected selection was.steps) full count was.counted);
      };
    }

pub events-begun : {shows : List Explained → Type 0} {so_far : List Explained → List ℕ → Type 0} {beside : Beside} {selection : Selection} (empty event page now : List ℕ) → empty ≡ []
    → shows [] → Grows (so_far []) [] empty event → Grows (IsWoven (texts_before beside) event) [] page now
    → Grows (ReportsEvents shows so_far beside selection 0 []) [] page now
unfolding all_selected all_texts
events-begun {beside} empty event page now none shown begun puts =
    let is : event ≡ begun.more = rw none at begun.grown in
    record {
      more = puts.more;
      grown = puts.grown;
      says = record {
        steps = [];
        are = sym decided-none;
        shown = shown;
        text_is = record { plain = begun.more; says_it = begun.says; woven = rw (plus-none (texts_before beside), ← is) puts.says };
        counted = refl;
      };
    }

-- a result has what follows from it
ok-has : {A E : Type 0} {S : Type 0} (result : Result A E) → IsOk result → OnOk result S → S
ok-has (Ok value) ok has = has
ok-has (Err why) ok has = cc

pub events-ended : {shows : List Explained → Type 0} {so_far : List Explained → List ℕ → Type 0} {whole : List Explained → List ℕ → Type 0} {beside : Beside} {selection : Selection} {count : ℕ}
    {E : Type 0} {A : Type 0} (entries : List Entry) (before out now : Option (List ℕ)) (page page_then : List ℕ) (ended : Result A E)
    → ((all : List Explained) (text : List ℕ) → shows all → so_far all text → OnOk ended (Grows (whole all) text page page_then)) → IsOk ended
    → Appends out now page_then
    → Writes (ReportsEvents shows so_far beside selection count entries) before (append_known out page)
    → Writes (IsReport whole beside selection count entries) before now
unfolding IsWoven
events-ended {beside} {selection} entries before out now page page_then ended ends ok moved was =
    let it = was.says_it in
    let grows = ok-has ended ok (ends (all_selected selection it.steps) it.text_is.plain it.shown it.text_is.says_it) in
    writes-out before out now page_then (writes-more before out page page_then was (record {
      more = grows.more;
      grown = grows.grown;
      says = record {
        steps = it.steps;
        are = it.are;
        shown = tt;
        text_is = record {
          plain = it.text_is.plain ++ grows.more;
          says_it = grows.says;
          woven = rw (plus-none (all_texts beside selection it.steps)) at (woven-then (all_texts beside selection it.steps) 0 it.text_is.plain was.text grows.more grows.more it.text_is.woven refl);
        };
        counted = it.counted;
      };
    })) moved

-- a result has what follows from what it has
pub on-ok : {A E : Type 0} {S T : Type 0} (result : Result A E) → (S → T) → OnOk result S → OnOk result T
on-ok (Ok value) follows has = follows has
on-ok (Err why) follows has = tt

pub ends-with : {had has : List Entry → Type 0} {outcome : List Row → Outcome} {rows : Option (List Row)} {result : Result StepsFinding StepsFault}
    → ((entries : List Entry) → had entries → has entries) → Ends had outcome rows result → Ends has outcome rows result
ends-with follows ends = record { entries = ends.entries; has_them = follows ends.entries ends.has_them; same = ends.same }

-- ---- packets

packet-texts : {A : Type 0} (is : A → List ℕ → Type 0) (all : List A) (one : A) (text more : List ℕ) → IsTexts is all text → is one more
    → IsTexts is (all ++ one ∷ []) (text ++ more)
unfolding IsTexts
packet-texts is [] one text more were says = (more, [], says, refl, rw (were, append-nil more) refl)
packet-texts is (first ∷ rest) one text more were says =
    (were.0, were.1 ++ more, were.2, packet-texts is rest one were.1 more were.3 says, rw (were.4, append_assoc were.0 were.1 more) refl)

pub packets-none : {is : ExplainedPacket → List ℕ → Type 0} (count : ℕ) → count ≡ 0 → (selection : Selection) → ReportsPackets is selection count [] []
unfolding IsTexts for_each
packets-none count none selection = record { says = refl; counted = none }

-- one packet
pub packet-same : {is : ExplainedPacket → List ℕ → Type 0} {count : ℕ} (all : List ExplainedPacket) (text page : List ℕ) (found : Option ExplainedPacket)
    → found ≡ None → ReportsThese is all count text → Grows (ReportsThese is (all ++ cons_option found []) count) text page page
packet-same {is} {count} all text page found none was = rw (none, append-nil all) (grows-same text page was)

pub packet-more : {is : ExplainedPacket → List ℕ → Type 0} {count : ℕ} (all : List ExplainedPacket) (text page now : List ℕ) (found : Option ExplainedPacket) (one : ExplainedPacket)
    → found ≡ Some one → Grows (is one) [] page now → ReportsThese is all count text
    → Grows (ReportsThese is (all ++ cons_option found []) (min (count + 1) (2 ^ 64 - 1))) text page now
packet-more {is} {count} all text page now found one some grows was = rw some (record {
  more = grows.more;
  grown = grows.grown;
  says = record { says = packet-texts is all one text grows.more was.says grows.says; counted = number-more all one count was.counted };
})

-- the packets of a row
pub row-none : {is : ExplainedPacket → List ℕ → Type 0} {count : ℕ} (selection : Selection) (entries : List Entry) (entry : Entry) (text page : List ℕ)
    → decided_in entries entry ≡ None → ReportsPackets is selection count entries text
    → Grows (ReportsPackets is selection count (entries ++ entry ∷ [])) text page page
row-none selection entries entry text page none was =
    grows-same text page (rw (for-each-more (packets_in selection) [] entries entry, none, append-nil (packets_of selection entries)) was)

row-by : (selection : Selection) (entries : List Entry) (entry : Entry) (one : DecidedStep) (dropped : List DecidedPacket) → decided_in entries entry ≡ Some one
    → dropped_in entries entry ≡ dropped
    → packets_of selection (entries ++ entry ∷ [])
    ≡ (packets_of selection entries ++ filter_map (packet_if selection one) dropped) ++ filter_map (packet_if selection one) (cons_option one.arrival [])
row-by selection entries entry one dropped some are =
    rw (for-each-more (packets_in selection) [] entries entry, some, are, filter_map-append)
    (sym (append_assoc (packets_of selection entries) (filter_map (packet_if selection one) dropped) (filter_map (packet_if selection one) (cons_option one.arrival []))))

pub packet-some : (selection : Selection) (one : DecidedStep) (packet : DecidedPacket) → selects selection one packet ≡ true
    → packet_if selection one packet ≡ Some (explained_packet one packet)
packet-some selection one packet is = rw is refl

pub packet-none : (selection : Selection) (one : DecidedStep) (packet : DecidedPacket) → selects selection one packet ≡ false → packet_if selection one packet ≡ None
packet-none selection one packet is = rw is refl

-- the first ones of the packets that a step dropped
pub lost-first : {is : ExplainedPacket → List ℕ → Type 0} {count : ℕ} (f : DecidedPacket → Option ExplainedPacket) (all : List ExplainedPacket) (lost : List DecidedPacket) (text page : List ℕ)
    → ReportsThese is all count text → Grows (ReportsThese is (all ++ filter_map f (take 0 lost)) count) text page page
lost-first f all lost text page was = rw (append-nil all) (grows-same text page was)

pub lost-next : {is : ExplainedPacket → List ℕ → Type 0} {count later : ℕ} (f : DecidedPacket → Option ExplainedPacket) (all : List ExplainedPacket) (lost : List DecidedPacket) (place : ℕ)
    (default one : DecidedPacket) (text page mid now : List ℕ) → place < length lost → one ≡ get_or lost place default
    → (first : Grows (ReportsThese is (all ++ filter_map f (take place lost)) count) text page mid)
    → Grows (ReportsThese is ((all ++ filter_map f (take place lost)) ++ cons_option (f one) []) later) (text ++ first.more) mid now
    → Grows (ReportsThese is (all ++ filter_map f (take (place + 1) lost)) later) text page now
lost-next f all lost place default one text page mid now within is first second =
    let split : take (place + 1) lost ≡ take place lost ++ one ∷ [] =
    take_more lost place default within ∙ ap (λ (x : DecidedPacket). take place lost ++ x ∷ []) (sym is) in
    let joined : (all ++ filter_map f (take place lost)) ++ cons_option (f one) [] ≡ all ++ filter_map f (take (place + 1) lost) =
    append_assoc all (filter_map f (take place lost)) (cons_option (f one) [])
    ∙ ap (λ (x : List ExplainedPacket). all ++ x) (sym (filter_map-append f (take place lost) (one ∷ [])) ∙ ap (filter_map f) (sym split)) in
    grows-then text page mid now first (rw joined at second)

pub lost-all : {is : ExplainedPacket → List ℕ → Type 0} {count : ℕ} (f : DecidedPacket → Option ExplainedPacket) (all : List ExplainedPacket) (lost : List DecidedPacket) (place : ℕ) (text page now : List ℕ)
    → length lost ≤ place → Grows (ReportsThese is (all ++ filter_map f (take place lost)) count) text page now
    → Grows (ReportsThese is (all ++ filter_map f lost) count) text page now
lost-all f all lost place text page now over was = rw (take_all place lost over) at was

-- all packets of a row
pub row-packets : {is : ExplainedPacket → List ℕ → Type 0} {count later : ℕ} (selection : Selection) (entries : List Entry) (entry : Entry) (one : DecidedStep) (dropped : List DecidedPacket)
    (text page mid now : List ℕ) → decided_in entries entry ≡ Some one → dropped_in entries entry ≡ dropped
    → (first : Grows (ReportsThese is (packets_of selection entries ++ filter_map (packet_if selection one) dropped) count) text page mid)
    → Grows (ReportsThese is ((packets_of selection entries ++ filter_map (packet_if selection one) dropped)
    ++ filter_map (packet_if selection one) (cons_option one.arrival [])) later) (text ++ first.more) mid now
    → Grows (ReportsPackets is selection later (entries ++ entry ∷ [])) text page now
row-packets {is} {count} {later} selection entries entry one dropped text page mid now some are first second =
    subst (λ (packets : List ExplainedPacket). Grows (ReportsThese is packets later) text page now) (sym (row-by selection entries entry one dropped some are))
    (grows-then text page mid now first second)

pub row-lost : {is : ExplainedPacket → List ℕ → Type 0} {count : ℕ} (selection : Selection) (entries : List Entry) (entry : Entry) (one : DecidedStep) (dropped : List DecidedPacket)
    (text page now : List ℕ) → decided_in entries entry ≡ Some one → dropped_in entries entry ≡ dropped → one.arrival ≡ None
    → Grows (ReportsThese is (packets_of selection entries ++ filter_map (packet_if selection one) dropped) count) text page now
    → Grows (ReportsPackets is selection count (entries ++ entry ∷ [])) text page now
row-lost {is} {count} selection entries entry one dropped text page now some are none first =
    let before = packets_of selection entries ++ filter_map (packet_if selection one) dropped in
    let same : before ++ filter_map (packet_if selection one) (cons_option one.arrival []) ≡ before =
    ap (λ (arrival : Option DecidedPacket). before ++ filter_map (packet_if selection one) (cons_option arrival [])) none ∙ append-nil before in
    row-packets selection entries entry one dropped text page now now some are first
    (subst (λ (packets : List ExplainedPacket). Grows (ReportsThese is packets count) (text ++ first.more) now now) (sym same)
    (grows-same (text ++ first.more) now first.says))

pub row-arrival : {is : ExplainedPacket → List ℕ → Type 0} {count later : ℕ} (selection : Selection) (entries : List Entry) (entry : Entry) (one : DecidedStep) (dropped : List DecidedPacket)
    (packet : DecidedPacket) (text page mid now : List ℕ) → decided_in entries entry ≡ Some one → dropped_in entries entry ≡ dropped → one.arrival ≡ Some packet
    → (first : Grows (ReportsThese is (packets_of selection entries ++ filter_map (packet_if selection one) dropped) count) text page mid)
    → Grows (ReportsThese is ((packets_of selection entries ++ filter_map (packet_if selection one) dropped) ++ cons_option (packet_if selection one packet) []) later)
    (text ++ first.more) mid now
    → Grows (ReportsPackets is selection later (entries ++ entry ∷ [])) text page now
row-arrival {is} {count} {later} selection entries entry one dropped packet text page mid now some are arrives first second =
    let before = packets_of selection entries ++ filter_map (packet_if selection one) dropped in
    let same : before ++ filter_map (packet_if selection one) (cons_option one.arrival []) ≡ before ++ cons_option (packet_if selection one packet) [] =
    ap (λ (arrival : Option DecidedPacket). before ++ filter_map (packet_if selection one) (cons_option arrival [])) arrives in
    row-packets selection entries entry one dropped text page mid now some are first
    (subst (λ (packets : List ExplainedPacket). Grows (ReportsThese is packets later) (text ++ first.more) mid now) (sym same) second)
