-- The lists of a storm's plan grow by one entry, the random words are taken one after another, and the calls of a sound
-- plan's callers.
use Rattle.pie_storm.proofs.Names.{◌≡◌, ◌+◌, ◌*◌, ◌/◌, ◌^◌, ◌≤◌, ℕ, List, [], ◌∷◌, ◌++◌, map, refl, sym, arith, Vec, range_with_len, Global, length, map-append, take, take-length, total, Arrival, arrivals_of, list_in, ◌-◌, ◌==◌, nat_le, Bool, true, false, Some, slice_get, drop, subst, if◌then◌else◌, All, drop-map, take-map, nat_tests, All-nil, Call, Apply, Fold, Plan, IsFair, IsSound, arriving, calls_of, changing, departing, folder, senders, updater, updating, None, Option, ◌<◌, ◌∙◌, zero, suc, ap, ⊎_elim, length-map, planned_arrival, sender_words, IfSome, Result, Ok, Err, append-nil, Command, Event, Opening, IsLegal, IsLegalAt, decision, opening_of}
use Rattle.std.proofs.Common.{add-one}
use Rattle.std.proofs.Math.Nat.{div-le_self, mul-le-mul_left, mod-lt, mul-le-mul, mul_assoc, suc-mul}
use Rattle.std.proofs.lemmas.List.FromFn.{map-range_with_len_more, get_or-map-range_with_len, length-map-range_with_len}
use Rattle.rand_core.specs.Stream.{Stream, next_u64}
use Rattle.pie_storm.specs.Plans.{after_three, IsMoment, IsSoundArrival, sent_by, planned, HasStormRange, IsStormPlan, change_at, command_count, words_after}
use Rattle.std.proofs.lemmas.List.Elements.{All-map, All-weaker}
use Rattle.std.proofs.lemmas.Option.{get_or_from_slice_get, slice_get_within, slice_get_cases}
use Rattle.pie_book.specs.Decision.{is_too_soon}
use Rattle.pie_storm.specs.declared.plan.Change.{Change}
use Rattle.pie_storm.specs.Storms.{refusal_of, WritesHistory}
unfoldable use Rattle.pie_storm.specs.Storms.{CanStop, HasFault}
use Rattle.pie_storm.specs.declared.run.StormFault.{StormFault}
use Rattle.pie_event.specs.declared.opening.Limits.{Limits}
use Rattle.pie_link.specs.Headline.{link_refusal}
use Rattle.pie_storm.specs.declared.plan.StormNumbers.{StormNumbers}
use Rattle.std.proofs.Math.ListN.{get_or-map}
use Rattle.std.specs.Prelude.{OnOk}
use Rattle.std.specs.Io.KnownBytes.{Appends}
use Rattle.pie_aqm.specs.History.{Place, after, places}
use Rattle.pie_event.specs.Event.{fits, opening_refusal}
use Rattle.pie_record.specs.ReadBack.{IsHistoryText}
use Rattle.pie_record.specs.Text.{Row, records_of, rows_text}
use Rattle.pie_excerpt.specs.Beginning.{beginning_of}
use Rattle.pie_record.specs.Write.{written_rows}
use Rattle.pie_record.specs.declared.history_record.Line.{Line}
use Rattle.pie_record.specs.declared.history_record.Line.TheVariants.{Valid}
use Rattle.pie_audit.specs.Replay.{Audits, AuditorView, events_of, finding, first_difference, EventsAreLines, AreLegal}
use Rattle.pie_audit.specs.Text.{text_lines, text_finding, whole_finding}
use Rattle.pie_audit.specs.declared.auditor.Finding.TheVariants.{Clean, Differs}

-- ---- numbers

pub small_product : (count by : ℕ) → by ≤ 2 ^ 14 → count * by ≤ count * 2 ^ 14
small_product count by few = mul-le-mul_left count few

pub small_quotient : (i burst : ℕ) → i / burst ≤ i
small_quotient i burst = div-le_self i burst

-- ---- lists

pub total_more : (f : ℕ → ℕ) (n : ℕ) → total f (n + 1) ≡ total f n + f n
total_more f n = rw add-one refl

pub item_push : {A : Type 0} (f : ℕ → A) (j : ℕ) (list later : List A) (item : A) → list ≡ map f (range_with_len 0 j)
    → later ≡ list ++ item ∷ [] → item ≡ f j → later ≡ map f (range_with_len 0 (j + 1))
item_push f j list later item before pushed is = rw (pushed, before, is) (sym (map-range_with_len_more f 0 j j (omega arith)))

pub lists_push : (packets burst seed before : ℕ) (lists later : List (Vec Arrival Global)) (list : Vec Arrival Global)
    → map list_in lists ≡ map (arrivals_of packets burst seed) (range_with_len 1 before) → later ≡ lists ++ list ∷ []
    → list_in list ≡ arrivals_of packets burst seed (before + 1)
    → map list_in later ≡ map (arrivals_of packets burst seed) (range_with_len 1 (before + 1))
lists_push packets burst seed before lists later list so_far pushed is = rw (pushed, map-append list_in lists (list ∷ []), so_far, is)
    (sym (map-range_with_len_more (arrivals_of packets burst seed) 1 before (before + 1) (omega arith)))

pub taken_whole : {A : Type 0} (list : List A) (n : ℕ) → n ≡ length list → take n list ≡ list
taken_whole list n is = rw is (take-length list)

-- ---- words

-- ---- facts about all elements of a list

of_if : {A : Type 0} (P : A → Type 0) (b : Bool) (x y : A) → (b ≡ true → P x) → P y → P (if b then x else y)
of_if P b x y p q = grind (arith, nat_tests)

pub all_of : {A B : Type 0} (P : A → Type 0) (Q : B → Type 0) (f : A → B) (xs : List A) → ((x : A) → P x → Q (f x)) → All P xs → All Q (map f xs)
all_of P Q f xs each a = All-map Q f xs (All-weaker P (λ x. Q (f x)) each xs a)

pub all_at : {A : Type 0} (P : A → Type 0) (xs : List A) (k : ℕ) (x : A) → All P xs → slice_get xs k ≡ Some x → P x
all_at P xs k x a e = subst P (get_or_from_slice_get xs k x x e) (a k x (slice_get_within xs k x e))

-- ---- the calls of each caller

-- a call of this caller: a fold by the folder, or a command with moment and size in their ranges. Only commands of the
-- updater can be too soon
abbrev pub IsCallOf : Plan → ℕ → Call → Type 0
IsCallOf plan caller (Apply command) =
    (caller ≡ folder plan → ⊥) × IsFair command × ((caller ≡ updater plan → ⊥) → (before due : ℕ) → is_too_soon before due command ≡ false)
IsCallOf plan caller (Fold n) = caller ≡ folder plan

module _ (plan : Plan) (sound : IsSound plan) (caller : ℕ) where
  abbrev IsIts : Call → Type 0
  IsIts = IsCallOf plan caller

  sent_are : (caller ≡ folder plan → ⊥) → (found : Option (Vec Arrival Global))
      → ((list : Vec Arrival Global) → found ≡ Some list → All IsSoundArrival list.items) → All IsIts (sent_by found)
  sent_are asks None sound_one = All-nil IsIts
  sent_are asks (Some list) sound_one =
      all_of IsSoundArrival IsIts arriving list.items
      (λ x s. (asks, record { moment = s.0; size = grind (arith, nat_tests, s.1, s.2) }, λ other before due. refl)) (sound_one list refl)

  pub calls_are : All IsIts (calls_of plan caller)
  unfolding calls_of
  calls_are =
      let n = caller - senders plan in
      let F : List Call → Type 0 = All IsIts in
      of_if F (caller == 0) _ _ (λ starts. All-nil IsIts)
      (of_if F (nat_le caller (senders plan)) _ _
      (λ sends. sent_are (λ folds. grind (arith, nat_tests, sends, folds)) (slice_get plan.arrivals.items (caller - 1))
      (λ list at. all_at (λ (l : Vec Arrival Global). All IsSoundArrival l.items) plan.arrivals.items (caller - 1) list sound.arrivals at))
      (of_if F (n == 1) _ _
      (λ one. all_of IsMoment IsIts departing plan.departs.items
      (λ m s. (λ folds. grind (arith, nat_tests, one, folds), record { moment = s; size = refl }, λ other before due. refl)) sound.departs)
      (of_if F (n == 2) _ _
      (λ two. all_of IsMoment IsIts updating plan.updates.items
      (λ m s. (
        λ folds. grind (arith, nat_tests, two, folds),
        record { moment = s; size = refl },
        λ other before due. absurd (other (grind (arith, nat_tests, two))),
      )) sound.updates)
      (of_if F (n == 3) _ _
      (λ three. all_of (λ (c : Change). IsMoment c.moment) IsIts changing plan.changes.items
      (λ c s. (λ folds. grind (arith, nat_tests, three, folds), record { moment = s; size = refl }, λ other before due. refl)) sound.changes)
      (of_if F (n == 4) _ _ (λ four. All-map IsIts Fold plan.folds.items (λ k d within. grind (arith, nat_tests, four))) (All-nil IsIts))))))

-- other callers make no calls
pub no_calls : (plan : Plan) (caller : ℕ) → senders plan + 5 ≤ caller → calls_of plan caller ≡ []
unfolding calls_of
no_calls plan caller over = grind (arith, nat_tests, over)

-- a part of a sender's list has the calls of that part
pub part_of : (k n : ℕ) (list part : List Arrival) (calls : List Call) → calls ≡ map arriving list → part ≡ take n (drop k list)
    → map arriving part ≡ take n (drop k calls)
part_of k n list part calls has is = rw (is, has, drop-map arriving k list, take-map arriving n (drop k list)) refl

-- a sender's calls are those of its list
pub sender_has : (plan : Plan) (caller : ℕ) (list : Vec Arrival Global) → 1 ≤ caller → caller ≤ senders plan
    → slice_get plan.arrivals.items (caller - 1) ≡ Some list → calls_of plan caller ≡ map arriving list.items
unfolding calls_of
sender_has plan caller list one within at = grind (arith, nat_tests)

-- A plan from numbers in their ranges is sound, and its link is opened if there is memory. The events of a legal history
-- have the kinds of their commands, and are few; their text is clean.

-- ---- lists

of_range : {A : Type 0} (P : A → Type 0) (f : ℕ → A) (a n : ℕ) → ((j : ℕ) → j < a + n → P (f j)) → All P (map f (range_with_len a n))
of_range P f a n each = grind (arith, nat_tests, length-map-range_with_len, get_or-map-range_with_len)

-- a fact about the lists of vectors
all_items : (Q : List Arrival → Type 0) (lists : List (Vec Arrival Global)) → All Q (map list_in lists) → All (λ (l : Vec Arrival Global). Q l.items) lists
all_items Q lists all = λ k d within.
    subst Q (get_or-map list_in lists k d) (all k (list_in d) (omega (arith, within, length-map lists list_in)))

there : {A : Type 0} (xs : List A) (k : ℕ) → k < length xs → (x : A) × (slice_get xs k ≡ Some x)
there xs k within = ⊎_elim (λ has. (has.0, has.2)) (λ past. absurd (omega (arith, within, past.0))) (slice_get_cases xs k).1

-- ---- limits

abbrev limits_of : ℕ → Limits
limits_of count = record { packets = 1024; tail = count; events = count }

opens : (count callers : ℕ) → 1 ≤ count → count ≤ 2 ^ 20 → link_refusal (limits_of count) 0 (callers + 5) ≡ None
opens count callers one few = grind (arith, nat_tests)

module _ (n : StormNumbers) (plan : Plan) (range : HasStormRange n) (is : IsStormPlan n plan) where
  senders_are : senders plan ≡ n.senders
  senders_are = grind (arith, nat_tests, length-map, length-map-range_with_len)

  few : n.senders * n.packets ≤ 8 * 10_000
  few = mul-le-mul range.senders range.packets

  -- ---- moments and sizes

  arrival_sound : (sender i : ℕ) → IsSoundArrival (planned_arrival n.packets n.burst sender (sender_words n.seed sender) i)
  arrival_sound sender i = (grind (arith, nat_tests, range.packets), omega arith, omega (arith, mod-lt (next_u64 (words_after i (sender_words n.seed sender))).0 {m = 1437} (omega arith)))

  arrivals_sound : All (λ (list : Vec Arrival Global). All IsSoundArrival list.items) plan.arrivals.items
  arrivals_sound =
      all_items (All IsSoundArrival) plan.arrivals.items
      (rw is.arrivals (of_range (All IsSoundArrival) (arrivals_of n.packets n.burst n.seed) 1 n.senders
      (λ sender less. of_range IsSoundArrival (planned_arrival n.packets n.burst sender (sender_words n.seed sender)) 0 n.packets
      (λ i within. arrival_sound sender i))))

  departs_sound : All IsMoment plan.departs.items
  departs_sound =
      rw is.departs (of_range IsMoment (λ j. (j + 1) * n.load * 10_000 / n.senders) 0 (n.senders * n.packets) (λ j less.
      let one : j + 1 ≤ 80_000 = omega (arith, less, few) in
      omega (arith, div-le_self ((j + 1) * n.load * 10_000) n.senders, mul-le-mul one range.load)))

  updates_sound : All IsMoment plan.updates.items
  updates_sound =
      rw is.updates (of_range IsMoment (λ j. (j + 1) * 15_000_000) 0 (n.packets / 15 + 1) (λ j less.
      omega (arith, less, div-le_self n.packets 15, range.packets)))

  changes_sound : All (λ (c : Change). IsMoment c.moment) plan.changes.items
  changes_sound =
      rw is.changes (of_range (λ (c : Change). IsMoment c.moment) (change_at n.packets n.changes) 0 n.changes (λ k less.
      let one : k + 1 ≤ 100 = omega (arith, less, range.changes) in
      omega (arith, div-le_self ((k + 1) * n.packets * 1_000_000) (n.changes + 1), mul-le-mul one range.packets)))

  -- ---- the number of commands

  abbrev many : ℕ → ℕ
  many caller = length (calls_of plan caller)

  sent_many : (k : ℕ) → k < n.senders → many (k + 1) ≡ n.packets
  sent_many k less =
      let within : k < length plan.arrivals.items = omega (arith, less, senders_are) in
      let it = there plan.arrivals.items k within in
      let long : length it.0.items ≡ n.packets =
      all_at (λ (l : Vec Arrival Global). length l.items ≡ n.packets) plan.arrivals.items k it.0
      (all_items (λ (l : List Arrival). length l ≡ n.packets) plan.arrivals.items
      (rw is.arrivals (of_range (λ (l : List Arrival). length l ≡ n.packets) (arrivals_of n.packets n.burst n.seed) 1 n.senders
      (λ sender below. length-map-range_with_len (planned_arrival n.packets n.burst sender (sender_words n.seed sender)) 0 n.packets)))) it.1 in
      rw (sender_has plan (k + 1) it.0 (omega arith) (omega (arith, within)) (grind arith)) (length-map it.0.items arriving ∙ long)

  none_many : many 0 ≡ 0
  unfolding calls_of
  none_many = refl

  all_sent : (k : ℕ) → k ≤ n.senders → total many (k + 1) ≡ k * n.packets
  all_sent zero within = omega (arith, total_more many 0, none_many)
  all_sent (suc k) within = grind (arith, nat_tests, sent_many, total_more, suc-mul, all_sent k (omega (arith, within)))

  after_many : (many (n.senders + 1) ≡ n.senders * n.packets) × (many (n.senders + 2) ≡ n.packets / 15 + 1) × (many (n.senders + 3) ≡ n.changes)
  unfolding calls_of
  after_many = grind (arith, nat_tests, length-map, senders_are, length-map-range_with_len)

  planned_are : planned plan ≡ command_count n
  planned_are = grind (arith, nat_tests, senders_are, total_more, all_sent, after_many, mul_assoc)

  -- ---- the plan is sound

  pub made_sound : IsSound plan
  made_sound = grind (arith, nat_tests, senders_are, arrivals_sound, departs_sound, updates_sound, changes_sound, planned_are)

  few_commands : (1 ≤ command_count n) × (command_count n ≤ 2 ^ 20)
  few_commands = (omega arith, omega (arith, few, mul_assoc 2 n.senders n.packets, div-le_self n.packets 15, range.packets, range.changes))

  pub made_opens : refusal_of plan ≡ None
  made_opens = grind (arith, nat_tests, opens, few_commands)

  -- its storm fails only for lack of memory or of a thread
  pub can_stop : (why : StormFault) → HasFault plan why → CanStop why
  unfolding HasFault CanStop
  can_stop why has = grind (arith, nat_tests, made_sound, made_opens)

-- ---- the kind of each answer suits its command

abbrev Fits : Event → Type 0
Fits event = fits event.command event.answer ≡ true

abbrev event_of : Place Event → Event
event_of place = place.event

event-after : (event : Event) (some : List (Place Event)) → map event_of (map (after event) some) ≡ map event_of some
event-after event [] = refl
event-after event (place ∷ some) = ap (λ (later : List Event). place.event ∷ later) (event-after event some)

events-places : (events : List Event) → map event_of (places events) ≡ events
unfolding places
events-places [] = refl
events-places (event ∷ events) = ap (λ (later : List Event). event ∷ later) (event-after event (places events) ∙ events-places events)

pub fit-legal : ((opening : Opening) (history : List Event) (command : Command) → fits command (decision opening history command) ≡ true)
    → (opening : Opening) (events : List Event) → IsLegal opening events → All (λ (event : Event). fits event.command event.answer ≡ true) events
fit-legal kinds opening events legal =
    subst (All Fits) (events-places events)
    (all_of (IsLegalAt opening) Fits event_of (places events)
    (λ place at. rw at.answered (kinds opening place.before place.event.command)) legal)

-- ---- the events are found clean, and their number is bounded

-- legal events before a text are found clean
abbrev WholeIsClean : Type 0
WholeIsClean = (rows : List Row) (opening : Opening) (past : List Event) → AreLegal opening (map Valid past ++ text_lines rows)
    → whole_finding opening past rows ≡ Clean (length (events_of (map Valid past ++ text_lines rows)))

no-lines : text_lines [] ≡ []
unfolding text_lines beginning_of
no-lines = refl

-- all events of a legal history are found clean, as those before a text without lines
clean-legal : EventsAreLines → WholeIsClean → (opening : Opening) (events : List Event) → IsLegal opening events
    → finding opening (map Valid events) ≡ Clean (length events)
clean-legal are_lines whole opening events legal =
    let none : map Valid events ++ text_lines [] ≡ map Valid events =
    ap (λ (ls : List Line). map Valid events ++ ls) no-lines ∙ append-nil (map Valid events) in
    let all = subst (λ (ls : List Line). AreLegal opening ls) (sym none) (record {
      made = are_lines.made events;
      legal = subst (λ (es : List Event). IsLegal opening es) (sym (are_lines.events events)) legal;
    }) in
    ap (λ (ls : List Line). finding opening ls) (sym none) ∙ (whole [] opening events all
    ∙ (ap (λ (ls : List Line). Clean (length (events_of ls))) none ∙ ap (λ (es : List Event). Clean (length es)) (are_lines.events events)))

pub differs-never : EventsAreLines → WholeIsClean → (opening own : Opening) (events : List Event) (event : ℕ) → opening ≡ own → IsLegal own events
    → Differs event ≡ finding opening (map Valid events) → ⊥
differs-never are_lines whole opening own events event is legal differs = grind (arith, nat_tests, clean-legal)

no-difference : (opening : Opening) (lines : List Line) (events : ℕ) → finding opening lines ≡ Clean events → first_difference opening lines ≡ None
no-difference opening lines events is = grind (arith, nat_tests)

few-limits : (limits : Limits) (moment n : ℕ) → opening_refusal limits moment ≡ None → limits.events ≡ limits.tail → n ≤ limits.events → n < 2 ^ 32
few-limits limits moment n accepted same few = grind (arith, nat_tests)

few-events : EventsAreLines → WholeIsClean → (opening : Opening) (auditor : AuditorView) (events : List Event) → IsLegal opening events
    → Audits opening auditor (map Valid events) → opening.limits.events ≡ opening.limits.tail → length events < 2 ^ 32
few-events are_lines whole opening auditor events legal audits same =
    let agreed = audits.agrees (audits.differs ∙ no-difference opening (map Valid events) (length events) (clean-legal are_lines whole opening events legal))
    in
    few-limits opening.limits opening.moment (length events) audits.accepted same (omega (arith, agreed.within, are_lines.count events))

-- ---- the history of a storm

-- an audit of a text of legal events finds it clean
abbrev LegalIsClean : Type 0
LegalIsClean = (text : List ℕ) (opening : Opening) (lines : List Line) → IsHistoryText text opening lines → AreLegal opening lines
    → text_finding (records_of text) ≡ Ok (Clean (length (events_of lines)))

clean-written : EventsAreLines → LegalIsClean → (opening : Opening) (events : List Event) (known : Option (List ℕ)) → IsLegal opening events
    → IfSome known (λ text. IsHistoryText text opening (map Valid events))
    → IfSome known (λ text. text_finding (records_of text) ≡ Ok (Clean (length events)))
clean-written are_lines is_clean opening events known legal is_legal = grind (arith, nat_tests)

pub writes-answered : {A E : Type 0} → EventsAreLines → LegalIsClean → WholeIsClean → (given : Result A E) (plan : Plan) (events : List Event)
    (auditor : AuditorView) (opening : Opening) (before now : Option (List ℕ)) → opening ≡ opening_of plan
    → IsLegal (opening_of plan) events → plan.limits.events ≡ plan.limits.tail → Audits opening auditor (map Valid events)
    → OnOk given (Appends before now (rows_text (written_rows opening events)))
    → OnOk given (opening_refusal opening.limits opening.moment ≡ None → length events < 2 ^ 32 → before ≡ Some []
    → IfSome now (λ text. IsHistoryText text opening (map Valid events)))
    → OnOk given (WritesHistory plan events before now)
writes-answered are_lines is_clean whole (Ok value) plan events auditor opening before now is legal same audits appends back =
    let legal' = subst (λ (o : Opening). IsLegal o events) (sym is) legal in
    let same' : opening.limits.events ≡ opening.limits.tail = subst (λ (o : Opening). o.limits.events ≡ o.limits.tail) (sym is) same in
    let few = few-events are_lines whole opening auditor events legal' audits same' in record {
      written = subst (λ (o : Opening). Appends before now (rows_text (written_rows o events))) is appends;
      clean = λ empty. clean-written are_lines is_clean opening events now legal' (back audits.accepted few empty);
    }
writes-answered are_lines is_clean whole (Err why) plan events auditor opening before now is legal same audits appends back = tt
