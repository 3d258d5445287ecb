-- The rows of a text, counted; rows that are written, and the queues before a piece.
use Rattle.std.specs.Prelude.{suc, ℕ, [], ◌+◌, ◌-◌, ◌<◌, ◌≤◌, ◌≡◌, ◌++◌, ◌∷◌, ◌||◌, ⊤, Bool, true, false, List, Option, Some, None, IfSome, drop, get_or, if◌then◌else◌, length, map, not, option_map}
use Rattle.std.proofs.Common.{add-one, append-nil, append_assoc, ap, arith, refl, subst, sym, ◌∙◌}
use Rattle.std.proofs.lemmas.List.{drop_all, drop_more}
use Rattle.std.specs.List.{filter_map, fold}
use Rattle.std.specs.Str.{bytes_eq}
use Rattle.pie_linux_history.specs.declared.{columns.Columns.Columns, known.Known.Known}
use Rattle.pie_linux_history.specs.{Cuts.Named, Cuts.fields_until, Cuts.flow_rows, Cuts.flows_rows, Cuts.has_name, Cuts.named_by, Cuts.names_after, Cuts.names_of, Cuts.queues_of, Cuts.with_name, Cuts.without_name, Known.Represents, Known.known_names, Known.looked_up, Known.named, LookBack.Entry, LookBack.Followed, LookBack.Lost, LookBack.Skipped, LookBack.Took as TookStep, LookBack.is_opening, LookBack.name_of, Views.FlowView}
use Rattle.pie_linux_history.proofs.KnownFacts.{test-same, test-sym}
use Rattle.pie_record.specs.Text.{Row, TakesRow, Took, records_of}

-- so many of all records were read, and the others remain
abbrev pub Counted : Option (List Row) → ℕ → Option (List Row) → Type 0
Counted all read later = IfSome all (λ rows. (rest : List Row) × (later ≡ Some rest) × (length rows ≡ read + length rest))

pub counted-first : (all : Option (List Row)) → Counted all 0 all
counted-first None = tt
counted-first (Some rows) = (rows, refl, omega arith)

pub counted-next : (all : Option (List Row)) (read : ℕ) (later after : Option (List Row)) (row : Row) → TakesRow later true row after → Counted all read later
    → Counted all (read + 1) after
counted-next None read later after row took was = tt
counted-next (Some rows) read later after row took was =
    let t : Took row was.0 after = rw was.1 at took in
    let e : length was.0 ≡ suc (length t.rest) = rw t.first refl in
    (t.rest, t.remain, was.2 ∙ rw e (omega arith))

pub counted-all : (text : Option (List ℕ)) (read : ℕ) (later after : Option (List Row)) (row : Row) → TakesRow later false row after
    → Counted (option_map records_of text) read later → IfSome text (λ bytes. read - 1 ≡ length (records_of bytes) - 1)
counted-all None read later after row took was = tt
counted-all (Some bytes) read later after row took was =
    let none : was.0 ≡ [] = rw was.1 at took in
    let e : length was.0 ≡ 0 = rw none refl in
    rw was.2 (rw e (omega arith))

-- ---- rows that are written

-- fields
pub until_none : (field : ℕ → List ℕ) → fields_until field 0 ≡ []
unfolding fields_until
until_none field = refl

pub until_more : (field : ℕ → List ℕ) (place : ℕ) → fields_until field (place + 1) ≡ fields_until field place ++ field place ∷ []
unfolding fields_until
until_more field place = rw add-one refl

-- a text grows by the first of those that remain
pub goes_by : (page now first rest whole target : List ℕ) → now ≡ page ++ first → whole ≡ first ++ rest → page ++ whole ≡ target → now ++ rest ≡ target
goes_by page now first rest whole target n w t = rw n (append_assoc page first rest ∙ ap (λ (x : List ℕ). page ++ x) (sym w) ∙ t)

pub ends_by : (page rest target : List ℕ) → rest ≡ [] → page ++ rest ≡ target → page ≡ target
ends_by page rest target none t = sym (append-nil page) ∙ ap (λ (x : List ℕ). page ++ x) (sym none) ∙ t

pub flows_more : (columns : Columns) (name : List ℕ) (number moment : ℕ) (has_flows : Bool) (place : ℕ) (flows : List FlowView) (flow : FlowView)
    → place < length flows → flow ≡ get_or flows place flow
    → flows_rows columns name number moment has_flows place (drop place flows)
    ≡ flow_rows columns name number moment has_flows place flow ++ flows_rows columns name number moment has_flows (place + 1) (drop (place + 1) flows)
unfolding flows_rows
flows_more columns name number moment has_flows place flows flow within is =
    let split : drop place flows ≡ flow ∷ drop (place + 1) flows = drop_more flows place flow within ∙ ap (λ (x : FlowView). x ∷ drop (place + 1) flows) (sym is) in
    rw split refl

pub flows_over : (columns : Columns) (name : List ℕ) (number moment : ℕ) (has_flows : Bool) (place : ℕ) (flows : List FlowView)
    → length flows ≤ place → flows_rows columns name number moment has_flows place (drop place flows) ≡ []
unfolding flows_rows
flows_over columns name number moment has_flows place flows over = rw (drop_all place flows over) refl

-- ---- the queues before a piece

-- no name is there twice
abbrev Distinct : List (List ℕ) → Type 0
Distinct [] = ⊤
Distinct (name ∷ rest) = (has_name name rest ≡ false) × Distinct rest

both-false : (a b : Bool) → (a || b) ≡ false → (a ≡ false) × (b ≡ false)
both-false true b e = cc
both-false false b e = (refl, e)

has-kept : (name other first : List ℕ) (rest : List (List ℕ)) (is : Bool) → bytes_eq first name ≡ false → has_name name rest ≡ false
    → has_name name (if not is then first ∷ rest else rest) ≡ false
has-kept name other first rest true isnt none = none
has-kept name other first rest false isnt none = rw isnt none

has-without : (name other : List ℕ) (names : List (List ℕ)) → has_name name names ≡ false → has_name name (without_name other names) ≡ false
has-without name other [] none = refl
has-without name other (first ∷ rest) none =
    let both = both-false (bytes_eq first name) (has_name name rest) none in
    has-kept name other first (without_name other rest) (bytes_eq first other) both.0 (has-without name other rest both.1)

distinct-kept : (first : List ℕ) (rest : List (List ℕ)) (is : Bool) → has_name first rest ≡ false → Distinct rest → Distinct (if not is then first ∷ rest else rest)
distinct-kept first rest true none d = d
distinct-kept first rest false none d = (none, d)

distinct-without : (other : List ℕ) (names : List (List ℕ)) → Distinct names → Distinct (without_name other names)
distinct-without other [] d = tt
distinct-without other (first ∷ rest) d =
    distinct-kept first (without_name other rest) (bytes_eq first other) (has-without first other rest d.0) (distinct-without other rest d.1)

has-pushed : (name last : List ℕ) (names : List (List ℕ)) → has_name name names ≡ false → bytes_eq last name ≡ false → has_name name (names ++ last ∷ []) ≡ false
has-pushed name last [] none isnt = rw isnt refl
has-pushed name last (first ∷ rest) none isnt =
    let both = both-false (bytes_eq first name) (has_name name rest) none in rw both.0 (has-pushed name last rest both.1 isnt)

distinct-pushed : (last : List ℕ) (names : List (List ℕ)) → has_name last names ≡ false → Distinct names → Distinct (names ++ last ∷ [])
distinct-pushed last [] none d = (refl, tt)
distinct-pushed last (first ∷ rest) none d =
    let both = both-false (bytes_eq first last) (has_name last rest) none in
    (has-pushed first last rest d.0 (test-sym first last both.0), distinct-pushed last rest both.1 d.1)

distinct-with : (name : List ℕ) (names : List (List ℕ)) (has : Bool) → has_name name names ≡ has → Distinct names
    → Distinct (if has then names else names ++ name ∷ [])
distinct-with name names true is d = d
distinct-with name names false is d = distinct-pushed name names is d

distinct-opening : (name : List ℕ) (names : List (List ℕ)) (opens : Bool) → Distinct names → Distinct (if opens then with_name name names else names)
distinct-opening name names true d = distinct-with name names (has_name name names) refl d
distinct-opening name names false d = d

distinct-after : (names : List (List ℕ)) (one : Entry) → Distinct names → Distinct (names_after names one)
distinct-after names (Lost queue count) d = distinct-without (name_of queue) names d
distinct-after names (TookStep queue step) d = distinct-opening (name_of queue) names (is_opening step.kind) d
distinct-after names Skipped d = d

distinct-fold : (entries : List Entry) (names : List (List ℕ)) → Distinct names → Distinct (fold names_after names entries)
distinct-fold [] names d = d
distinct-fold (one ∷ rest) names d = distinct-fold rest (names_after names one) (distinct-after names one d)

names-distinct : (entries : List Entry) → Distinct (names_of entries)
unfolding names_of
names-distinct entries = distinct-fold entries [] tt

-- the queue of a name, with this name
abbrev named_as : List ℕ → Option Followed → Option Named
named_as name was = option_map (λ was. record { name = name; was = was }) was

abbrev found : List Known → List ℕ → Option Named
found queues name = named_as name (looked_up name queues)

found-later : (known : Known) (rest : List Known) (names : List (List ℕ)) → has_name (name_of known.name) names ≡ false
    → filter_map (found (known ∷ rest)) names ≡ filter_map (found rest) names
unfolding looked_up
found-later known rest [] none = refl
found-later known rest (name ∷ names) none =
    let both = both-false (bytes_eq name (name_of known.name)) (has_name (name_of known.name) names) none in
    rw (test-sym name (name_of known.name) both.0, found-later known rest names both.1) refl

all-found : (queues : List Known) → Distinct (known_names queues) → filter_map (found queues) (known_names queues) ≡ map named queues
unfolding looked_up
all-found [] d = refl
all-found (known ∷ rest) d =
    rw (test-same (name_of known.name), found-later known rest (known_names rest) d.0) (ap (λ (later : List Named). named known ∷ later) (all-found rest d.1))

filter_map-same : {A B : Type 0} (f g : A → Option B) (xs : List A) → ((x : A) → f x ≡ g x) → filter_map f xs ≡ filter_map g xs
filter_map-same f g [] same = refl
filter_map-same f g (x ∷ xs) same = rw (same x, filter_map-same f g xs same) refl

-- the queues are those that a look-back finds, in order
pub queues-are : (queues : List Known) (entries : List Entry) → Represents queues entries → map named queues ≡ queues_of entries
unfolding queues_of
queues-are queues entries was =
    sym (all-found queues (subst (λ (names : List (List ℕ)). Distinct names) (sym was.names_are) (names-distinct entries)))
    ∙ ap (filter_map (found queues)) was.names_are
    ∙ filter_map-same (found queues) (named_by entries) (names_of entries) (λ name. ap (named_as name) (was.by_name name))
