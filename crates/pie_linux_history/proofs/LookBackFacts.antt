-- The queue of a name after one more row.
use Rattle.std.proofs.Common.{◌≡◌, ℕ, ◌+◌, ◌%◌, ◌^◌, ◌++◌, ◌∷◌, [], List, Bool, Option, refl, append-nil, append_assoc, arith, length, length-append}
use Rattle.std.specs.Prelude.{true, false, Some, None, if◌then◌else◌, filter}
use Rattle.std.specs.List.{filter_map, sum_by}
use Rattle.std.specs.Option.{option_map, option_or}
use Rattle.std.specs.Str.{bytes_eq}
use Rattle.std.proofs.lemmas.List.Elements.{filter-append, filter_map-append}
use Rattle.std.proofs.lemmas.List.Sums.{fold-append, sum_by-append}
use Rattle.pie_linux.specs.Enqueue.{one_if}
use Rattle.pie_linux_history.specs.declared.{explained.Input.Input, queues.StepsCounts.StepsCounts, step.QueueName.QueueName, step.Step.Step}
use Rattle.pie_linux_history.specs.declared.explained.Input.TheVariants as input
use Rattle.pie_linux_history.specs.LookBack.{Entry, Lost, Skipped, Took, begins, begun, counts_of, follow, followed, followed_by, is_lack, is_of, is_opening, lack_count, lack_counted, lack_in, later_of, latest, lost_steps, step_count, name_of, opening_of, since_last, step_of, steps_of}

-- an element with one more after it
abbrev more : {A : Type 0} → A → A × List A → A × List A
more one found = (found.0, found.1 ++ one ∷ [])

-- the last element that passes a test, with one more element
since-here : {A : Type 0} (test : A → Bool) (all : List A) (one : A) → test one ≡ true → since_last test (all ++ one ∷ []) ≡ Some (one, [])
unfolding since_last
since-here test [] one is = rw is refl
since-here test (first ∷ rest) one is = rw (since-here test rest one is) refl

later-or : {A : Type 0} (found : Option (A × List A)) (is : Bool) (first one : A) (rest : List A)
    → option_or (option_map (more one) found) (if is then Some (first, rest ++ one ∷ []) else None)
    ≡ option_map (more one) (option_or found (if is then Some (first, rest) else None))
later-or None true first one rest = refl
later-or None false first one rest = refl
later-or (Some found) is first one rest = refl

since-other : {A : Type 0} (test : A → Bool) (all : List A) (one : A) → test one ≡ false
    → since_last test (all ++ one ∷ []) ≡ option_map (more one) (since_last test all)
unfolding since_last
since-other test [] one is = rw is refl
since-other test (first ∷ rest) one is = rw (since-other test rest one is) (later-or (since_last test rest) (test first) first one rest)

-- the rows of a name
rows-other : (name : List ℕ) (entries : List Entry) (one : Entry) → is_of name one ≡ false
    → filter (is_of name) (entries ++ one ∷ []) ≡ filter (is_of name) entries
rows-other name entries one is = rw (filter-append (is_of name) entries (one ∷ []), is) (append-nil (filter (is_of name) entries))

rows-same : (name : List ℕ) (entries : List Entry) (one : Entry) → is_of name one ≡ true
    → filter (is_of name) (entries ++ one ∷ []) ≡ filter (is_of name) entries ++ one ∷ []
rows-same name entries one is = rw (filter-append (is_of name) entries (one ∷ []), is) refl

-- a row of another queue
pub followed-other : (name : List ℕ) (entries : List Entry) (one : Entry) → is_of name one ≡ false
    → followed name (entries ++ one ∷ []) ≡ followed name entries
unfolding followed steps_of
followed-other name entries one is = rw (rows-other name entries one is) refl

-- lost steps
pub followed-lost : (name : List ℕ) (entries : List Entry) (queue : QueueName) (count : ℕ) → bytes_eq (name_of queue) name ≡ true
    → followed name (entries ++ Lost queue count ∷ []) ≡ None
unfolding followed steps_of
followed-lost name entries queue count is =
    rw (rows-same name entries (Lost queue count) is, since-here begins (filter (is_of name) entries) (Lost queue count) refl) refl

-- a first row
pub followed-begun : (name : List ℕ) (entries : List Entry) (queue : QueueName) (step : Step) → bytes_eq (name_of queue) name ≡ true
    → is_opening step.kind ≡ true → followed name (entries ++ Took queue step ∷ []) ≡ Some (begun name step)
unfolding followed steps_of
followed-begun name entries queue step is opens =
    rw (rows-same name entries (Took queue step) is, since-here begins (filter (is_of name) entries) (Took queue step) opens) refl

-- a later row
step-after : (name : List ℕ) (found : Option (Entry × List Entry)) (queue : QueueName) (step : Step)
    → followed_by name (opening_of (option_map (more (Took queue step)) found)) ≡ option_map (λ was. follow was step) (followed_by name (opening_of found))
step-after name None queue step = refl
step-after name (Some (Lost lost count, later)) queue step = refl
step-after name (Some (Skipped, later)) queue step = refl
step-after name (Some (Took its first, later)) queue step =
    rw (filter_map-append step_of later (Took queue step ∷ []), fold-append follow (begun name first) (filter_map step_of later) (step ∷ [])) refl

pub followed-step : (name : List ℕ) (entries : List Entry) (queue : QueueName) (step : Step) → bytes_eq (name_of queue) name ≡ true
    → is_opening step.kind ≡ false → followed name (entries ++ Took queue step ∷ []) ≡ option_map (λ was. follow was step) (followed name entries)
unfolding followed steps_of
followed-step name entries queue step is later =
    rw (rows-same name entries (Took queue step) is, since-other begins (filter (is_of name) entries) (Took queue step) later)
    (step-after name (since_last begins (filter (is_of name) entries)) queue step)

-- the moment
pub latest-none : 0 ≡ latest []
unfolding latest
latest-none = refl

pub latest-more : (entries : List Entry) (one : Entry) → latest (entries ++ one ∷ []) ≡ later_of (latest entries) one
unfolding latest
latest-more entries one = fold-append later_of 0 entries (one ∷ [])

-- ---- inputs that rows lack

pub lack-more : (which : Input) (before rest : List Entry) (one : Entry)
    → lack_count which before (rest ++ one ∷ []) ≡ lack_count which before rest + one_if (is_lack which (lack_in (before ++ rest) one))
unfolding lack_count
lack-more which before [] one = rw (append-nil before) (omega arith)
lack-more which before (first ∷ rest) one =
    rw (lack-more which (before ++ first ∷ []) rest one, append_assoc before (first ∷ []) rest) (omega arith)

-- the counts, in 64 bits
counts-same : (a b c d e f k l m n o p : ℕ) → a ≡ k → b ≡ l → c ≡ m → d ≡ n → e ≡ o → f ≡ p
    → (let counts : StepsCounts = record { events = a; steps = b; lost = c; without_returned = d; without_protocol = e; without_change = f } in counts)
    ≡ record { events = k; steps = l; lost = m; without_returned = n; without_protocol = o; without_change = p }
counts-same a b c d e f k l m n o p ak bl cm dn eo fp = rw (ak, bl, cm, dn, eo, fp) refl

counts-more : (entries : List Entry) (one : Entry) (lack : Option Input) → lack_in entries one ≡ lack
    → lack_counted (record {
      events = (length entries % 2 ^ 64 + 1) % 2 ^ 64;
      steps = (sum_by step_count entries % 2 ^ 64 + step_count one) % 2 ^ 64;
      lost = (sum_by lost_steps entries % 2 ^ 64 + lost_steps one) % 2 ^ 64;
      without_returned = lack_count input.Returned [] entries % 2 ^ 64;
      without_protocol = lack_count input.Protocol [] entries % 2 ^ 64;
      without_change = lack_count input.Change [] entries % 2 ^ 64;
    }) lack
    ≡ counts_of (entries ++ one ∷ [])
counts-more entries one None is = rw (length-append, sum_by-append, sum_by-append, lack-more input.Returned [] entries one, lack-more input.Protocol [] entries one, lack-more input.Change [] entries one, is)
    (counts-same _ _ _ _ _ _ _ _ _ _ _ _ (omega arith) (omega arith) (omega arith) (omega arith) (omega arith) (omega arith))
counts-more entries one (Some input.Returned) is = rw (length-append, sum_by-append, sum_by-append, lack-more input.Returned [] entries one, lack-more input.Protocol [] entries one, lack-more input.Change [] entries one, is)
    (counts-same _ _ _ _ _ _ _ _ _ _ _ _ (omega arith) (omega arith) (omega arith) (omega arith) (omega arith) (omega arith))
counts-more entries one (Some input.Protocol) is = rw (length-append, sum_by-append, sum_by-append, lack-more input.Returned [] entries one, lack-more input.Protocol [] entries one, lack-more input.Change [] entries one, is)
    (counts-same _ _ _ _ _ _ _ _ _ _ _ _ (omega arith) (omega arith) (omega arith) (omega arith) (omega arith) (omega arith))
counts-more entries one (Some input.Change) is = rw (length-append, sum_by-append, sum_by-append, lack-more input.Returned [] entries one, lack-more input.Protocol [] entries one, lack-more input.Change [] entries one, is)
    (counts-same _ _ _ _ _ _ _ _ _ _ _ _ (omega arith) (omega arith) (omega arith) (omega arith) (omega arith) (omega arith))

-- the counts after one more row
pub counts-after : (entries : List Entry) (one : Entry) (was : StepsCounts) → was ≡ counts_of entries
    → lack_counted (record was {
      events = (was.events + 1) % 2 ^ 64;
      steps = (was.steps + step_count one) % 2 ^ 64;
      lost = (was.lost + lost_steps one) % 2 ^ 64;
    }) (lack_in entries one) ≡ counts_of (entries ++ one ∷ [])
counts-after entries one was is = rw is (counts-more entries one (lack_in entries one) refl)
