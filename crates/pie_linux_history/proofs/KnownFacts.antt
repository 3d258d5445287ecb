-- The queues by their names, after each operation.
use Rattle.std.proofs.Common.{◌≡◌, ℕ, ◌+◌, ◌<◌, ◌≤◌, ◌++◌, ◌∷◌, [], List, Bool, Option, refl, ◌∙◌, sym, ap, arith, drop, get_or, length}
use Rattle.std.proofs.lemmas.List.{drop_all, drop_more, map-append}
use Rattle.std.proofs.lemmas.List.Sums.{fold-append}
use Rattle.std.proofs.Math.ListN.{set}
use Rattle.std.specs.Prelude.{zero, suc, true, false, Some, None, if◌then◌else◌, filter, not}
use Rattle.std.specs.Option.{option_map}
use Rattle.std.specs.Str.{bytes_eq}
use Rattle.std.proofs.lemmas.Slice.Eq.{bytes_eq-Decides}
use Rattle.pie_linux_history.specs.declared.{decided.Taken.Taken, explained.Decision.Decision, known.Known.Known, step.QueueName.QueueName, step.Step.Step}
use Rattle.pie_linux_history.specs.{Cuts.has_name, Cuts.names_after, Cuts.names_of, Cuts.with_name, Cuts.without_name, Decided.numbers_of, Decided.taken_by, Known.IsPlaceOf, Known.Represents, Known.known_names, Known.looked_up, Known.tracked, LookBack.Entry, LookBack.Followed, LookBack.Lost, LookBack.Skipped, LookBack.Took, LookBack.begun, LookBack.follow, LookBack.followed, LookBack.is_opening, LookBack.name_of, LookBack.next_of, LookBack.since_last, LookBack.steps_of}
use Rattle.pie_linux_history.proofs.LookBackFacts.{followed-begun, followed-lost, followed-other, followed-step}

-- ---- names

same-test : (a b c : List ℕ) → bytes_eq a b ≡ true → bytes_eq a c ≡ bytes_eq b c
same-test a b c is = ap (λ (x : List ℕ). bytes_eq x c) ((bytes_eq-Decides a b).0 is)

other-test : (a b c : List ℕ) (there : Bool) → bytes_eq b c ≡ there → bytes_eq a b ≡ false → bytes_eq a c ≡ true → there ≡ false
other-test a b c false e isnt is = refl
other-test a b c true e isnt is =
    let ac : a ≡ c = (bytes_eq-Decides a c).0 is in
    let bc : b ≡ c = (bytes_eq-Decides b c).0 e in
    let ab : bytes_eq a b ≡ true = (bytes_eq-Decides a b).1 (ac ∙ sym bc) in
    cc

pub test-same : (a : List ℕ) → bytes_eq a a ≡ true
test-same a = (bytes_eq-Decides a a).1 refl

sym-by : (a b : List ℕ) (is : Bool) → bytes_eq b a ≡ is → bytes_eq a b ≡ false → bytes_eq b a ≡ false
sym-by a b false e isnt = e
sym-by a b true e isnt =
    let ab : bytes_eq a b ≡ true = (bytes_eq-Decides a b).1 (sym ((bytes_eq-Decides b a).0 e)) in cc

pub test-sym : (a b : List ℕ) → bytes_eq a b ≡ false → bytes_eq b a ≡ false
test-sym a b isnt = sym-by a b (bytes_eq b a) refl isnt

-- one queue before others is looked up, in place of another or before others
pick-same : {A : Type 0} (here there : Bool) (was now rest : Option A) → here ≡ there
    → (if here then now else rest) ≡ (if there then now else (if here then was else rest))
pick-same true true was now rest e = refl
pick-same true false was now rest e = cc
pick-same false true was now rest e = cc
pick-same false false was now rest e = refl

pick-other : {A : Type 0} (here there : Bool) (known now rest after : Option A) → (here ≡ true → there ≡ false)
    → after ≡ (if there then now else rest)
    → (if here then known else after) ≡ (if there then now else (if here then known else rest))
pick-other true true known now rest after e is = let h : true ≡ false = e refl in cc
pick-other true false known now rest after e is = refl
pick-other false true known now rest after e is = is
pick-other false false known now rest after e is = is

-- ---- the search

-- the queue with this name is not before this place
pub record Searched (name : List ℕ) (queues : List Known) (place : ℕ) : Type 0 where
  pub found : (more : ℕ) → IsPlaceOf name (drop place queues) more → IsPlaceOf name queues (place + more)
  pub same : looked_up name queues ≡ looked_up name (drop place queues)

pub searched-first : (name : List ℕ) (queues : List Known) → Searched name queues 0
searched-first name queues = record {
  found = λ more at. let e : 0 + more ≡ more = omega arith in rw e at;
  same = refl;
}

pub searched-next : (name : List ℕ) (queues : List Known) (place : ℕ) (known : Known) → place < length queues → known ≡ get_or queues place known
    → bytes_eq (name_of known.name) name ≡ false → Searched name queues place → Searched name queues (place + 1)
unfolding looked_up IsPlaceOf
searched-next name queues place known within is other was =
    let split : drop place queues ≡ known ∷ drop (place + 1) queues = drop_more queues place known within ∙ ap (λ (x : Known). x ∷ drop (place + 1) queues) (sym is) in
    record {
      found = λ more at.
          let e : place + 1 + more ≡ place + suc more = omega arith in
          rw e (was.found (suc more) (rw split (other, at)));
      same = was.same ∙ rw (split, other) refl;
    }

pub searched-here : (name : List ℕ) (queues : List Known) (place : ℕ) (known : Known) → place < length queues → known ≡ get_or queues place known
    → bytes_eq (name_of known.name) name ≡ true → Searched name queues place → IsPlaceOf name queues place
unfolding IsPlaceOf
searched-here name queues place known within is here was =
    let split : drop place queues ≡ known ∷ drop (place + 1) queues = drop_more queues place known within ∙ ap (λ (x : Known). x ∷ drop (place + 1) queues) (sym is) in
    let at : IsPlaceOf name (drop place queues) zero = rw split here in
    let e : place + zero ≡ place = omega arith in
    rw e at (was.found zero at)

pub searched-all : (name : List ℕ) (queues : List Known) (place : ℕ) → length queues ≤ place → Searched name queues place → looked_up name queues ≡ None
unfolding looked_up
searched-all name queues place all was = was.same ∙ rw (drop_all place queues all) refl

-- a place of a queue is one of the places
pub place-within : (name : List ℕ) (queues : List Known) (place : ℕ) → IsPlaceOf name queues place → place < length queues
unfolding IsPlaceOf
place-within name [] place at = absurd at
place-within name (known ∷ rest) zero at = omega arith
place-within name (known ∷ rest) (suc place) at = let h = place-within name rest place at.1 in omega arith

-- ---- operations

-- another queue in the place of the one with its name
pub looked-set : (queues : List Known) (place : ℕ) (name : List ℕ) (now : Known) (other : List ℕ) → IsPlaceOf name queues place → name_of now.name ≡ name
    → looked_up other (set queues place now) ≡ (if bytes_eq name other then Some (tracked now) else looked_up other queues)
unfolding looked_up IsPlaceOf
looked-set [] place name now other at same = absurd at
looked-set (known ∷ rest) zero name now other at same =
    rw (same, same-test (name_of known.name) name other at)
    (pick-same (bytes_eq name other) (bytes_eq name other) (Some (tracked known)) (Some (tracked now)) (looked_up other rest) refl)
looked-set (known ∷ rest) (suc place) name now other at same =
    pick-other (bytes_eq (name_of known.name) other) (bytes_eq name other) (Some (tracked known)) (Some (tracked now)) (looked_up other rest)
    (looked_up other (set rest place now)) (λ is. other-test (name_of known.name) name other (bytes_eq name other) refl at.0 is)
    (looked-set rest place name now other at.1 same)

-- the queue of a name is the one in its place
pub looked-at : (queues : List Known) (place : ℕ) (name : List ℕ) (known : Known) → IsPlaceOf name queues place → known ≡ get_or queues place known
    → looked_up name queues ≡ Some (tracked known)
unfolding looked_up IsPlaceOf
looked-at [] place name known at is = absurd at
looked-at (first ∷ rest) zero name known at is = rw (at, is) refl
looked-at (first ∷ rest) (suc place) name known at is = rw at.0 (looked-at rest place name known at.1 is)

-- its name
pub name-at : (queues : List Known) (place : ℕ) (name : List ℕ) (known : Known) → IsPlaceOf name queues place → known ≡ get_or queues place known
    → name_of known.name ≡ name
unfolding IsPlaceOf
name-at [] place name known at is = absurd at
name-at (first ∷ rest) zero name known at is = rw is ((bytes_eq-Decides (name_of first.name) name).0 at)
name-at (first ∷ rest) (suc place) name known at is = name-at rest place name known at.1 is

-- a step of the queue in its place
take-name : (name other : List ℕ) (queues : List Known) (known now : Known) (step : Step) (rest : Option Followed) (same : Bool)
    → bytes_eq name other ≡ same → looked_up name queues ≡ Some (tracked known) → tracked now ≡ follow (tracked known) step
    → (if same then Some (tracked now) else rest) ≡ (if same then option_map (λ was. follow was step) (looked_up other queues) else rest)
take-name name other queues known now step rest true is found follows =
    let e : name ≡ other = (bytes_eq-Decides name other).0 is in
    rw (← e, found) (ap (λ (x : Followed). let some : Option Followed = Some x in some) follows)
take-name name other queues known now step rest false is found follows = refl

pub looked-take : (queues : List Known) (place : ℕ) (name : List ℕ) (known now : Known) (step : Step) (other : List ℕ)
    → IsPlaceOf name queues place → known ≡ get_or queues place known → now.name ≡ known.name → tracked now ≡ follow (tracked known) step
    → looked_up other (set queues place now)
    ≡ (if bytes_eq name other then option_map (λ was. follow was step) (looked_up other queues) else looked_up other queues)
looked-take queues place name known now step other at is named follows =
    looked-set queues place name now other at (ap name_of named ∙ name-at queues place name known at is)
    ∙ take-name name other queues known now step (looked_up other queues) (bytes_eq name other) refl (looked-at queues place name known at is) follows

-- its decision and the numbers around it
pub taken-as : (was now : Followed) (step : Step) (decision : Decision) → decision ≡ (next_of was step).decision → now ≡ follow was step
    → (let taken : Option Taken = Some (record { decision = decision; before = numbers_of was step; after = numbers_of now step }) in taken)
    ≡ taken_by step (Some was)
taken-as was now step decision decided follows = rw (decided, follows) refl

-- a new name
pushed : (known : Known) (rest : List Known) (name : List ℕ) (now : Known) (other : List ℕ) (here : Bool) → bytes_eq (name_of known.name) name ≡ here
    → (if here then Some (tracked known) else looked_up name rest) ≡ None
    → (looked_up name rest ≡ None → looked_up other (rest ++ now ∷ []) ≡ (if bytes_eq name other then Some (tracked now) else looked_up other rest))
    → (if bytes_eq (name_of known.name) other then Some (tracked known) else looked_up other (rest ++ now ∷ []))
    ≡ (if bytes_eq name other then Some (tracked now) else (if bytes_eq (name_of known.name) other then Some (tracked known) else looked_up other rest))
pushed known rest name now other true at none later = cc
pushed known rest name now other false at none later =
    pick-other (bytes_eq (name_of known.name) other) (bytes_eq name other) (Some (tracked known)) (Some (tracked now)) (looked_up other rest)
    (looked_up other (rest ++ now ∷ [])) (λ is. other-test (name_of known.name) name other (bytes_eq name other) refl at is) (later none)

pub looked-push : (queues : List Known) (name : List ℕ) (now : Known) (other : List ℕ) → looked_up name queues ≡ None → name_of now.name ≡ name
    → looked_up other (queues ++ now ∷ []) ≡ (if bytes_eq name other then Some (tracked now) else looked_up other queues)
unfolding looked_up
looked-push [] name now other none same = rw same refl
looked-push (known ∷ rest) name now other none same =
    pushed known rest name now other (bytes_eq (name_of known.name) name) refl none (λ later. looked-push rest name now other later same)

-- a forgotten name
none-both : {A : Type 0} (there : Bool) → (let none : Option A = None in none) ≡ (if there then None else None)
none-both true = refl
none-both false = refl

drop-same : {A : Type 0} (here there : Bool) (known rest after : Option A) → here ≡ there → after ≡ (if there then None else rest)
    → after ≡ (if there then None else (if here then known else rest))
drop-same true true known rest after e is = is
drop-same true false known rest after e is = cc
drop-same false true known rest after e is = is
drop-same false false known rest after e is = is

abbrev pub is_other : List ℕ → Known → Bool
is_other name known = not (bytes_eq (name_of known.name) name)

lost-one : (known : Known) (rest : List Known) (name other : List ℕ) (here : Bool) → bytes_eq (name_of known.name) name ≡ here
    → looked_up other (filter (is_other name) rest) ≡ (if bytes_eq name other then None else looked_up other rest)
    → looked_up other (if not here then known ∷ filter (is_other name) rest else filter (is_other name) rest)
    ≡ (if bytes_eq name other then None else (if bytes_eq (name_of known.name) other then Some (tracked known) else looked_up other rest))
unfolding looked_up
lost-one known rest name other true at later =
    drop-same (bytes_eq (name_of known.name) other) (bytes_eq name other) (Some (tracked known)) (looked_up other rest)
    (looked_up other (filter (is_other name) rest)) (same-test (name_of known.name) name other at) later
lost-one known rest name other false at later =
    pick-other (bytes_eq (name_of known.name) other) (bytes_eq name other) (Some (tracked known)) None (looked_up other rest)
    (looked_up other (filter (is_other name) rest)) (λ is. other-test (name_of known.name) name other (bytes_eq name other) refl at is) later

pub looked-lost : (queues : List Known) (name other : List ℕ)
    → looked_up other (filter (is_other name) queues) ≡ (if bytes_eq name other then None else looked_up other queues)
unfolding looked_up
looked-lost [] name other = none-both (bytes_eq name other)
looked-lost (known ∷ rest) name other = lost-one known rest name other (bytes_eq (name_of known.name) name) refl (looked-lost rest name other)

-- ---- the names of the queues

pub names-set : (queues : List Known) (place : ℕ) (name : List ℕ) (now : Known) → IsPlaceOf name queues place → name_of now.name ≡ name
    → known_names (set queues place now) ≡ known_names queues
unfolding IsPlaceOf
names-set [] place name now at same = absurd at
names-set (known ∷ rest) zero name now at same = ap (λ (x : List ℕ). x ∷ known_names rest) (same ∙ sym ((bytes_eq-Decides (name_of known.name) name).0 at))
names-set (known ∷ rest) (suc place) name now at same = ap (λ (xs : List (List ℕ)). name_of known.name ∷ xs) (names-set rest place name now at.1 same)

names-here : (queues : List Known) (place : ℕ) (name : List ℕ) → IsPlaceOf name queues place → has_name name (known_names queues) ≡ true
unfolding IsPlaceOf
names-here [] place name at = absurd at
names-here (known ∷ rest) zero name at = rw at refl
names-here (known ∷ rest) (suc place) name at = rw at.0 (names-here rest place name at.1)

pub names-begun : (queues : List Known) (place : ℕ) (name : List ℕ) (now : Known) → IsPlaceOf name queues place → name_of now.name ≡ name
    → known_names (set queues place now) ≡ with_name name (known_names queues)
names-begun queues place name now at same = rw (names-here queues place name at) (names-set queues place name now at same)

none-by : (known : Known) (rest : List Known) (name : List ℕ) (here : Bool) → (if here then Some (tracked known) else looked_up name rest) ≡ None
    → (here ≡ false) × (looked_up name rest ≡ None)
none-by known rest name true none = cc
none-by known rest name false none = (refl, none)

names-missing : (queues : List Known) (name : List ℕ) → looked_up name queues ≡ None → has_name name (known_names queues) ≡ false
unfolding looked_up
names-missing [] name none = refl
names-missing (known ∷ rest) name none =
    let both = none-by known rest name (bytes_eq (name_of known.name) name) none in rw both.0 (names-missing rest name both.1)

pub names-pushed : (queues : List Known) (name : List ℕ) (now : Known) → looked_up name queues ≡ None → name_of now.name ≡ name
    → known_names (queues ++ now ∷ []) ≡ with_name name (known_names queues)
names-pushed queues name now none same = rw (names-missing queues name none, map-append, same) refl

names-kept : (known : Known) (rest : List Known) (here : Bool)
    → known_names (if not here then known ∷ rest else rest) ≡ (if not here then name_of known.name ∷ known_names rest else known_names rest)
names-kept known rest true = refl
names-kept known rest false = refl

pub names-lost : (queues : List Known) (name : List ℕ) → known_names (filter (is_other name) queues) ≡ without_name name (known_names queues)
names-lost [] name = refl
names-lost (known ∷ rest) name =
    names-kept known (filter (is_other name) rest) (bytes_eq (name_of known.name) name)
    ∙ ap (λ (later : List (List ℕ)). if not (bytes_eq (name_of known.name) name) then name_of known.name ∷ later else later) (names-lost rest name)

names-more : (entries : List Entry) (one : Entry) (names now : List (List ℕ)) → names ≡ names_of entries → now ≡ names_after names one
    → now ≡ names_of (entries ++ one ∷ [])
unfolding names_of
names-more entries one names now was is = is ∙ ap (λ (x : List (List ℕ)). names_after x one) was ∙ sym (fold-append names_after [] entries (one ∷ []))

-- ---- rows

-- no queue before the first row
pub represents-none : (queues : List Known) → queues ≡ [] → Represents queues []
unfolding looked_up followed steps_of since_last names_of
represents-none queues none = rw none (record { by_name = λ name. refl; names_are = refl })

-- a row of another queue
pub represents-skipped : (queues : List Known) (entries : List Entry) → Represents queues entries → Represents queues (entries ++ Skipped ∷ [])
represents-skipped queues entries was = record {
  by_name = λ name. was.by_name name ∙ sym (followed-other name entries Skipped refl);
  names_are = names-more entries Skipped _ _ was.names_are refl;
}

lost-name : (name : List ℕ) (entries : List Entry) (queue : QueueName) (count : ℕ) (found : Option Followed) (is : Bool) → bytes_eq (name_of queue) name ≡ is
    → found ≡ followed name entries → (if is then None else found) ≡ followed name (entries ++ Lost queue count ∷ [])
lost-name name entries queue count found true is same = sym (followed-lost name entries queue count is)
lost-name name entries queue count found false is same = same ∙ sym (followed-other name entries (Lost queue count) is)

pub represents-lost : (queues after : List Known) (entries : List Entry) (queue : QueueName) (count : ℕ)
    → ((other : List ℕ) → looked_up other after ≡ (if bytes_eq (name_of queue) other then None else looked_up other queues))
    → known_names after ≡ without_name (name_of queue) (known_names queues)
    → Represents queues entries → Represents after (entries ++ Lost queue count ∷ [])
represents-lost queues after entries queue count made names was = record {
  by_name = λ name. made name ∙ lost-name name entries queue count (looked_up name queues) (bytes_eq (name_of queue) name) refl (was.by_name name);
  names_are = names-more entries (Lost queue count) _ _ was.names_are names;
}

begun-name : (name : List ℕ) (entries : List Entry) (queue : QueueName) (step : Step) (found : Option Followed) (is : Bool)
    → bytes_eq (name_of queue) name ≡ is → is_opening step.kind ≡ true
    → found ≡ followed name entries → (if is then Some (begun (name_of queue) step) else found) ≡ followed name (entries ++ Took queue step ∷ [])
begun-name name entries queue step found true is opens same =
    let e : name_of queue ≡ name = (bytes_eq-Decides (name_of queue) name).0 is in rw e (sym (followed-begun name entries queue step is opens))
begun-name name entries queue step found false is opens same = same ∙ sym (followed-other name entries (Took queue step) is)

pub represents-begun : (queues after : List Known) (entries : List Entry) (queue : QueueName) (step : Step) → is_opening step.kind ≡ true
    → ((other : List ℕ) → looked_up other after ≡ (if bytes_eq (name_of queue) other then Some (begun (name_of queue) step) else looked_up other queues))
    → known_names after ≡ with_name (name_of queue) (known_names queues)
    → Represents queues entries → Represents after (entries ++ Took queue step ∷ [])
represents-begun queues after entries queue step opens made names was = record {
  by_name = λ name. made name ∙ begun-name name entries queue step (looked_up name queues) (bytes_eq (name_of queue) name) refl opens (was.by_name name);
  names_are = names-more entries (Took queue step) _ _ was.names_are (rw opens names);
}

step-name : (name : List ℕ) (entries : List Entry) (queue : QueueName) (step : Step) (found : Option Followed) (is : Bool)
    → bytes_eq (name_of queue) name ≡ is → is_opening step.kind ≡ false
    → found ≡ followed name entries
    → (if is then option_map (λ was. follow was step) found else found) ≡ followed name (entries ++ Took queue step ∷ [])
step-name name entries queue step found true is later same = rw same (sym (followed-step name entries queue step is later))
step-name name entries queue step found false is later same = same ∙ sym (followed-other name entries (Took queue step) is)

pub represents-step : (queues after : List Known) (entries : List Entry) (queue : QueueName) (step : Step) → is_opening step.kind ≡ false
    → ((other : List ℕ) → looked_up other after
    ≡ (if bytes_eq (name_of queue) other then option_map (λ was. follow was step) (looked_up other queues) else looked_up other queues))
    → known_names after ≡ known_names queues
    → Represents queues entries → Represents after (entries ++ Took queue step ∷ [])
represents-step queues after entries queue step later made names was = record {
  by_name = λ name. made name ∙ step-name name entries queue step (looked_up name queues) (bytes_eq (name_of queue) name) refl later (was.by_name name);
  names_are = names-more entries (Took queue step) _ _ was.names_are (rw later names);
}
