-- A sequence's values, one after another.
use Rattle.std.proofs.Common.{◌≡◌, ℕ, ◌+◌, ◌-◌, ◌<◌, ◌≤◌, List, [], ◌∷◌, arith, refl, length, take, ◌∙◌, add-one, add-suc, add-zero, drop, get_or}
use Rattle.std.proofs.Math.ListN.{set}
use Rattle.std.proofs.lemmas.List.{length-set, take_more_set, drop_all, drop_more}
use Rattle.std.specs.Prelude.{true, false, Some, None, Result, Ok, Err, zero, suc}
use Rattle.std.specs.Str.{IsUtf8, is_utf8}
use Rattle.std.proofs.lemmas.Str.{IsUtf8-from_is_utf8}
use Rattle.pie_record.specs.{Names.field_at, Text.Row, Field.is_word}
use Rattle.pie_linux_history.specs.Columns.{collected, place_from}

-- an array's first `count` items are the values up to `count`
pub record Filled {E : Type 0} (value : ℕ → Result ℕ E) (most count : ℕ) (items : List ℕ) : Type 0 where
  pub many : length items ≡ most
  pub read : collected value count ≡ Ok (take count items)

-- none
pub filled-none : {E : Type 0} (value : ℕ → Result ℕ E) (items : List ℕ) → Filled value (length items) 0 items
unfolding collected
filled-none value items = record { many = refl; read = grind arith }

-- one more value
pub filled-more : {E : Type 0} (value : ℕ → Result ℕ E) (most count : ℕ) (items : List ℕ) (next : ℕ)
    → Filled value most count items → count < most → value count ≡ Ok next → Filled value most (count + 1) (set items count next)
unfolding collected
filled-more value most count items next was fewer at = record {
  many = length-set items count next ∙ was.many;
  read = let h : count < length items = omega (arith, was.many) in
      rw (take_more_set items count next h, add-one, was.read, at) refl;
}

-- an error is the first
collected-later : {E : Type 0} (value : ℕ → Result ℕ E) (count : ℕ) (why : E) (more : ℕ)
    → collected value count ≡ Err why → collected value (count + more) ≡ Err why
unfolding collected
collected-later value count why zero is = rw add-zero is
collected-later value count why (suc more) is = rw (add-suc, collected-later value count why more is) refl

pub filled-first : {E : Type 0} (value : ℕ → Result ℕ E) (most count : ℕ) (items : List ℕ) (why : E)
    → Filled value most count items → count < most → value count ≡ Err why → collected value most ≡ Err why
unfolding collected
filled-first value most count items why was fewer at =
    let first : collected value (suc count) ≡ Err why = rw (was.read, at) refl in
    let e : suc count + (most - suc count) ≡ most = omega arith in
    rw (← e) (collected-later value (suc count) why (most - suc count) first)

-- the first place of a name, after `place` other fields
field-at : (row : Row) (place : ℕ) → place < length row → field_at row place ≡ Some (get_or row place [])
unfolding field_at
field-at [] place within = absurd (omega arith)
field-at (field ∷ rest) zero within = refl
field-at (field ∷ rest) (suc place) within = field-at rest place (omega arith)

pub place-next : (place : ℕ) (name : List ℕ) (row : Row) → place < length row → is_word name (field_at row place) ≡ false
    → place_from place name (drop place row) ≡ place_from (place + 1) name (drop (place + 1) row)
unfolding place_from
place-next place name row within other = let e = (rw (field-at row place within) at other) in rw (drop_more row place [] within, e) refl

pub place-here : (place : ℕ) (name : List ℕ) (row : Row) → place < length row → is_word name (field_at row place) ≡ true
    → place_from place name (drop place row) ≡ Some place
unfolding place_from
place-here place name row within same = let e = (rw (field-at row place within) at same) in rw (drop_more row place [] within, e) refl

pub place-none : (place : ℕ) (name : List ℕ) (row : Row) → length row ≤ place → place_from place name (drop place row) ≡ None
unfolding place_from
place-none place name row all = rw (drop_all place row all) refl

-- the UTF-8 of a name, as a test
pub utf8-not : (name : List ℕ) → (IsUtf8 name → ⊥) → is_utf8 name ≡ false
utf8-not name isnt = grind (arith, IsUtf8-from_is_utf8, isnt)
