-- csv's reading and writing of plain lines.
-- The remaining bytes of a reader that has read bytes ahead.
-- The progress of a scan: over a byte, and over a block of bytes that a mask marks.
use Rattle.std.proofs.Common.{sym, ap, ◌∙◌, arith, get_or, subst, append_assoc, take, drop, drop-drop, take-append-drop, length-take, length-drop, take_all, take-take, get_or-take, length-take-le, suc, zero, ◌/◌, ⊎_elim}
use Rattle.pie_record.specs.{◌≡◌, ◌<◌, ◌+◌, ◌++◌, ◌∷◌, ℕ, ◌==◌, List, [], length, refl, true, false, Bool, Some, Row, nat_lt, start_of, ◌-◌, ◌≤◌, commas, field_at, IsLine, None, split_line, with_byte, Option, Read, IsPlain, IsPlainLine, next_record, default_config, needs_quotes, rows_setup, fields_text, is_blank, text_of, records_left, HasField, HasTakenLine, IsFound, WasTaken, Keeps, Consumes, prepend_known, IfSome, TakesRow, records_at, strip_bom, ReadsPlain, IsAtEnd, IsLowest, IsScanned, IsWithout, AreMarked}
use Rattle.std.proofs.lemmas.Bool.Decides.{nat_tests}
use Rattle.std.specs.Prelude.{slice_range, slice_get, Result}
use Rattle.csv.proofs.RecordFacts.{field-none}
use Rattle.std.proofs.lemmas.List.{append-nil, drop-take, take_more}
use Rattle.std.proofs.lemmas.List.Elements.{All-head, All-tail, All-append, All-cons, All-nil}
use Rattle.csv.specs.Writing.{field_text, needs_byte}
use Rattle.pie_record.proofs.HistoryFacts.{records_left-next, records_left-none, row-read, none-left}
use lib.Seq.{paste}
use Rattle.std.specs.List.{copy_within}
use Rattle.std.specs.Io.KnownBytes.{ReadConsumes}
use Rattle.std.proofs.Math.Seq.{take-append_seam, take-add, drop-cons}
use Rattle.std.proofs.lemmas.List.Edits.{take-paste}
use Rattle.std.proofs.lemmas.Option.{slice_get_within, get_or_from_slice_get}
use Rattle.csv.proofs.ReadFacts.{prepend-nil}
pub use Rattle.pie_record.proofs.FieldFacts.{decimal-some, number-back, and_after, drop-has, back_ecn, back_u32, back_u64, has-all, kind-first, number-then, ok-same, numbers-back, packet-read, params-back, tested, word-has}
pub use Rattle.pie_record.proofs.HistoryFacts.{line_in-flaw, line_in-line, line_in-long, lines_from-failed, lines_from-line, lines_from-none, event_count-cons, read-all, reads-one, last-push, latest_clock-made, latest_clock-none, latest_clock-push, records_left-written, records_of-first, records_of-written, rows_text-cons}
pub use Rattle.pie_record.proofs.ReadBack.{same-before-three, LineFits, line-again, lines-fit, chosen-read, long-draft, field-reads}
use Rattle.std.proofs.lemmas.Bool.{cases_lt}
use Rattle.std.proofs.lemmas.Nat.Bits.{bit_at_and, bit_at_lowest, bit_at-suc}
use Rattle.std.specs.Int.{bit_at}
use lib.Bits.{bit_and}
use Rattle.csv.specs.declared.parser.State.TheVariants as st
use Rattle.pie_record.specs.declared.record.Found.TheVariants as found

-- a line has a first field
pub split-some : (line : List ℕ) → (first : List ℕ) × (others : Row) × (split_line line ≡ first ∷ others)
unfolding split_line with_byte
split-some [] = ([], [], refl)
split-some (byte ∷ rest) =
    let later = split-some rest in
    by (byte == 44) refl later
  where
    by : (b : Bool) → (byte == 44) ≡ b → ((first : List ℕ) × (others : Row) × (split_line rest ≡ first ∷ others))
        → (first : List ℕ) × (others : Row) × (split_line (byte ∷ rest) ≡ first ∷ others)
    by true is later = ([], split_line rest, rw is refl)
    by false other later = (byte ∷ later.0, later.1, rw (other, later.2) refl)

-- ---- fields by their ends

-- the ends of the fields of a line whose first byte is at place `from`
abbrev pub ends_from : ℕ → List ℕ → List ℕ
ends_from from line = commas from line ++ (from + length line) ∷ []

-- a field lies between its start and its end
pub record IsBetween (from : ℕ) (line ends : List ℕ) (fields : Row) (i : ℕ) : Type 0 where
  pub above : from ≤ start_of from ends i
  pub rising : start_of from ends i ≤ get_or ends i 0
  pub within : get_or ends i 0 ≤ from + length line
  pub is : field_at fields i ≡ Some (slice_range line (start_of from ends i - from) (get_or ends i 0 - from))

-- the part of a list behind its first element
slice-behind : (byte : ℕ) (rest : List ℕ) (from s e : ℕ) → from + 1 ≤ s → s ≤ e
    → slice_range rest (s - (from + 1)) (e - (from + 1)) ≡ slice_range (byte ∷ rest) (s - from) (e - from)
slice-behind byte rest from s e above rising =
    let start : s - from ≡ suc (s - (from + 1)) = omega arith in
    let long : e - from - (s - from) ≡ e - (from + 1) - (s - (from + 1)) = omega arith in
    rw (long, start) refl

-- a slice with the first element before it
slice-before : (byte : ℕ) (rest : List ℕ) (from e : ℕ) → from + 1 ≤ e
    → byte ∷ slice_range rest (from + 1 - (from + 1)) (e - (from + 1)) ≡ slice_range (byte ∷ rest) (from - from) (e - from)
slice-before byte rest from e above =
    let none : from + 1 - (from + 1) ≡ 0 = omega arith in
    let zero_ : from - from ≡ 0 = omega arith in
    let long : e - from ≡ suc (e - (from + 1)) = omega arith in
    let same : e - (from + 1) - 0 ≡ e - (from + 1) = omega arith in
    let later : suc (e - (from + 1)) - 0 ≡ suc (e - (from + 1)) = omega arith in
    rw (none, zero_, long, same, later) refl

start-behind : (from : ℕ) (ends : List ℕ) (j : ℕ) → start_of from (from ∷ ends) (suc j) ≡ start_of (from + 1) ends j
start-behind from ends j = grind (arith, nat_tests)

-- the ends of a line that begins with a comma, and of one that begins with another byte
ends-comma : (from byte : ℕ) (rest : List ℕ) → (byte == 44) ≡ true → ends_from from (byte ∷ rest) ≡ from ∷ ends_from (from + 1) rest
unfolding commas
ends-comma from byte rest is = let same : from + suc (length rest) ≡ from + 1 + length rest = omega arith in rw (is, same) refl

ends-other : (from byte : ℕ) (rest : List ℕ) → (byte == 44) ≡ false → ends_from from (byte ∷ rest) ≡ ends_from (from + 1) rest
unfolding commas
ends-other from byte rest is = let same : from + suc (length rest) ≡ from + 1 + length rest = omega arith in rw (is, same) refl

split-comma : (byte : ℕ) (rest : List ℕ) → (byte == 44) ≡ true → split_line (byte ∷ rest) ≡ [] ∷ split_line rest
unfolding split_line
split-comma byte rest is = rw is refl

split-other : (byte : ℕ) (rest : List ℕ) → (byte == 44) ≡ false → split_line (byte ∷ rest) ≡ with_byte byte (split_line rest)
unfolding split_line
split-other byte rest is = rw is refl

between-comma : (from byte : ℕ) (rest ends : List ℕ) (fields : Row) (i : ℕ) → ((j : ℕ) → i ≡ suc j → IsBetween (from + 1) rest ends fields j)
    → IsBetween from (byte ∷ rest) (from ∷ ends) ([] ∷ fields) i
unfolding field_at
between-comma from byte rest ends fields i later = grind (arith, nat_tests, start-behind, slice-behind)

between-other : (from byte : ℕ) (rest ends first : List ℕ) (others : Row) (i : ℕ) → IsBetween (from + 1) rest ends (first ∷ others) i
    → IsBetween from (byte ∷ rest) ends (with_byte byte (first ∷ others)) i
unfolding field_at with_byte
between-other from byte rest ends first others i it = grind (arith, nat_tests, slice-before, slice-behind)

pub between : (from : ℕ) (line : List ℕ) (i : ℕ) → i < length (ends_from from line) → IsBetween from line (ends_from from line) (split_line line) i
unfolding commas split_line field_at
between from [] zero before = grind (arith, nat_tests)
between from [] (suc i) before = absurd (omega arith)
between from (byte ∷ rest) i before = by (byte == 44) refl (λ j less. between (from + 1) rest j less)
  where
    by : (b : Bool) → (byte == 44) ≡ b
        → ((j : ℕ) → j < length (ends_from (from + 1) rest) → IsBetween (from + 1) rest (ends_from (from + 1) rest) (split_line rest) j)
        → IsBetween from (byte ∷ rest) (ends_from from (byte ∷ rest)) (split_line (byte ∷ rest)) i
    by true is later =
        rw (ends-comma from byte rest is, split-comma byte rest is) (between-comma from byte rest (ends_from (from + 1) rest) (split_line rest) i
        (λ j e. later j (let less = rw (ends-comma from byte rest is, e) at before in omega (arith, less))))
    by false other later =
        let some = split-some rest in
        rw (ends-other from byte rest other, split-other byte rest other, some.2) (between-other from byte rest (ends_from (from + 1) rest) some.0 some.1 i
        (rw some.2 at (later i (rw (ends-other from byte rest other) at before))))

length-with : (byte : ℕ) (first : List ℕ) (others : Row) → length (with_byte byte (first ∷ others)) ≡ length (first ∷ others)
unfolding with_byte
length-with byte first others = refl

-- a line has one field for each end
pub fields-ends : (from : ℕ) (line : List ℕ) → length (split_line line) ≡ length (ends_from from line)
unfolding commas split_line
fields-ends from [] = refl
fields-ends from (byte ∷ rest) = by (byte == 44) refl (fields-ends (from + 1) rest)
  where
    by : (b : Bool) → (byte == 44) ≡ b → length (split_line rest) ≡ length (ends_from (from + 1) rest)
        → length (split_line (byte ∷ rest)) ≡ length (ends_from from (byte ∷ rest))
    by true is later = ap length (split-comma byte rest is) ∙ ap suc later ∙ ap length (sym (ends-comma from byte rest is))
    by false other later =
        let some = split-some rest in
        ap length (split-other byte rest other) ∙ ap (λ (r : Row). length (with_byte byte r)) some.2 ∙ length-with byte some.0 some.1
        ∙ ap length (sym some.2) ∙ later ∙ ap length (sym (ends-other from byte rest other))

-- ---- a plain record

pub line-between : (line ends : List ℕ) (i : ℕ) → IsLine line ends → i < length ends → IsBetween 0 line ends (split_line line) i
line-between line ends i is before =
    let same : 0 + length line ≡ length line = omega arith in
    let cut : ends ≡ ends_from 0 line = is.cut ∙ ap (λ (n : ℕ). commas 0 line ++ n ∷ []) (sym same) in
    rw cut (between 0 line i (rw cut at before))

pub line_long : (line ends : List ℕ) → IsLine line ends → length (split_line line) ≡ length ends
line_long line ends is =
    let same : 0 + length line ≡ length line = omega arith in
    fields-ends 0 line ∙ ap length (sym (is.cut ∙ ap (λ (n : ℕ). commas 0 line ++ n ∷ []) (sym same)))

pub line_past : (line ends : List ℕ) (i : ℕ) → IsLine line ends → length ends ≤ i → None ≡ field_at (split_line line) i
line_past line ends i is past = sym (field-none (split_line line) i (omega (arith, line_long line ends is)))

pub line-field : (line ends : List ℕ) (i : ℕ) → IsLine line ends → i < length ends
    → field_at (split_line line) i ≡ Some (slice_range line (start_of 0 ends i) (get_or ends i 0))
line-field line ends i is before =
    let start : start_of 0 ends i - 0 ≡ start_of 0 ends i = omega arith in
    let end : get_or ends i 0 - 0 ≡ get_or ends i 0 = omega arith in
    rw (start, end) at (line-between line ends i is before).is

-- a record with a plain line
pub some_fields : (count : ℕ) → 0 < count → nat_lt 0 count ≡ true
some_fields count some = grind (arith, nat_tests, some)

-- ---- csv's reading and writing of a plain line.

-- ---- the text of a plain record

byte-plain : (byte : ℕ) → IsPlain byte → (byte == 44) ≡ false → needs_byte rows_setup byte ≡ false
byte-plain byte plain other = grind (arith, nat_tests, plain, other)

field-own : (field : List ℕ) → needs_quotes rows_setup field ≡ false → field_text rows_setup field ≡ field
field-own field plain = rw plain refl

-- the fields of a plain line, of which the first needs no quotes, have its text
abbrev IsWritten : List ℕ → Type 0
IsWritten line = (first : List ℕ) × (others : Row) × (split_line line ≡ first ∷ others) × (needs_quotes rows_setup first ≡ false)
    × (first ++ fields_text rows_setup others ≡ line)

fields-behind : (first : List ℕ) (others rows : Row) → rows ≡ first ∷ others → needs_quotes rows_setup first ≡ false
    → fields_text rows_setup rows ≡ 44 ∷ (first ++ fields_text rows_setup others)
unfolding fields_text
fields-behind first others rows is plain = rw is (ap (λ (f : List ℕ). 44 ∷ (f ++ fields_text rows_setup others)) (field-own first plain))

written : (line : List ℕ) → IsPlainLine line → IsWritten line
unfolding split_line with_byte fields_text
written [] plain = ([], [], refl, refl, refl)
written (byte ∷ line) plain = by (byte == 44) refl (written line (All-tail IsPlain byte line plain))
  where
    by : (b : Bool) → (byte == 44) ≡ b → IsWritten line → IsWritten (byte ∷ line)
    by true comma w =
        let is : 44 ≡ byte = grind (arith, nat_tests, comma) in (
          [],
          split_line line,
          rw comma refl,
          refl,
          fields-behind w.0 w.1 (split_line line) w.2 w.3 ∙ ap (λ (l : List ℕ). 44 ∷ l) w.4 ∙ ap (λ (b : ℕ). b ∷ line) is,
        )
    by false other w = (
      byte ∷ w.0,
      w.1,
      rw (other, w.2) refl,
      rw (byte-plain byte (All-head IsPlain byte line plain) other, w.3) refl,
      ap (λ (l : List ℕ). byte ∷ l) w.4,
    )

text-written : (line first : List ℕ) (others : Row) → needs_quotes rows_setup first ≡ false → first ++ fields_text rows_setup others ≡ line
    → 0 < length line → text_of (first ∷ others) ≡ line ++ 10 ∷ []
unfolding fields_text is_blank
text-written line first others plain is some = grind (arith, nat_tests, field-own, append-nil)

-- csv writes a plain record as its line
pub line_text : (line : List ℕ) → IsPlainLine line → 0 < length line → text_of (split_line line) ≡ line ++ 10 ∷ []
line_text line plain some = let w = written line plain in ap text_of w.2 ∙ text-written line w.0 w.1 w.3 w.4 some

-- the first record of bytes that begin with a plain line: csv reads what it writes
pub line-read : (line rest : List ℕ) → IsPlainLine line → 0 < length line
    → records_left st.StartRecord (line ++ 10 ∷ rest) ≡ split_line line ∷ records_left st.StartRecord rest
line-read line rest plain some =
    let parts = split-some line in
    let has : HasField (split_line line) = rw parts.2 (omega arith) in
    subst (λ (text : List ℕ). records_left st.StartRecord text ≡ split_line line ∷ records_left st.StartRecord rest)
    (ap (λ (text : List ℕ). text ++ rest) (line_text line plain some) ∙ append_assoc line (10 ∷ []) rest) (row-read (split_line line) rest has)

-- an empty line is no record
pub feed-read : (rest : List ℕ) → records_left st.StartRecord (10 ∷ rest) ≡ records_left st.StartRecord rest
unfolding next_record
feed-read rest = by (next_record default_config st.StartRecord [] [] rest) refl
  where
    by : (o : Option Read) → next_record default_config st.StartRecord [] [] rest ≡ o
        → records_left st.StartRecord (10 ∷ rest) ≡ records_left st.StartRecord rest
    by None e = records_left-none st.StartRecord (10 ∷ rest) e ∙ sym (records_left-none st.StartRecord rest e)
    by (Some read) e = records_left-next st.StartRecord (10 ∷ rest) read e ∙ sym (records_left-next st.StartRecord rest read e)

none-ahead : (bytes : List ℕ) (at end : ℕ) → end ≤ at → slice_range bytes at end ≡ []
none-ahead bytes at end over = let none : end - at ≡ 0 = omega arith in rw none refl

from-start : (bytes : List ℕ) (count : ℕ) → slice_range bytes 0 count ≡ take count bytes
from-start bytes count = let same : count - 0 ≡ count = omega arith in rw same refl

-- room was made, if there was none
pub room-made : (bytes made : List ℕ) (at end : ℕ) → end ≤ length bytes → (0 < length bytes → made ≡ bytes) → slice_range bytes at end ≡ slice_range made at end
room-made bytes made at end inside same = grind (arith, nat_tests, none-ahead)

-- ---- bytes were read behind those that were ahead, which were moved to the front

module _ (bytes moved now : List ℕ) (at end count : ℕ) (order : at ≤ end) (inside : end ≤ length bytes) (is : moved ≡ copy_within bytes at end 0)
    (same : take (end - at) now ≡ take (end - at) moved) where
  moved-front : take (end - at) moved ≡ slice_range bytes at end
  moved-front =
      let n : ℕ = end - at in
      let long : n ≡ 0 + n = omega arith in
      let behind = length-drop at bytes in
      ap (take n) is ∙ ap (λ (k : ℕ). take k (paste bytes 0 (drop at bytes) n)) long
      ∙ take-paste bytes 0 (drop at bytes) n (omega (arith, inside, order)) (omega (arith, behind, inside, order))

  whole : slice_range now 0 (end - at + count) ≡ slice_range bytes at end ++ slice_range now (end - at) (end - at + count)
  whole = grind (arith, nat_tests, from-start, take-add, moved-front)

  pub fill-keeps : (before after : Option (List ℕ)) → Consumes before after (slice_range now (end - at) (end - at + count))
      → Keeps (prepend_known (slice_range bytes at end) before) (prepend_known (slice_range now 0 (end - at + count)) after)
  fill-keeps before after taken = grind (arith, nat_tests, whole, append_assoc)

-- ---- a line is taken of the bytes ahead

range-behind : (bytes : List ℕ) (at n end : ℕ) → n ≤ length (slice_range bytes at end)
    → slice_range bytes (at + n) end ≡ drop n (slice_range bytes at end)
range-behind bytes at n end within =
    let long = length-take (end - at) (drop at bytes) in
    let left : end - (at + n) ≡ end - at - n = omega arith in
    let whole : n + (end - at - n) ≡ end - at = omega (arith, long, within) in
    rw left (ap (take (end - at - n)) (sym (drop-drop n at bytes)) ∙ sym (drop-take n (end - at - n) (drop at bytes))
    ∙ ap (λ (k : ℕ). drop n (take k (drop at bytes))) whole)

module _ (bytes line ends : List ℕ) (at place end : ℕ) (found : IsFound (slice_range bytes at (length bytes)) line ends place) (before : place < end - at) where
  rest-is : slice_range bytes at (length bytes) ≡ drop at bytes
  rest-is = take_all (length bytes - at) (drop at bytes) (omega (arith, length-drop at bytes))

  feed : slice_get (drop at bytes) place ≡ Some 10
  feed = rw rest-is at found.feed

  abbrev ahead : List ℕ
  ahead = slice_range bytes at end

  inside : place < length (drop at bytes)
  inside = slice_get_within (drop at bytes) place 10 feed

  within : place < length ahead
  within = let long = length-take (end - at) (drop at bytes) in let i = inside in omega (arith, long, before, i)

  is-line : line ≡ take place ahead
  is-line = found.copied ∙ ap (take place) rest-is ∙ sym (take-take place (end - at) (drop at bytes) (omega (arith, before)))

  cut-off : ahead ≡ line ++ 10 ∷ drop (place + 1) ahead
  cut-off =
      let byte = get_or-take (end - at) (drop at bytes) place 0 before ∙ get_or_from_slice_get (drop at bytes) place 10 0 feed in
      let next : suc place ≡ place + 1 = omega arith in
      sym (take-append-drop place ahead) ∙ ap (λ (l : List ℕ). take place ahead ++ l) (drop-cons ahead place 0 within ∙ rw (byte, next) refl)
      ∙ ap (λ (l : List ℕ). l ++ 10 ∷ drop (place + 1) ahead) (sym is-line)

  taken : (known : Option (List ℕ)) → WasTaken (prepend_known ahead known) line (prepend_known (slice_range bytes (at + (place + 1)) end) known)
  taken known = grind (arith, nat_tests, range-behind, within, cut-off, append_assoc)

  pub line-taken : (known : Option (List ℕ)) → (0 < place → (get_or line 0 0 == 239) ≡ false)
      → HasTakenLine (prepend_known (slice_range bytes at end) known) line ends place (prepend_known (slice_range bytes (at + (place + 1)) end) known)
  line-taken known no_mark = grind (arith, nat_tests, rest-is, length-take-le, inside, taken)

-- ---- reads by csv

-- a read of the underlying reader, if no byte is ahead
pub read_through : {E : Type 0} (before after : Option (List ℕ)) (bytes buf : List ℕ) (at end : ℕ) (result : Result ℕ E) → end ≤ at
    → ReadConsumes before after result buf
    → ReadConsumes (prepend_known (slice_range bytes at end) before) (prepend_known (slice_range bytes at end) after) result buf
read_through before after bytes buf at end result over read = rw (none-ahead bytes at end over, prepend-nil before, prepend-nil after) read

module _ (known : Option (List ℕ)) (bytes all copied rest : List ℕ) (at end count : ℕ) (same : bytes ≡ all) (within : count ≤ end - at) (inside : end ≤ length all)
    (is : copied ≡ slice_range all at (at + count)) where
  copied-long : length copied ≡ count
  copied-long = grind (arith, nat_tests, length-take, length-drop, within, inside)

  copied-is : take count (copied ++ rest) ≡ take count (slice_range bytes at end)
  copied-is = grind (arith, nat_tests, copied-long, take-append_seam, take-take, within)

  ahead-long : count ≤ length (slice_range bytes at end)
  ahead-long = grind (arith, nat_tests, whole, length-take, length-drop, within, inside)

  -- bytes that were ahead are read
  pub read_ahead : Consumes (prepend_known (slice_range bytes at end) known) (prepend_known (slice_range bytes (at + count) end) known)
      (take count (copied ++ rest))
  read_ahead = by known
    where
      by : (k : Option (List ℕ)) → Consumes (prepend_known (slice_range bytes at end) k) (prepend_known (slice_range bytes (at + count) end) k)
          (take count (copied ++ rest))
      by None = tt
      by (Some ys) =
          let ahead = slice_range bytes at end in
          rw (copied-is, range-behind bytes at count end ahead-long)
          (ap (λ (l : List ℕ). l ++ ys) (sym (take-append-drop count ahead)) ∙ append_assoc (take count ahead) (drop count ahead) ys)

-- ---- The records that remain after one step of a read.

-- a step after steps that took no record
pub takes_later : (first now later : Option (List Row)) (found : Bool) (row : Row) → IfSome first (λ rows. now ≡ Some rows) → TakesRow now found row later
    → TakesRow first found row later
takes_later first now later found row same takes = grind (arith, nat_tests)

pub left_later : (first now later : Option (List Row)) → IfSome first (λ rows. now ≡ Some rows) → IfSome now (λ rows. later ≡ Some rows)
    → IfSome first (λ rows. later ≡ Some rows)
left_later first now later same left = grind (arith, nat_tests)

-- ---- The result of reading a line, as a statement on the remaining records.

-- bytes that do not begin with the first byte of a byte order mark begin with none
no-mark : (byte : ℕ) (rest : List ℕ) → (byte == 239) ≡ false → strip_bom (byte ∷ rest) ≡ byte ∷ rest
unfolding strip_bom
no-mark byte rest other = grind (arith, nat_tests)

at-left : (is_first : Bool) (byte : ℕ) (rest : List ℕ) → (is_first ≡ true → (byte == 239) ≡ false)
    → records_at is_first (byte ∷ rest) ≡ records_left st.StartRecord (byte ∷ rest)
at-left true byte rest other = ap (records_left st.StartRecord) (no-mark byte rest (other refl))
at-left false byte rest other = refl

none-at : (is_first : Bool) → records_at is_first [] ≡ []
unfolding strip_bom
none-at true = none-left
none-at false = none-left

plain-at : (is_first : Bool) (line rest : List ℕ) → IsPlainLine line → 0 < length line → (is_first ≡ true → (get_or line 0 0 == 239) ≡ false)
    → records_at is_first (line ++ 10 ∷ rest) ≡ split_line line ∷ records_left st.StartRecord rest
plain-at is_first [] rest plain some other = absurd (omega arith)
plain-at is_first (byte ∷ line) rest plain some other = at-left is_first byte (line ++ 10 ∷ rest) other ∙ line-read (byte ∷ line) rest plain some

module _ (is_first : Bool) (before after : Option (List ℕ)) (line ends : List ℕ) (long : ℕ) (it : HasTakenLine before line ends long after) where
  pub plain_found : 0 < long → ReadsPlain found.Plain is_first before (split_line line) after
  plain_found some = grind (arith, nat_tests, plain-at)

  pub empty_found : long ≡ 0 → (row : Row) → ReadsPlain found.Empty is_first before row after
  empty_found none row = by line before (it.is_long ∙ none) it.taken
    where
      by : (l : List ℕ) (o : Option (List ℕ)) → length l ≡ 0 → WasTaken o l after → ReadsPlain found.Empty is_first o row after
      by (byte ∷ l) o none taken = absurd (omega (arith, none))
      by [] None none taken = tt
      by [] (Some all) none taken =
          (taken.0, taken.1, ap (records_at is_first) taken.2 ∙ at-left is_first 10 taken.0 (λ _. refl) ∙ feed-read taken.0)

-- ---- more bytes were read

kept : (rest : List ℕ) (after : Option (List ℕ)) → Keeps (Some rest) after → after ≡ Some rest
kept rest after keeps = grind (arith, nat_tests)

pub nothing_found : (is_first : Bool) (before after : Option (List ℕ)) (row : Row) → Keeps before after → IsAtEnd after
    → ReadsPlain found.Nothing is_first before row after
nothing_found is_first None after row keeps over = tt
nothing_found is_first (Some all) after row keeps over =
    let same = kept all after keeps in
    let none : all ≡ [] = subst (λ (o : Option (List ℕ)). IsAtEnd o) same over in
    (all, same, ap (records_at is_first) none ∙ none-at is_first)

pub later_left : (before after : Option (List ℕ)) (row : Row) → after ≡ prepend_known (10 ∷ []) before → ReadsPlain found.Odd false before row after
later_left before after row back = grind (arith, nat_tests, feed-read, no-mark)

-- ---- Plain lines: their commas, their fields, csv's reading of them and its writing of them.

-- the commas of a line and of the bytes after it
pub commas-append : (from : ℕ) (line more : List ℕ) → commas from (line ++ more) ≡ commas from line ++ commas (from + length line) more
unfolding commas
commas-append from [] more = let same : from + 0 ≡ from = omega arith in rw same refl
commas-append from (byte ∷ rest) more = grind (arith, nat_tests, commas-append (from + 1) rest more)

-- the commas of a line and of one more byte
pub commas-more : (from : ℕ) (bytes : List ℕ) (i : ℕ) → i < length bytes
    → commas from (take (i + 1) bytes) ≡ commas from (take i bytes) ++ commas (from + i) (get_or bytes i 0 ∷ [])
commas-more from bytes i before =
    let long : length (take i bytes) ≡ i = length-take-le i bytes (omega arith) in
    ap (commas from) (take_more bytes i 0 before) ∙ commas-append from (take i bytes) (get_or bytes i 0 ∷ [])
    ∙ ap (λ (n : ℕ). commas from (take i bytes) ++ commas (from + n) (get_or bytes i 0 ∷ [])) long

-- the commas of a line and of one more byte: a comma, or another byte
pub commas-comma : (from : ℕ) (bytes : List ℕ) (i : ℕ) → i < length bytes → get_or bytes i 0 ≡ 44
    → commas from (take (i + 1) bytes) ≡ commas from (take i bytes) ++ (from + i) ∷ []
unfolding commas
commas-comma from bytes i before is = rw (commas-more from bytes i before) (grind (arith, nat_tests, is))

pub commas-other : (from : ℕ) (bytes : List ℕ) (i : ℕ) → i < length bytes → (get_or bytes i 0 ≡ 44 → 1 ≤ 0)
    → commas from (take (i + 1) bytes) ≡ commas from (take i bytes)
unfolding commas
commas-other from bytes i before other = rw (commas-more from bytes i before) (grind (arith, nat_tests, append-nil (commas from (take i bytes)), other))

-- a plain byte more
pub plain-more : (bytes : List ℕ) (i : ℕ) → i < length bytes → IsPlainLine (take i bytes) → IsPlain (get_or bytes i 0) → IsPlainLine (take (i + 1) bytes)
plain-more bytes i before plain one =
    rw (take_more bytes i 0 before) (All-append IsPlain (take i bytes) (get_or bytes i 0 ∷ []) plain (All-cons IsPlain (get_or bytes i 0) [] one (All-nil IsPlain)))

-- a byte above the comma is plain, and so is the comma
pub plain-above : (byte : ℕ) → 44 ≤ byte → IsPlain byte
plain-above byte above = grind (arith, nat_tests, above)

-- ---- The laws of this crate's definitions that crates above cite: of numbers and fields, read and written; of lines and faults, one record after
-- another; and of texts that were written, read again. They name no other module of proofs/.

module _ (bytes : List ℕ) where
  -- the next byte is a comma, or another plain one
  pub scanned-comma : (now next : List ℕ) (place : ℕ) → IsScanned bytes now place → place < length bytes → get_or bytes place 0 ≡ 44
      → next ≡ now ++ place ∷ [] → IsScanned bytes next (place + 1)
  scanned-comma now next place so_far within is added = grind (arith, nat_tests, plain-more, plain-above, commas-comma)

  scanned-other : (now : List ℕ) (place : ℕ) → IsScanned bytes now place → place < length bytes → 44 < get_or bytes place 0
      → IsScanned bytes now (place + 1)
  scanned-other now place so_far within above = grind (arith, nat_tests, plain-more, plain-above, commas-other)

  -- bytes above the comma
  scanned-above : (now : List ℕ) (at from n : ℕ) → ((k : ℕ) → from ≤ k → k < from + n → 44 < get_or bytes (at + k) 0) → at + (from + n) ≤ length bytes
      → IsScanned bytes now (at + from) → IsScanned bytes now (at + (from + n))
  scanned-above now at from zero above within so_far = grind (arith, nat_tests)
  scanned-above now at from (suc n) above within so_far =
      let shorter = scanned-above now at from n (λ k high less. above k high (omega arith)) (omega arith) so_far in
      let same : at + (from + n) + 1 ≡ at + (from + suc n) = omega arith in
      subst (λ (p : ℕ). IsScanned bytes now p) same (scanned-other now (at + (from + n)) shorter (omega arith) (above (from + n) (omega arith) (omega arith)))

  module _ (at end next mask : ℕ) (marks : AreMarked bytes at end next mask) (room : end ≤ length bytes) where
    -- a byte without a bit is above the comma
    unmarked : (k : ℕ) → next ≤ k → at + k < end → bit_at mask k ≡ 0 → 44 < get_or bytes (at + k) 0
    unmarked k high within none = grind (arith, nat_tests, cases_lt)

    -- the scan passes the bytes without a bit
    pub scanned-past : (now : List ℕ) (bit : ℕ) → next ≤ bit → at + bit ≤ end → ((k : ℕ) → k < bit → bit_at mask k ≡ 0)
        → IsScanned bytes now (at + next) → IsScanned bytes now (at + bit)
    scanned-past now bit high few none so_far =
        let same : at + (next + (bit - next)) ≡ at + bit = omega arith in
        subst (λ (p : ℕ). IsScanned bytes now p) same (scanned-above now at next (bit - next)
        (λ k from less. unmarked k from (omega arith) (none k (omega arith))) (omega arith) so_far)

    -- a block was scanned up to its first marked byte
    pub scanned-to : (now : List ℕ) (bit : ℕ) → IsLowest mask bit → IsScanned bytes now (at + next) → IsScanned bytes now (at + bit)
    scanned-to now bit is so_far = let there = marks.within bit is.set in scanned-past now bit there.0 (omega (arith, there.1)) is.below so_far

-- a block more of a copy
pub block-copied : (before now bytes : List ℕ) (at : ℕ) → take at before ≡ take at bytes → take (at + 32) now ≡ take at before ++ slice_range bytes at (at + 32)
    → take (at + 32) now ≡ take (at + 32) bytes
block-copied before now bytes at same is = grind (arith, nat_tests, take-add)

-- a line in such a copy
pub found-line : (bytes line ends : List ℕ) (place last : ℕ) → take last line ≡ take last bytes → IsScanned bytes ends place → slice_get bytes place ≡ Some 10
    → place < last → last ≤ 2048 → IsFound bytes (take place line) ends place
found-line bytes line ends place last same scanned feed before room =
    let copied : take place line ≡ take place bytes =
    sym (take-take place last line (omega (arith, before))) ∙ ap (take place) same ∙ take-take place last bytes (omega (arith, before)) in
    record {
      room = omega (arith, before, room);
      feed = feed;
      copied = copied;
      plain = rw copied scanned.plain;
      cut = rw copied scanned.cut;
    }

-- the marks above the lowest
pub marks-next : (bytes : List ℕ) (at end next mask rest bit : ℕ) → AreMarked bytes at end next mask → bit_at mask bit ≡ 1 → IsWithout mask rest bit
    → AreMarked bytes at end (bit + 1) rest
marks-next bytes at end next mask rest bit marks set is = grind (arith, nat_tests, cases_lt)

-- the bits of the number before one whose lowest bit is at a place
before-lowest : (place mask : ℕ) → bit_at mask place ≡ 1 → ((k : ℕ) → k < place → bit_at mask k ≡ 0)
    → (bit_at (mask - 1) place ≡ 0) × ((k : ℕ) → place < k → bit_at (mask - 1) k ≡ bit_at mask k)
before-lowest zero mask set below =
    let odd = sym (bit_at_lowest mask) ∙ set in
    let half : (mask - 1) / 2 ≡ mask / 2 = omega (arith, odd) in
    (omega (arith, bit_at_lowest (mask - 1), odd), above half)
  where
    above : (mask - 1) / 2 ≡ mask / 2 → (k : ℕ) → 0 < k → bit_at (mask - 1) k ≡ bit_at mask k
    above half zero less = absurd (omega arith)
    above half (suc k) less = bit_at-suc (mask - 1) k ∙ ap (λ (n : ℕ). bit_at n k) half ∙ sym (bit_at-suc mask k)
before-lowest (suc place) mask set below =
    let even = sym (bit_at_lowest mask) ∙ below 0 (omega arith) in
    let half : (mask - 1) / 2 ≡ mask / 2 - 1 = omega (arith, even) in
    let it = before-lowest place (mask / 2) (sym (bit_at-suc mask place) ∙ set) (λ k less. sym (bit_at-suc mask k) ∙ below (suc k) (omega arith)) in
    (bit_at-suc (mask - 1) place ∙ ap (λ (n : ℕ). bit_at n place) half ∙ it.0, above half it.1)
  where
    above : (mask - 1) / 2 ≡ mask / 2 - 1 → ((k : ℕ) → place < k → bit_at (mask / 2 - 1) k ≡ bit_at (mask / 2) k) → (k : ℕ) → suc place < k
        → bit_at (mask - 1) k ≡ bit_at mask k
    above half more zero less = absurd (omega arith)
    above half more (suc k) less =
        bit_at-suc (mask - 1) k ∙ ap (λ (n : ℕ). bit_at n k) half ∙ more k (omega arith) ∙ sym (bit_at-suc mask k)

pub is_without : (mask place : ℕ) → IsLowest mask place → IsWithout mask (bit_and mask (mask - 1)) place
is_without mask place is =
    let it = before-lowest place mask is.set is.below in
    record {
      above = λ k less. let one = it.1 k less in omega (arith, bit_at_and mask (mask - 1) k, one);
      none = λ k low.
          ⊎_elim (λ less. let none = is.below k less in omega (arith, bit_at_and mask (mask - 1) k, none))
          (λ high. let same : place ≡ k = omega arith in
          let none = rw same at it.0 in omega (arith, bit_at_and mask (mask - 1) k, none)) (cases_lt k place);
    }
