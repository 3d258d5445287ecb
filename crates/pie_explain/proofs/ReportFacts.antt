-- Facts about the text of any report.
use Rattle.std.proofs.Common.{Bool, List, [], ap, append-nil, append_assoc, refl, sym, true, false, ℕ, ◌++◌, ◌∷◌, ◌≡◌}
use Rattle.std.specs.Prelude.{⊤, Err, Ok, OnOk, Result, if◌then◌else◌}
pub use Rattle.pie_aqm.proofs.Laws.{greatest-push, last_or-push, place_of, places-push}
use Rattle.pie_aqm.specs.History.{Place, places}
use Rattle.pie_explain.specs.Report.{Extends, Grows, HasParts, IsBegun, IsEnded, Says}
use Rattle.pie_explain.specs.declared.explanation.Explained.{Explained}

-- ---- a page

-- no text was added
pub unextended : (page : List ℕ) → Extends page page
unextended page = record { more = []; grown = sym (append-nil page) }

-- one text after another was added
pub extended : {page middle now : List ℕ} → Extends page middle → Extends middle now → Extends page now
extended {page} first rest = record {
  more = first.more ++ rest.more;
  grown = rw (rest.grown, first.grown) (append_assoc page first.more rest.more);
}

-- a text was put onto an unchanged page
pub extended_by : {A E : Type 0} (result : Result A E) (page kept now more : List ℕ) → kept ≡ page → OnOk result (now ≡ kept ++ more)
    → OnOk result (Extends page now)
extended_by (Ok value) page kept now more same is = record { more = more; grown = rw (← same) is }
extended_by (Err why) page kept now more same is = tt

-- ---- a report

-- a report that ends without a further text
pub ended : (is : List ℕ → Type 0) (text page : List ℕ) → is text → Grows is text page page
ended is text page says = record { more = []; grown = sym (append-nil page); says = rw append-nil says }

-- a report without a statement about its text
pub said : (text : List ℕ) {page now : List ℕ} → Extends page now → Grows (λ text. ⊤) text page now
said text extends = record { more = extends.more; grown = extends.grown; says = tt }

pub said_ok : {A E : Type 0} (result : Result A E) (text page now : List ℕ) → OnOk result (Extends page now)
    → OnOk result (Grows (λ text. ⊤) text page now)
said_ok (Ok value) text page now extends = said text extends
said_ok (Err why) text page now extends = tt

-- ---- a report whose text has a header, a part for each event, and a last part; its text is stated if it is `exact`

pub begun : (exact : Bool) (at : Place Explained → List ℕ → Type 0) (page now header : List ℕ) → now ≡ page ++ (if exact then header else [])
    → Grows (Says exact (IsBegun header at [])) [] page now
unfolding places
begun true at page now header written = record { more = header; grown = written; says = ([], sym (append-nil header), refl) }
begun false at page now header written = record { more = []; grown = written; says = tt }

one-more : (at : Place Explained → List ℕ → Type 0) (before : List (Place Explained)) (one : Place Explained) (parts part : List ℕ)
    → at one part → HasParts at before parts → HasParts at (before ++ one ∷ []) (parts ++ part)
one-more at [] one parts part says has = (part, [], rw has (sym (append-nil part)), says, refl)
one-more at (first ∷ before) one parts part says has =
    (has.0, has.1 ++ part, rw has.2 (append_assoc has.0 has.1 part), has.3, one-more at before one has.1 part says has.4)

-- one more event, with its part
pub reported : (exact : Bool) (at : Place Explained → List ℕ → Type 0) (header : List ℕ) (all : List Explained) (one : Explained)
    {text page now : List ℕ} (part : List ℕ) → Extends page now → (exact ≡ true → now ≡ page ++ part) → at (place_of all one) part
    → Says exact (IsBegun header at all) text → Grows (Says exact (IsBegun header at (all ++ one ∷ []))) text page now
reported true at header all one part extends written is says = record {
  more = part;
  grown = written refl;
  says = (
    says.0 ++ part,
    rw says.1 (append_assoc header says.0 part),
    rw (places-push all one) (one-more at (places all) (place_of all one) says.0 part is says.2),
  );
}
reported false at header all one part extends written is says = record { more = extends.more; grown = extends.grown; says = tt }

-- the last part
pub concluded : (exact : Bool) (at : Place Explained → List ℕ → Type 0) (header last : List ℕ) (all : List Explained)
    {text page now : List ℕ} (part : List ℕ) → Extends page now → (exact ≡ true → now ≡ page ++ part) → part ≡ last
    → Says exact (IsBegun header at all) text → Grows (Says exact (IsEnded header at last all)) text page now
concluded true at header last all {text} part extends written is says =
    record { more = part; grown = written refl; says = (text, ap (λ (p : List ℕ). text ++ p) is, says) }
concluded false at header last all part extends written is says = record { more = extends.more; grown = extends.grown; says = tt }
