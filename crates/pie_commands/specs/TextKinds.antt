-- The two kinds of texts that an audit and an explanation read, and their recognition by the first bytes.
use Rattle.std.specs.Prelude.{ℕ, ◌≡◌, ◌∷◌, ◌++◌, Bool, List, [], Option, Some, None, Result, Ok, Err, IfSome, codes, take}
use Rattle.std.specs.Io.Chain.{chain_remaining}
use Rattle.std.specs.Io.KnownBytes.{Consumes, Keeps, prepend_known}
use Rattle.std.specs.Str.{bytes_eq}
use Rattle.std.specs.declared.io.Error.{Error}
use Rattle.pie_commands.specs.declared.head.Head.{Head}
use Rattle.pie_commands.specs.declared.progress.ProgressReader.{ProgressReader}

-- true if a text is one of recorded steps of Linux's `pie` and `fq_pie`, as `pie-watch` writes it: its first row begins
-- with the column `qid`
abbrev pub is_linux_text : List ℕ → Bool
is_linux_text text = bytes_eq (take 4 text) (codes "qid,")

-- ---- the first bytes

-- a byte was read, or there was none; after a failure all bytes remain
abbrev pub TakesByte : Option (List ℕ) → Result (Option ℕ) Error → Option (List ℕ) → Type 0
TakesByte before (Ok None) after = IfSome before (λ text. (text ≡ []) × (after ≡ Some []))
TakesByte before (Ok (Some byte)) after = Consumes before after (byte ∷ [])
TakesByte before (Err why) after = Keeps before after

-- these bytes, and then those that remain, are the text
abbrev pub IsAhead : Option (List ℕ) → List ℕ → Option (List ℕ) → Type 0
IsAhead before bytes after = IfSome before (λ text. prepend_known bytes after ≡ Some text)

-- the bytes that were read to recognize a text
abbrev pub with_other : List ℕ → Option ℕ → List ℕ
with_other first None = first
with_other first (Some byte) = first ++ byte ∷ []

abbrev pub head_bytes : Head → List ℕ
head_bytes head = with_other head.header.now head.other

-- the bytes that the reader will return, if they are known
abbrev pub remaining_of : {R : Type 0} → (R → Option (List ℕ)) → ProgressReader R → Option (List ℕ)
remaining_of remaining watched = chain_remaining (λ head. Some (head_bytes head)) remaining watched.inner
