-- Eight digits in the lanes of a vector.
use Rattle.std.proofs.Common.{◌≡◌, ◌≤◌, ◌<◌, ◌+◌, ◌-◌, ◌*◌, ◌/◌, ◌%◌, ◌^◌, ℕ, List, [], ◌∷◌, ◌++◌, length, get_or, take, drop, map, replicate, cond, ltb, arith, refl, sym, ap, subst, ◌∙◌, inl, inr, Fits, w8, true, false, Bool, zero, suc}
use Rattle.std.specs.Int.Bits.{bit_and}
use Rattle.std.specs.Int.Digits.{number_from_digits_after}
use Rattle.std.specs.Simd.Lanes.{Each1, zip2, mask_l, top, number_l, digits_l}
use Rattle.std.proofs.lemmas.Simd.{tops_compared, zip2_splat, zip2_splat_left, mask_l-mod, bit_mask_l, length-chunk, length-zip2, chunk-drop, chunk-fits}
use Rattle.std.proofs.lemmas.Bool.{ltb-false}
use Rattle.std.proofs.lemmas.Bool.Decides.{nat_tests}
use Rattle.std.proofs.Math.ListN.{get_or-map}
use Rattle.std.proofs.lemmas.List.{length-map, length-replicate, drop-append-le, drop-drop}
use Rattle.std.proofs.lemmas.Nat.{and_mask}
use Rattle.std.proofs.lemmas.Nat.Bits.{bit_at-zero}
use Rattle.std.proofs.lemmas.Str.{digit_value_digit}
use Rattle.std.specs.Char.{digit_value}
use Rattle.pie_record.specs.{HasRead, all_ascii_digits, digits_value_after, ◌⊎◌}

abbrev less_8 : ℕ → ℕ → ℕ
less_8 a b = (a + (2 ^ 8 - b)) % 2 ^ 8

-- the digits in pairs, and the pairs in pairs
abbrev pairs : List ℕ → List ℕ
pairs ds = zip2 (λ x y. x / 2 ^ y) (zip2 (λ x y. x * y % 2 ^ 16) (digits_l (2 ^ 16) 4 (number_l (2 ^ 8) ds)) (replicate 4 2561)) (replicate 4 8)

abbrev quads : List ℕ → List ℕ
quads ps = zip2 (λ x y. x / 2 ^ y)
    (zip2 (λ x y. x * y % 2 ^ 32) (digits_l (2 ^ 32) 2 (number_l (2 ^ 8) (digits_l (2 ^ 8) 8 (number_l (2 ^ 16) ps)))) (replicate 2 6553601)) (replicate 2 16)

-- the number that eight digits write
abbrev pub word : List ℕ → ℕ
word ds = get_or (quads (pairs ds)) 0 0 * 10000 + get_or (quads (pairs ds)) 1 0

pub word-is : (start : ℕ) (ds : List ℕ) → length ds ≡ 8 → ((k : ℕ) → get_or ds k 0 ≤ 9)
    → start * 100000000 + word ds ≡ number_from_digits_after 10 start ds
word-is start (a ∷ b ∷ c ∷ d ∷ e ∷ f ∷ g ∷ h ∷ []) long small =
    omega (arith, small 0, small 1, small 2, small 3, small 4, small 5, small 6, small 7)
word-is start _ long small = absurd (omega (arith, long))

unset : (b : Bool) → cond {A = ℕ} b 1 0 ≡ 0 → b ≡ false
unset true e = absurd (omega (arith, e))
unset false e = refl

-- no lane is above 9
all-small : (n : ℕ) (ds : List ℕ) → length ds ≡ n → n ≤ 64
    → mask_l (map (top 7) (zip2 (λ a b. cond (ltb a b) 255 0) (replicate n 9) ds)) % 2 ^ 64 ≡ 0 → (k : ℕ) → get_or ds k 0 ≤ 9
all-small n ds long few none k =
    let tests = tops_compared w8 ltb (replicate n 9) ds ∙ zip2_splat_left ltb 9 n ds long in
    let mask = sym (mask_l-mod (map (ltb 9) ds) 64 (omega (arith, length-map ds (ltb 9), long))) ∙ ap (λ ms. mask_l ms % 2 ^ 64) (sym tests) ∙ none in
    let bit = sym (bit_mask_l (map (ltb 9) ds) k) ∙ ap (λ (m : ℕ). m / 2 ^ k % 2) mask ∙ bit_at-zero k in
    ltb-false 9 (get_or ds k 0) (sym (get_or-map (ltb 9) ds k 0) ∙ unset (get_or (map (ltb 9) ds) k false) bit)

-- the bytes less the digit 0, under a mask
abbrev lanes : List ℕ → List ℕ → List ℕ
lanes bytes masks = zip2 bit_and (map (λ b. less_8 b 48) bytes) masks

-- a lane that is at most 9 is that of a digit
digit-lane : (a : ℕ) → a < 256 → bit_and (less_8 a 48) 255 ≤ 9 → (48 ≤ a) × (a ≤ 57) × (digit_value a ≡ bit_and (less_8 a 48) 255)
digit-lane a fits small =
    let is = and_mask (less_8 a 48) 8 in
    let low : 48 ≤ a = omega (arith, fits, small, is) in
    let high : a ≤ 57 = omega (arith, fits, small, is) in
    (low, high, omega (arith, is, low, high, digit_value_digit a (low, high)))

-- the bytes before `rest` are digits, which write `value` after the digits of `start`
abbrev Writes : List ℕ → ℕ → ℕ → List ℕ → Type 0
Writes bytes start value rest = (all_ascii_digits bytes ≡ all_ascii_digits rest) × (digits_value_after 10 start bytes ≡ digits_value_after 10 value rest)

-- the lanes that a mask keeps
kept : (start c : ℕ) (bytes rest : List ℕ) → length bytes ≡ c → Each1 (Fits w8) bytes
    → ((k : ℕ) → get_or (lanes bytes (replicate c 255)) k 0 ≤ 9)
    → Writes (bytes ++ rest) start (number_from_digits_after 10 start (lanes bytes (replicate c 255))) rest
kept start zero [] rest long fits small = (refl, refl)
kept start (suc c) (b ∷ bytes) rest long fits small =
    let digit = digit-lane b fits.0.fits (small 0) in
    let more = kept (start * 10 + bit_and (less_8 b 48) 255) c bytes rest (omega arith) fits.1 (λ k. small (suc k)) in
    (grind (arith, nat_tests, digit.0, digit.1, more.0), ap (λ (d : ℕ). digits_value_after 10 (start * 10 + d) (bytes ++ rest)) digit.2 ∙ more.1)
kept start zero (b ∷ bytes) rest long fits small = absurd (omega arith)
kept start (suc c) [] rest long fits small = absurd (omega arith)

-- these lanes behind those that the mask clears
skipped : (start s c : ℕ) (bytes rest : List ℕ) → length bytes ≡ s + c → Each1 (Fits w8) bytes
    → ((k : ℕ) → get_or (lanes bytes (replicate s 0 ++ replicate c 255)) k 0 ≤ 9) → (start ≡ 0) ⊎ (s ≡ 0)
    → Writes (drop s bytes ++ rest) start (number_from_digits_after 10 start (lanes bytes (replicate s 0 ++ replicate c 255))) rest
skipped start zero c bytes rest long fits small fresh = kept start c bytes rest (omega arith) fits small
skipped start (suc s) c [] rest long fits small fresh = absurd (omega arith)
skipped start (suc s) c (b ∷ bytes) rest long fits small fresh =
    let none : start ≡ 0 = elim fresh [ inl e ↦ e | inr e ↦ absurd (omega (arith, e)) ] in
    let same : start ≡ start * 10 + bit_and (less_8 b 48) 0 = omega (arith, none, and_mask (less_8 b 48) 0) in
    subst (λ (v : ℕ). Writes (drop s bytes ++ rest) start (number_from_digits_after 10 v (lanes bytes (replicate s 0 ++ replicate c 255))) rest) same
    (skipped start s c bytes rest (omega arith) fits.1 (λ k. small (suc k)) (inl none))

-- the masks, and the one that keeps the last lanes
abbrev masks : List ℕ
masks = replicate 8 0 ++ replicate 8 255

mask-of : (c : ℕ) → c ≤ 8
    → (take 8 (take (16 - c) (drop c masks)) ≡ replicate (8 - c) 0 ++ replicate c 255) × (length (take 8 (take (16 - c) (drop c masks))) ≡ 8)
mask-of zero few = (refl, refl)
mask-of (suc zero) few = (refl, refl)
mask-of (suc (suc zero)) few = (refl, refl)
mask-of (suc (suc (suc zero))) few = (refl, refl)
mask-of (suc (suc (suc (suc zero)))) few = (refl, refl)
mask-of (suc (suc (suc (suc (suc zero))))) few = (refl, refl)
mask-of (suc (suc (suc (suc (suc (suc zero)))))) few = (refl, refl)
mask-of (suc (suc (suc (suc (suc (suc (suc zero))))))) few = (refl, refl)
mask-of (suc (suc (suc (suc (suc (suc (suc (suc zero)))))))) few = (refl, refl)
mask-of _ few = absurd (omega (arith, few))

-- the lanes of the eight bytes before a place, of which those from another place on are read
abbrev pub lanes_of : List ℕ → ℕ → ℕ → List ℕ
lanes_of text from end = zip2 bit_and (zip2 less_8 (take 8 (drop (end - 8) text)) (replicate 8 48))
    (take 8 (take (16 - (end - from)) (drop (end - from) masks)))

pub eight-read : (text : List ℕ) (from end start first : ℕ) → (from ≤ end) × (end ≤ from + 8) → (8 ≤ end) × (end ≤ length text)
    → (start ≡ 0) ⊎ (from + 8 ≡ end) → ((k : ℕ) → Fits w8 (get_or text k 0))
    → mask_l (map (top 7) (zip2 (λ a b. cond (ltb a b) 255 0) (replicate 8 9) (lanes_of text from end))) % 2 ^ 64 ≡ 0
    → HasRead text first from start → HasRead text first end (start * 100000000 + word (lanes_of text from end))
eight-read text from end start first few within fresh fits none read =
    let c : ℕ = end - from in
    let s : ℕ = 8 - c in
    let bytes : List ℕ = take 8 (drop (end - 8) text) in
    let mask = mask-of c (omega arith) in
    let long : length bytes ≡ 8 = length-chunk (end - 8) 8 text (omega arith) in
    let less = length-zip2 less_8 bytes (replicate 8 48) (long ∙ sym (length-replicate {A = ℕ} 8 48)) ∙ long in
    let eight = length-zip2 bit_and (zip2 less_8 bytes (replicate 8 48)) (take 8 (take (16 - c) (drop c masks))) (less ∙ sym mask.1) ∙ less in
    let digits = all-small 8 (lanes_of text from end) eight (omega arith) none in
    let is : lanes_of text from end ≡ lanes bytes (replicate s 0 ++ replicate c 255) =
    λ i. zip2 bit_and (zip2_splat less_8 bytes 8 48 long i) (mask.0 i) in
    let writes = skipped start s c bytes (drop end text) (omega (arith, long)) (chunk-fits w8 (end - 8) 8 text fits)
    (subst (λ (ds : List ℕ). (k : ℕ) → get_or ds k 0 ≤ 9) is digits)
    (elim fresh [ inl e ↦ inl e | inr e ↦ inr (omega (arith, e)) ]) in
    let value = word-is start (lanes_of text from end) eight digits ∙ ap (number_from_digits_after 10 start) is in
    let at : end - 8 + s ≡ from = omega arith in
    let past : end - 8 + 8 ≡ end = omega arith in
    let split : drop from text ≡ drop s bytes ++ drop end text =
    ap (λ (n : ℕ). drop n text) (sym at) ∙ sym (drop-drop s (end - 8) text) ∙ ap (drop s) (chunk-drop (end - 8) 8 text)
    ∙ drop-append-le s bytes (drop (end - 8 + 8) text) (omega (arith, long)) ∙ ap (λ (n : ℕ). drop s bytes ++ drop n text) past in
    record {
      digits = read.digits ∙ ap all_ascii_digits split ∙ writes.0;
      sum = read.sum ∙ ap (digits_value_after 10 start) split ∙ writes.1 ∙ ap (λ (v : ℕ). digits_value_after 10 v (drop end text)) (sym value);
    }
