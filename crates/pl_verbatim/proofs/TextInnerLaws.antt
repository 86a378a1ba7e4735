-- What stands between quotes, as far as it is read.
use Rattle.std.proofs.Common.{◌≡◌, ℕ, suc, ◌+◌, ◌-◌, ◌<◌, ◌≤◌, Bool, true, false, ◌==◌, if◌then◌else◌, List, [], ◌∷◌, ◌++◌, length, take, drop, get_or, refl, sym, ap, ap₂, subst, ◌∙◌, arith}
use Rattle.std.proofs.lemmas.Bool.Decides.{nat_tests}
use Rattle.std.proofs.lemmas.List.{length-take-le, length-drop, get_or-take, get_or-drop, drop-drop, drop_more, take_rest}
use Rattle.std.proofs.lemmas.List.Concat.{flat_map-append}
use Rattle.std.proofs.lemmas.Str.{IsUtf8-from_ascii}
use Rattle.std.proofs.lemmas.Str.Ascii.{IsAscii-nil, IsAscii-cons}
use Rattle.std.proofs.Math.Seq.{take-add}
use Rattle.std.specs.List.{slice_range}
use Rattle.std.specs.Str.{IsUtf8}
use Rattle.memchr.specs.Find.{Nowhere, NoneBefore, Passes, is_byte}
use Rattle.pl_text.specs.FrameText.{doubled, quoted}

-- bytes are a text with each quote doubled, of which more is known
pub record HasInner (Is : List ℕ → Type 0) (q : ℕ) (bytes : List ℕ) : Type 0 where
  pub inner : List ℕ
  pub is : Is inner
  pub bytes_are : bytes ≡ doubled q inner

-- ---- more bytes

not_true : (t : Bool) → (t ≡ true → ⊥) → t ≡ false
not_true true h = absurd (h refl)
not_true false h = refl

-- what holds no quote stays
doubled-none : (q : ℕ) (xs : List ℕ) → Nowhere (Passes (is_byte q) xs) 0 (length xs) → doubled q xs ≡ xs
doubled-none q [] none = refl
doubled-none q (x ∷ xs) none =
    let here : (x == q) ≡ false = not_true (x == q) (none 0 (omega arith) (omega arith)) in
    rw here (ap (λ l. x ∷ l) (doubled-none q xs (λ k low high. none (suc k) (omega arith) (omega arith))))

with_part : (Is : List ℕ → Type 0) → ((xs ys : List ℕ) → Is xs → Is ys → Is (xs ++ ys)) → (q : ℕ) (bytes part : List ℕ) → HasInner Is q bytes → Is part → Nowhere (Passes (is_byte q) part) 0 (length part)
    → HasInner Is q (bytes ++ part)
with_part Is joins q bytes part has is none = record {
  inner = has.inner ++ part;
  is = joins has.inner part has.is is;
  bytes_are = ap₂ (λ a b. a ++ b) has.bytes_are (sym (doubled-none q part none)) ∙ sym (flat_map-append (λ x. if x == q then q ∷ q ∷ [] else x ∷ []) has.inner part);
}

same_byte : (q : ℕ) → (q == q) ≡ true
same_byte q = grind (arith, nat_tests)

doubled-one : (q : ℕ) → doubled q (q ∷ []) ≡ q ∷ q ∷ []
doubled-one q = rw (same_byte q) refl

with_quote : (Is : List ℕ → Type 0) → ((xs ys : List ℕ) → Is xs → Is ys → Is (xs ++ ys)) → (q : ℕ) (bytes : List ℕ) → Is (q ∷ []) → HasInner Is q bytes → HasInner Is q (bytes ++ (q ∷ q ∷ []))
with_quote Is joins q bytes one has = record {
  inner = has.inner ++ q ∷ [];
  is = joins has.inner (q ∷ []) has.is one;
  bytes_are = ap₂ (λ a b. a ++ b) has.bytes_are (sym (doubled-one q)) ∙ sym (flat_map-append (λ x. if x == q then q ∷ q ∷ [] else x ∷ []) has.inner (q ∷ []));
}

-- a quote is UTF-8
pub quote_utf8 : (q : ℕ) → q < 128 → IsUtf8 (q ∷ [])
quote_utf8 q low = IsUtf8-from_ascii (q ∷ []) (IsAscii-cons q [] low IsAscii-nil)

-- ---- places

pub slice_join : (xs : List ℕ) (a b c : ℕ) → a ≤ b → b ≤ c → slice_range xs a c ≡ slice_range xs a b ++ slice_range xs b c
slice_join xs a b c low high =
    let whole : c - a ≡ (b - a) + (c - b) = omega arith in
    let back : a + (b - a) ≡ b = omega arith in
    ap (λ n. take n (drop a xs)) whole ∙ take-add (b - a) (c - b) (drop a xs) ∙ ap (λ l. slice_range xs a b ++ take (c - b) l) (drop-drop (b - a) a xs ∙ ap (λ n. drop n xs) back)

pub slice_one : (xs : List ℕ) (a x : ℕ) → a < length xs → get_or xs a 0 ≡ x → slice_range xs a (a + 1) ≡ x ∷ []
slice_one xs a x fits is =
    let one : a + 1 - a ≡ 1 = omega arith in
    ap (λ n. take n (drop a xs)) one ∙ ap (take 1) (drop_more xs a 0 fits) ∙ ap (λ y. y ∷ []) is

slice_two : (xs : List ℕ) (a x y : ℕ) → a + 1 < length xs → get_or xs a 0 ≡ x → get_or xs (a + 1) 0 ≡ y → slice_range xs a (a + 1 + 1) ≡ x ∷ y ∷ []
slice_two xs a x y fits first second =
    slice_join xs a (a + 1) (a + 1 + 1) (omega arith) (omega arith)
    ∙ (λ i. slice_one xs a x (omega arith) first i ++ slice_one xs (a + 1) y fits second i)

-- the first quote from a place on stands so many bytes behind it
abbrev pub IsNextQuote : ℕ → List ℕ → ℕ → ℕ → Type 0
IsNextQuote q text from count =
    let rest = slice_range text from (length text) in
    NoneBefore (Passes (is_byte q) rest) 0 (length rest) count × Passes (is_byte q) rest count

module _ (q : ℕ) (text : List ℕ) (from count : ℕ) (inside : from ≤ length text) (found : IsNextQuote q text from count) where
  pub quote_room : from + count < length text
  quote_room =
      let long : length (slice_range text from (length text)) ≡ length text - from = ap length (take_rest text from) ∙ length-drop from text in
      omega (arith, found.0.high, long)

  quote_at : get_or text (from + count) 0 ≡ q
  quote_at =
      let here : (get_or (drop from text) count 0 == q) ≡ true = ap (λ l. get_or l count 0 == q) (sym (take_rest text from)) ∙ found.1 in
      let at : get_or (drop from text) count 0 ≡ get_or text (from + count) 0 = get_or-drop from text count 0 in
      sym at ∙ is_same _ here
    where
      is_same : (x : ℕ) → (x == q) ≡ true → x ≡ q
      is_same x e = grind (arith, nat_tests, e)

  front_none : Nowhere (Passes (is_byte q) (slice_range text from (from + count))) 0 (length (slice_range text from (from + count)))
  front_none k low high passes =
      let same : from + count - from ≡ count = omega arith in
      let front : slice_range text from (from + count) ≡ take count (drop from text) = ap (λ n. take n (drop from text)) same in
      let long : length (take count (drop from text)) ≡ count = length-take-le count (drop from text) (omega (arith, quote_room, length-drop from text)) in
      let within : k < count = omega (arith, high, ap length front, long) in
      let one : get_or (slice_range text from (from + count)) k 0 ≡ get_or (drop from text) k 0 = ap (λ l. get_or l k 0) front ∙ get_or-take count (drop from text) k 0 within in
      let two : get_or (slice_range text from (length text)) k 0 ≡ get_or (drop from text) k 0 = ap (λ l. get_or l k 0) (take_rest text from) in
      found.0.before k low within (ap (λ x. x == q) (two ∙ sym one) ∙ passes)

  part_length : length (slice_range text from (from + count)) ≡ count
  part_length =
      let same : from + count - from ≡ count = omega arith in
      ap (λ n. length (take n (drop from text))) same ∙ length-take-le count (drop from text) (omega (arith, quote_room, length-drop from text))

  module _ (Is : List ℕ → Type 0) (joins : (xs ys : List ℕ) → Is xs → Is ys → Is (xs ++ ys)) (at : ℕ) (before : at < from) where
    -- the bytes before it are more of the text
    pub part_read : HasInner Is q (slice_range text (at + 1) from) → Is (slice_range text from (from + count)) → HasInner Is q (slice_range text (at + 1) (from + count))
    part_read has is =
        subst (HasInner Is q) (sym (slice_join text (at + 1) from (from + count) (omega arith) (omega arith)))
        (with_part Is joins q (slice_range text (at + 1) from) (slice_range text from (from + count)) has is front_none)

    -- and two quotes stand for one
    pub quote_read : Is (q ∷ []) → HasInner Is q (slice_range text (at + 1) (from + count)) → from + count + 1 < length text → get_or text (from + count + 1) 0 ≡ q
        → HasInner Is q (slice_range text (at + 1) (from + count + 1 + 1))
    quote_read one has room again =
        subst (HasInner Is q)
        (sym (slice_join text (at + 1) (from + count) (from + count + 1 + 1) (omega arith) (omega arith) ∙ ap (λ l. slice_range text (at + 1) (from + count) ++ l) (slice_two text (from + count) q q room quote_at again)))
        (with_quote Is joins q (slice_range text (at + 1) (from + count)) one has)

    -- or one ends it
    pub text_read : get_or text at 0 ≡ q → (has : HasInner Is q (slice_range text (at + 1) (from + count))) → slice_range text at (from + count + 1) ≡ quoted q has.inner
    text_read opens has =
        slice_join text at (at + 1) (from + count + 1) (omega arith) (omega arith)
        ∙ ap (λ l. l ++ slice_range text (at + 1) (from + count + 1)) (slice_one text at q (omega (arith, quote_room)) opens)
        ∙ ap (λ l. q ∷ l) (slice_join text (at + 1) (from + count) (from + count + 1) (omega arith) (omega arith) ∙ ap (λ l. slice_range text (at + 1) (from + count) ++ l) (slice_one text (from + count) q quote_room quote_at))
        ∙ ap (λ l. q ∷ (l ++ q ∷ [])) has.bytes_are
