-- Texts between quotes, and what stands between them.
use Rattle.std.proofs.Common.{◌≡◌, ℕ, suc, ◌+◌, ◌-◌, ◌<◌, ◌≤◌, Bool, true, false, not, ◌||◌, ◌==◌, if◌then◌else◌, List, [], ◌∷◌, ◌++◌, length, take, drop, get_or, refl, sym, ◌∙◌, ap, arith, length-append}
use Rattle.std.proofs.Math.Seq.{take-append_seam}
use Rattle.std.proofs.lemmas.Bool.Decides.{nat_tests}
use Rattle.std.specs.List.{list_any, prefix_len, slice_range}
use Rattle.pl_text.specs.FrameText.{is_special, needs_quotes, doubled, quoted}
use Rattle.pl_round_trip.proofs.FieldLaws.{bare-lacks, doubled-lacks, neither}
use Rattle.pl_verbatim.specs.CellTexts.{IsQuotedText, IsWrittenText, IsBareText}
use Rattle.pl_verbatim.proofs.CopyLaws.{quotes-at}
use Rattle.pl_verbatim.proofs.TextLaws.{is_stop, front-bare}
use Rattle.pl_verbatim.proofs.TextInnerLaws.{slice_join, slice_one}

or-twice : (a b : Bool) → (a || (a || b)) ≡ (a || b)
or-twice true b = refl
or-twice false b = refl

-- a byte that passes a test is among bytes where it is among them with each quote doubled
any-doubled : (p : ℕ → Bool) (q : ℕ) (text : List ℕ) → list_any p (doubled q text) ≡ list_any p text
any-doubled p q [] = refl
any-doubled p q (x ∷ text) = by (x == q) refl (any-doubled p q text)
  where
    by : (t : Bool) → (x == q) ≡ t → list_any p (doubled q text) ≡ list_any p text → list_any p ((if t then q ∷ q ∷ [] else x ∷ []) ++ doubled q text) ≡ (p x || list_any p text)
    by true e rest =
        let same : x ≡ q = grind (arith, nat_tests, e) in
        ap (λ t. p q || (p q || t)) rest ∙ or-twice (p q) (list_any p text) ∙ ap (λ y. p y || list_any p text) (sym same)
    by false e rest = ap (λ t. p x || t) rest

not-zero : (n : ℕ) → (suc n == 0) ≡ false
not-zero n = grind (arith, nat_tests)

none-doubled : (q : ℕ) (text : List ℕ) → (length (doubled q text) == 0) ≡ (length text == 0)
none-doubled q [] = refl
none-doubled q (x ∷ text) = by (x == q) ∙ sym (not-zero (length text))
  where
    by : (t : Bool) → (length ((if t then q ∷ q ∷ [] else x ∷ []) ++ doubled q text) == 0) ≡ false
    by true = not-zero (suc (length (doubled q text)))
    by false = not-zero (length (doubled q text))

pub needs-doubled : (s q : ℕ) (text : List ℕ) → needs_quotes s q (doubled q text) ≡ needs_quotes s q text
needs-doubled s q text = (λ j. none-doubled q text j || any-doubled (is_special s q) q text j)

-- a text that needs no quotes is what stands between them
pub bare-inside : (s q : ℕ) (text : List ℕ) → needs_quotes s q (doubled q text) ≡ false → doubled q text ≡ text
bare-inside s q text bare =
    let none = (neither (length text == 0) (list_any (is_special s q) text) (sym (needs-doubled s q text) ∙ bare)).1 in
    doubled-lacks q text (bare-lacks s q text none).0

-- ---- places

cut-last : (p q : ℕ) (xs ys : List ℕ) → xs ++ p ∷ [] ≡ ys ++ q ∷ [] → xs ≡ ys
cut-last p q xs ys e =
    let longs : length xs ≡ length ys = omega (arith, ap length e, length-append xs (p ∷ []), length-append ys (q ∷ [])) in
    sym (take-append_seam xs (p ∷ [])) ∙ (λ j. take (longs j) (e j)) ∙ take-append_seam ys (q ∷ [])

pub between-quotes : (q : ℕ) (xs ys : List ℕ) → q ∷ (xs ++ q ∷ []) ≡ q ∷ (ys ++ q ∷ []) → xs ≡ ys
between-quotes q xs ys e = cut-last q q xs ys (ap (drop 1) e)

-- what stands between the quotes
pub inside-slice : (text : List ℕ) (at end q : ℕ) (inner : List ℕ) → at + 2 ≤ end → end ≤ length text → slice_range text at end ≡ q ∷ (inner ++ q ∷ []) → slice_range text (at + 1) (end - 1) ≡ inner
inside-slice text at end q inner long inside is =
    let last : end - 1 + 1 ≡ end = omega (arith, long) in
    let behind : slice_range text (at + 1) end ≡ slice_range text (at + 1) (end - 1) ++ get_or text (end - 1) 0 ∷ [] =
    slice_join text (at + 1) (end - 1) end (omega (arith, long)) (omega arith)
    ∙ ap (λ l. slice_range text (at + 1) (end - 1) ++ l) (ap (slice_range text (end - 1)) (sym last) ∙ slice_one text (end - 1) (get_or text (end - 1) 0) (omega (arith, long, inside)) refl) in
    let whole : slice_range text at end ≡ get_or text at 0 ∷ (slice_range text (at + 1) (end - 1) ++ get_or text (end - 1) 0 ∷ []) =
    slice_join text at (at + 1) end (omega arith) (omega (arith, long))
    ∙ (λ j. slice_one text at (get_or text at 0) (omega (arith, long, inside)) refl j ++ behind j) in
    cut-last (get_or text (end - 1) 0) q (slice_range text (at + 1) (end - 1)) inner (ap (drop 1) (sym whole ∙ is))

-- a text between quotes that it needs is written so
pub quoted-written : (s q : ℕ) (text : List ℕ) (at end : ℕ) → at + 2 ≤ end → end ≤ length text → IsQuotedText q (slice_range text at end) → needs_quotes s q (slice_range text (at + 1) (end - 1)) ≡ true
    → IsWrittenText s q (slice_range text at end)
quoted-written s q text at end long inside is needs =
    let inner = is.inner in
    let needed : needs_quotes s q inner ≡ true =
    sym (needs-doubled s q inner) ∙ ap (needs_quotes s q) (sym (inside-slice text at end q (doubled q inner) long inside is.text_is)) ∙ needs in
    record { inner = inner; utf8 = is.utf8; text_is = is.text_is ∙ sym (ap (λ b. if b then quoted q inner else inner) needed) }

-- a text between quotes, and what stands between them
pub inside-parts : (text : List ℕ) (at end q : ℕ) → at + 2 ≤ end → end ≤ length text → IsQuotedText q (slice_range text at end)
    → slice_range text at end ≡ q ∷ (slice_range text (at + 1) (end - 1) ++ q ∷ [])
inside-parts text at end q long inside is =
    is.text_is ∙ ap (λ l. q ∷ (l ++ q ∷ [])) (sym (inside-slice text at end q (doubled q is.inner) long inside is.text_is))

-- a text that needs no quotes, between quotes
pub bare-between : (s q : ℕ) (text : List ℕ) (at to : ℕ) → at + 1 ≤ to → to < length text → get_or text at 0 ≡ q → get_or text to 0 ≡ q → IsBareText s q (slice_range text (at + 1) to)
    → IsQuotedText q (slice_range text at (to + 1))
bare-between s q text at to ordered inside opens closes bare =
    let inner = slice_range text (at + 1) to in
    let none = (neither (length inner == 0) (list_any (is_special s q) inner) bare.bare).1 in
    record {
      inner = inner;
      utf8 = bare.utf8;
      text_is = quotes-at text at to q ordered inside opens closes ∙ ap (λ l. q ∷ (l ++ q ∷ [])) (sym (doubled-lacks q inner (bare-lacks s q inner none).0));
    }

-- a text without quotes in it, between quotes
pub bare-quoted : (q : ℕ) (text : List ℕ) (at count : ℕ) → at + 1 + 32 ≤ length text → count ≡ prefix_len (λ x. not (is_stop q q x)) (slice_range text (at + 1) (at + 1 + 32)) → 0 < count → count < 32
    → get_or text at 0 ≡ q → get_or text (at + 1 + count) 0 ≡ q → IsQuotedText q (slice_range text at (at + 1 + count + 1))
bare-quoted q text at count room is some few opens closes =
    bare-between q q text at (at + 1 + count) (omega arith) (omega (arith, room, few)) opens closes (front-bare q q text (at + 1) 32 count room is some few)
