-- Texts that are put together of what does not steer a terminal.
use Rattle.std.proofs.Common.{◌≡◌, ℕ, zero, suc, ◌+◌, ◌-◌, ◌<◌, ◌≤◌, Bool, true, false, List, [], ◌∷◌, ◌++◌, length, take, drop, refl, sym, ◌∙◌, arith, append_assoc, if◌then◌else◌}
use Rattle.std.proofs.Common.{Option}
use Rattle.std.specs.Char.{encode_utf8, IsScalar}
use Rattle.std.specs.Str.{chars, IsUtf8, encode_utf8_all, all_scalars}
use Rattle.std.proofs.lemmas.Str.{chars-nil, chars-append, chars-encodes}
use Rattle.std.proofs.lemmas.List.{append-nil}
use Rattle.std.proofs.lemmas.List.Folds.{list_any-append}
use Rattle.bstr.specs.Utf8.{decoded}
use Rattle.bstr.proofs.lemmas.PieceLemmas.{size-within}
use Rattle.pl_terminal.specs.Shown.{steers, IsHarmless, shown, piece_text}

-- the empty text steers nothing
pub harmless-nil : IsHarmless []
harmless-nil = rw chars-nil refl

-- the character that one spells
one_char : (c : ℕ) → IsScalar c → chars (encode_utf8 c) ≡ c ∷ []
one_char c s =
    let ok : all_scalars (c ∷ []) ≡ true = rw s refl in
    let e : chars (encode_utf8_all (c ∷ [])) ≡ c ∷ [] = chars-encodes (c ∷ []) ok in
    let same : encode_utf8 c ++ [] ≡ encode_utf8 c = append-nil (encode_utf8 c) in
    rw same at e

-- one more character that does not steer
pub harmless-push : (old : List ℕ) (c : ℕ) → IsUtf8 old → IsScalar c → IsHarmless old → steers c ≡ false → IsHarmless (old ++ encode_utf8 c)
harmless-push old c u s h p =
    rw (chars-append old (encode_utf8 c) u, one_char c s, list_any-append steers (chars old) (c ∷ []), h, p) refl

-- the same, or nothing
pub harmless_pushed : (taken : Bool) (old new : List ℕ) (c : ℕ) → IsUtf8 old → IsScalar c → IsHarmless old → steers c ≡ false
    → new ≡ (if taken then old ++ encode_utf8 c else old) → IsHarmless new
harmless_pushed true old new c u s h p e = rw e (harmless-push old c u s h p)
harmless_pushed false old new c u s h p e = rw e h

-- a piece lies within its bytes
pub size_within : (bytes : List ℕ) → (decoded bytes).size ≤ length bytes
size_within bytes = size-within bytes

-- nothing is shown of no bytes
shown-nil : (n : ℕ) → shown n [] ≡ []
unfolding shown
shown-nil zero = refl
shown-nil (suc n) = refl

-- nothing is left
pub shown_done : (self rest whole : List ℕ) (n : ℕ) → length rest ≡ 0 → self ++ shown n rest ≡ whole → self ≡ whole
shown_done self [] whole n l e =
    let none : self ++ shown n [] ≡ self = rw (shown-nil n, append-nil self) refl in
    sym none ∙ e
shown_done self (x ∷ xs) whole n l e = absurd (omega (arith, l))

-- a piece more
pub shown_turn : (self rest whole : List ℕ) (most turn : ℕ) → turn < most → 0 < length rest → self ++ shown (most - turn) rest ≡ whole
    → (self ++ piece_text (decoded rest).char (take (decoded rest).size rest)) ++ shown (most - (turn + 1)) (drop (decoded rest).size rest) ≡ whole
unfolding shown
shown_turn self [] whole most turn l some e = absurd (omega (arith, some))
shown_turn self (x ∷ xs) whole most turn l some e =
    let step : most - turn ≡ suc (most - (turn + 1)) = omega arith in
    append_assoc self _ _ ∙ (rw step at e)

-- the same, by what a turn knows
pub shown_turned : (self now rest behind piece whole : List ℕ) (char : Option ℕ) (size most turn : ℕ) → turn < most → 0 < length rest
    → char ≡ (decoded rest).char → size ≡ (decoded rest).size → piece ≡ take size rest → behind ≡ drop size rest
    → now ≡ self ++ piece_text char piece → self ++ shown (most - turn) rest ≡ whole → now ++ shown (most - (turn + 1)) behind ≡ whole
shown_turned self now rest behind piece whole char size most turn l some is_char is_size is_piece is_behind is_now e =
    rw (is_now, is_piece, is_behind, is_char, is_size) (shown_turn self rest whole most turn l some e)

-- more than are shown
pub shown_points : (self rest whole : List ℕ) (most turn : ℕ) → most ≤ turn → 0 < length rest → self ++ shown (most - turn) rest ≡ whole → self ++ 46 ∷ 46 ∷ 46 ∷ [] ≡ whole
unfolding shown
shown_points self [] whole most turn l some e = absurd (omega (arith, some))
shown_points self (x ∷ xs) whole most turn l some e =
    let none : most - turn ≡ 0 = omega arith in
    rw none at e
