-- Laws of arrays that gain the cells of a column, one after another.
use Rattle.std.proofs.Common.{◌≡◌, ℕ, ℤ, ◌+◌, ◌-◌, ◌<◌, ◌≤◌, true, List, [], ◌∷◌, ◌++◌, length, map, take, drop, replicate, slice_get, unwrap_or, Option, None, Some, is_some, is_none, count_by, cond, refl, sym, ◌∙◌, ap, arith, append_assoc, length-append, zero, suc}
use Rattle.std.specs.Prelude.{slice_range, IfSome, IfNone}
use Rattle.std.proofs.Math.Seq.{take-append-add}
use Rattle.std.proofs.lemmas.List.{append-nil, map-append, take_more}
use Rattle.std.proofs.lemmas.Grind.{flat_map-append}
use Rattle.std.proofs.lemmas.List.Sums.{sum_by-cons}
use Rattle.std.specs.List.{flat_map, range_with_len}
use Rattle.std.specs.Option.{option_map}
use Rattle.pl_csv_c.specs.Arrays.{number_in, wide_in, or_zero, words_in, letters_in, ends_behind, numbers_of, words_of, bytes_of, ends_of, HaveCells}
use Rattle.pl_csv_c.specs.declared.arrays.Arrays.{Arrays}
use Rattle.pl_csv_c.specs.declared.kinds.Kind.{Kind}
use Rattle.pl_csv_c.specs.declared.kinds.Kind.TheVariants as kind
use Rattle.pl_frame.proofs.AlikeLaws.{cell_is}
use Rattle.pl_frame.proofs.CellLaws.{cell_of}
use Rattle.pl_frame.specs.Columns.{number_cells, text_cells}
use Rattle.pl_frame.specs.Frame.{Scalar, Number, Letters}
use Rattle.pl_frame.specs.declared.texts.TextPart.{TextPart}

-- ---- a cell more

-- the cells up to a row, and the one in it
pub cells_more : (values : List (Option Scalar)) (row : ℕ) → row < length values → take (row + 1) values ≡ take row values ++ unwrap_or (slice_get values row) None ∷ []
cells_more values row within = take_more values row None within ∙ ap (λ cell. take row values ++ cell ∷ []) (sym (cell_is values row))

-- what comes of each cell is put behind others
pub mapped_more : {X : Type 0} (f : Option Scalar → X) (values : List (Option Scalar)) (row : ℕ) (old items now : List X) (x : X) → row < length values →
    items ≡ old ++ map f (take row values) → x ≡ f (unwrap_or (slice_get values row) None) → now ≡ items ++ x ∷ [] → now ≡ old ++ map f (take (row + 1) values)
mapped_more f values row old items now x within before here next =
    next ∙ (λ j. before j ++ here j ∷ [])
    ∙ append_assoc old (map f (take row values)) (f (unwrap_or (slice_get values row) None) ∷ [])
    ∙ ap (λ rest. old ++ rest) (sym (map-append f (take row values) (unwrap_or (slice_get values row) None ∷ [])) ∙ ap (map f) (sym (cells_more values row within)))

pub flat_more : {X : Type 0} (f : Option Scalar → List X) (values : List (Option Scalar)) (row : ℕ) (old items now : List X) → row < length values →
    items ≡ old ++ flat_map f (take row values) → now ≡ items ++ f (unwrap_or (slice_get values row) None) → now ≡ old ++ flat_map f (take (row + 1) values)
flat_more f values row old items now within before next =
    let cell = unwrap_or (slice_get values row) None in
    next ∙ ap (λ xs. xs ++ f cell) before
    ∙ append_assoc old (flat_map f (take row values)) (f cell)
    ∙ ap (λ rest. old ++ (flat_map f (take row values) ++ rest)) (sym (append-nil (f cell)))
    ∙ ap (λ rest. old ++ rest) (sym (flat_map-append f (take row values) (cell ∷ [])) ∙ ap (flat_map f) (sym (cells_more values row within)))

-- ---- a part of a buffer

take_less : (n m : ℕ) (xs : List ℕ) → n ≤ m → take n (take m xs) ≡ take n xs
take_less zero m xs less = refl
take_less (suc n) zero xs less = absurd (omega arith)
take_less (suc n) (suc m) [] less = refl
take_less (suc n) (suc m) (x ∷ xs) less = ap (λ l. x ∷ l) (take_less n m xs (omega arith))

-- a part that was put behind others with what stands behind it, which went again
pub cut_part : (buffer old items now : List ℕ) (begin end size behind : ℕ) → begin ≤ end → end ≤ begin + size → items ≡ old ++ slice_range buffer begin (begin + size) → behind ≡ length old + (end - begin)
    → now ≡ take behind items → now ≡ old ++ slice_range buffer begin end
cut_part buffer old items now begin end size behind rise short put behind_is cut =
    let whole : begin + size - begin ≡ size = omega arith in
    cut
    ∙ (λ j. take (behind_is j) (put j))
    ∙ take-append-add old (slice_range buffer begin (begin + size)) (end - begin)
    ∙ ap (λ l. old ++ l) (ap (λ n. take (end - begin) (take n (drop begin buffer))) whole ∙ take_less (end - begin) size (drop begin buffer) (omega arith))

-- ---- ends

pub ends-append : (at : ℕ) (xs ys : List (Option Scalar)) → ends_behind at (xs ++ ys) ≡ ends_behind at xs ++ ends_behind (at + length (flat_map letters_in xs)) ys
ends-append at [] ys = ap (λ n. ends_behind n ys) (let e : at ≡ at + 0 = omega arith in e)
ends-append at (x ∷ xs) ys =
    let there : at + length (letters_in x) + length (flat_map letters_in xs) ≡ at + length (letters_in x ++ flat_map letters_in xs) =
    omega (arith, length-append (letters_in x) (flat_map letters_in xs)) in
    ap (λ rest. (at + length (letters_in x)) ∷ rest) (ends-append (at + length (letters_in x)) xs ys ∙ ap (λ n. ends_behind (at + length (letters_in x)) xs ++ ends_behind n ys) there)

-- the end of one text more
pub ends_more : (values : List (Option Scalar)) (row : ℕ) (at : ℕ) (old items now : List ℕ) (start bytes : List ℕ) → row < length values → at ≡ length start →
    bytes ≡ start ++ flat_map letters_in (take (row + 1) values) → items ≡ old ++ ends_behind at (take row values) → now ≡ items ++ length bytes ∷ [] →
    now ≡ old ++ ends_behind at (take (row + 1) values)
ends_more values row at old items now start bytes within at_is all before next =
    let cell = unwrap_or (slice_get values row) None in
    let front = take row values in
    let more = cells_more values row within in
    let whole = ap length all ∙ length-append start (flat_map letters_in (take (row + 1) values)) in
    let parts = ap (λ xs. length (flat_map letters_in xs)) more ∙ ap length (flat_map-append letters_in front (cell ∷ [])) ∙ length-append (flat_map letters_in front) (letters_in cell ++ []) in
    let last = ap length (append-nil (letters_in cell)) in
    let end : length bytes ≡ at + length (flat_map letters_in front) + length (letters_in cell) = omega (arith, at_is, whole, parts, last) in
    next ∙ (λ j. before j ++ end j ∷ [])
    ∙ append_assoc old (ends_behind at front) ((at + length (flat_map letters_in front) + length (letters_in cell)) ∷ [])
    ∙ ap (λ rest. old ++ rest) (sym (ends-append at front (cell ∷ [])) ∙ ap (ends_behind at) (sym more))

-- ---- kept numbers and texts

pub number_or_zero : (number : Option ℤ) → number_in (option_map Number number) ≡ or_zero number
number_or_zero None = refl
number_or_zero (Some n) = refl

-- the number of a row that was found
pub number_at : (numbers : List (Option ℤ)) (row : ℕ) (number : Option ℤ) → slice_get numbers row ≡ Some number → or_zero number ≡ number_in (unwrap_or (slice_get (number_cells numbers) row) None)
number_at numbers row number found =
    sym (ap number_in (cell_of Number numbers row ∙ ap (λ o. option_map Number (unwrap_or o None)) found) ∙ number_or_zero number)

pub wide_or_zero-is : (number : Option ℤ) → wide_in (option_map Number number) ≡ or_zero number
wide_or_zero-is None = refl
wide_or_zero-is (Some n) = refl

-- the same where it has 128 bits
pub wide_at : (numbers : List (Option ℤ)) (row : ℕ) (number : Option ℤ) → slice_get numbers row ≡ Some number → or_zero number ≡ wide_in (unwrap_or (slice_get (number_cells numbers) row) None)
wide_at numbers row number found =
    sym (ap wide_in (cell_of Number numbers row ∙ ap (λ o. option_map Number (unwrap_or o None)) found) ∙ wide_or_zero-is number)

pub there-is : (number : Option ℤ) → is_some (option_map Number number) ≡ is_some number
there-is None = refl
there-is (Some n) = refl

-- whether a number is there that was found
pub flag_at : (numbers : List (Option ℤ)) (row : ℕ) (number : Option ℤ) → slice_get numbers row ≡ Some number → is_some number ≡ is_some (unwrap_or (slice_get (number_cells numbers) row) None)
flag_at numbers row number found =
    sym (ap is_some (cell_of Number numbers row ∙ ap (λ o. option_map Number (unwrap_or o None)) found) ∙ there-is number)

-- whether a text is there that was found, if anything
pub text_flag_at : (texts : List (Option (List ℕ))) (row : ℕ) (part : Option TextPart) → IfNone part (slice_get texts row ≡ Some None)
    → IfSome part (λ part. slice_get texts row ≡ Some (Some (slice_range part.buffer.now part.begin part.end)))
    → is_some part ≡ is_some (unwrap_or (slice_get (text_cells texts) row) None)
text_flag_at texts row None null text = sym (ap is_some (cell_of Letters texts row ∙ ap (λ o. option_map Letters (unwrap_or o None)) null))
text_flag_at texts row (Some part) null text = sym (ap is_some (cell_of Letters texts row ∙ ap (λ o. option_map Letters (unwrap_or o None)) text))

-- the text of a row that was found
pub letters_at : (texts : List (Option (List ℕ))) (row : ℕ) (text : Option (List ℕ)) → slice_get texts row ≡ Some text → letters_in (unwrap_or (slice_get (text_cells texts) row) None) ≡ letters_in (option_map Letters text)
letters_at texts row text found = ap letters_in (cell_of Letters texts row ∙ ap (λ o. option_map Letters (unwrap_or o None)) found)

-- ---- flags

-- where no cell is null each flag is set
pub all_there : (cells : List (Option Scalar)) → count_by is_none cells ≡ 0 → map is_some cells ≡ replicate (length cells) true
all_there [] none = refl
all_there (None ∷ cells) none = absurd (one_more (count_by is_none cells) (sym (sum_by-cons (λ (cell : Option Scalar). cond (is_none cell) 1 0) None cells) ∙ none))
  where
    one_more : (n : ℕ) → 1 + n ≡ 0 → ⊥
    one_more n e = omega arith
all_there (Some cell ∷ cells) none = ap (λ flags. true ∷ flags) (all_there cells none)

-- a code is there exactly where its cell is
pub both_there : (code : Option ℕ) (cell : Option Scalar) → is_none code ≡ is_none cell → is_some code ≡ is_some cell
both_there None None e = refl
both_there None (Some cell) e = cc
both_there (Some code) None e = cc
both_there (Some code) (Some cell) e = refl

-- ---- codes

range_suc : (a n : ℕ) → range_with_len a (suc n) ≡ range_with_len a n ++ (a + n) ∷ []
range_suc a zero = ap (λ k. k ∷ []) (let e : a ≡ a + 0 = omega arith in e)
range_suc a (suc n) = ap (λ rest. a ∷ rest) (range_suc (a + 1) n ∙ ap (λ k. range_with_len (a + 1) n ++ k ∷ []) (let e : a + 1 + n ≡ a + suc n = omega arith in e))

-- what comes of the row behind those up to it is put behind others
pub rows_more : {X : Type 0} (f : ℕ → X) (row : ℕ) (old items now : List X) (x : X) → items ≡ old ++ map f (range_with_len 0 row) → x ≡ f row → now ≡ items ++ x ∷ [] →
    now ≡ old ++ map f (range_with_len 0 (row + 1))
rows_more f row old items now x before here next =
    let one : row + 1 ≡ suc row = omega arith in
    let last : 0 + row ≡ row = omega arith in
    next ∙ (λ j. before j ++ here j ∷ [])
    ∙ append_assoc old (map f (range_with_len 0 row)) (f row ∷ [])
    ∙ ap (λ rest. old ++ rest)
    (sym (map-append f (range_with_len 0 row) (row ∷ [])) ∙ ap (map f) (ap (λ k. range_with_len 0 row ++ k ∷ []) (sym last) ∙ sym (range_suc 0 row) ∙ ap (range_with_len 0) (sym one)))

-- ---- all arrays

-- the ends of cells put behind those of others
abbrev pub more_ends : Kind → ℕ → List (Option Scalar) → List ℕ
more_ends kind.Texts at cells = ends_behind at cells
more_ends _ at cells = []

-- each array gains what it has of more cells
pub HaveCells-more : (k : Kind) (cells more : List (Option Scalar)) (old now : Arrays) → HaveCells k cells old →
    now.present.items ≡ old.present.items ++ map is_some more → now.numbers.items ≡ old.numbers.items ++ numbers_of k more → now.words.items ≡ old.words.items ++ words_of k more →
    now.bytes.items ≡ old.bytes.items ++ bytes_of k more → now.ends.items ≡ old.ends.items ++ more_ends k (length old.bytes.items) more → HaveCells k (cells ++ more) now
HaveCells-more k cells more old now have present numbers words bytes ends = record {
  present = present ∙ ap (λ xs. xs ++ map is_some more) have.present ∙ sym (map-append is_some cells more);
  numbers = numbers ∙ ap (λ xs. xs ++ numbers_of k more) have.numbers ∙ numbers_both k;
  words = words ∙ ap (λ xs. xs ++ words_of k more) have.words ∙ words_both k;
  bytes = bytes ∙ ap (λ xs. xs ++ bytes_of k more) have.bytes ∙ bytes_both k;
  ends = ends ∙ (λ j. have.ends j ++ more_ends k (length (have.bytes j)) more) ∙ ends_both k;
}
  where
    numbers_both : (k : Kind) → numbers_of k cells ++ numbers_of k more ≡ numbers_of k (cells ++ more)
    numbers_both kind.Numbers = sym (map-append number_in cells more)
    numbers_both kind.Words = refl
    numbers_both kind.Texts = refl
    numbers_both kind.Codes = refl
    numbers_both kind.Nowhere = refl

    words_both : (k : Kind) → words_of k cells ++ words_of k more ≡ words_of k (cells ++ more)
    words_both kind.Numbers = refl
    words_both kind.Words = sym (flat_map-append words_in cells more)
    words_both kind.Texts = refl
    words_both kind.Codes = refl
    words_both kind.Nowhere = refl

    bytes_both : (k : Kind) → bytes_of k cells ++ bytes_of k more ≡ bytes_of k (cells ++ more)
    bytes_both kind.Numbers = refl
    bytes_both kind.Words = refl
    bytes_both kind.Texts = sym (flat_map-append letters_in cells more)
    bytes_both kind.Codes = refl
    bytes_both kind.Nowhere = refl

    ends_both : (k : Kind) → ends_of k cells ++ more_ends k (length (bytes_of k cells)) more ≡ ends_of k (cells ++ more)
    ends_both kind.Numbers = refl
    ends_both kind.Words = refl
    ends_both kind.Texts = ap (λ rest. 0 ∷ rest) (ap (λ n. ends_behind 0 cells ++ ends_behind n more) (let e : length (flat_map letters_in cells) ≡ 0 + length (flat_map letters_in cells) = omega arith in e) ∙ sym (ends-append 0 cells more))
    ends_both kind.Codes = refl
    ends_both kind.Nowhere = refl
