-- A text behind the front of its line, with the front of the next line behind each end.
use Rattle.std.proofs.Common.{◌≡◌, ℕ, suc, ◌+◌, ◌-◌, ◌%◌, ◌^◌, ◌<◌, ◌≤◌, Bool, true, false, not, ◌&&◌, ◌||◌, ◌==◌, cond, List, [], ◌∷◌, ◌++◌, length, get_or, take, drop, refl, sym, ◌∙◌, ap, ap₂, subst, append_assoc, append-nil, length-append, length-drop, true≢false, arith}
use Rattle.std.proofs.Math.Seq.{take-add, take-append_seam}
use Rattle.std.proofs.lemmas.Bool.Decides.{nat_tests}
use Rattle.std.proofs.lemmas.List.{take_all, take_more, take-take, get_or-take, get_or-drop, length-take-le}
use Rattle.pl_scan.specs.Bits.{xor}
use Rattle.pl_row_numbers.specs.Numbered.{Stands, front_text, next_line, in_line, next_stand, stand_behind, front_at, numbered, followed, inside}
use Rattle.pl_row_numbers.specs.Parts.{odd_behind, is_end, has_no_end}
use Rattle.pl_row_numbers.specs.declared.fronts.Front.{Front}
use Rattle.pl_row_numbers.specs.declared.fronts.FrontForm.{FrontForm}
use Rattle.pl_row_numbers.specs.declared.numbering.Stand.{Stand}
use Rattle.pl_row_numbers.proofs.FrontLaws.{front-size}
use Rattle.pl_row_numbers.proofs.NumberedLaws.{stand_behind-append, next-in_line, stand-cut}
use Rattle.pl_row_numbers.proofs.QuoteLaws.{both_true, not_true, odd_behind-append}

-- with that front and the one behind it
pub numbered-followed : (form : FrontForm) (s : Stand) (text : List ℕ) → numbered form s text ++ front_at form (stand_behind s text) ≡ front_at form s ++ followed form s text
numbered-followed form s [] = sym (append-nil (front_at form s))
numbered-followed form s (x ∷ xs) =
    append_assoc (front_at form s) (x ∷ numbered form (next_stand s x) xs) (front_at form (stand_behind (next_stand s x) xs))
    ∙ ap (λ l. front_at form s ++ x ∷ l) (numbered-followed form (next_stand s x) xs)

followed-append : (form : FrontForm) (s : Stand) (xs ys : List ℕ) → followed form s (xs ++ ys) ≡ followed form s xs ++ followed form (stand_behind s xs) ys
followed-append form s [] ys = refl
followed-append form s (x ∷ xs) ys =
    let here = x ∷ front_at form (next_stand s x) in
    ap (λ l. here ++ l) (followed-append form (next_stand s x) xs ys)
    ∙ sym (append_assoc here (followed form (next_stand s x) xs) (followed form (stand_behind (next_stand s x) xs) ys))

-- a part that is put next
pub followed-cut : (form : FrontForm) (s : Stand) (text : List ℕ) (from count : ℕ)
    → followed form s (take (from + count) text) ≡ followed form s (take from text) ++ followed form (stand_behind s (take from text)) (take count (drop from text))
followed-cut form s text from count = ap (followed form s) (take-add from count text) ∙ followed-append form s (take from text) (take count (drop from text))

-- it does not matter whether the line has begun
pub followed-in_line : (form : FrontForm) (s : Stand) (text : List ℕ) → followed form (in_line s s.odd) text ≡ followed form s text
followed-in_line form s [] = refl
followed-in_line form s (x ∷ xs) = refl

pub stand-in_line : (s : Stand) (text : List ℕ) → ((stand_behind (in_line s s.odd) text).number ≡ (stand_behind s text).number) × ((stand_behind (in_line s s.odd) text).odd ≡ (stand_behind s text).odd)
stand-in_line s [] = (refl, refl)
stand-in_line s (x ∷ xs) = (refl, refl)

-- a byte more
pub followed-byte : (form : FrontForm) (s : Stand) (text : List ℕ) (i : ℕ) → i < length text
    → (followed form s (take (i + 1) text) ≡ (followed form s (take i text) ++ get_or text i 0 ∷ []) ++ front_at form (next_stand (stand_behind s (take i text)) (get_or text i 0)))
    × (stand_behind s (take (i + 1) text) ≡ next_stand (stand_behind s (take i text)) (get_or text i 0))
followed-byte form s text i inside =
    let x = get_or text i 0 in
    let here = stand_behind s (take i text) in
    let more : take (i + 1) text ≡ take i text ++ x ∷ [] = take_more text i 0 inside in (
      ap (followed form s) more
          ∙ followed-append form s (take i text) (x ∷ [])
          ∙ ap (λ l. followed form s (take i text) ++ l) (append-nil (x ∷ front_at form (next_stand here x)))
          ∙ sym (append_assoc (followed form s (take i text)) (x ∷ []) (front_at form (next_stand here x))),
      ap (stand_behind s) more ∙ stand_behind-append s (take i text) (x ∷ []),
    )

-- quotes behind a byte, and behind a text
pub odd-next : (s : Stand) (x : ℕ) → (next_stand s x).odd ≡ xor (x == 34) s.odd
odd-next s x = by (x == 10) (x == 34) s.odd (λ e. grind (arith, nat_tests, e))
  where
    by : (feed quote odd : Bool) → (feed ≡ true → quote ≡ false) → (cond (feed && not odd) (next_line s) (in_line s (xor quote odd))).odd ≡ xor quote odd
    by true true odd apart = absurd (true≢false (apart refl))
    by true false true apart = refl
    by true false false apart = refl
    by false quote odd apart = refl

pub odd-stand : (s : Stand) (text : List ℕ) → (stand_behind s text).odd ≡ odd_behind s.odd text
odd-stand s [] = refl
odd-stand s (x ∷ xs) = odd-stand (next_stand s x) xs ∙ ap (λ o. odd_behind o xs) (odd-next s x)

-- where no line ends, nothing is put in between
followed-plain : (form : FrontForm) (s : Stand) (text : List ℕ) → has_no_end s.odd text ≡ true → (followed form s text ≡ text) × ((stand_behind s text).number ≡ s.number)
followed-plain form s [] plain = (refl, refl)
followed-plain form s (x ∷ xs) plain =
    let first = both_true (not (is_end s.odd x)) (has_no_end (xor (x == 34) s.odd) xs) plain in
    let next = next-in_line s x (not_true (is_end s.odd x) first.0) in
    let rest = followed-plain form (in_line s (xor (x == 34) s.odd)) xs first.1 in
    (ap (λ t. (x ∷ front_at form t) ++ followed form t xs) next ∙ ap (λ l. x ∷ l) rest.0, ap (λ t. (stand_behind t xs).number) next ∙ rest.1)

no_end-all : (odd : Bool) (text : List ℕ) → ((i : ℕ) → i < length text → is_end (odd_behind odd (take i text)) (get_or text i 0) ≡ false) → has_no_end odd text ≡ true
no_end-all odd [] none = refl
no_end-all odd (x ∷ xs) none =
    ap (λ t. not t && has_no_end (xor (x == 34) odd) xs) (none 0 (omega arith)) ∙ no_end-all (xor (x == 34) odd) xs (λ i l. none (suc i) (omega (arith, l)))

-- bytes in which no line ends are put next
pub followed-more : (form : FrontForm) (s : Stand) (text : List ℕ) (from count : ℕ) → from + count ≤ length text
    → ((i : ℕ) → i < count → is_end (odd_behind s.odd (take (from + i) text)) (get_or text (from + i) 0) ≡ false)
    → (followed form s (take (from + count) text) ≡ followed form s (take from text) ++ take count (drop from text))
    × ((stand_behind s (take (from + count) text)).number ≡ (stand_behind s (take from text)).number)
followed-more form s text from count fits none =
    let here = stand_behind s (take from text) in
    let piece = take count (drop from text) in
    let size : length piece ≡ count = length-take-le count (drop from text) (omega (arith, fits, length-drop from text)) in
    let plain = followed-plain form here piece (no_end-all here.odd piece (λ i l. at i (omega (arith, l, size)))) in (
      followed-cut form s text from count ∙ ap (λ l. followed form s (take from text) ++ l) plain.0,
      ap (λ t. t.number) (stand-cut s here text from count refl) ∙ plain.1,
    )
  where
    at : (i : ℕ) → i < count → is_end (odd_behind (stand_behind s (take from text)).odd (take i (take count (drop from text)))) (get_or (take count (drop from text)) i 0) ≡ false
    at i l =
        let front = take from text in
        let quotes : odd_behind (stand_behind s front).odd (take i (take count (drop from text))) ≡ odd_behind s.odd (take (from + i) text) =
        ap (λ o. odd_behind o (take i (take count (drop from text)))) (odd-stand s front)
        ∙ ap (odd_behind (odd_behind s.odd front)) (take-take i count (drop from text) (omega (arith, l)))
        ∙ sym (ap (odd_behind s.odd) (take-add from i text) ∙ odd_behind-append s.odd front (take i (drop from text))) in
        let byte : get_or (take count (drop from text)) i 0 ≡ get_or text (from + i) 0 = get_or-take count (drop from text) i 0 l ∙ get_or-drop from text i 0 in
        ap₂ is_end quotes byte ∙ none i l

-- and one that ends a line
pub followed-line : (form : FrontForm) (s : Stand) (text : List ℕ) (from count : ℕ) → from + count < length text
    → ((i : ℕ) → i < count → is_end (odd_behind s.odd (take (from + i) text)) (get_or text (from + i) 0) ≡ false)
    → is_end (odd_behind s.odd (take (from + count) text)) (get_or text (from + count) 0) ≡ true
    → (followed form s (take (from + count + 1) text) ≡ (followed form s (take from text) ++ take (count + 1) (drop from text)) ++ front_text form (((stand_behind s (take from text)).number + 1) % 2 ^ 64))
    × ((stand_behind s (take (from + count + 1) text)).number ≡ ((stand_behind s (take from text)).number + 1) % 2 ^ 64)
followed-line form s text from count fits none ended =
    let n = from + count in
    let x = get_or text n 0 in
    let here = stand_behind s (take n text) in
    let before = followed-more form s text from count (omega (arith, fits)) none in
    let byte = followed-byte form s text n fits in
    let ends : is_end here.odd x ≡ true = ap (λ o. is_end o x) (odd-stand s (take n text)) ∙ ended in
    let next : next_stand here x ≡ next_line here = ap (λ t. cond t (next_line here) (in_line here (xor (x == 34) here.odd))) ends in
    let number : (here.number + 1) % 2 ^ 64 ≡ ((stand_behind s (take from text)).number + 1) % 2 ^ 64 = ap (λ k. (k + 1) % 2 ^ 64) before.1 in
    let piece : take (count + 1) (drop from text) ≡ take count (drop from text) ++ x ∷ [] =
    take_more (drop from text) count 0 (omega (arith, fits, length-drop from text)) ∙ ap (λ y. take count (drop from text) ++ y ∷ []) (get_or-drop from text count 0) in (
      byte.0
          ∙ ap (λ l. (l ++ x ∷ []) ++ front_at form (next_stand here x)) before.0
          ∙ ap (λ l. l ++ front_at form (next_stand here x)) (append_assoc (followed form s (take from text)) (take count (drop from text)) (x ∷ []) ∙ ap (λ l. followed form s (take from text) ++ l) (sym piece))
          ∙ ap (λ t. (followed form s (take from text) ++ take (count + 1) (drop from text)) ++ front_at form t) next
          ∙ ap (λ k. (followed form s (take from text) ++ take (count + 1) (drop from text)) ++ front_text form k) number,
      ap (λ t. t.number) (byte.1 ∙ next) ∙ number,
    )

-- ---- the last byte

-- a line goes on behind a byte that did not end it
pub begun-behind : (s : Stand) (text : List ℕ) → 0 < length text → (stand_behind s text).begun ≡ ((stand_behind s text).odd || not (get_or text (length text - 1) 0 == 10))
begun-behind s [] some = absurd (omega (arith, some))
begun-behind s (x ∷ []) some = by (x == 10) (x == 34) s.odd (λ e. grind (arith, nat_tests, e))
  where
    by : (feed quote odd : Bool) → (feed ≡ true → quote ≡ false)
        → (cond (feed && not odd) (next_line s) (in_line s (xor quote odd))).begun ≡ ((cond (feed && not odd) (next_line s) (in_line s (xor quote odd))).odd || not feed)
    by true true odd apart = absurd (true≢false (apart refl))
    by true false true apart = refl
    by true false false apart = refl
    by false true true apart = refl
    by false true false apart = refl
    by false false true apart = refl
    by false false false apart = refl
begun-behind s (x ∷ y ∷ rest) some =
    let last : length (x ∷ y ∷ rest) - 1 ≡ suc (length (y ∷ rest) - 1) = omega arith in
    begun-behind (next_stand s x) (y ∷ rest) (omega arith) ∙ ap (λ k. (stand_behind s (x ∷ y ∷ rest)).odd || not (get_or (x ∷ y ∷ rest) k 0 == 10)) (sym last)

-- ---- part by part

-- in the line whose front was put
enter : (form : FrontForm) (s : Stand) (front : Front) (odd : Bool) → Stands form s front odd → inside front odd ≡ in_line s s.odd
enter form s front odd is = ap₂ (λ n o. record { number = n; begun = true; odd = o }) is.number_is is.odd_is

-- a part is put next
pub followed-next : (form : FrontForm) (s : Stand) (text : List ℕ) (from count : ℕ) (front : Front) (odd : Bool) (before put : List ℕ) → Stands form (stand_behind s (take from text)) front odd
    → before ≡ front_at form s ++ followed form s (take from text) → put ≡ before ++ followed front.form (inside front odd) (take count (drop from text))
    → put ≡ front_at form s ++ followed form s (take (from + count) text)
followed-next form s text from count front odd before put is was then_is =
    let here = stand_behind s (take from text) in
    let piece = take count (drop from text) in
    let first = followed form s (take from text) in
    then_is
    ∙ ap₂ (λ l t. l ++ t) was (ap₂ (λ f t. followed f t piece) is.form_is (enter form here front odd is) ∙ followed-in_line form here piece)
    ∙ append_assoc (front_at form s) first (followed form here piece)
    ∙ ap (λ l. front_at form s ++ l) (sym (followed-cut form s text from count))

pub Stands-next : (form : FrontForm) (s : Stand) (text : List ℕ) (from count : ℕ) (front next : Front) (odd odd_next : Bool) → Stands form (stand_behind s (take from text)) front odd
    → Stands front.form (stand_behind (inside front odd) (take count (drop from text))) next odd_next → Stands form (stand_behind s (take (from + count) text)) next odd_next
Stands-next form s text from count front next odd odd_next is then_is =
    let here = stand_behind s (take from text) in
    let piece = take count (drop from text) in
    let same = stand-in_line here piece in
    let entered = enter form here front odd is in
    let all = sym (stand-cut s here text from count refl) in
    record {
      front_is = then_is.front_is;
      form_is = then_is.form_is ∙ is.form_is;
      number_is = then_is.number_is ∙ ap (λ t. (stand_behind t piece).number) entered ∙ same.0 ∙ ap (λ t. t.number) all;
      odd_is = then_is.odd_is ∙ ap (λ t. (stand_behind t piece).odd) entered ∙ same.1 ∙ ap (λ t. t.odd) all;
    }

-- where a text stands
pub stand-is : (form : FrontForm) (s : Stand) (front : Front) (begun odd : Bool) → Stands form s front odd → begun ≡ s.begun → record { number = front.number; begun = begun; odd = odd } ≡ s
stand-is form s front begun odd is same =
    ap₂ (λ n o. record { number = n; begun = begun; odd = o }) is.number_is is.odd_is ∙ ap (λ b. record { number = s.number; begun = b; odd = s.odd }) same

-- ---- all of a text

-- all is put
pub record IsPut (form : FrontForm) (s : Stand) (text put : List ℕ) (front : Front) (odd : Bool) : Type 0 where
  pub text_is : put ≡ front_at form s ++ followed form s text
  pub stands : Stands form (stand_behind s text) front odd

pub IsPut-last : (form : FrontForm) (s : Stand) (text : List ℕ) (from : ℕ) (front next : Front) (odd odd_next : Bool) (before put : List ℕ) → from ≤ length text → Stands form (stand_behind s (take from text)) front odd
    → before ≡ front_at form s ++ followed form s (take from text) → put ≡ before ++ followed front.form (inside front odd) (take (length text - from) (drop from text))
    → Stands front.form (stand_behind (inside front odd) (take (length text - from) (drop from text))) next odd_next → IsPut form s text put next odd_next
IsPut-last form s text from front next odd odd_next before put within is was then_is then_stands =
    let count = length text - from in
    let whole : take (from + count) text ≡ text = take_all (from + count) text (omega (arith, within)) in
    record {
      text_is = followed-next form s text from count front odd before put is was then_is ∙ ap (λ l. front_at form s ++ followed form s l) whole;
      stands = subst (λ l. Stands form (stand_behind s l) next odd_next) whole (Stands-next form s text from count front next odd odd_next is then_stands);
    }

-- where a line goes on
pub numbered-begun : (form : FrontForm) (s : Stand) (text put : List ℕ) (front : Front) (odd : Bool) → IsPut form s text put front odd → (stand_behind s text).begun ≡ true → put ≡ numbered form s text
numbered-begun form s text put front odd is begun =
    is.text_is
    ∙ sym (numbered-followed form s text)
    ∙ ap (λ t. numbered form s text ++ cond t [] (front_text form (stand_behind s text).number)) begun
    ∙ append-nil (numbered form s text)

-- the front of a line that begins behind the text is taken back
pub numbered-ended : (form : FrontForm) (s : Stand) (text new : List ℕ) (end : ℕ) (front : Front) (odd : Bool) → end ≤ length new → IsPut form s text (take end new) front odd → (stand_behind s text).begun ≡ false
    → (front.len ≤ end) × (take (end - front.len) new ≡ numbered form s text)
numbered-ended form s text new end front odd fits is begun =
    let lines = numbered form s text in
    let last = front_text front.form front.number in
    let put : take end new ≡ lines ++ last =
    is.text_is
    ∙ sym (numbered-followed form s text)
    ∙ ap (λ t. lines ++ cond t [] (front_text form (stand_behind s text).number)) begun
    ∙ ap (λ l. lines ++ l) (sym (ap₂ front_text is.stands.form_is is.stands.number_is)) in
    let size : end ≡ length lines + front.len = sym (length-take-le end new fits) ∙ ap length put ∙ length-append lines last ∙ ap (λ k. length lines + k) (front-size front is.stands.front_is) in
    let place : end - front.len ≡ length lines = omega (arith, size) in (
      omega (arith, size),
      ap (λ k. take k new) place ∙ sym (take-take (length lines) end new (omega (arith, size))) ∙ ap (take (length lines)) put ∙ take-append_seam lines last,
    )
