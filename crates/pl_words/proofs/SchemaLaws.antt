-- The schema of a text, entry by entry.
use Rattle.std.proofs.Common.{◌≡◌, ℕ, ◌+◌, ◌-◌, ◌*◌, ◌^◌, ◌<◌, ◌≤◌, Bool, true, false, not, if◌then◌else◌, ◌&&◌, ◌||◌, List, [], ◌∷◌, ◌++◌, map, length, position, suc, refl, sym, ◌∙◌, ap, append_assoc, append-nil, arith, lit<}
use Rattle.std.specs.Prelude.{Option, Some, None, is_some, slice_set}
use Rattle.std.specs.List.{list_any}
use Rattle.std.specs.Option.{option_map, option_map_or, option_and_then}
use Rattle.std.specs.Str.{bytes_eq, all_ascii_digits}
use Rattle.std.proofs.lemmas.List.{map-append}
use Rattle.std.proofs.lemmas.List.Folds.{list_any-append, list_any_at}
use Rattle.std.proofs.lemmas.List.Quantifiers.{position-Some}
use Rattle.std.proofs.lemmas.Slice.Eq.{bytes_eq-Decides}
use Rattle.pl_frame.specs.declared.data_type.DataType.{DataType}
use Rattle.pl_frame.specs.Schema.{names_in, place_of, with_type}
use Rattle.pl_frame.proofs.SchemaLaws.{none_passes}
use Rattle.std.proofs.Math.Nat.{pow-le-pow_right, pow-suc, mul-le-mul_right, mul_assoc}
use Rattle.std.proofs.lemmas.Bool.Decides.{nat_tests}
use Rattle.std.specs.Char.{is_ascii_digit}
use Rattle.pl_cells.specs.Integers.{number_after, number_of, number_below}
use Rattle.pl_cells.proofs.IntegerLaws.{digit_small}
use Rattle.pl_words.specs.OptionValues.{count_of}
use Rattle.pl_words.specs.Lists.{all_of}
use Rattle.pl_words.specs.SchemaText.{SchemaValue, entry_of, are_distinct, schema_of}
use Rattle.pl_words.specs.Splitting.{parts_at}
use Rattle.pl_words.specs.TypeText.{small_number}

abbrev Named : Type 0
Named = List ℕ × DataType

-- the schema that has some entries, one after another
abbrev pub with_entries : SchemaValue → List (Option Named) → Option SchemaValue
with_entries done [] = Some done
with_entries done (None ∷ es) = None
with_entries done (Some e ∷ es) = elim (list_any (bytes_eq e.0) (names_in done)) [ true ↦ None | false ↦ with_entries (done ++ e ∷ []) es ]

-- ---- names

flip : (a b : List ℕ) (t : Bool) → bytes_eq a b ≡ t → bytes_eq b a ≡ t
flip a b true e = (bytes_eq-Decides b a).1 (sym ((bytes_eq-Decides a b).0 e))
flip a b false e = by (bytes_eq b a) refl
  where
    by : (s : Bool) → bytes_eq b a ≡ s → bytes_eq b a ≡ false
    by true is = let back : bytes_eq a b ≡ true = (bytes_eq-Decides a b).1 (sym ((bytes_eq-Decides b a).0 is)) in cc
    by false is = is

or_false : (s t : Bool) → (s || t) ≡ false → (s ≡ false) × (t ≡ false)
or_false true t e = cc
or_false false t e = (refl, e)

and_true : (s t : Bool) → (s && t) ≡ true → (s ≡ true) × (t ≡ true)
and_true true t e = (refl, e)
and_true false t e = cc

and_false : (s t : Bool) → t ≡ false → (s && t) ≡ false
and_false true t e = e
and_false false t e = refl

-- a new name behind distinct ones leaves them distinct
distinct-push : (names : List (List ℕ)) (n : List ℕ) → are_distinct names ≡ true → list_any (bytes_eq n) names ≡ false → are_distinct (names ++ n ∷ []) ≡ true
distinct-push [] n d is = refl
distinct-push (m ∷ ms) n d is =
    let parts = and_true _ _ d in
    let news = or_false (bytes_eq n m) (list_any (bytes_eq n) ms) is in
    let others : list_any (bytes_eq m) ms ≡ false = not_true _ parts.0 in
    let last : list_any (bytes_eq m) (n ∷ []) ≡ false = ap (λ t. t || false) (flip n m false news.0) in
    let none : list_any (bytes_eq m) (ms ++ n ∷ []) ≡ false = list_any-append (bytes_eq m) ms (n ∷ []) ∙ (λ j. others j || last j) in
    (λ j. not (none j) && distinct-push ms n parts.1 news.1 j)
  where
    not_true : (t : Bool) → not t ≡ true → t ≡ false
    not_true true e = cc
    not_true false e = refl

-- a name that stands twice
twice : (names : List (List ℕ)) (n : List ℕ) (more : List (List ℕ)) → list_any (bytes_eq n) names ≡ true → are_distinct (names ++ n ∷ more) ≡ false
twice [] n more is = cc
twice (m ∷ ms) n more is = by (bytes_eq n m) refl (twice ms n more)
  where
    or_true : (t : Bool) → (t || true) ≡ true
    or_true true = refl
    or_true false = refl

    by : (t : Bool) → bytes_eq n m ≡ t → (list_any (bytes_eq n) ms ≡ true → are_distinct (ms ++ n ∷ more) ≡ false) → are_distinct (m ∷ ms ++ n ∷ more) ≡ false
    by true e deeper =
        let here : list_any (bytes_eq m) (n ∷ more) ≡ true = ap (λ t. t || list_any (bytes_eq m) more) (flip n m true e) in
        let some : list_any (bytes_eq m) (ms ++ n ∷ more) ≡ true =
        list_any-append (bytes_eq m) ms (n ∷ more) ∙ ap (λ t. list_any (bytes_eq m) ms || t) here ∙ or_true _ in
        ap (λ t. not t && are_distinct (ms ++ n ∷ more)) some
    by false e deeper =
        and_false _ _ (deeper (sym (ap (λ t. t || list_any (bytes_eq n) ms) e) ∙ is))

-- a name has a place where it is one of the names
place_is : {X : Type 0} (p : X → Bool) (xs : List X) (d : X) → is_some (position p xs) ≡ list_any p xs
place_is p xs d = by (position p xs) refl
  where
    by : (o : Option ℕ) → position p xs ≡ o → is_some (position p xs) ≡ list_any p xs
    by None e = ap is_some e ∙ sym (none_passes p xs e)
    by (Some i) e =
        let found = position-Some p xs i d e in
        ap is_some e ∙ sym (list_any_at p xs i d found.0 found.1)

pub has_name-is : (n : List ℕ) (entries : SchemaValue) → is_some (place_of n entries) ≡ list_any (bytes_eq n) (names_in entries)
has_name-is n entries = place_is (bytes_eq n) (names_in entries) []

-- a new name goes last
pub with_type-new : (entries : SchemaValue) (n m : List ℕ) (type : DataType) → n ≡ m → list_any (bytes_eq m) (names_in entries) ≡ false → with_type entries n type ≡ entries ++ (m, type) ∷ []
with_type-new entries n m type same is = ap (λ x. with_type entries x type) same ∙ by (place_of m entries) refl
  where
    by : (o : Option ℕ) → place_of m entries ≡ o → with_type entries m type ≡ entries ++ (m, type) ∷ []
    by None e = ap (λ o. option_map_or (λ i. slice_set entries i (m, type)) o (entries ++ (m, type) ∷ [])) e
    by (Some i) e =
        let there : true ≡ false = sym (ap is_some e) ∙ has_name-is m entries ∙ is in cc

-- ---- the whole

-- entries behind those that stand already, where no name stands twice
abbrev behind : SchemaValue → SchemaValue → Option SchemaValue
behind done es = if are_distinct (names_in (done ++ es)) then Some (done ++ es) else None

names_in-append : (xs ys : SchemaValue) → names_in (xs ++ ys) ≡ names_in xs ++ names_in ys
names_in-append xs ys = map-append (λ (e : Named). e.0) xs ys

pub with_entries-is : (done : SchemaValue) (es : List (Option Named)) → are_distinct (names_in done) ≡ true
    → with_entries done es ≡ option_and_then (behind done) (all_of es)
with_entries-is done [] d = sym (ap (behind_nil) (append-nil done) ∙ ap (λ t. if t then Some done else None) d)
  where
    behind_nil : SchemaValue → Option SchemaValue
    behind_nil l = if are_distinct (names_in l) then Some l else None
with_entries-is done (None ∷ es) d = refl
with_entries-is done (Some e ∷ es) d = by (list_any (bytes_eq e.0) (names_in done)) refl (with_entries-is (done ++ e ∷ []) es)
  where
    refuses : (o : Option SchemaValue) → list_any (bytes_eq e.0) (names_in done) ≡ true
        → None ≡ option_and_then (behind done) (option_map (λ xs. e ∷ xs) o)
    refuses None is = refl
    refuses (Some xs) is =
        sym (ap (λ t. if t then Some (done ++ e ∷ xs) else None) (ap are_distinct (names_in-append done (e ∷ xs)) ∙ twice (names_in done) e.0 (names_in xs) is))

    goes : (o : Option SchemaValue) → option_and_then (behind (done ++ e ∷ [])) o ≡ option_and_then (behind done) (option_map (λ xs. e ∷ xs) o)
    goes None = refl
    goes (Some xs) = ap (λ (l : SchemaValue). if are_distinct (names_in l) then Some l else None) (append_assoc done (e ∷ []) xs)

    by : (t : Bool) → list_any (bytes_eq e.0) (names_in done) ≡ t
        → (are_distinct (names_in (done ++ e ∷ [])) ≡ true → with_entries (done ++ e ∷ []) es ≡ option_and_then (behind (done ++ e ∷ [])) (all_of es))
        → with_entries done (Some e ∷ es) ≡ option_and_then (behind done) (all_of (Some e ∷ es))
    by true is deeper = ap (λ t. elim t [ true ↦ None | false ↦ with_entries (done ++ e ∷ []) es ]) is ∙ refuses (all_of es) is
    by false is deeper =
        ap (λ t. elim t [ true ↦ None | false ↦ with_entries (done ++ e ∷ []) es ]) is
        ∙ deeper (ap are_distinct (names_in-append done (e ∷ [])) ∙ distinct-push (names_in done) e.0 d is)
        ∙ goes (all_of es)

pub schema_of-entries : (text : List ℕ) → schema_of text ≡ with_entries [] (map entry_of (parts_at 44 text))
schema_of-entries text = sym (with_entries-is [] (map entry_of (parts_at 44 text)) refl)

-- ---- numbers

number_after-small : (n : ℕ) (xs : List ℕ) → all_ascii_digits xs ≡ true → number_after n xs < (n + 1) * 10 ^ length xs
number_after-small n [] digits = omega arith
number_after-small n (x ∷ xs) digits =
    let parts = and_true (is_ascii_digit x) (all_ascii_digits xs) digits in
    let next : n * 10 + (x - 48) + 1 ≤ (n + 1) * 10 = omega (arith, digit_small x parts.0) in
    let wider : (n * 10 + (x - 48) + 1) * 10 ^ length xs ≤ (n + 1) * 10 * 10 ^ length xs = mul-le-mul_right (10 ^ length xs) next in
    let whole : (n + 1) * 10 * 10 ^ length xs ≡ (n + 1) * 10 ^ suc (length xs) = mul_assoc (n + 1) 10 (10 ^ length xs) ∙ ap (λ p. (n + 1) * p) (sym (ten_times (length xs))) in
    omega (arith, number_after-small (n * 10 + (x - 48)) xs parts.1, wider, whole)
  where
    ten_times : (i : ℕ) → 10 ^ suc i ≡ 10 * 10 ^ i
    ten_times i = pow-suc 10 i ∙ omega arith

-- a number of at most 18 digits is below 2 ^ 64
pub count_of-is : (text : List ℕ) → length text ≤ 18 → number_below (2 ^ 64) text ≡ count_of text
count_of-is [] few = refl
count_of-is (x ∷ xs) few = by (all_ascii_digits (x ∷ xs)) refl
  where
    by : (t : Bool) → all_ascii_digits (x ∷ xs) ≡ t → number_below (2 ^ 64) (x ∷ xs) ≡ count_of (x ∷ xs)
    by true digits =
        let small : number_of (x ∷ xs) < 10 ^ 18 = omega (arith, number_after-small 0 (x ∷ xs) digits, pow-le-pow_right {n = 10} (lit< tt) {i = length (x ∷ xs)} {j = 18} few) in
        let fits : number_of (x ∷ xs) < 2 ^ 64 = omega (arith, small) in
        rw (digits) (grind (arith, nat_tests, fits, few))
    by false digits = rw (digits) refl

-- a number of at most two digits
pub small_number-is : (text : List ℕ) → length text ≤ 2 → number_below (2 ^ 64) text ≡ small_number text
small_number-is [] few = refl
small_number-is (x ∷ xs) few = by (all_ascii_digits (x ∷ xs)) refl
  where
    by : (t : Bool) → all_ascii_digits (x ∷ xs) ≡ t → number_below (2 ^ 64) (x ∷ xs) ≡ small_number (x ∷ xs)
    by true digits =
        let small : number_of (x ∷ xs) < 10 ^ 2 = omega (arith, number_after-small 0 (x ∷ xs) digits, pow-le-pow_right {n = 10} (lit< tt) {i = length (x ∷ xs)} {j = 2} few) in
        let fits : number_of (x ∷ xs) < 2 ^ 64 = omega (arith, small) in
        rw (digits) (grind (arith, nat_tests, fits, few))
    by false digits = rw (digits) refl

some_if : (b : Bool) (v n : ℕ) → (if b then Some v else None) ≡ Some n → (b ≡ true) × (v ≡ n)
some_if true v n e = (refl, cc)
some_if false v n e = (cc, cc)

pub small_number-fits : (text : List ℕ) (n : ℕ) → length text ≤ 2 → number_below (2 ^ 64) text ≡ Some n → n < 2 ^ 32
small_number-fits [] n few is = cc
small_number-fits (x ∷ xs) n few is =
    let found = some_if _ (number_of (x ∷ xs)) n is in
    let digits = and_true (all_ascii_digits (x ∷ xs)) _ found.0 in
    let small : number_of (x ∷ xs) < 10 ^ 2 = omega (arith, number_after-small 0 (x ∷ xs) digits.0, pow-le-pow_right {n = 10} (lit< tt) {i = length (x ∷ xs)} {j = 2} few) in
    omega (arith, small, found.1)
