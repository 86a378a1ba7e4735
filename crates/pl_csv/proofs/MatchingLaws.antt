-- The schema of a frame, column by column.
use Rattle.std.proofs.Common.{◌≡◌, ℕ, zero, suc, ◌+◌, ◌<◌, ◌≤◌, false, cond, nat_lt, List, [], ◌∷◌, ◌++◌, length, take, get_or, refl, sym, ◌∙◌, ap, arith}
use Rattle.std.specs.Prelude.{None, Some}
use Rattle.std.specs.Str.{bytes_eq}
use Rattle.std.proofs.lemmas.Bool.{false_from_ne_true}
use Rattle.std.proofs.lemmas.Bool.Decides.{nat_tests}
use Rattle.std.proofs.lemmas.List.Sums.{position_or_len_is}
use Rattle.std.proofs.lemmas.Slice.Eq.{bytes_eq-Decides}
use Rattle.pl_frame.specs.Frame.{ColumnValue, IsFrame, names_of}
use Rattle.pl_frame.specs.FrameParts.{schema_of}
use Rattle.pl_frame.specs.Schema.{Entry, names_in, place_of, with_type}
use Rattle.pl_frame.proofs.SchemaLaws.{with_type-new}

-- a name that is none of some entries'
place_of-new : (entries : List Entry) (n : List ℕ) → ((k : ℕ) → k < length (names_in entries) → get_or (names_in entries) k [] ≡ n → ⊥) → place_of n entries ≡ None
place_of-new entries n new =
    let names = names_in entries in
    let first = position_or_len_is (bytes_eq n) names (length names) [] (omega arith)
    (λ k h. false_from_ne_true _ (λ e. new k h (sym ((bytes_eq-Decides _ _).0 e)))) (λ below. absurd (omega (arith, below))) in
    let none : nat_lt (length names) (length names) ≡ false = grind (arith, nat_tests) in
    ap (λ k. cond (nat_lt k (length names)) (Some k) None) first ∙ ap (λ b. cond b (Some (length names)) None) none

names-are : (columns : List ColumnValue) → names_in (schema_of columns) ≡ names_of columns
names-are [] = refl
names-are (column ∷ columns) = ap (λ l. column.name ∷ l) (names-are columns)

count-names : (columns : List ColumnValue) → length (names_of columns) ≡ length columns
count-names [] = refl
count-names (column ∷ columns) = omega (arith, count-names columns)

count-front : (columns : List ColumnValue) (i : ℕ) → i ≤ length columns → length (names_of (take i columns)) ≡ i
count-front columns zero fit = refl
count-front [] (suc i) fit = absurd (omega (arith, fit))
count-front (column ∷ columns) (suc i) fit = omega (arith, count-front columns i (omega (arith, fit)))

front-name : (columns : List ColumnValue) (i k : ℕ) → k < i → i ≤ length columns → get_or (names_of (take i columns)) k [] ≡ get_or (names_of columns) k []
front-name columns zero k low fit = absurd (omega (arith, low))
front-name [] (suc i) k low fit = absurd (omega (arith, fit))
front-name (column ∷ columns) (suc i) zero low fit = refl
front-name (column ∷ columns) (suc i) (suc k) low fit = front-name columns i k (omega (arith, low)) (omega (arith, fit))

own-name : (columns : List ColumnValue) (i : ℕ) (c : ColumnValue) → i < length columns → c ≡ get_or columns i c → get_or (names_of columns) i [] ≡ c.name
own-name [] i c below is = absurd (omega (arith, below))
own-name (column ∷ columns) zero c below is = ap (λ (x : ColumnValue). x.name) (sym is)
own-name (column ∷ columns) (suc i) c below is = own-name columns i c (omega (arith, below)) is

take-more : (columns : List ColumnValue) (i : ℕ) (c : ColumnValue) → i < length columns → c ≡ get_or columns i c → schema_of (take (suc i) columns) ≡ schema_of (take i columns) ++ (c.name, c.dtype) ∷ []
take-more [] i c below is = absurd (omega (arith, below))
take-more (column ∷ columns) zero c below is = ap (λ (x : ColumnValue). (x.name, x.dtype) ∷ []) (sym is)
take-more (column ∷ columns) (suc i) c below is = ap (λ l. (column.name, column.dtype) ∷ l) (take-more columns i c (omega (arith, below)) is)

-- one more column
pub schema-more : (columns : List ColumnValue) (i : ℕ) (c : ColumnValue) (schema : List Entry) → IsFrame columns → i < length columns → c ≡ get_or columns i c → schema ≡ schema_of (take i columns)
    → with_type schema c.name c.dtype ≡ schema_of (take (i + 1) columns)
schema-more columns i c schema frame below is here =
    let front : List Entry = schema_of (take i columns) in
    let same_place : suc i ≡ i + 1 = omega arith in
    let count : length (names_in front) ≡ i = ap length (names-are (take i columns)) ∙ count-front columns i (omega arith) in
    let new : place_of c.name front ≡ None =
    place_of-new front c.name
    (λ k h same. frame.distinct k i [] (omega (arith, h, count)) (omega (arith, below, count-names columns))
    (sym (front-name columns i k (omega (arith, h, count)) (omega arith)) ∙ ap (λ l. get_or l k []) (sym (names-are (take i columns))) ∙ same ∙ sym (own-name columns i c below is))) in
    ap (λ s. with_type s c.name c.dtype) here ∙ with_type-new front c.name c.dtype new ∙ sym (take-more columns i c below is) ∙ ap (λ n. schema_of (take n columns)) same_place
