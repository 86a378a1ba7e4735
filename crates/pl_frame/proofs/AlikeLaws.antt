-- Laws of tests of two lists, element by element.
use Rattle.std.proofs.Common.{◌≡◌, ℕ, ℤ, zero, suc, ◌+◌, ◌<◌, Bool, true, false, not, ◌&&◌, List, [], ◌∷◌, length, get_or, nat_lt, slice_get, unwrap_or, subst, Option, None, Some, map, refl, sym, ◌∙◌, ap, arith}
use borrow.Author.Tests.{ltb-true, ltb-false}
use Rattle.std.specs.Cmp.Lexicographic.{pointwise}
use Rattle.pl_frame.specs.contracts.column.ValuePartialEq.TheImpl as values
use Rattle.pl_frame.specs.declared.column.Value.{Value}
use Rattle.pl_frame.specs.declared.column.Value.TheVariants as value
use Rattle.std.specs.Option.{option_eq, option_map}
use Rattle.std.specs.Ordering.{int_eq}
use Rattle.std.proofs.lemmas.Option.{get_or_from_slice_get}
use Rattle.pl_frame.specs.Columns.{scalar_of, number_cells}
use Rattle.pl_frame.specs.Equal.{cells_equal}
use Rattle.pl_frame.specs.Frame.{Scalar, Number}

-- a test of items, and one of what they show
pub pointwise-map : {X Y : Type 0} (f : X → Y) (D : X → X → Bool) (E : Y → Y → Bool) → ((a b : X) → D a b ≡ E (f a) (f b)) → (xs ys : List X) →
    pointwise D xs ys ≡ pointwise E (map f xs) (map f ys)
pointwise-map f D E same [] [] = refl
pointwise-map f D E same [] (y ∷ ys) = refl
pointwise-map f D E same (x ∷ xs) [] = refl
pointwise-map f D E same (x ∷ xs) (y ∷ ys) = λ j. same x y j && pointwise-map f D E same xs ys j

-- one place more
pub each_more : {P : ℕ → Type 0} (n : ℕ) → ((k : ℕ) → k < n → P k) → P n → (k : ℕ) → k < n + 1 → P k
each_more {P} n below here k l = by (nat_lt k n) refl
  where
    by : (b : Bool) → nat_lt k n ≡ b → P k
    by true e = below k (ltb-true k n e)
    by false e = subst P (let h = ltb-false k n e in let same : n ≡ k = omega (arith, h, l) in same) here

-- what stands in a row
pub cell_is : {X : Type 0} (xs : List (Option X)) (i : ℕ) → unwrap_or (slice_get xs i) None ≡ get_or xs i None
cell_is [] i = refl
cell_is (x ∷ xs) zero = refl
cell_is (x ∷ xs) (suc i) = cell_is xs i

module _ {X : Type 0} (E : X → X → Bool) (d : X) where
  -- alike at each place
  pub pointwise-all : (xs ys : List X) → length xs ≡ length ys → ((k : ℕ) → k < length xs → E (get_or xs k d) (get_or ys k d) ≡ true) → pointwise E xs ys ≡ true
  pointwise-all [] [] n each = refl
  pointwise-all [] (y ∷ ys) n each = absurd (omega arith)
  pointwise-all (x ∷ xs) [] n each = absurd (omega arith)
  pointwise-all (x ∷ xs) (y ∷ ys) n each = λ j. each 0 (omega arith) j && pointwise-all xs ys (omega arith) (λ k h. each (suc k) (omega arith)) j

  never : (b : Bool) → (b && false) ≡ false
  never true = refl
  never false = refl

  -- different at a place
  pub pointwise-differ : (xs ys : List X) (i : ℕ) → i < length xs → i < length ys → E (get_or xs i d) (get_or ys i d) ≡ false → pointwise E xs ys ≡ false
  pointwise-differ [] ys i l m e = absurd (omega arith)
  pointwise-differ (x ∷ xs) [] i l m e = absurd (omega arith)
  pointwise-differ (x ∷ xs) (y ∷ ys) zero l m e = ap (λ b. b && pointwise E xs ys) e
  pointwise-differ (x ∷ xs) (y ∷ ys) (suc i) l m e = ap (λ b. E x y && b) (pointwise-differ xs ys i (omega arith) (omega arith) e) ∙ never (E x y)

-- what `==` of two values answers
pub values_same : (a b : Value) → values.ghosts.eq a b ≡ cells_equal (scalar_of a) (scalar_of b)
values_same value.Null value.Null = refl
values_same value.Null (value.Boolean c) = refl
values_same value.Null (value.Whole n) = refl
values_same value.Null (value.Text t) = refl
values_same (value.Boolean b) value.Null = refl
values_same (value.Boolean b) (value.Boolean c) = refl
values_same (value.Boolean b) (value.Whole n) = refl
values_same (value.Boolean b) (value.Text t) = refl
values_same (value.Whole m) value.Null = refl
values_same (value.Whole m) (value.Boolean c) = refl
values_same (value.Whole m) (value.Whole n) = refl
values_same (value.Whole m) (value.Text t) = refl
values_same (value.Text s) value.Null = refl
values_same (value.Text s) (value.Boolean c) = refl
values_same (value.Text s) (value.Whole n) = refl
values_same (value.Text s) (value.Text t) = refl

-- what a test of the cells of a row tells
pub row_told : (xs ys : List (Option Scalar)) (i : ℕ) (told : Bool) (a b : Option Scalar) → a ≡ unwrap_or (slice_get xs i) None → b ≡ unwrap_or (slice_get ys i) None →
    told ≡ cells_equal a b → cells_equal (get_or xs i None) (get_or ys i None) ≡ told
row_told xs ys i told a b here there e = sym (e ∙ (λ j. cells_equal ((here ∙ cell_is xs i) j) ((there ∙ cell_is ys i) j)))

-- the same of numbers
pub number_told : (xs ys : List (Option ℤ)) (i : ℕ) (told : Bool) (a b : Option ℤ) → slice_get xs i ≡ Some a → slice_get ys i ≡ Some b → told ≡ option_eq int_eq a b →
    option_eq int_eq (get_or xs i None) (get_or ys i None) ≡ told
number_told xs ys i told a b here there e =
    (λ j. option_eq int_eq (get_or_from_slice_get xs i a None here j) (get_or_from_slice_get ys i b None there j)) ∙ sym e

pub false_from_not : (b : Bool) → not b ≡ true → b ≡ false
false_from_not true h = sym h
false_from_not false h = refl

option_same : (a b : Option ℤ) → option_eq int_eq a b ≡ cells_equal (option_map Number a) (option_map Number b)
option_same None None = refl
option_same None (Some n) = refl
option_same (Some m) None = refl
option_same (Some m) (Some n) = refl

-- equal numbers, and equal cells
pub numbers_same : (xs ys : List (Option ℤ)) → pointwise (option_eq int_eq) xs ys ≡ pointwise cells_equal (number_cells xs) (number_cells ys)
numbers_same xs ys = pointwise-map (option_map Number) (option_eq int_eq) cells_equal option_same xs ys
