-- The laws of equality, which the traits ask for.
use Rattle.std.proofs.Common.{◌&&◌, None, Some, refl, subst, ◌≡◌, ℕ, ℤ, pos, Bool, true, false, List, [], sym, ap, true≢false}
use Rattle.std.specs.Bool.{Decides}
use Rattle.std.specs.Cmp.{IsEquivalence, and_equiv, on_equiv, decided, signed_Decides, booleans_Decides}
use Rattle.std.specs.Cmp.Lexicographic.{nat_list_eq_equiv, lists_equiv, options_equiv, pointwise_decides, bytes_decides}
use Rattle.std.proofs.lemmas.Bool.{eqb-true}
use Rattle.pl_frame.specs.declared.data_type.TimeUnit.TheVariants as unit
use Rattle.pl_frame.specs.contracts.data_type.DataTypeEq.TheImpl.Laws as types
use Rattle.pl_frame.specs.declared.data_type.DataType.{DataType}
use Rattle.pl_frame.specs.declared.data_type.DataType.TheVariants as dtype
use Rattle.pl_frame.specs.Equal.{types_equal, TypesAreTold, entries_equal, scalars_equal, cells_equal, columns_equal}
use Rattle.pl_frame.specs.Frame.{Scalar, Truth, Number, Letters, ColumnValue}
use Rattle.pl_frame.specs.Schema.{Entry}

pub types_equiv : IsEquivalence types_equal
types_equiv = types.laws-law

both : (a b : Bool) → (a && b) ≡ true → (a ≡ true) × (b ≡ true)
both true b e = (refl, e)
both false b e = absurd (true≢false (sym e))

-- equal types are the same
pub types_same : (a b : DataType) → types_equal a b ≡ true → a ≡ b
types_same dtype.Boolean dtype.Boolean e = refl
types_same dtype.Int8 dtype.Int8 e = refl
types_same dtype.Int16 dtype.Int16 e = refl
types_same dtype.Int32 dtype.Int32 e = refl
types_same dtype.Int64 dtype.Int64 e = refl
types_same dtype.Int128 dtype.Int128 e = refl
types_same dtype.UInt8 dtype.UInt8 e = refl
types_same dtype.UInt16 dtype.UInt16 e = refl
types_same dtype.UInt32 dtype.UInt32 e = refl
types_same dtype.UInt64 dtype.UInt64 e = refl
types_same dtype.String dtype.String e = refl
types_same dtype.Categorical dtype.Categorical e = refl
types_same dtype.Date dtype.Date e = refl
types_same dtype.Time dtype.Time e = refl
types_same dtype.Null dtype.Null e = refl
types_same (dtype.Enum None) (dtype.Enum None) e = refl
types_same (dtype.Enum (Some a)) (dtype.Enum (Some b)) e = ap (λ texts. dtype.Enum (Some texts)) ((pointwise_decides bytes_decides a b).0 e)
types_same (dtype.Datetime unit.Milliseconds) (dtype.Datetime unit.Milliseconds) e = refl
types_same (dtype.Datetime unit.Microseconds) (dtype.Datetime unit.Microseconds) e = refl
types_same (dtype.Datetime unit.Nanoseconds) (dtype.Datetime unit.Nanoseconds) e = refl
types_same (dtype.Decimal None None) (dtype.Decimal None None) e = refl
types_same (dtype.Decimal None (Some s)) (dtype.Decimal None (Some t)) e = ap (λ n. dtype.Decimal None (Some n)) (eqb-true s t e)
types_same (dtype.Decimal (Some p) None) (dtype.Decimal (Some q) None) e = ap (λ n. dtype.Decimal (Some n) None) (eqb-true p q (both _ _ e).0)
types_same (dtype.Decimal (Some p) (Some s)) (dtype.Decimal (Some q) (Some t)) e = let h = both _ _ e in (λ j. dtype.Decimal (Some (eqb-true p q h.0 j)) (Some (eqb-true s t h.1 j)))
types_same (dtype.Decimal (Some p) None) (dtype.Decimal (Some q) (Some t)) e = absurd (true≢false (sym (both _ _ e).1))
types_same (dtype.Decimal (Some p) (Some s)) (dtype.Decimal (Some q) None) e = absurd (true≢false (sym (both _ _ e).1))
types_same _ _ e = absurd (true≢false (sym e))

-- the test tells whether two types are the same
pub types_decide : TypesAreTold
types_decide a b = (types_same a b, λ e. subst (λ t. types_equal a t ≡ true) e (types_equiv.refl a))

pub entries_equiv : IsEquivalence entries_equal
entries_equiv = and_equiv (on_equiv (λ (entry : Entry). entry.0) nat_list_eq_equiv) (on_equiv (λ (entry : Entry). entry.1) types_equiv)

abbrev is_truth : Scalar → Bool
is_truth (Truth b) = true
is_truth (Number n) = false
is_truth (Letters t) = false

abbrev is_letters : Scalar → Bool
is_letters (Truth b) = false
is_letters (Number n) = false
is_letters (Letters t) = true

abbrev truth_in : Scalar → Bool
truth_in (Truth b) = b
truth_in (Number n) = false
truth_in (Letters t) = false

abbrev number_in : Scalar → ℤ
number_in (Truth b) = pos 0
number_in (Number n) = n
number_in (Letters t) = pos 0

abbrev letters_in : Scalar → List ℕ
letters_in (Truth b) = []
letters_in (Number n) = []
letters_in (Letters t) = t

-- the test tells whether two values are the same
pub scalars_decide : (a b : Scalar) → Decides (scalars_equal a b) (a ≡ b)
scalars_decide (Truth a) (Truth b) = (λ e. ap Truth ((booleans_Decides a b).0 e), λ e. (booleans_Decides a b).1 (ap truth_in e))
scalars_decide (Truth a) (Number n) = (λ e. absurd (true≢false (sym e)), λ e. absurd (true≢false (ap is_truth e)))
scalars_decide (Truth a) (Letters t) = (λ e. absurd (true≢false (sym e)), λ e. absurd (true≢false (ap is_truth e)))
scalars_decide (Number m) (Truth b) = (λ e. absurd (true≢false (sym e)), λ e. absurd (true≢false (sym (ap is_truth e))))
scalars_decide (Number m) (Number n) = (λ e. ap Number ((signed_Decides m n).0 e), λ e. (signed_Decides m n).1 (ap number_in e))
scalars_decide (Number m) (Letters t) = (λ e. absurd (true≢false (sym e)), λ e. absurd (true≢false (sym (ap is_letters e))))
scalars_decide (Letters s) (Truth b) = (λ e. absurd (true≢false (sym e)), λ e. absurd (true≢false (sym (ap is_truth e))))
scalars_decide (Letters s) (Number n) = (λ e. absurd (true≢false (sym e)), λ e. absurd (true≢false (ap is_letters e)))
scalars_decide (Letters s) (Letters t) = (λ e. ap Letters ((bytes_decides s t).0 e), λ e. (bytes_decides s t).1 (ap letters_in e))

pub cells_equiv : IsEquivalence cells_equal
cells_equiv = options_equiv (decided scalars_equal scalars_decide)

pub columns_equiv : IsEquivalence columns_equal
columns_equiv =
    and_equiv (on_equiv (λ (column : ColumnValue). column.name) nat_list_eq_equiv)
    (and_equiv (on_equiv (λ (column : ColumnValue). column.dtype) types_equiv) (on_equiv (λ (column : ColumnValue). column.values) (lists_equiv cells_equiv)))
