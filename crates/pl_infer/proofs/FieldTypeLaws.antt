-- Types that were seen.
use Rattle.std.proofs.Common.{◌≡◌, ◌≢◌, Bool, true, false, ◌&&◌, if◌then◌else◌, [], ◌∷◌, List, length, refl, ap, arith}
use Rattle.std.specs.List.{list_all}
use Rattle.pl_frame.specs.declared.data_type.DataType.{DataType}
use Rattle.pl_frame.specs.declared.data_type.DataType.TheVariants as dtype
use Rattle.pl_frame.specs.Equal.{types_equal}
use Rattle.pl_frame.specs.EqualLaws.{types_decide}
use Rattle.pl_infer.specs.FieldTypes.{agreed_type, HaveNoRepeats}

-- two types are told apart
types-apart : (a b : DataType) → a ≢ b → types_equal a b ≡ false
types-apart a b apart = by (types_equal a b) refl
  where
    by : (t : Bool) → types_equal a b ≡ t → types_equal a b ≡ false
    by true e = absurd (apart ((types_decide a b).0 e))
    by false e = e

-- none, or several types that differ, do not agree
pub agreed_type-many : (types : List DataType) → HaveNoRepeats types → length types ≢ 1 → agreed_type types ≡ dtype.String
agreed_type-many [] distinct many = refl
agreed_type-many (a ∷ []) distinct many = absurd (many refl)
agreed_type-many (a ∷ b ∷ types) distinct many =
    let apart : types_equal a b ≡ false = types-apart a b (distinct 0 1 a (omega arith) (omega arith)) in
    ap (λ t. if t && list_all (types_equal a) types then a else dtype.String) apart
