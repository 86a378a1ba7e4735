-- What equality takes for equal is the same.
use Rattle.std.proofs.Common.{◌≡◌, Bool, true, List, Option, None, Some, refl, sym, ap, true≢false, subst}
use Rattle.std.specs.Bool.{Decides}
use Rattle.std.specs.Cmp.{IsEquivalence, first_so, second_so}
use Rattle.std.specs.Option.{option_eq}
use Rattle.std.specs.Cmp.Lexicographic.{pointwise, pointwise_decides, bytes_decides}
use Rattle.pl_frame.specs.Equal.{scalars_equal, cells_equal, columns_equal}
use Rattle.pl_frame.specs.EqualLaws.{scalars_decide, types_same, cells_equiv, columns_equiv}
use Rattle.pl_frame.specs.Frame.{Scalar, ColumnValue}

decides : {K : Type 0} (E : K → K → Bool) → IsEquivalence E → ((a b : K) → E a b ≡ true → a ≡ b) → (a b : K) → Decides (E a b) (a ≡ b)
decides E equiv told a b = (told a b, λ e. subst (λ k. E a k ≡ true) e (equiv.refl a))

options_told : {X : Type 0} (E : X → X → Bool) → ((x y : X) → E x y ≡ true → x ≡ y) → (a b : Option X) → option_eq E a b ≡ true → a ≡ b
options_told E each None None e = refl
options_told E each None (Some y) e = absurd (true≢false (sym e))
options_told E each (Some x) None e = absurd (true≢false (sym e))
options_told E each (Some x) (Some y) e = ap Some (each x y e)

cells_told : (a b : Option Scalar) → cells_equal a b ≡ true → a ≡ b
cells_told a b e = options_told scalars_equal (λ x y h. (scalars_decide x y).0 h) a b e

values_told : (a b : List (Option Scalar)) → pointwise cells_equal a b ≡ true → a ≡ b
values_told a b e = (pointwise_decides (decides cells_equal cells_equiv cells_told) a b).0 e

columns_told : (a b : ColumnValue) → columns_equal a b ≡ true → a ≡ b
columns_told a b e =
    let name = (bytes_decides a.name b.name).0 (first_so _ _ e) in
    let rest = second_so _ _ e in
    let type = types_same a.dtype b.dtype (first_so _ _ rest) in
    let values = values_told a.values b.values (second_so _ _ rest) in
    (λ j. record { name = name j; dtype = type j; values = values j })

pub columns_decide : (a b : ColumnValue) → Decides (columns_equal a b) (a ≡ b)
columns_decide a b = decides columns_equal columns_equiv columns_told a b
