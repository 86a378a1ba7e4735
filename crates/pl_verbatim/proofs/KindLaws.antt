-- The numbers of sound kinds have no more digits than are printed; and no type has the kind of a column that is not read.
use Rattle.std.proofs.Common.{◌≡◌, ℕ, ◌≤◌, Bool, true, sym, ap, ◌∙◌, arith}
use Rattle.std.proofs.lemmas.Bool.Decides.{nat_tests}
use Rattle.pl_frame.specs.declared.data_type.DataType.{DataType}
use Rattle.pl_verbatim.specs.declared.kinds.Kind.{Kind}
use Rattle.pl_verbatim.specs.declared.kinds.Kind.TheVariants as kind
use Rattle.pl_verbatim.specs.Kinds.{IsKindOf, is_passed, is_sound_kind}

pub whole-few : (own : Kind) (digits : ℕ) (is_signed : Bool) → own ≡ kind.Whole digits is_signed → is_sound_kind own ≡ true → digits ≤ 64
whole-few own digits is_signed is sound = let known = ap is_sound_kind (sym is) ∙ sound in grind (arith, nat_tests, known)

pub decimal-few : (own : Kind) (digits scale : ℕ) → own ≡ kind.Decimal digits scale → is_sound_kind own ≡ true → digits ≤ 64
decimal-few own digits scale is sound = let known = ap is_sound_kind (sym is) ∙ sound in grind (arith, nat_tests, known)

-- no type has the kind of a column that is not read
pub not-passed : (own : Kind) (type : DataType) → is_passed own ≡ true → IsKindOf type own → ⊥
not-passed kind.Text type passed holds = absurd (cc)
not-passed (kind.Whole digits is_signed) type passed holds = absurd (cc)
not-passed kind.Boolean type passed holds = absurd (cc)
not-passed kind.Date type passed holds = absurd (cc)
not-passed (kind.Decimal digits scale) type passed holds = absurd (cc)
not-passed (kind.Datetime places) type passed holds = absurd (cc)
not-passed kind.Passed type passed holds = holds
