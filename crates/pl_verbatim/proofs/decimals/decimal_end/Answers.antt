use Rattle.std.proofs.Common.{◌≡◌, ◌+◌, ◌-◌, ◌<◌, ◌≤◌, true, not, ◌==◌, get_or, refl, arith, sym, ◌∙◌}
use Rattle.std.specs.Prelude.{slice_range}
use Rattle.std.specs.List.{list_any}
use mathlib.Core.Logic.{inl, inr}
use Rattle.pl_verbatim.proofs.NumberLaws.{DigitsAt, digits-at, digits-between}
use Rattle.pl_verbatim.proofs.WholeLaws.{BeginsAt}
use Rattle.pl_verbatim.proofs.DecimalLaws.{PointAt, decimal-at}
use Rattle.pl_verbatim.proofs.decimals.decimal_end.Goals as goal
use Rattle.pl_verbatim.proofs.decimals.decimal_end.Goals.{Then-from-at, Joined-else-text-from-eq48-2, then-text-at-eq45, else-text-at-eq45, else-text-from-eq48-2-via-then-text-from-eq48-2+then-from-at+else-not-has_nonzero, else-text-from-eq48-2-via-then-text-from-eq48-2+else-from-at, else-text-from-eq48-2-via-else-text-from-eq48-2}

begins : (c : Joined-else-text-from-eq48-2) → BeginsAt true c.args.text.now c.args.at c.if-text-at-eq45.from
begins c = elim c.if-text-at-eq45.branch [
  | then-text-at-eq45 w ↦ record {
    low = omega (arith, w.from-is);
    high = omega (arith, w.from-is);
    minus = λ _. (refl, w.if-text-at-eq45.true);
  }
  | else-text-at-eq45 w ↦ record {
    low = omega (arith, w.from-is);
    high = omega (arith, w.from-is);
    minus = λ (less : c.args.at < c.if-text-at-eq45.from). absurd (omega (arith, less, w.from-is));
  }
]

lead : (c : Joined-else-text-from-eq48-2) → get_or c.args.text.now c.if-text-at-eq45.from 0 ≡ 48 → c.digits_end-point.result - c.if-text-at-eq45.from ≤ 1
lead c e = elim c.else-text-from-eq48.either [
  | inl few ↦ few.1
  | inr other ↦ absurd (other e)
]

-- the digits behind the point
behind : (c : Joined-else-text-from-eq48-2) → DigitsAt c.args.text.now (c.digits_end-point.result + 1) (c.digits_end-point.result + 1 + c.args.scale)
behind c =
    digits-between c.args.text.now (c.digits_end-point.result + 1) (c.digits_end-point.result + 1 + c.args.scale) (omega arith) (omega (arith, c.if-point-text.false, c.if-scale-text.false))
    c.if-not-are_digits.ensures

point : (c : Joined-else-text-from-eq48-2) → c.args.digits ≤ 64 → PointAt c.args.digits c.args.scale c.args.text.now c.if-text-at-eq45.from c.digits_end-point.result (c.digits_end-point.result + 1 + c.args.scale)
point c wide = record {
  wide = wide;
  scaled = c.requires.some;
  front = digits-at c.args.text.now c.if-text-at-eq45.from c.digits_end-point.result (omega (arith, c.requires.inside, (begins c).high)) c.digits_end-point.ensures;
  some = omega (arith, c.if-count-eq0.false);
  inside = c.if-point-text.false;
  is_point = c.if-text-point-ne46.false;
  behind = behind c;
  long = omega arith;
  few = omega (arith, c.if-scale-digits.false, c.if-count-digits.false);
  lead = lead c;
}

nonzero : (c : Joined-else-text-from-eq48-2) → c.args.at < c.if-text-at-eq45.from → get_or c.args.text.now c.if-text-at-eq45.from 0 ≡ 48
    → list_any (λ x. not (x == 48)) (slice_range c.args.text.now (c.digits_end-point.result + 1) (c.digits_end-point.result + 1 + c.args.scale)) ≡ true
nonzero c behind none = elim c.else-text-from-eq48-2.branch [
  | else-text-from-eq48-2-via-then-text-from-eq48-2+then-from-at+else-not-has_nonzero w ↦ sym w.has_nonzero.ensures ∙ w.if-not-has_nonzero.false
  | else-text-from-eq48-2-via-then-text-from-eq48-2+else-from-at w ↦ absurd (omega (arith, behind, w.if-from-at.false))
  | else-text-from-eq48-2-via-else-text-from-eq48-2 w ↦ absurd (w.if-text-from-eq48-2.false none)
]

pub returns-clause-decimal : goal.returns-clause-decimal
returns-clause-decimal c =
    λ (wide : c.args.digits ≤ 64). decimal-at c.args.digits c.args.scale c.args.text.now c.args.at c.if-text-at-eq45.from c.digits_end-point.result (c.digits_end-point.result + 1 + c.args.scale) (begins c) (point c wide) (nonzero c)
