use Rattle.std.proofs.Common.{◌≡◌, ◌-◌, ◌<◌, ◌≤◌, get_or, arith}
use Rattle.pl_verbatim.proofs.NumberLaws.{digits-at}
use Rattle.pl_verbatim.proofs.WholeLaws.{BeginsAt, whole-at}
use Rattle.pl_verbatim.proofs.wholes.whole_end.Goals as goal
use Rattle.pl_verbatim.proofs.wholes.whole_end.Goals.{Joined-else-text-from-eq48, then-is_signed+then-text-at-eq45, else-is_signed, else-text-from-eq48-via-then-text-from-eq48+else-end-at-gt1, else-text-from-eq48-via-else-text-from-eq48}

begins : (c : Joined-else-text-from-eq48) → BeginsAt c.args.is_signed c.args.text.now c.args.at c.if-is_signed.from
begins c = elim c.if-is_signed.branch [
  | then-is_signed+then-text-at-eq45 w ↦ record {
    low = omega (arith, w.from-is);
    high = omega (arith, w.from-is);
    minus = λ _. (w.if-is_signed.true, w.if-text-at-eq45.true);
  }
  | else-is_signed w ↦ record {
    low = omega (arith, w.from-is);
    high = omega (arith, w.from-is);
    minus = λ (less : c.args.at < c.if-is_signed.from). absurd (omega (arith, less, w.from-is));
  }
]

lead : (c : Joined-else-text-from-eq48) → get_or c.args.text.now c.if-is_signed.from 0 ≡ 48 → c.digits_end-end.result - c.args.at ≤ 1
lead c e = elim c.else-text-from-eq48.branch [
  | else-text-from-eq48-via-then-text-from-eq48+else-end-at-gt1 w ↦ omega (arith, w.if-end-at-gt1.false)
  | else-text-from-eq48-via-else-text-from-eq48 w ↦ absurd (w.if-text-from-eq48.false e)
]

pub returns-clause-within : goal.returns-clause-within
returns-clause-within c = (digits-at c.args.text.now c.if-is_signed.from c.digits_end-end.result (omega (arith, c.requires, (begins c).high)) c.digits_end-end.ensures).inside

pub returns-clause-whole : goal.returns-clause-whole
returns-clause-whole c =
    λ (wide : c.args.digits ≤ 64). whole-at c.args.digits c.args.is_signed c.args.text.now c.args.at c.if-is_signed.from c.digits_end-end.result wide c.requires (begins c) c.digits_end-end.ensures c.if-count-eq0.false c.if-count-digits.false (lead c)
