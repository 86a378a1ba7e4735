use Rattle.std.proofs.Common.{◌≡◌, Bool, true, false, not, ◌&&◌, refl, sym, ap, ◌∙◌}
use Rattle.pl_scan.specs.Bits.{test}
use Rattle.pl_scan.proofs.BitLaws.{test-none}
use Rattle.pl_row_numbers.proofs.QuoteLaws.{and_false}
use Rattle.pl_row_numbers.proofs.line_ends.ends_outside.Goals as goal

and_true : (t : Bool) → (t && true) ≡ t
and_true true = refl
and_true false = refl

pub returns-then-odd : goal.returns-then-odd
returns-then-odd c i = test-none i ∙ sym (ap (λ (o : Bool). test c.args.ends i && not o) c.if-odd.true ∙ and_false (test c.args.ends i))

pub returns-else-odd : goal.returns-else-odd
returns-else-odd c i = sym (ap (λ (o : Bool). test c.args.ends i && not o) c.if-odd.false ∙ and_true (test c.args.ends i))
