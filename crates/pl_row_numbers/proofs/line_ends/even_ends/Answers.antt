use Rattle.std.proofs.Common.{◌+◌, Bool, not, ◌&&◌, ap, sym, ◌∙◌, arith}
use Rattle.pl_scan.specs.Bits.{test, odd_at}
use Rattle.pl_scan.proofs.BitLaws.{test-and, flip, test-flip, top_bit}
use Rattle.pl_row_numbers.proofs.CutLaws.{odd-same}
use Rattle.pl_row_numbers.proofs.line_ends.even_ends.Goals as goal

pub returns-then-quotes-eq0-clause-ends : goal.returns-then-quotes-eq0-clause-ends
returns-then-quotes-eq0-clause-ends c i h =
    let a = c.args in
    c.ends_outside.ensures i
    ∙ ap (λ (o : Bool). test a.ends i && not o) (sym (ap (λ q. odd_at q a.odd (i + 1)) c.if-quotes-eq0.true ∙ odd-same a.odd (i + 1)))

pub returns-then-quotes-eq0-clause-odd : goal.returns-then-quotes-eq0-clause-odd
returns-then-quotes-eq0-clause-odd c = sym (ap (λ q. odd_at q c.args.odd 64) c.if-quotes-eq0.true ∙ odd-same c.args.odd 64)

pub returns-clause-ends : goal.returns-clause-ends
returns-clause-ends c i h =
    let a = c.args in
    let through = c.odd_through-through.result in
    test-and a.ends (flip through) i
    ∙ ap (λ t. test a.ends i && t) (test-flip through i (omega arith) h ∙ ap not (c.odd_through-through.ensures i h))

pub returns-clause-odd : goal.returns-clause-odd
returns-clause-odd c = top_bit c.odd_through-through.result (omega arith) ∙ c.odd_through-through.ensures 63 (omega arith)
