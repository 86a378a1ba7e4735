use Rattle.std.proofs.Common.{◌≡◌, ◌^◌, ◌<◌, Bool, true, false, not, ◌&&◌, ◌||◌, refl, ap, ◌∙◌, arith, add-one}
use lib.Bits.{bit_or, or_lt}
use Rattle.pl_scan.specs.Bits.{xor, test, parity, odd_at}
use Rattle.pl_scan.proofs.BitLaws.{test-and, test-or, flip, test-flip, top_bit}
use Rattle.pl_scan.proofs.line_ends.even_bits.Goals as goal

-- a quote counts or is not there, and elsewhere the parity stays
here : (t q p o : Bool) → (t && not (q || xor (xor p q) o)) ≡ (t && not q && not (xor p o))
here true true p o = refl
here false true p o = refl
here true false true o = refl
here true false false o = refl
here false false true o = refl
here false false false o = refl

pub returns-clause-bits : goal.returns-clause-bits
unfolding parity
returns-clause-bits c i h =
    let a = c.args in
    let T = c.odd_through-through.result in
    let word = bit_or a.quotes T in
    let small : word < 2 ^ 64 = or_lt 64 a.quotes T (omega arith) (omega arith) in
    test-and a.ends (flip word) i
    ∙ ap (λ t. test a.ends i && t) (test-flip word i small h ∙ ap not (test-or a.quotes T i ∙ ap (λ t. test a.quotes i || t) (c.odd_through-through.ensures i h ∙ ap (odd_at a.quotes a.odd) (add-one i))))
    ∙ here (test a.ends i) (test a.quotes i) (parity a.quotes i) a.odd

pub returns-clause-odd : goal.returns-clause-odd
returns-clause-odd c = top_bit c.odd_through-through.result (omega arith) ∙ c.odd_through-through.ensures 63 (omega arith)
