use Rattle.std.proofs.Common.{◌≡◌, ◌+◌, ◌-◌, ◌∙◌, sym, ap, arith}
use Rattle.std.specs.Prelude.{None, unwrap_or}
use Rattle.std.specs.List.{last_or}
use lib.Count.{count_leading_zeros, leading_top}
use Rattle.pl_scan.specs.Bits.{set_bits}
use Rattle.pl_scan.proofs.SetBitLaws.{set_bits-zero, set_bits-last}
use Rattle.pl_scan.proofs.line_ends.last_place.Goals as goal

pub returns-then-bits-eq0 : goal.returns-then-bits-eq0
returns-then-bits-eq0 c =
    let a = c.args in
    let none : a.bits ≡ 0 = omega arith in
    sym (ap (λ w. unwrap_or (last_or None (set_bits 64 a.at w)) a.last) none ∙ ap (λ l. unwrap_or (last_or None l) a.last) (set_bits-zero 64 a.at))

pub returns-else-bits-eq0 : goal.returns-else-bits-eq0
returns-else-bits-eq0 c =
    let a = c.args in
    let top = leading_top 64 a.bits (omega arith) (omega arith) in
    let place : a.at + (63 - count_leading_zeros 64 a.bits) ≡ a.at + top.0 = omega (arith, top.1) in
    place ∙ sym (ap (λ o. unwrap_or o a.last) (set_bits-last None 64 a.at a.bits top.0 top.2 top.3 (omega arith)))
