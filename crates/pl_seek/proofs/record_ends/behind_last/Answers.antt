use Rattle.std.proofs.Common.{◌≡◌, ◌+◌, ◌-◌, ◌∙◌, sym, ap, arith}
use Rattle.std.specs.Prelude.{None, unwrap_or}
use Rattle.std.specs.List.{last_or}
use lib.Count.{count_leading_zeros, leading_top}
use Rattle.pl_scan.specs.Bits.{set_bits}
use Rattle.pl_scan.proofs.SetBitLaws.{set_bits-zero, set_bits-last}
use Rattle.pl_seek.proofs.record_ends.behind_last.Goals as goal

pub returns-then-bits-eq0-clause-value : goal.returns-then-bits-eq0-clause-value
returns-then-bits-eq0-clause-value c =
    let a = c.args in
    let none : a.bits ≡ 0 = omega arith in
    sym (ap (λ w. unwrap_or (last_or None (set_bits 64 (a.at + 1) w)) a.last) none ∙ ap (λ l. unwrap_or (last_or None l) a.last) (set_bits-zero 64 (a.at + 1)))

pub returns-else-bits-eq0-clause-value : goal.returns-else-bits-eq0-clause-value
returns-else-bits-eq0-clause-value c =
    let a = c.args in
    let top = leading_top 64 a.bits (omega arith) (omega arith) in
    let place : a.at + (64 - count_leading_zeros 64 a.bits) ≡ a.at + 1 + top.0 = omega (arith, top.1) in
    place ∙ sym (ap (λ o. unwrap_or o a.last) (set_bits-last None 64 (a.at + 1) a.bits top.0 top.2 top.3 (omega arith)))
