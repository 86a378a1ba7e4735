use Rattle.std.proofs.Common.{◌≡◌, ◌+◌, ◌-◌, ◌%◌, ◌∷◌, ◌∙◌, ap, arith}
use Rattle.std.proofs.lemmas.Nat.{ones-le}
use lib.Count.{ones}
use lib.Bits.{and_le_l, bit_and, bit_xor}
use Rattle.pl_table.specs.Entries.{counts}
use Rattle.pl_table.proofs.EntryLaws.{counts-lowest}
use Rattle.pl_table.proofs.index.count_through.Goals as goal

pub overflow_add-result : goal.overflow_add-result
overflow_add-result c =
    let x = c.args.bits in
    let mask = bit_xor x ((x + 18446744073709551615) % 18446744073709551616) in
    let low = and_le_l c.args.ends mask in
    omega (arith, ones-le 64 (bit_and c.args.ends mask) (omega (arith, low)))

pub returns : goal.returns
returns c some =
    let x = c.args.bits in
    let less : x - 1 ≡ (x + 18446744073709551615) % 18446744073709551616 = omega arith in
    counts-lowest 64 c.args.before c.args.ends x some (omega arith)
    ∙ ap (λ n. (c.args.before + ones (bit_and c.args.ends (bit_xor x n))) ∷ counts 64 c.args.before c.args.ends (bit_and x (x - 1))) less
