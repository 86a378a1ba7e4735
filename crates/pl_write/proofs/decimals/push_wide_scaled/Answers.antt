use Rattle.std.proofs.Common.{arith}
use Rattle.pl_write.proofs.PaddedLaws.{decimal_some}
use Rattle.pl_write.proofs.decimals.push_wide_scaled.Goals as goal

pub push_filled-requires-clause-some : goal.push_filled-requires-clause-some
push_filled-requires-clause-some c =
    rw (c.as_bytes.ensures.value, c.format-digits.ensures.text) (decimal_some c.args.size (omega arith))
