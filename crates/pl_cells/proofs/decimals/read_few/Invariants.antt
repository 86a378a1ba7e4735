use Rattle.std.proofs.Common.{◌≡◌, ◌+◌, ◌<◌, ◌^◌, take, true}
use Rattle.std.specs.Str.{all_ascii_digits}
use Rattle.pl_cells.specs.Integers.{number_after}
use Rattle.pl_cells.proofs.decimals.read_few.Given as goal

abbrev pub invariant-loop-byte : goal.invariant-loop-byte
invariant-loop-byte l = record {
  small : l.all < 10 ^ (l.before + l.byte-index);
  digits : all_ascii_digits (take l.byte-index l.digits) ≡ true;
  is : l.all ≡ number_after l.number (take l.byte-index l.digits);
}
