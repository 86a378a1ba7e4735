-- Before the index the bytes are changed, and from it on they are as they were.
use Rattle.std.proofs.Common.{◌≡◌, take, drop}
use Rattle.pl_verbatim.specs.Swaps.{swapped}
use Rattle.pl_verbatim.proofs.swapped.swap.Given as goal

abbrev pub invariant-loop-byte : goal.invariant-loop-byte
invariant-loop-byte l = record {
  front : take l.byte-index l.bytes ≡ swapped l.old l.new (take l.byte-index l.fn.bytes);
  rest : drop l.byte-index l.bytes ≡ drop l.byte-index l.fn.bytes;
}
