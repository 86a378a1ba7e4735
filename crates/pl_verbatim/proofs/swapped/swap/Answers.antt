-- One byte more is changed.
use Rattle.std.proofs.Common.{◌≡◌, ◌==◌, get_or, if◌then◌else◌, rules}
use Rattle.pl_verbatim.proofs.SwapLaws.{swap-same, swap-other, swap-step, swap-rest}
use Rattle.pl_verbatim.proofs.swapped.swap.Goals as goal
use Rattle.pl_verbatim.proofs.swapped.swap.Goals.{then-byte-old, else-byte-old}

pub loop-byte-preserved : goal.loop-byte-preserved
loop-byte-preserved c =
    let old = c.args.old in
    let new = c.args.new in
    let now = c.if-byte-old.byte in
    let x = get_or c.loop-byte.bytes c.loop-byte.byte-index 0 in
    let changed : now ≡ (if x == old then new else x) = elim c.if-byte-old.branch [
      | then-byte-old w ↦ swap-same old new x now w.if-byte-old.true w.byte-is
      | else-byte-old w ↦ swap-other old new x now w.if-byte-old.false w.byte-is
    ] in
    record {
      front = swap-step old new c.args.bytes.now c.loop-byte.bytes c.loop-byte.byte-index now (search rules) c.loop-byte.invariant.front c.loop-byte.invariant.rest changed;
      rest = swap-rest c.args.bytes.now c.loop-byte.bytes c.loop-byte.byte-index now c.loop-byte.invariant.rest;
    }
