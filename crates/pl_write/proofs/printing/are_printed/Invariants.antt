use Rattle.std.proofs.Common.{◌≡◌, false, take}
use Rattle.std.specs.Prelude.{All}
use Rattle.pl_write.proofs.printing.are_printed.Given as goal

abbrev pub invariant-loop-share : goal.invariant-loop-share
invariant-loop-share l = All (λ share. share.wanting ≡ false) (take l.share-index l.shares)
