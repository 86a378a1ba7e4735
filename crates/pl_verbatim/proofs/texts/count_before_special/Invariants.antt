use Rattle.std.proofs.Common.{◌≡◌, ℕ, ◌<◌, false, get_or}
use Rattle.pl_text.specs.FrameText.{is_special}
use Rattle.pl_verbatim.proofs.texts.count_before_special.Given as goal

abbrev pub invariant-loop-count : goal.invariant-loop-count
invariant-loop-count l = (k : ℕ) → k < l.count → is_special l.separator l.quote (get_or l.bytes k 0) ≡ false
