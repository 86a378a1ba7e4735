use Rattle.std.proofs.Common.{◌≡◌, ℕ, ◌<◌, true, get_or}
use Rattle.std.specs.Str.{bytes_eq}
use Rattle.pl_multi.proofs.NameLaws.{no_value}
use Rattle.pl_multi.proofs.checking.have_same_names.Given as goal

abbrev pub invariant-loop-i : goal.invariant-loop-i
invariant-loop-i l = (k : ℕ) → k < l.i → bytes_eq (get_or l.values k no_value).0 (get_or l.others k no_value).0 ≡ true
