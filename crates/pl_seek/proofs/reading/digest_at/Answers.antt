use Rattle.std.proofs.Common.{◌≡◌, ℕ, ◌-◌, ◌≤◌, List, length, take, drop, Option, Some, refl}
use Rattle.std.proofs.lemmas.Bool.{le-ltb}
use Rattle.std.proofs.lemmas.List.{take_rest}
use Rattle.pl_seek.specs.Reading.{bytes_at}
use Rattle.pl_seek.proofs.reading.digest_at.Goals as goal

chunk_at : (n : ℕ) (bytes chunk : List ℕ) → n ≤ length bytes → chunk ≡ take n bytes → ◌≡◌ {A = Option (List ℕ × List ℕ)} (Some (chunk, take (length bytes - n) (drop n bytes))) (bytes_at n bytes)
chunk_at n bytes chunk enough same = rw (same, take_rest bytes n, le-ltb _ _ enough) refl

pub returns : goal.returns
returns c = chunk_at 32 c.args.bytes.now c.in_ok-digest.digest.now c.in_ok-digest.ensures.cases.enough c.in_ok-digest.ensures.cases.same
