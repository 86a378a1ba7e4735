-- A record more is passed.
use Rattle.std.proofs.Common.{◌≡◌, ℕ, ◌+◌, List, Option, refl, add-one}
use Rattle.pl_frame.specs.Dialect.{Marks}
use Rattle.pl_scan.specs.Start.{pass_comments, pass_one}
use Rattle.pl_tell.specs.Records.{from_record}

pub from_more : (m : Marks) (comment : Option (List ℕ)) (n : ℕ) (records : List ℕ)
    → from_record m comment (n + 1) records ≡ pass_comments m comment (pass_one m comment (from_record m comment n records))
from_more m comment n records = rw (add-one n) refl
