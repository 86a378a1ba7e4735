-- How many workers read (docs/workers.md).
use Rattle.std.specs.Prelude.{ℕ, zero, suc, nat_lt, if◌then◌else◌, Option, None, Some}

-- of so many that are asked: four where none is said, one at least and 64 at most
abbrev pub worker_count : Option ℕ → ℕ
worker_count None = 4
worker_count (Some zero) = 1
worker_count (Some (suc n)) = if nat_lt 64 (suc n) then 64 else (suc n)
