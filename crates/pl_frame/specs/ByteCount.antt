-- How many bytes texts have.
use Rattle.std.specs.Prelude.{ℕ, List, length, sum_by, Option}
use Rattle.std.specs.Option.{option_map_or}

-- how many bytes the texts have that are not missing
abbrev pub byte_count : List (Option (List ℕ)) → ℕ
byte_count values = sum_by (λ value. option_map_or length value 0) values
