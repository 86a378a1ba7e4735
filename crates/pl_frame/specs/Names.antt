-- Names that stand twice.
use Rattle.std.specs.Prelude.{◌≡◌, ℕ, Bool, List, [], length, take, slice_index_or, Option, Some, find}
use Rattle.std.specs.List.{list_any, range_with_len}
use Rattle.std.specs.Option.{option_map}
use Rattle.std.specs.Str.{bytes_eq}
use Rattle.pl_frame.specs.declared.error.PolarsError.{PolarsError}
use Rattle.pl_frame.specs.declared.error.PolarsError.TheVariants as error
use Rattle.pl_frame.specs.declared.error.NamePlace.{NamePlace}

-- a name before this place equals the name there
abbrev pub is_repeat : List (List ℕ) → ℕ → Bool
is_repeat names place = list_any (λ earlier. bytes_eq earlier (slice_index_or names place [])) (take place names)

-- the first place, from the left, whose name equals an earlier one
abbrev pub first_repeat : List (List ℕ) → Option ℕ
first_repeat names = find (is_repeat names) (range_with_len 0 (length names))

-- the name there
abbrev pub repeated_name : List (List ℕ) → Option (List ℕ)
repeated_name names = option_map (λ place. slice_index_or names place []) (first_repeat names)

-- a refusal of the name that stands twice, or for want of memory, which may come at any time
abbrev pub IsRepeatFault : Option (List ℕ) → NamePlace → PolarsError → Type 0
IsRepeatFault repeated place (error.Duplicate name at) = (repeated ≡ Some name) × (at ≡ place)
IsRepeatFault repeated place error.OutOfMemory = Unit {0}
IsRepeatFault repeated place _ = ⊥
