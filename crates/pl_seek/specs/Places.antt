-- Where the records of a text begin (docs/grammar.md, "Items").
use Rattle.std.specs.Prelude.{ℕ, ◌+◌, ◌-◌, ◌*◌, List, map, length, get_or, Option, None, Some}
use Rattle.std.specs.Int.{div_ceil}
use Rattle.std.specs.List.{filter_map, range_with_len}
use Rattle.pl_frame.specs.Dialect.{Marks}
use Rattle.pl_scan.specs.Items.{ItemText, CommentText, RecordText, items_behind}

-- where an item begins that is a record, in an input of so many bytes: as far from its end as the item and what stands behind it are long
abbrev pub place_of : ℕ → ItemText × List ℕ → Option ℕ
place_of size (CommentText text, behind) = None
place_of size (RecordText text, behind) = Some (size - (length text + length behind))

-- the places where the records of data begin that is the last bytes of an input of so many
abbrev pub record_places : Marks → Option (List ℕ) → ℕ → List ℕ → List ℕ
record_places m comment size b = filter_map (place_of size) (items_behind m comment b)

-- of places, those with the numbers 0, every, 2 * every and so on
abbrev pub group_places : ℕ → List ℕ → List ℕ
group_places every places = map (λ group. get_or places (group * every) 0) (range_with_len 0 (div_ceil (length places) every))
