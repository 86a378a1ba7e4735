-- Whether a text ends within a quoted field (docs/grammar.md, "Items").
use Rattle.std.specs.Prelude.{ℕ, ◌%◌, Bool, false, ◌&&◌, ◌==◌, List, Option, None, Some}
use Rattle.std.specs.List.{last_or}
use Rattle.pl_frame.specs.Dialect.{Marks}
use Rattle.pl_scan.specs.Fields.{quotes, begins_quoted, fields}
use Rattle.pl_scan.specs.Items.{ItemText, CommentText, RecordText, items}

-- the field is quoted and has an odd number of quotes
abbrev pub is_open : Marks → List ℕ → Bool
is_open m f = begins_quoted m.quote f && quotes m f % 2 == 1

-- there is a field, and it is open
abbrev pub is_open_field : Marks → Option (List ℕ) → Bool
is_open_field m None = false
is_open_field m (Some f) = is_open m f

-- the last of these fields is open
abbrev pub have_open_end : Marks → List (List ℕ) → Bool
have_open_end m fs = is_open_field m (last_or None fs)

-- there is an item, and it is a record whose last field is open
abbrev pub is_open_item : Marks → Option ItemText → Bool
is_open_item m None = false
is_open_item m (Some (CommentText b)) = false
is_open_item m (Some (RecordText b)) = have_open_end m (fields m b)

-- the last item of a text is a record whose last field is open
abbrev pub ends_open : Marks → Option (List ℕ) → List ℕ → Bool
ends_open m comment b = is_open_item m (last_or None (items m comment b))
