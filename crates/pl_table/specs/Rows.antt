-- Records as rows (docs/types.md, "Records and columns").
use Rattle.std.specs.Prelude.{ℕ, Bool, false, ◌==◌, List, map, length, drop, Option, None, Some}
use Rattle.std.specs.List.{filter_map}
use Rattle.pl_frame.specs.Dialect.{Marks}
use Rattle.pl_scan.specs.Fields.{fields, extent}
use Rattle.pl_scan.specs.Items.{ItemText, CommentText, RecordText, items_behind}
use Rattle.pl_table.specs.Tables.{Cut, fields_of}

-- a record as it is read: its fields, and whether nothing stands behind it in the text
pub record Row : Type 0 where
  pub fields : List (List ℕ)
  pub is_end : Bool

-- the record at the front of a text
abbrev pub row_at : Marks → List ℕ → Row
row_at m b = record { fields = fields m b; is_end = length (drop (extent m b) b) == 0 }

-- comments give no row
abbrev pub row_of : Marks → ItemText × List ℕ → Option Row
row_of m (CommentText text, behind) = None
row_of m (RecordText text, behind) = Some (record { fields = fields m text; is_end = length behind == 0 })

-- the records of a text, numbered from 0
abbrev pub rows : Marks → Option (List ℕ) → List ℕ → List Row
rows m comment b = filter_map (row_of m) (items_behind m comment b)

-- a record that a line end ends
abbrev pub ended_row : List (List ℕ) → Row
ended_row fields = record { fields = fields; is_end = false }

-- the records of a table of a text
abbrev pub table_rows : List ℕ → List (List Cut) → List Row
table_rows text table = map ended_row (fields_of text table)
