-- The words that say which columns are read, and a column of row numbers (docs/command-line.md, "Words").
use Rattle.std.specs.Prelude.{ℕ, List, codes, Option, None, Some}
use Rattle.std.specs.Option.{option_map}
use Rattle.pl_frame.specs.declared.data_type.DataType.{DataType}
use Rattle.pl_options.specs.declared.row_index.RowIndex.{RowIndex}
use Rattle.pl_words.specs.Lists.{list_of}
use Rattle.pl_words.specs.OptionValues.{count_of, offset_of}
use Rattle.pl_words.specs.Parts.{PartText, value_under}
use Rattle.pl_words.specs.Splitting.{parts_at}
use Rattle.pl_words.specs.TypeText.{named_type}

-- LIST of names, each of which may be empty
abbrev pub names_of : List ℕ → Option (List (List ℕ))
names_of text = Some (parts_at 44 text)

-- LIST of NUM
abbrev pub places_of : List ℕ → Option (List ℕ)
places_of text = list_of count_of text

-- LIST of TYPE
abbrev pub types_of : List ℕ → Option (List DataType)
types_of text = list_of named_type text

-- a column of row numbers has a name, and begins at 0 or at the offset beside it; an offset alone has no meaning
abbrev pub row_index_by : Option (List ℕ) → Option (List ℕ) → Option (Option RowIndex)
row_index_by None None = Some None
row_index_by None (Some offset) = None
row_index_by (Some name) None = Some (Some (record { name = name; offset = 0 }))
row_index_by (Some name) (Some offset) = option_map (λ first. Some (record { name = name; offset = first })) (offset_of offset)

-- the column of row numbers, by the parts
abbrev pub row_index_of : List PartText → Option (Option RowIndex)
row_index_of parts = row_index_by (value_under (codes "--row-index") parts) (value_under (codes "--row-offset") parts)
