-- The words that say which texts mean null (docs/command-line.md, "Words").
use Rattle.std.specs.Prelude.{ℕ, List, codes, Option, None, Some}
use Rattle.std.specs.Option.{option_map}
use Rattle.pl_cells.specs.NullValues.{NamedTexts}
use Rattle.pl_cells.specs.declared.null_values.NullValues.{NullValues}
use Rattle.pl_cells.specs.declared.null_values.NullValues.TheVariants as values
use Rattle.pl_words.specs.Lists.{list_of}
use Rattle.pl_words.specs.Parts.{PartText, value_under}
use Rattle.pl_words.specs.Splitting.{cut_at, parts_at}

-- between commas stands NAME=TEXT each; both may be empty
abbrev pub named_texts : List ℕ → Option NamedTexts
named_texts text = list_of (cut_at 61) text

-- texts that mean null are given in one of three ways: one for all columns, some for all columns, or one for each name
abbrev pub null_values_by : Option (List ℕ) → Option (List ℕ) → Option (List ℕ) → Option (Option NullValues)
null_values_by None None None = Some None
null_values_by (Some text) None None = Some (Some (values.AllColumnsSingle text))
null_values_by None (Some texts) None = Some (Some (values.AllColumns (parts_at 44 texts)))
null_values_by None None (Some entries) = option_map (λ named. Some (values.Named named)) (named_texts entries)
null_values_by _ _ _ = None

-- the texts that mean null, by the parts
abbrev pub null_values_of : List PartText → Option (Option NullValues)
null_values_of parts = null_values_by (value_under (codes "--null") parts) (value_under (codes "--nulls") parts) (value_under (codes "--null-of") parts)
