-- What options of a reader say of the text: what cuts it, its comments, and what is skipped (docs/grammar.md).
use Rattle.std.specs.Prelude.{ℕ, List, Option}
use Rattle.std.specs.Option.{option_map}
use Rattle.pl_frame.specs.Dialect.{Marks, marks}
use Rattle.pl_scan.specs.Comment.{prefix_bytes}
use Rattle.pl_scan.specs.Start.{Skips, skips}
use Rattle.pl_options.specs.declared.parse_options.CsvParseOptions.{CsvParseOptions}
use Rattle.pl_options.specs.declared.read_options.CsvReadOptions.{CsvReadOptions}

-- the bytes that cut a record
abbrev pub marks_of : CsvParseOptions → Marks
marks_of o = marks o.separator o.quote_char o.eol_char

-- the bytes that a comment begins with
abbrev pub comment_of : CsvParseOptions → Option (List ℕ)
comment_of o = option_map prefix_bytes o.comment_prefix

-- what is skipped
abbrev pub skips_of : CsvReadOptions → Skips
skips_of o = skips o.skip_lines o.skip_rows o.has_header o.skip_rows_after_header
