-- How a frame is written (docs/quoting.md).
use Rattle.std.specs.Prelude.{ℕ, Bool, true, false, List, [], ◌∷◌}
use Rattle.pl_text.specs.FrameText.{WriteOptions}
use Rattle.pl_write.specs.declared.options.CsvWriterOptions.{CsvWriterOptions}
use Rattle.pl_write.specs.declared.options.QuoteStyle.{QuoteStyle}
use Rattle.pl_write.specs.declared.options.QuoteStyle.TheVariants as style
use Rattle.pl_write.specs.declared.options.SerializeOptions.{SerializeOptions}

-- the number of a style
abbrev pub style_number : QuoteStyle → ℕ
style_number style.Necessary = 0
style_number style.Always = 1
style_number style.NonNumeric = 2
style_number style.Never = 3

-- how cells are written, with byte order mark and header or without
abbrev pub with_head : SerializeOptions → Bool → Bool → WriteOptions
with_head o include_bom include_header = record {
  separator = o.separator;
  quote = o.quote_char;
  null = o.null;
  terminator = o.line_terminator;
  style = style_number o.quote_style;
  include_bom = include_bom;
  include_header = include_header;
}

-- how one cell is written
abbrev pub cell_options : SerializeOptions → WriteOptions
cell_options o = with_head o false false

-- how a frame is written
abbrev pub frame_options : CsvWriterOptions → WriteOptions
frame_options o = with_head o.serialize_options o.include_bom o.include_header

-- ---- the defaults

-- comma, double quote, empty null text, line feed, quoted where necessary
abbrev pub default_cells : SerializeOptions
default_cells = record { separator = 44; quote_char = 34; null = []; line_terminator = 10 ∷ []; quote_style = style.Necessary }

-- no byte order mark, a header, 1024 rows at a time
abbrev pub default_options : CsvWriterOptions
default_options = record { include_bom = false; include_header = true; batch_size = 1024; maintain_order = false; serialize_options = default_cells }

-- ---- one setting set, and all others kept

abbrev pub with_separator : ℕ → SerializeOptions → SerializeOptions
with_separator separator o = record o { separator = separator }

abbrev pub with_quote_char : ℕ → SerializeOptions → SerializeOptions
with_quote_char quote_char o = record o { quote_char = quote_char }

abbrev pub with_null : List ℕ → SerializeOptions → SerializeOptions
with_null null o = record o { null = null }

abbrev pub with_line_terminator : List ℕ → SerializeOptions → SerializeOptions
with_line_terminator line_terminator o = record o { line_terminator = line_terminator }

abbrev pub with_quote_style : QuoteStyle → SerializeOptions → SerializeOptions
with_quote_style quote_style o = record o { quote_style = quote_style }

abbrev pub with_include_bom : Bool → CsvWriterOptions → CsvWriterOptions
with_include_bom include_bom o = record o { include_bom = include_bom }

abbrev pub with_include_header : Bool → CsvWriterOptions → CsvWriterOptions
with_include_header include_header o = record o { include_header = include_header }

abbrev pub with_batch_size : ℕ → CsvWriterOptions → CsvWriterOptions
with_batch_size batch_size o = record o { batch_size = batch_size }

abbrev pub with_cells : (SerializeOptions → SerializeOptions) → CsvWriterOptions → CsvWriterOptions
with_cells change o = record o { serialize_options = change o.serialize_options }
