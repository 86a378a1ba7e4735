-- What the options of a reader are before anything is set (docs/options.md).
use Rattle.std.specs.Prelude.{true, false, [], None, Some}
use Rattle.pl_cells.specs.declared.utf8.CsvEncoding.TheVariants as encoding
use Rattle.pl_options.specs.declared.hive_options.HiveOptions.{HiveOptions}
use Rattle.pl_options.specs.declared.parse_options.CsvParseOptions.{CsvParseOptions}
use Rattle.pl_options.specs.declared.read_options.CsvReadOptions.{CsvReadOptions}

-- comma, double quote and line feed; no comments; only missing texts are null; strings are UTF-8; too many fields are a
-- fault; dates are not tried
abbrev pub default_parse_options : CsvParseOptions
default_parse_options = record {
  separator = 44;
  quote_char = Some 34;
  eol_char = 10;
  encoding = encoding.Utf8;
  null_values = None;
  missing_is_null = true;
  truncate_ragged_lines = false;
  comment_prefix = None;
  try_parse_dates = false;
}

-- the input has a header, nothing is skipped, and all rows and columns are read; types are inferred from 100 items, in
-- pieces of 256 KiB; an empty input and a cell without a value are faults
abbrev pub default_read_options : CsvReadOptions
default_read_options = record {
  path = None;
  rechunk = false;
  n_threads = None;
  low_memory = false;
  n_rows = None;
  row_index = None;
  columns = None;
  projection = None;
  schema = None;
  schema_overwrite = None;
  dtype_overwrite = None;
  parse_options = default_parse_options;
  has_header = true;
  chunk_size = 262144;
  skip_rows = 0;
  skip_lines = 0;
  skip_rows_after_header = 0;
  infer_schema_length = Some 100;
  raise_if_empty = true;
  ignore_errors = false;
  fields_to_cast = [];
}

-- parts of paths are columns, from the first byte on; their types are inferred, dates among them
abbrev pub default_hive_options : HiveOptions
default_hive_options = record { enabled = Some true; hive_start_idx = 0; schema = None; try_parse_dates = true }
