-- The words that say how an input is read (docs/command-line.md, "Words").
use Rattle.std.specs.Prelude.{ℕ, Bool, not, if◌then◌else◌, List, codes, Option, Some}
use Rattle.pl_scan.specs.Comment.{prefix_from}
use Rattle.pl_scan.specs.declared.comment.CommentPrefix.{CommentPrefix}
use Rattle.pl_cells.specs.declared.utf8.CsvEncoding.{CsvEncoding}
use Rattle.pl_cells.specs.declared.utf8.CsvEncoding.TheVariants as encoding
use Rattle.pl_options.specs.Options.{default_parse_options, default_read_options}
use Rattle.pl_options.specs.declared.parse_options.CsvParseOptions.{CsvParseOptions}
use Rattle.pl_options.specs.declared.read_options.CsvReadOptions.{CsvReadOptions}
use Rattle.pl_words.specs.ColumnWords.{names_of, places_of, row_index_of, types_of}
use Rattle.pl_words.specs.Defaults.{option_or, set_to, with}
use Rattle.pl_words.specs.NullWords.{null_values_of}
use Rattle.pl_words.specs.OptionValues.{byte_of, quote_of, count_of, sample_of}
use Rattle.pl_words.specs.Parts.{PartText, has_name}
use Rattle.pl_words.specs.SchemaText.{schema_of}

-- texts that are not UTF-8 are read as UTF-8 where this is asked
abbrev pub encoding_of : Bool → CsvEncoding
encoding_of lossy = if lossy then encoding.LossyUtf8 else encoding.Utf8

-- the comment prefix that a value gives
abbrev pub comment_of : List ℕ → Option CommentPrefix
comment_of value = Some (prefix_from value)

-- how records are cut and cells are read, by the parts
abbrev pub parse_options_of : List PartText → Option CsvParseOptions
parse_options_of parts =
    with (option_or default_parse_options.separator byte_of (codes "--sep") parts) (λ separator.
    with (option_or default_parse_options.quote_char quote_of (codes "--quote") parts) (λ quote_char.
    with (option_or default_parse_options.eol_char byte_of (codes "--eol") parts) (λ eol_char.
    with (option_or default_parse_options.comment_prefix (set_to comment_of) (codes "--comment") parts) (λ comment_prefix.
    with (null_values_of parts) (λ null_values.
    Some (record default_parse_options {
      separator = separator;
      quote_char = quote_char;
      eol_char = eol_char;
      encoding = encoding_of (has_name (codes "--lossy") parts);
      null_values = null_values;
      missing_is_null = not (has_name (codes "--keep-missing") parts);
      truncate_ragged_lines = has_name (codes "--truncate") parts;
      comment_prefix = comment_prefix;
      try_parse_dates = has_name (codes "--dates") parts;
    }))))))

-- how an input is read, by the parts; each option has a default
abbrev pub read_options_of : List PartText → Option CsvReadOptions
read_options_of parts =
    with (option_or default_read_options.schema (set_to schema_of) (codes "--schema") parts) (λ schema.
    with (option_or default_read_options.schema_overwrite (set_to schema_of) (codes "--overwrite") parts) (λ schema_overwrite.
    with (option_or default_read_options.dtype_overwrite (set_to types_of) (codes "--dtypes") parts) (λ dtype_overwrite.
    with (parse_options_of parts) (λ parse_options.
    with (option_or default_read_options.skip_lines count_of (codes "--skip-lines") parts) (λ skip_lines.
    with (option_or default_read_options.skip_rows count_of (codes "--skip-rows") parts) (λ skip_rows.
    with (option_or default_read_options.skip_rows_after_header count_of (codes "--skip-after") parts) (λ skip_rows_after_header.
    with (option_or default_read_options.n_rows (set_to count_of) (codes "--limit") parts) (λ n_rows.
    with (option_or default_read_options.columns (set_to names_of) (codes "--columns") parts) (λ columns.
    with (option_or default_read_options.projection (set_to places_of) (codes "--projection") parts) (λ projection.
    with (row_index_of parts) (λ row_index.
    with (option_or default_read_options.n_threads (set_to count_of) (codes "--workers") parts) (λ n_threads.
    with (option_or default_read_options.chunk_size count_of (codes "--piece") parts) (λ chunk_size.
    with (option_or default_read_options.infer_schema_length sample_of (codes "--infer") parts) (λ infer_schema_length.
    Some (record default_read_options {
      schema = schema;
      schema_overwrite = schema_overwrite;
      dtype_overwrite = dtype_overwrite;
      parse_options = parse_options;
      has_header = not (has_name (codes "--no-header") parts);
      skip_lines = skip_lines;
      skip_rows = skip_rows;
      skip_rows_after_header = skip_rows_after_header;
      n_rows = n_rows;
      columns = columns;
      projection = projection;
      row_index = row_index;
      n_threads = n_threads;
      chunk_size = chunk_size;
      infer_schema_length = infer_schema_length;
      raise_if_empty = not (has_name (codes "--allow-empty") parts);
      ignore_errors = has_name (codes "--ignore-errors") parts;
    })))))))))))))))
