-- The words that say how a frame is written (docs/command-line.md, "Words").
use Rattle.std.specs.Prelude.{not, List, codes, Option, Some}
use Rattle.pl_write.specs.Options.{default_cells, default_options}
use Rattle.pl_write.specs.declared.options.CsvWriterOptions.{CsvWriterOptions}
use Rattle.pl_words.specs.Defaults.{option_or, text_of, with}
use Rattle.pl_words.specs.OptionValues.{byte_of, count_of, terminator_named, style_named}
use Rattle.pl_words.specs.Parts.{PartText, has_name}

-- how the frame is written, by the parts
abbrev pub write_options_of : List PartText → Option CsvWriterOptions
write_options_of parts =
    with (option_or default_cells.separator byte_of (codes "--out-sep") parts) (λ separator.
    with (option_or default_cells.quote_char byte_of (codes "--out-quote") parts) (λ quote_char.
    with (option_or default_cells.null text_of (codes "--out-null") parts) (λ null.
    with (option_or default_cells.line_terminator terminator_named (codes "--out-eol") parts) (λ line_terminator.
    with (option_or default_cells.quote_style style_named (codes "--style") parts) (λ quote_style.
    with (option_or default_options.batch_size count_of (codes "--batch") parts) (λ batch_size.
    Some (record {
      include_bom = has_name (codes "--out-bom") parts;
      include_header = not (has_name (codes "--out-no-header") parts);
      batch_size = batch_size;
      maintain_order = default_options.maintain_order;
      serialize_options = record { separator = separator; quote_char = quote_char; null = null; line_terminator = line_terminator; quote_style = quote_style };
    })))))))
