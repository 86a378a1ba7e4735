-- Laws of streams (docs/stream.md, "Settled records" and "Feeding").
use Rattle.std.specs.Prelude.{◌≡◌, ℕ, List, [], ◌∷◌, ◌++◌}
use Rattle.std.specs.List.{concat}
use Rattle.pl_frame.specs.Dialect.{IsDialect}
use Rattle.pl_options.specs.declared.read_options.CsvReadOptions.{CsvReadOptions}
use Rattle.pl_options.specs.Text.{marks_of, comment_of}
use Rattle.pl_table.specs.Rows.{Row}
use Rattle.pl_write.specs.declared.options.CsvWriterOptions.{CsvWriterOptions}
use Rattle.pl_stream.specs.Feeding.{behind_settled, whole_text}
use Rattle.pl_stream.specs.Settled.{settled_rows, settled_text}

-- under a dialect the settled records of bytes are the first of those of the bytes with more behind them
abbrev pub SettledRowsStay : Type 0
SettledRowsStay = (o : CsvReadOptions) (b more : List ℕ) → IsDialect (marks_of o.parse_options) (comment_of o.parse_options) → (others : List Row) × (settled_rows o (b ++ more) ≡ settled_rows o b ++ others)

-- and their text is the front of that of those
abbrev pub SettledTextStays : Type 0
SettledTextStays = (o : CsvReadOptions) (write : CsvWriterOptions) (b more : List ℕ) → IsDialect (marks_of o.parse_options) (comment_of o.parse_options)
    → (others : List ℕ) × (settled_text o write (b ++ more) ≡ settled_text o write b ++ others)

-- what the settled text gains by pieces that come one behind the other, behind bytes that came
abbrev pub fed_texts : CsvReadOptions → CsvWriterOptions → List ℕ → List (List ℕ) → List ℕ
fed_texts o write b [] = []
fed_texts o write b (piece ∷ pieces) = behind_settled o write b (settled_text o write (b ++ piece)) ++ fed_texts o write (b ++ piece) pieces

-- However an input is cut into pieces: what the settled text gains by each of them, and then what the text of the frame has behind it, are
-- together the text of the frame of the whole input.
abbrev pub CutsDoNotMatter : Type 0
CutsDoNotMatter = (o : CsvReadOptions) (write : CsvWriterOptions) (pieces : List (List ℕ)) → IsDialect (marks_of o.parse_options) (comment_of o.parse_options)
    → fed_texts o write [] pieces ++ behind_settled o write (concat pieces) (whole_text o write (concat pieces)) ≡ whole_text o write (concat pieces)
