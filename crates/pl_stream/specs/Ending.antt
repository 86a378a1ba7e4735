-- What an input that ended has behind its settled records; only the proofs of the code need this.
use Rattle.std.specs.Prelude.{◌≡◌, ℕ, List, ◌++◌, None}
use Rattle.pl_options.specs.declared.read_options.CsvReadOptions.{CsvReadOptions}
use Rattle.pl_options.specs.Text.{marks_of, comment_of}
use Rattle.pl_rows.specs.Pieces.{left_limit}
use Rattle.pl_rows.specs.Ranges.{limited}
use Rattle.pl_table.specs.Rows.{Row, rows}
use Rattle.pl_write.specs.declared.options.CsvWriterOptions.{CsvWriterOptions}
use Rattle.pl_stream.specs.Feeding.{finish_cause, behind_settled, whole_text}
use Rattle.pl_stream.specs.Printing.{head_once, lines_behind}
use Rattle.pl_stream.specs.Stream.{Stream}

-- the rows of records behind so many others, up to the limit
abbrev pub end_rows : CsvReadOptions → ℕ → List ℕ → List Row
end_rows o before records = limited (left_limit o.n_rows before) (rows (marks_of o.parse_options) (comment_of o.parse_options) records)

-- what stands before them, unless rows do, and their lines
abbrev pub end_text : CsvReadOptions → CsvWriterOptions → ℕ → List Row → List ℕ
end_text o write before given = head_once o write before ++ lines_behind o write before given

-- no cause stands against an input that ended, and what the text of its frame has behind the settled text was appended
pub record HasEndText (state : Stream) (b text now : List ℕ) : Type 0 where
  pub sound : finish_cause state.read b ≡ None
  pub appended : now ≡ text ++ behind_settled state.read state.write b (whole_text state.read state.write b)
