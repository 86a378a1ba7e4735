-- Whole items at the front of a text; only the proofs of the code need this.
use Rattle.std.specs.Prelude.{◌≡◌, ℕ, ◌≤◌, ◌⊎◌, Bool, true, false, List, take, drop, length, Option, Some}
use Rattle.pl_options.specs.declared.parse_options.CsvParseOptions.{CsvParseOptions}
use Rattle.pl_options.specs.Text.{marks_of, comment_of}
use Rattle.pl_scan.specs.Closing.{ends_open}
use Rattle.pl_scan.specs.Items.{text_of, item}
use Rattle.pl_scan.specs.Laws.{IsEnded}
use Rattle.pl_table.specs.Rows.{rows}
use Rattle.pl_stream.specs.declared.whole.Whole.{Whole}

-- a text is whole items: it is empty or its last byte is a line end, and it does not end within a quoted field
pub record AreWholeItems (o : CsvParseOptions) (text : List ℕ) : Type 0 where
  pub ended : IsEnded o.eol_char text
  pub closed : ends_open (marks_of o) (comment_of o) text ≡ false

-- no line end stands behind the first item of a text
abbrev pub HasNoWholeItem : CsvParseOptions → List ℕ → Type 0
HasNoWholeItem o text = length (text_of (item (marks_of o) (comment_of o) text)) ≡ length text

-- so many bytes of a text are whole items, with so many records
pub record IsWholeFront (o : CsvParseOptions) (text : List ℕ) (whole : Whole) : Type 0 where
  pub within : whole.end ≤ length text
  pub items : AreWholeItems o (take whole.end text)
  pub count_is : whole.rows ≡ length (rows (marks_of o) (comment_of o) (take whole.end text))

-- how many records an item is, which may be a comment
abbrev pub count_of : Bool → ℕ
count_of true = 0
count_of false = 1

-- there are no more of them, or no more are wanted
abbrev pub IsWholeEnd : CsvParseOptions → List ℕ → Option ℕ → Whole → Type 0
IsWholeEnd o text limit whole = (limit ≡ Some whole.rows) ⊎ HasNoWholeItem o (drop whole.end text)
