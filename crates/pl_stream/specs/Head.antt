-- The way to the records, gone on with as bytes come; only the proofs of the code need this.
use Rattle.std.specs.Prelude.{◌≡◌, ℕ, ◌+◌, ◌*◌, ◌≤◌, ◌<◌, ◌||◌, ◌==◌, false, List, [], ◌++◌, drop, length}
use Rattle.std.specs.List.{prefix_len}
use Rattle.pl_options.specs.declared.read_options.CsvReadOptions.{CsvReadOptions}
use Rattle.pl_read.specs.Options.{keeps_ends}
use Rattle.pl_stream.specs.declared.head.Reached.{Reached}
use Rattle.pl_stream.specs.declared.place.Place.{Place}
use Rattle.pl_stream.specs.declared.place.Place.TheVariants as place
use Rattle.pl_stream.specs.Settled.{has_lines}
use Rattle.pl_stream.specs.Stream.{data_at, head_at, lines_at}
use Rattle.pl_stream.specs.Whole.{AreWholeItems, HasNoWholeItem}

-- bytes bring a read from a place to another, whatever follows them: the first of them are needed no more, and behind skipped lines and leading
-- line ends these are whole items
pub record IsReached (o : CsvReadOptions) (place : Place) (bytes : List ℕ) (reached : Reached) : Type 0 where
  pub within : reached.at ≤ length bytes
  pub stays : (more : List ℕ) → data_at o place (bytes ++ more) ≡ data_at o reached.place (drop reached.at bytes ++ more)
  pub lines : (more : List ℕ) → lines_at o place (bytes ++ more) ≡ lines_at o reached.place (drop reached.at bytes ++ more)
  pub items : List ℕ
  pub whole : AreWholeItems o.parse_options items
  pub head : (more : List ℕ) → head_at o place (bytes ++ more) ≡ items ++ head_at o reached.place (drop reached.at bytes ++ more)

-- how far a place is from the records
abbrev pub rank : Place → ℕ
rank place.Start = 6
rank (place.Lines n) = 5
rank place.Ends = 4
rank (place.Rows n) = 3
rank place.Header = 2
rank (place.Behind n) = 1
rank place.Records = 0
rank place.Full = 0

-- a step lets a byte go, or leads nearer to the records
abbrev pub IsNearer : Place → Reached → Type 0
IsNearer from reached = rank reached.place < 8 * reached.at + rank from

-- bytes lead no further from a place
abbrev pub HasNoStep : CsvReadOptions → Place → List ℕ → Type 0
HasNoStep o place.Start b = length b < 4
HasNoStep o (place.Lines n) b =
    (0 < n) × (has_lines o.parse_options.eol_char 1 b ≡ false) × (keeps_ends o ≡ false → (13 == o.parse_options.eol_char) ≡ false → prefix_len (λ x. x == 13 || x == 13) b ≡ 0)
HasNoStep o place.Ends b = (keeps_ends o ≡ false) × (b ≡ [])
HasNoStep o (place.Rows n) b = (0 < n) × HasNoWholeItem o.parse_options b
HasNoStep o place.Header b = HasNoWholeItem o.parse_options b
HasNoStep o (place.Behind n) b = (0 < n) × HasNoWholeItem o.parse_options b
HasNoStep o place.Records b = Unit {0}
HasNoStep o place.Full b = Unit {0}
