-- A state of a stream, and the bytes that it stands for (docs/stream.md, "What is kept").
use Rattle.std.specs.Prelude.{◌≡◌, ℕ, zero, suc, ◌+◌, ◌^◌, ◌<◌, ◌≤◌, Bool, true, false, not, ◌==◌, nat_lt, max, if◌then◌else◌, List, [], ◌++◌, map, take, length, Option, None, Some}
use Rattle.std.specs.List.{prefix_len, fold, AllByRecursion}
use Rattle.std.specs.Option.{option_and_then}
use Rattle.pl_frame.specs.Compression.{is_compressed}
use Rattle.pl_frame.specs.declared.error.PolarsError.{PolarsError}
use Rattle.pl_options.specs.declared.read_options.CsvReadOptions.{CsvReadOptions}
use Rattle.pl_options.specs.Text.{marks_of, comment_of}
use Rattle.pl_read.specs.Options.{keeps_ends, data_of, rules_of}
use Rattle.pl_read.specs.Refusals.{numbers_past}
use Rattle.pl_read.specs.Rows.{columns_read}
use Rattle.pl_read.specs.SettleGiven.{given_schema}
use Rattle.pl_rows.specs.Rows.{first_fault}
use Rattle.pl_scan.specs.Items.{text_of, items_behind}
use Rattle.pl_scan.specs.Start.{skip_line, skip_lines, cut_ends, cut_head, pass_items, pass_comments, pass_header}
use Rattle.pl_table.specs.Rows.{Row, rows}
use Rattle.pl_write.specs.declared.options.CsvWriterOptions.{CsvWriterOptions}
use Rattle.pl_stream.specs.declared.place.Place.{Place}
use Rattle.pl_stream.specs.declared.place.Place.TheVariants as place
use Rattle.pl_stream.specs.Settled.{has_lines, tells_head, settled_rows}
use Rattle.pl_stream.specs.Whole.{AreWholeItems}

-- a state: the options, the bytes that are kept, how far these are read, how many records were settled, the fault that a call answered, and
-- whether the input ended
pub record Stream : Type 0 where
  pub read : CsvReadOptions
  pub write : CsvWriterOptions
  pub kept : List ℕ
  pub place : Place
  pub rows : ℕ
  pub fault : Option PolarsError
  pub is_finished : Bool

-- one that no bytes came to
abbrev pub new_stream : CsvReadOptions → CsvWriterOptions → Stream
new_stream o write = record { read = o; write = write; kept = []; place = place.Start; rows = 0; fault = None; is_finished = false }

-- ---- what is still to be done

-- the data behind the comments, the header and the items that are skipped behind it
abbrev pub behind_header : CsvReadOptions → List ℕ → Option (List ℕ)
behind_header o b =
    let m = marks_of o.parse_options in
    let comment = comment_of o.parse_options in
    pass_items m comment o.skip_rows_after_header (pass_header o.has_header m comment (pass_comments m comment b))

-- the data behind so many items, and that
abbrev pub behind_items : CsvReadOptions → ℕ → List ℕ → Option (List ℕ)
behind_items o n b = option_and_then (behind_header o) (pass_items (marks_of o.parse_options) (comment_of o.parse_options) n b)

-- the data behind leading line ends, unless these are kept, and that
abbrev pub behind_ends : CsvReadOptions → List ℕ → Option (List ℕ)
behind_ends o b = behind_items o o.skip_rows (if keeps_ends o then b else cut_ends o.parse_options.eol_char b)

-- the data of what stands at a place, read on from there
abbrev pub data_at : CsvReadOptions → Place → List ℕ → Option (List ℕ)
data_at o place.Start b = data_of o b
data_at o (place.Lines n) b = behind_ends o (skip_lines o.parse_options.eol_char n b)
data_at o place.Ends b = behind_ends o b
data_at o (place.Rows n) b = behind_items o n b
data_at o place.Header b = behind_header o b
data_at o (place.Behind n) b = pass_items (marks_of o.parse_options) (comment_of o.parse_options) n b
data_at o place.Records b = Some b
data_at o place.Full b = Some b

-- what steps 1 and 2 of the way leave: behind skipped lines, or else a byte order mark, and then, unless these are kept, leading line ends
abbrev pub head_left : CsvReadOptions → List ℕ → List ℕ
head_left o b = cut_head o.skip_lines (keeps_ends o) o.parse_options.eol_char b

-- without leading line ends, unless these are kept
abbrev pub unless_kept : CsvReadOptions → List ℕ → List ℕ
unless_kept o b = if keeps_ends o then b else cut_ends o.parse_options.eol_char b

-- the same of what stands at a place: behind them, whole items may be let go
abbrev pub head_at : CsvReadOptions → Place → List ℕ → List ℕ
head_at o place.Start b = head_left o b
head_at o (place.Lines n) b = unless_kept o (skip_lines o.parse_options.eol_char n b)
head_at o place.Ends b = unless_kept o b
head_at o _ b = b

-- the lines that are still to be skipped at a place can be
abbrev pub lines_at : CsvReadOptions → Place → List ℕ → Bool
lines_at o place.Start b = has_lines o.parse_options.eol_char o.skip_lines b
lines_at o (place.Lines n) b = has_lines o.parse_options.eol_char n b
lines_at o _ b = true

-- ---- what came

-- what came brought the read to a place within the head, where what is kept is read on: whatever follows, the data are those of what is kept and
-- what follows there, and so are the lines that can be skipped; what was let go behind skipped lines and leading line ends were whole items
pub record IsInHead (o : CsvReadOptions) (b : List ℕ) (place : Place) (kept : List ℕ) : Type 0 where
  pub data_is : (more : List ℕ) → data_of o (b ++ more) ≡ data_at o place (kept ++ more)
  pub lines_are : (more : List ℕ) → has_lines o.parse_options.eol_char o.skip_lines (b ++ more) ≡ lines_at o place (kept ++ more)
  pub items : List ℕ
  pub whole : AreWholeItems o.parse_options items
  pub head_is : (more : List ℕ) → head_left o (b ++ more) ≡ items ++ head_at o place (kept ++ more)

-- what came is the head, so many whole records, and what is kept, whatever follows
pub record IsAtRecords (o : CsvReadOptions) (b kept : List ℕ) (count : ℕ) : Type 0 where
  pub records : List ℕ
  pub data_is : (more : List ℕ) → data_of o (b ++ more) ≡ Some (records ++ (kept ++ more))
  pub are_whole : AreWholeItems o.parse_options records
  pub count_is : count ≡ length (rows (marks_of o.parse_options) (comment_of o.parse_options) records)
  pub items : List ℕ
  pub whole : AreWholeItems o.parse_options items
  pub head_is : (more : List ℕ) → head_left o (b ++ more) ≡ items ++ (kept ++ more)

-- what came has all records that are asked for, so many, whatever follows
pub record IsPastLimit (o : CsvReadOptions) (b : List ℕ) (count : ℕ) : Type 0 where
  pub limit_is : o.n_rows ≡ Some count
  pub first : List Row
  pub count_is : length first ≡ count
  pub stay : (more : List ℕ) → (records : List ℕ) × (data_of o (b ++ more) ≡ Some records) × (take count (rows (marks_of o.parse_options) (comment_of o.parse_options) records) ≡ first)

-- what came brought the read to a place, where what is kept is read on, behind so many records
abbrev pub IsOnWay : CsvReadOptions → List ℕ → Place → List ℕ → ℕ → Type 0
IsOnWay o b place.Start kept count = (b ≡ kept) × (count ≡ 0)
IsOnWay o b place.Records kept count = IsAtRecords o b kept count
IsOnWay o b place.Full kept count = IsPastLimit o b count × (kept ≡ [])
IsOnWay o b place kept count = IsInHead o b place kept × (count ≡ 0)

-- enough came for a place: four bytes, and behind the lines that are skipped, all of these
abbrev pub HasCome : CsvReadOptions → Place → List ℕ → Type 0
HasCome o place.Start b = Unit {0}
HasCome o (place.Lines n) b = 4 ≤ length b
HasCome o place b = tells_head o b ≡ true

-- ---- how much is kept

-- the longest of the lines that are skipped, its line end counted
abbrev pub longest_line : ℕ → ℕ → List ℕ → ℕ
longest_line e zero b = 0
longest_line e (suc n) b = if has_lines e 1 b then max (prefix_len (λ x. not (x == e)) b + 1) (longest_line e n (skip_line e b)) else 0

-- the longest of the items of a text, its line end counted where it has one
abbrev pub longest_item : CsvReadOptions → List ℕ → ℕ
longest_item o b =
    fold max 0 (map (λ part. length (text_of part.0) + (if nat_lt 0 (length part.1) then 1 else 0)) (items_behind (marks_of o.parse_options) (comment_of o.parse_options) b))

-- at most so many bytes are kept: four, and the longest skipped line or item behind the head
abbrev pub most_kept : CsvReadOptions → List ℕ → ℕ
most_kept o b =
    let e = o.parse_options.eol_char in
    4 + max (longest_line e o.skip_lines b) (longest_item o (cut_head o.skip_lines (keeps_ends o) e b))

-- ---- the relation

-- a state stands for the bytes that came: it keeps an end of them, they brought it to its place, and it counted their settled records; none of
-- these has a fault or too great a number
pub record StandsFor (stream : Stream) (b : List ℕ) : Type 0 where
  pub small : length b < 2 ^ 64
  pub before : List ℕ
  pub is : b ≡ before ++ stream.kept
  pub come : HasCome stream.read stream.place b
  pub read : IsOnWay stream.read b stream.place stream.kept stream.rows
  pub few : length stream.kept ≤ most_kept stream.read b
  pub plain : 4 ≤ length b → is_compressed b ≡ false
  pub count : stream.rows ≡ length (settled_rows stream.read b)
  pub sound : AllByRecursion (λ row. first_fault (rules_of stream.read (given_schema stream.read)) (columns_read stream.read (given_schema stream.read)) row ≡ None) (settled_rows stream.read b)
  pub numbered : 0 < stream.rows → numbers_past stream.read.row_index stream.rows ≡ None
