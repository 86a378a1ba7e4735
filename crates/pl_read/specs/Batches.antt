-- A reader of batches: what it holds, and what its calls answer (docs/batches.md).
use Rattle.std.specs.Prelude.{◌≡◌, ℕ, zero, suc, ◌+◌, ◌<◌, ◌≤◌, ◌⊎◌, ◌||◌, ◌==◌, Bool, false, nat_le, List, [], ◌∷◌, ◌++◌, length, map, take, drop, Option, None, Some, Result, IsNone, IfSome, MatchResult, unwrap_or}
use Rattle.std.specs.Option.{option_map, option_map_or}
use Rattle.pl_frame.specs.Causes.{Rose}
use Rattle.pl_frame.specs.Frame.{ColumnValue}
use Rattle.pl_frame.specs.Schema.{Entry}
use Rattle.pl_frame.specs.declared.error.PolarsError.{PolarsError}
use Rattle.pl_frame.specs.declared.error.PolarsError.TheVariants as error
use Rattle.pl_frame.specs.declared.error.ComputeFault.TheVariants as compute_fault
use Rattle.pl_scan.specs.Closing.{ends_open}
use Rattle.pl_scan.specs.Laws.{IsEnded}
use Rattle.pl_scan.specs.LineCuts.{cut_piece}
use Rattle.pl_scan.specs.LineStates.{after}
use Rattle.pl_scan.specs.declared.summary.LineState.{LineState}
use Rattle.pl_scan.specs.declared.summary.LineState.TheVariants.{Start, Open}
use Rattle.pl_options.specs.declared.read_options.CsvReadOptions.{CsvReadOptions}
use Rattle.pl_options.specs.FirstCause.{IsFirstCause, first_some}
use Rattle.pl_options.specs.declared.row_index.RowIndex.{RowIndex}
use Rattle.pl_options.specs.Text.{marks_of, comment_of}
use Rattle.pl_rows.specs.Columns.{entries_in, frame_of_rows}
use Rattle.pl_rows.specs.Pieces.{left_limit}
use Rattle.pl_rows.specs.Ranges.{limited}
use Rattle.pl_rows.specs.Rows.{first_faulty}
use Rattle.pl_table.specs.Rows.{Row, rows}
use Rattle.pl_read.specs.BytesReader.{input_of}
use Rattle.pl_read.specs.CsvReader.{OfInput}
use Rattle.pl_read.specs.Options.{rules_of, data_of, settled_schema}
use Rattle.pl_read.specs.Projection.{projected}
use Rattle.pl_read.specs.Refusals.{numbers_past, codes_past, early_causes, causes_before_rows}
use Rattle.pl_read.specs.Rows.{columns_read, rows_in, with_index}

-- What a reader of batches holds: how it reads, and by which settled schema; the data, which is what stands from the starting
-- point on; what is left of that, and how many rows stand before it; and the fault that a call answered, if one did.
pub record Batches : Type 0 where
  pub options : CsvReadOptions
  pub schema : List Entry
  pub records : List ℕ
  pub rest : List ℕ
  pub rows : ℕ
  pub fault : Option PolarsError

-- ---- what stands before the rest

-- a text is empty, or it ends with a line end and not within a quoted field
pub record EndsAtItem (o : CsvReadOptions) (text : List ℕ) : Type 0 where
  pub ended : IsEnded o.parse_options.eol_char text
  pub closed : ends_open (marks_of o.parse_options) (comment_of o.parse_options) text ≡ false

-- The rest is a suffix of the data; it is empty or begins where an item does; so many rows stand before it, none of which has
-- a fault.
pub record StandsInData (b : Batches) : Type 0 where
  pub front : List ℕ
  pub cut_is : b.records ≡ front ++ b.rest
  pub start : (b.rest ≡ []) ⊎ EndsAtItem b.options front
  pub count : b.rows ≡ length (rows_in b.options front)
  pub sound : first_faulty (rules_of b.options b.schema) (columns_read b.options b.schema) 0 (rows_in b.options front) ≡ None

-- ---- the batches of a call

-- how many bytes the first piece of a text has, which ends just behind a line end or with the text
abbrev pub piece_length : CsvReadOptions → List ℕ → ℕ
piece_length o text = length (cut_piece o.parse_options.eol_char o.chunk_size text).0

-- the state behind the first piece of a text, by the state in front of it
abbrev pub behind_first : CsvReadOptions → LineState → List ℕ → LineState
behind_first o state text = after (marks_of o.parse_options) (comment_of o.parse_options) state (take (piece_length o text) text)

-- so many bytes more where a quoted field is open, and none at the start of an item
abbrev pub more_if_open : LineState → ℕ → ℕ
more_if_open Start more = 0
more_if_open Open more = more

-- how many bytes the pieces of a text have up to and with the first one behind which the state is Start, or all of them where there is
-- none, by the state in front of the text and as long as k lasts
abbrev pub to_start_within : CsvReadOptions → ℕ → LineState → List ℕ → ℕ
to_start_within o zero state text = 0
to_start_within o (suc k) state [] = 0
to_start_within o (suc k) state (x ∷ text) =
    let first = piece_length o (x ∷ text) in
    first + more_if_open (behind_first o state (x ∷ text)) (to_start_within o k Open (drop first (x ∷ text)))

-- how many bytes the first range of a text has: its pieces up to and with the first one behind which the state is Start, or all
abbrev pub range_length : CsvReadOptions → List ℕ → ℕ
range_length o text = to_start_within o (length text) Start text

-- how many bytes the first so many ranges of a text have, each of which is the first range of what the ones before it leave
abbrev pub ranges_length : CsvReadOptions → ℕ → List ℕ → ℕ
ranges_length o zero text = 0
ranges_length o (suc n) [] = 0
ranges_length o (suc n) (x ∷ text) = let first = range_length o (x ∷ text) in first + ranges_length o n (drop first (x ∷ text))

-- what the batches of a call are read of: so many ranges of what is left, or all of it where there are fewer
abbrev pub batch_text : CsvReadOptions → ℕ → List ℕ → List ℕ
batch_text o n rest = take (ranges_length o n rest) rest

-- the rows of a text behind so many others: its records, or as many of them as the limit of rows leaves
abbrev pub rows_behind : CsvReadOptions → ℕ → List ℕ → List Row
rows_behind o before text = limited (left_limit o.n_rows before) (rows (marks_of o.parse_options) (comment_of o.parse_options) text)

-- the rows of a call's batches
abbrev pub batch_rows : Batches → ℕ → List Row
batch_rows b n = rows_behind b.options b.rows (batch_text b.options n b.rest)

-- a row index that begins so many numbers later
abbrev pub index_behind : ℕ → Option RowIndex → Option RowIndex
index_behind before None = None
index_behind before (Some index) = Some (record index { offset = index.offset + before })

-- the frame of rows behind so many others
abbrev pub frame_behind : CsvReadOptions → List Entry → ℕ → List Row → List ColumnValue
frame_behind o schema before given =
    with_index (index_behind before o.row_index) (length given) (frame_of_rows (rules_of o schema) (entries_in schema (projected o schema)) given)

-- frames of rows behind so many others, each of the next of them, and of all together
abbrev pub AreFramesOf : CsvReadOptions → List Entry → ℕ → List Row → List (List ColumnValue) → Type 0
AreFramesOf o schema before given [] = given ≡ []
AreFramesOf o schema before given (frame ∷ frames) =
    (n : ℕ) × (n ≤ length given) × (frame ≡ frame_behind o schema before (take n given)) × AreFramesOf o schema (before + n) (drop n given) frames

-- where the batches of these rows end in what is left, behind so many rows: these are the rows of so many of its bytes, and those are all
-- or end where an item does
pub record EndsBatches (o : CsvReadOptions) (before : ℕ) (rest : List ℕ) (given : List Row) (end : ℕ) : Type 0 where
  pub some : 0 < end
  pub within : end ≤ length rest
  pub rows_are : rows_behind o before (take end rest) ≡ given
  pub start : (end ≡ length rest) ⊎ EndsAtItem o (take end rest)

-- ---- the answers

-- a count of rows is the limit, or past it
abbrev pub is_reached : Option ℕ → ℕ → Bool
is_reached limit count = option_map_or (λ n. nat_le n count) limit false

-- there is no batch: none is asked for, the limit of rows is reached, or nothing is left
abbrev pub is_over : Batches → ℕ → Bool
is_over b n = n == 0 || (is_reached b.options.n_rows b.rows || length b.rest == 0)

-- One frame or more, so many at most: of the rows of a call's batches, which are the next ones, and none of which has a fault.
-- Some bytes of what was left were read, which have these rows; the others are left, and nothing else changes.
pub record AreBatches (old new : Batches) (n : ℕ) (frames : List (List ColumnValue)) : Type 0 where
  pub some : 0 < length frames
  pub few : length frames ≤ n
  pub frames_are : AreFramesOf old.options old.schema old.rows (batch_rows old n) frames
  pub sound : first_faulty (rules_of old.options old.schema) (columns_read old.options old.schema) old.rows (batch_rows old n) ≡ None
  pub numbered : numbers_past old.options.row_index (old.rows + length (batch_rows old n)) ≡ None
  pub read : List ℕ
  pub left : old.rest ≡ read ++ new.rest
  pub rows_are : rows_behind old.options old.rows read ≡ batch_rows old n
  pub shorter : length new.rest < length old.rest
  pub new_is : new ≡ record old { rest = new.rest; rows = old.rows + length (batch_rows old n) }

-- the last code of a category in the columns of some rows does not fit 32 bits
abbrev pub codes_past_rows : CsvReadOptions → List Entry → List Row → Option PolarsError
codes_past_rows o schema given = first_some (map codes_past (frame_of_rows (rules_of o schema) (entries_in schema (projected o schema)) given))

-- the least of rows behind so many others that has a fault, with its first fault
abbrev pub faulty_behind : CsvReadOptions → List Entry → ℕ → List Row → Option PolarsError
faulty_behind o schema before given =
    option_map (λ found. error.ComputeError (compute_fault.Record found.0 found.1.0 found.1.1)) (first_faulty (rules_of o schema) (columns_read o schema) before given)

-- Why rows behind so many others are no batches: one of them has a fault; or else a number up to their end does not fit 64 bits;
-- or else a code in a frame of some of them does not fit 32.
abbrev pub IsCauseBehind : CsvReadOptions → List Entry → ℕ → List Row → PolarsError → Type 0
IsCauseBehind o schema before given fault =
    (faulty_behind o schema before given ≡ Some fault)
    ⊎ ((faulty_behind o schema before given ≡ None) × (numbers_past o.row_index (before + length given) ≡ Some fault))
    ⊎ ((faulty_behind o schema before given ≡ None) × (numbers_past o.row_index (before + length given) ≡ None)
    × ((from count : ℕ) × (codes_past_rows o schema (take count (drop from given)) ≡ Some fault)))

-- why a call gives no batches
abbrev pub IsBatchCause : Batches → ℕ → PolarsError → Type 0
IsBatchCause b n = IsCauseBehind b.options b.schema b.rows (batch_rows b n)

-- a call answers the fault that is kept; or memory is wanting, and the reader is as it was; or it answers the first cause against
-- its batches, and that is kept
abbrev pub IsBatchFault : (old new : Batches) → ℕ → PolarsError → Type 0
IsBatchFault old new n fault =
    ((old.fault ≡ Some fault) × (new ≡ old))
    ⊎ ((old.fault ≡ None) × (fault ≡ error.OutOfMemory) × (new ≡ old))
    ⊎ ((old.fault ≡ None) × (is_over old n ≡ false) × IsBatchCause old n fault × (new ≡ record old { fault = Some fault }))

-- ---- the opening

-- over an input, with no batch given: all of its data is left
abbrev pub opened : CsvReadOptions → List ℕ → Batches
opened o input =
    let records = unwrap_or (data_of o input) [] in
    record { options = o; schema = settled_schema o input; records = records; rest = records; rows = 0; fault = None }

-- the causes against an input that stand before those of its rows, in their order
abbrev pub opening_causes : CsvReadOptions → List Entry → List ℕ → Bool → List (Option PolarsError)
opening_causes o schema input is_dialect = early_causes o is_dialect ++ causes_before_rows o schema input

-- no such cause stands against an input, and the reader is over it
abbrev pub IsOpened : CsvReadOptions → List ℕ → Batches → Type 0
IsOpened o input b = IsFirstCause (opening_causes o (settled_schema o input) input) o.parse_options None × (b ≡ opened o input)

-- the first such cause
abbrev pub IsOpeningRefusal : CsvReadOptions → List ℕ → PolarsError → Type 0
IsOpeningRefusal o input refusal = IsFirstCause (opening_causes o (settled_schema o input) input) o.parse_options (Some refusal)

-- what comes of opening a reader over an input: the reader, or that cause
abbrev pub IsOpening : CsvReadOptions → List ℕ → Result Batches PolarsError → Type 0
IsOpening o input opening = MatchResult opening (IsOpened o input) (IsOpeningRefusal o input)

-- why there is no reader of batches: a fault of a source that lends nothing, whose count rose; want of memory, at any time; else
-- the first cause against the input that stands before those of its rows
abbrev pub IsOpeningFault : {R : Type 0} → (lent left : R → Option (List ℕ)) → (faults : R → ℕ) → (before now : R) → CsvReadOptions → PolarsError → Type 0
IsOpeningFault lent left faults before now o error.IO = IsNone (lent before) × Rose (faults before) (faults now)
IsOpeningFault lent left faults before now o error.OutOfMemory = Unit {0}
IsOpeningFault lent left faults before now o fault = OfInput lent left before now (λ input. IsOpeningRefusal o input fault)

-- options under a schema in place of their own, where one is given
abbrev pub options_under : Option (List Entry) → CsvReadOptions → CsvReadOptions
options_under None o = o
options_under (Some schema) o = record o { schema = Some schema }

-- this holds of an input: of the one that a source tells, where it tells one
abbrev pub OfTold : (lent left : Option (List ℕ)) → (List ℕ → Type 0) → Type 0
OfTold lent left P = (input : List ℕ) × IfSome (input_of lent left) (λ told. input ≡ told) × P input

-- why there is none that borrows its bytes, of whose source no count can be told while it lasts
abbrev pub IsBorrowingFault : (lent left : Option (List ℕ)) → CsvReadOptions → PolarsError → Type 0
IsBorrowingFault lent left o error.IO = IsNone lent
IsBorrowingFault lent left o error.OutOfMemory = Unit {0}
IsBorrowingFault lent left o fault = OfTold lent left (λ input. IsOpeningRefusal o input fault)
