-- What many files mean: the joined read (docs/files.md, "Many files").
use Rattle.std.specs.Prelude.{◌≡◌, ◌⊎◌, ℕ, ◌+◌, ◌-◌, ◌<◌, false, nat_lt, if◌then◌else◌, List, [], ◌∷◌, ◌++◌, map, length, take, replicate, Option, None, Some, Result, Ok, Err, IfSome}
use Rattle.std.specs.List.{AllByRecursion}
use Rattle.std.specs.Option.{option_map}
use Rattle.pl_frame.specs.Causes.{Rose}
use Rattle.pl_frame.specs.Frame.{Letters, ColumnValue, height_of}
use Rattle.pl_frame.specs.FrameParts.{empty_columns, stacked, sliced}
use Rattle.pl_frame.specs.Schema.{Entry}
use Rattle.pl_frame.specs.declared.data_type.DataType.TheVariants as dtype
use Rattle.pl_frame.specs.declared.error.ComputeFault.TheVariants as compute_fault
use Rattle.pl_frame.specs.declared.error.PolarsError.{PolarsError}
use Rattle.pl_frame.specs.declared.error.PolarsError.TheVariants as error
use Rattle.pl_options.specs.declared.read_options.CsvReadOptions.{CsvReadOptions}
use Rattle.pl_options.specs.declared.row_index.RowIndex.{RowIndex}
use Rattle.pl_options.specs.FirstCause.{first_some, IsFirstCause}
use Rattle.pl_read.specs.Batches.{index_behind}
use Rattle.pl_read.specs.Reading.{frame_of}
use Rattle.pl_read.specs.Refusals.{is_zero, numbers_past, codes_past}
use Rattle.pl_read.specs.Rows.{with_index}
use Rattle.pl_read.specs.SettleGiven.{given_schema, given_causes}
use Rattle.pl_read.specs.Steps.{late_cause}
use Rattle.pl_multi.specs.Parts.{partition_names, entries_read, start_of, end_of, early_fault}
use Rattle.pl_multi.specs.declared.part.Part.{Part}
use Rattle.pl_multi.specs.declared.scan.MultiFault.{MultiFault}
use Rattle.pl_multi.specs.declared.scan.MultiFault.TheVariants as fault

-- ---- one part

-- a part with its bytes
abbrev pub PartBytes : Type 0
PartBytes = Part × List ℕ

-- how a part is read: without a row index, and as many rows of it as are still wanted
abbrev pub part_options : CsvReadOptions → Option ℕ → CsvReadOptions
part_options o wanted = record o { row_index = None; n_rows = wanted }

-- the values of a part as columns, each the same in so many rows
abbrev pub value_columns : ℕ → List (List ℕ × List ℕ) → List ColumnValue
value_columns rows values = map (λ value. record { name = value.0; dtype = dtype.String; values = replicate rows (Some (Letters value.1)) }) values

-- columns of a part with its values behind each row
abbrev pub with_part_values : Part → List ColumnValue → List ColumnValue
with_part_values part columns = columns ++ value_columns (height_of columns) part.values

-- the rows of a part: those of its bytes, with its values behind each
abbrev pub part_rows : CsvReadOptions → List Entry → PartBytes → List ColumnValue
part_rows o schema given = with_part_values given.0 (frame_of o schema given.1)

-- ---- all parts

-- the columns of the answer without its row index, and without rows
abbrev pub no_rows : CsvReadOptions → List Part → List ColumnValue
no_rows o parts = empty_columns (entries_read o (given_schema o) ++ map (λ name. (name, dtype.String)) (partition_names parts))

-- how many rows are still wanted behind so many, up to the row before which the answer ends
abbrev pub wanted_behind : Option ℕ → ℕ → Option ℕ
wanted_behind end rows = option_map (λ n. n - rows) end

-- the fault, where there is one
abbrev pub unless : {X : Type 0} → Option MultiFault → Result X MultiFault → Result X MultiFault
unless None result = result
unless (Some refused) result = Err refused

-- what comes of a result, where it is no fault
abbrev pub and_then : {X Y : Type 0} → Result X MultiFault → (X → Result Y MultiFault) → Result Y MultiFault
and_then (Ok x) next = next x
and_then (Err refused) next = Err refused

-- the rows of parts behind columns, the first part being at this place: part by part, as long as rows are wanted; or the first cause
-- against the bytes of a part, with its place
abbrev pub joined : CsvReadOptions → Option ℕ → ℕ → List ColumnValue → List PartBytes → Result (List ColumnValue) MultiFault
joined o end place columns [] = Ok columns
joined o end place columns (given ∷ more) =
    let wanted = wanted_behind end (height_of columns) in
    let options = part_options o wanted in
    if is_zero wanted then Ok columns else
    unless (option_map (fault.Part place) (late_cause options (given_schema o) given.1))
    (joined o end (place + 1) (stacked columns (part_rows options (given_schema o) given)) more)

-- ---- the answer

-- the rows from one on
abbrev pub rows_from : ℕ → List ColumnValue → List ColumnValue
rows_from start columns = sliced start (height_of columns) columns

-- the fault of a number or a code that is too great
abbrev pub index_fault : PolarsError → MultiFault
index_fault (error.ComputeError (compute_fault.Index offset rows)) = fault.Index offset rows
index_fault _ = fault.OutOfMemory

-- the last number of an answer that has rows does not fit 64 bits, or else a code of a category of it does not fit 32
abbrev pub late_fault : Option RowIndex → ℕ → List ColumnValue → Option MultiFault
late_fault index start columns =
    let rows = rows_from start columns in
    option_map index_fault (first_some ((if nat_lt 0 (height_of rows) then numbers_past index (height_of columns) else None) ∷ map codes_past rows))

-- the rows from one on, behind their row index, where one is asked
abbrev pub numbered : Option RowIndex → ℕ → List ColumnValue → List ColumnValue
numbered index start columns = let rows = rows_from start columns in with_index (index_behind start index) (height_of rows) rows

-- what parts with their bytes mean, given the first cause against the options of the read: the joined read, or the first cause against it
abbrev pub scan_meaning : Option PolarsError → CsvReadOptions → Option (ℕ × ℕ) → List PartBytes → Result (List ColumnValue) MultiFault
scan_meaning refused o slice given =
    let parts = map (λ it. it.0) given in
    unless (early_fault refused o slice parts)
    (and_then (joined o (end_of slice) 0 (no_rows o parts) given) (λ columns.
    unless (late_fault o.row_index (start_of slice) columns) (Ok (numbered o.row_index (start_of slice) columns))))

abbrev pub IsScanMeaning : CsvReadOptions → Option (ℕ × ℕ) → List PartBytes → Result (List ColumnValue) MultiFault → Type 0
IsScanMeaning o slice given meaning = (refused : Option PolarsError) × IsFirstCause (given_causes o) o.parse_options refused × (meaning ≡ scan_meaning refused o slice given)

-- ---- what a scan answers

-- the bytes are those at the path of the part, where an opener tells them
abbrev pub IsHeld : (List ℕ → Option (List ℕ)) → PartBytes → Type 0
IsHeld holds given = IfSome (holds given.0.path) (λ bytes. given.1 ≡ bytes)

-- the parts with the bytes that an opener holds
abbrev pub AreHeld : (List ℕ → Option (List ℕ)) → List Part → List PartBytes → Type 0
AreHeld holds parts given = (map (λ it. it.0) given ≡ parts) × AllByRecursion (IsHeld holds) given

-- nothing stands against the options and the parts, the parts before this one were read, and rows are still wanted of it
pub record IsReached (holds : List ℕ → Option (List ℕ)) (o : CsvReadOptions) (slice : Option (ℕ × ℕ)) (parts : List Part) (place : ℕ) : Type 0 where
  pub sound : IsFirstCause (given_causes o) o.parse_options None
  pub early : early_fault None o slice parts ≡ None
  pub within : place < length parts
  pub given : List PartBytes
  pub held : AreHeld holds (take place parts) given
  pub columns : List ColumnValue
  pub read : joined o (end_of slice) 0 (no_rows o parts) given ≡ Ok columns
  pub wanted : is_zero (wanted_behind (end_of slice) (height_of columns)) ≡ false

-- Why there is no joined read: want of memory, at any time; a part that was not opened or not read to its end, and then the count of the
-- opener rose; else the first cause against the parts with the bytes that the opener holds.
abbrev pub IsScanFault : (List ℕ → Option (List ℕ)) → (before now : ℕ) → CsvReadOptions → Option (ℕ × ℕ) → List Part → MultiFault → Type 0
IsScanFault holds before now o slice parts fault.OutOfMemory = Unit {0}
IsScanFault holds before now o slice parts (fault.Io place) = Rose before now × IsReached holds o slice parts place
IsScanFault holds before now o slice parts refused = (given : List PartBytes) × AreHeld holds parts given × IsScanMeaning o slice given (Err refused)

-- the joined read
abbrev pub IsJoined : (List ℕ → Option (List ℕ)) → CsvReadOptions → Option (ℕ × ℕ) → List Part → List ColumnValue → Type 0
IsJoined holds o slice parts frame = (given : List PartBytes) × AreHeld holds parts given × IsScanMeaning o slice given (Ok frame)

-- an opener tells the bytes of each part
abbrev pub AreTold : (List ℕ → Option (List ℕ)) → List Part → List PartBytes → Type 0
AreTold holds parts given = (map (λ it. it.0) given ≡ parts) × AllByRecursion (λ it. holds it.0.path ≡ Some it.1) given

-- what the parts mean, or want of memory, or a part that was not opened or not read to its end, where the count of the opener rose
abbrev pub ScansUnlessFailed : Result (List ColumnValue) MultiFault → Result (List ColumnValue) MultiFault → (before now : ℕ) → Type 0
ScansUnlessFailed result meaning before now =
    (result ≡ meaning) ⊎ (result ≡ Err fault.OutOfMemory) ⊎ ((place : ℕ) × (result ≡ Err (fault.Io place)) × Rose before now)
