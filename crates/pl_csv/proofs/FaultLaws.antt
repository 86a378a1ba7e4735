-- No cause against a frame is a fault of the device.
use Rattle.std.proofs.Common.{◌≡◌, ℕ, Bool, true, false, List, [], ◌∷◌, length, map, sym}
use Rattle.std.specs.Prelude.{Option, None, Some}
use Rattle.std.specs.Option.{option_map, option_and_then}
use Rattle.std.specs.List.{AllByRecursion}
use Rattle.pl_frame.specs.declared.error.PolarsError.{PolarsError}
use Rattle.pl_frame.specs.declared.error.PolarsError.TheVariants as error
use Rattle.pl_frame.specs.Frame.{ColumnValue}
use Rattle.pl_frame.specs.Schema.{Entry}
use Rattle.pl_options.specs.declared.read_options.CsvReadOptions.{CsvReadOptions}
use Rattle.pl_options.specs.declared.row_index.RowIndex.{RowIndex}
use Rattle.pl_options.specs.FirstCause.{when, first_some}
use Rattle.pl_read.specs.Options.{data_of}
use Rattle.pl_read.specs.Refusals.{unless_given, numbers_past, codes_past, index_past, nothing_read, faulty_record}
use Rattle.pl_read.specs.Rows.{rows_in, data_columns}
use Rattle.pl_write.specs.declared.options.CsvWriterOptions.{CsvWriterOptions}
use Rattle.pl_csv.specs.Transcoding.{all_causes, IsCause}

-- it is no fault of the device
abbrev pub NotIO : Option PolarsError → Type 0
NotIO cause = cause ≡ Some error.IO → ⊥

when-not_io : (holds : Bool) (refusal : PolarsError) → (refusal ≡ error.IO → ⊥) → NotIO (when holds refusal)
when-not_io true refusal other h = other (same h)
  where
    same : ◌≡◌ {A = Option PolarsError} (Some refusal) (Some error.IO) → refusal ≡ error.IO
    same e = cc
when-not_io false refusal other h = cc

map-not_io : {X : Type 0} (make : X → PolarsError) → ((x : X) → make x ≡ error.IO → ⊥) → (o : Option X) → NotIO (option_map make o)
map-not_io make other None h = cc
map-not_io make other (Some x) h = other x (same h)
  where
    same : ◌≡◌ {A = Option PolarsError} (Some (make x)) (Some error.IO) → make x ≡ error.IO
    same e = cc

then-not_io : {X : Type 0} (next : X → Option PolarsError) → ((x : X) → NotIO (next x)) → (o : Option X) → NotIO (option_and_then next o)
then-not_io next other None h = cc
then-not_io next other (Some x) h = other x h

unless-not_io : (given : Option (List Entry)) (cause : Option PolarsError) → NotIO cause → NotIO (unless_given given cause)
unless-not_io None cause other h = other h
unless-not_io (Some schema) cause other h = cc

first-not_io : (causes : List (Option PolarsError)) → AllByRecursion NotIO causes → NotIO (first_some causes)
first-not_io [] all h = cc
first-not_io (None ∷ causes) all h = first-not_io causes all.1 h
first-not_io (Some cause ∷ causes) all h = all.0 h

numbers-not_io : (index : Option RowIndex) (count : ℕ) → NotIO (numbers_past index count)
numbers-not_io None count h = cc
numbers-not_io (Some index) count h = when-not_io _ _ (λ e. cc) h

codes-not_io : (columns : List ColumnValue) → AllByRecursion NotIO (map codes_past columns)
codes-not_io [] = tt
codes-not_io (column ∷ columns) = (when-not_io _ _ (λ h. cc), codes-not_io columns)

index-not_io : (index : Option RowIndex) (count : ℕ) (columns : List ColumnValue) → NotIO (index_past index count columns)
index-not_io index count columns = first-not_io (numbers_past index count ∷ map codes_past columns) (numbers-not_io index count, codes-not_io columns)

causes-not_io : (read : CsvReadOptions) (schema : List Entry) (input : List ℕ) (write : CsvWriterOptions) (is_dialect : Bool) → NotIO (first_some (all_causes read schema input write is_dialect))
causes-not_io read schema input write is_dialect =
    first-not_io (all_causes read schema input write is_dialect) (
      when-not_io _ _ (λ h. cc),
      (
        when-not_io _ _ (λ h. cc),
        (
          when-not_io _ _ (λ h. cc),
          (
            when-not_io _ _ (λ h. cc),
            (
              unless-not_io read.schema _ (when-not_io _ _ (λ h. cc)),
              (
                unless-not_io read.schema _ (map-not_io _ (λ x h. cc) _),
                (
                  when-not_io _ _ (λ h. cc),
                  (
                    map-not_io _ (λ x h. cc) _,
                    (
                      map-not_io _ (λ x h. cc) _,
                      (
                        when-not_io _ _ (λ h. cc),
                        (
                          map-not_io _ (λ x h. cc) _,
                          (
                            map-not_io _ (λ x h. cc) _,
                            (
                              then-not_io (nothing_read read schema) (λ records. when-not_io _ _ (λ h. cc)) (data_of read input),
                              (
                                then-not_io (faulty_record read schema) (λ records. map-not_io _ (λ x h. cc) _) (data_of read input),
                                (
                                  then-not_io _ (λ records. index-not_io read.row_index (length (rows_in read records)) (data_columns read schema records)) (data_of read input),
                                  tt,
                                ),
                              ),
                            ),
                          ),
                        ),
                      ),
                    ),
                  ),
                ),
              ),
            ),
          ),
        ),
      ),
    )

-- a cause against a frame is no fault of the device
pub cause-not_io : (read : CsvReadOptions) (schema : List Entry) (input : List ℕ) (write : CsvWriterOptions) → IsCause read schema input write error.IO → ⊥
cause-not_io read schema input write is = causes-not_io read schema input write is.is_dialect (sym is.is)
