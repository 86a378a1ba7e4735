-- The cells that fit, as they are written and read.
use Rattle.std.proofs.Common.{◌≡◌, ℕ, ◌-◌, Bool, true, ◌++◌, length, None, Some, Option, Ok, List, refl, ◌∙◌, ap, inl, inr, append-nil}
use Rattle.pl_frame.specs.declared.data_type.DataType.{DataType}
use Rattle.pl_frame.specs.declared.data_type.DataType.TheVariants as dtype
use Rattle.pl_frame.specs.Frame.{Scalar}
use Rattle.pl_text.specs.FrameText.{WriteOptions, written_null, written_cell}
use Rattle.pl_frame.specs.Types.{is_readable}
use Rattle.pl_cells.specs.Cells.{Reading, missing_value, cell}
use Rattle.pl_cells.specs.NullValues.{means_null}
use Rattle.pl_round_trip.specs.RoundTrip.{IsWritable, IsNullWritable, IsLineTail}
use Rattle.pl_round_trip.specs.Fits.{FitsOptions, FitsValue, FitsCell}
use Rattle.pl_round_trip.specs.Returning.{nulls_of}
use Rattle.pl_round_trip.proofs.FieldLaws.{bare-lacks, no_end, not_quoted, field-returns}
use Rattle.pl_round_trip.proofs.MeantLaws.{null-meant, other-not_meant}
use Rattle.pl_round_trip.proofs.NullFieldLaws.{null-returns}
use Rattle.pl_round_trip.proofs.TailLaws.{tail-returns}
use Rattle.pl_round_trip.proofs.WrittenLaws.{written-cell, written-end}

-- ---- values

pub value-writable : (o : WriteOptions) (column : ℕ) (type : DataType) (value : Scalar) → FitsOptions o → is_readable type ≡ true → FitsValue o type value
    → IsWritable o (means_null (nulls_of (written_null o)) column) type value
value-writable o column type value h can fits = record {
  readable = record { can = can; held = fits.held; counted = fits.counted };
  mark = h.quote;
  no_return = h.dialect.quote.1;
  bare = fits.bare;
  meant = other-not_meant (written_null o) (written_cell o type (Some value)) column fits.apart;
}

-- ---- nulls

missing-null : (type : DataType) → missing_value true type ≡ None
missing-null dtype.String = refl
missing-null type = refl

null-writable : (o : WriteOptions) (reading : Reading) (column : ℕ) (type : DataType) → FitsOptions o → reading.missing_is_null ≡ true
    → IsNullWritable o reading (means_null (nulls_of (written_null o)) column) type
null-writable o reading column type h missing =
    let bare = bare-lacks o.separator o.quote o.null h.null in
    record {
      missing = λ none. ap (λ (t : Bool). missing_value t type) missing ∙ missing-null type;
      meant = λ full. null-meant (written_null o) column full;
      bare = not_quoted o.quote o.null bare.0;
      whole = no_end 13 (length o.null - 1) o.null bare.1;
      no_return = h.dialect.quote.1;
    }

null-cell : (o : WriteOptions) (reading : Reading) (column : ℕ) (type : DataType) → FitsOptions o → reading.missing_is_null ≡ true
    → cell reading (means_null (nulls_of (written_null o)) column) (Some o.quote) type (written_cell o type None) ≡ Ok None
null-cell o reading column type h missing = null-returns reading (means_null (nulls_of (written_null o)) column) o type (null-writable o reading column type h missing)

-- ---- cells

own-cell : (o : WriteOptions) (reading : Reading) (column : ℕ) (type : DataType) (value : Option Scalar) → FitsOptions o → is_readable type ≡ true → FitsCell o type value → reading.missing_is_null ≡ true
    → cell reading (means_null (nulls_of (written_null o)) column) (Some o.quote) type (written_cell o type value) ≡ Ok value
own-cell o reading column type None h can fits missing = null-cell o reading column type h missing
own-cell o reading column type (Some value) h can fits missing = field-returns reading (means_null (nulls_of (written_null o)) column) o type value (value-writable o column type value h can fits)

pub cell-returns : (o : WriteOptions) (reading : Reading) (column : ℕ) (type : DataType) (value : Option Scalar) (tail : List ℕ)
    → FitsOptions o → is_readable type ≡ true → FitsCell o type value → reading.missing_is_null ≡ true → IsLineTail tail
    → cell reading (means_null (nulls_of (written_null o)) column) (Some o.quote) type (written_cell o type value ++ tail) ≡ Ok value
cell-returns o reading column type value tail h can fits missing (inl none) =
    ap (λ t. cell reading (means_null (nulls_of (written_null o)) column) (Some o.quote) type (written_cell o type value ++ t)) none
    ∙ ap (cell reading (means_null (nulls_of (written_null o)) column) (Some o.quote) type) (append-nil (written_cell o type value))
    ∙ own-cell o reading column type value h can fits missing
cell-returns o reading column type value tail h can fits missing (inr is) =
    ap (λ t. cell reading (means_null (nulls_of (written_null o)) column) (Some o.quote) type (written_cell o type value ++ t)) is
    ∙ tail-returns reading (means_null (nulls_of (written_null o)) column) o.quote type (written_cell o type value) h.dialect.quote.1 (written-end o (written_cell o type value) h (written-cell o type value h can fits))
    ∙ own-cell o reading column type value h can fits missing
