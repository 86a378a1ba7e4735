-- The forms in which columns are written.
use Rattle.std.proofs.Common.{◌≡◌, ℕ, Bool, true, if◌then◌else◌, List, sym, ap, true≢false}
use Rattle.pl_frame.specs.declared.data_type.DataType.{DataType}
use Rattle.pl_frame.specs.declared.data_type.DataType.TheVariants as dtype
use Rattle.pl_text.specs.FrameText.{WriteOptions, is_bare, quoted, written_value}
use Rattle.pl_frame.specs.Types.{is_whole_number}
use Rattle.pl_write.specs.declared.cell_form.CellForm.TheVariants as form
use Rattle.pl_write.specs.CellForms.{FitsForm}

-- a number that stands without quotes
bare_number : (o : WriteOptions) (text : List ℕ) → is_bare o.style true ≡ true → written_value o true text ≡ text
bare_number o text bare = ap (λ (b : Bool). if b then text else quoted o.quote text) bare

-- whole numbers that stand without quotes are their digits
pub digits_fit : (o : WriteOptions) (type : DataType) → is_whole_number type ≡ true → is_bare o.style true ≡ true → FitsForm form.Digits o type
digits_fit o dtype.Boolean whole bare = absurd (true≢false (sym whole))
digits_fit o dtype.Int8 whole bare = λ n. bare_number o _ bare
digits_fit o dtype.Int16 whole bare = λ n. bare_number o _ bare
digits_fit o dtype.Int32 whole bare = λ n. bare_number o _ bare
digits_fit o dtype.Int64 whole bare = λ n. bare_number o _ bare
digits_fit o dtype.Int128 whole bare = λ n. bare_number o _ bare
digits_fit o dtype.UInt8 whole bare = λ n. bare_number o _ bare
digits_fit o dtype.UInt16 whole bare = λ n. bare_number o _ bare
digits_fit o dtype.UInt32 whole bare = λ n. bare_number o _ bare
digits_fit o dtype.UInt64 whole bare = λ n. bare_number o _ bare
digits_fit o dtype.String whole bare = absurd (true≢false (sym whole))
digits_fit o dtype.Categorical whole bare = absurd (true≢false (sym whole))
digits_fit o (dtype.Enum categories) whole bare = absurd (true≢false (sym whole))
digits_fit o dtype.Date whole bare = absurd (true≢false (sym whole))
digits_fit o dtype.Time whole bare = absurd (true≢false (sym whole))
digits_fit o (dtype.Datetime unit) whole bare = absurd (true≢false (sym whole))
digits_fit o (dtype.Decimal precision scale) whole bare = absurd (true≢false (sym whole))
digits_fit o dtype.Null whole bare = absurd (true≢false (sym whole))
