-- How the cells of a column are written, settled once for the column.
use Rattle.std.specs.Prelude.{◌≡◌, ℕ, ℤ, List, Option, None, Some}
use Rattle.std.specs.Fmt.{signed_decimal}
use Rattle.pl_frame.specs.declared.data_type.DataType.{DataType}
use Rattle.pl_text.specs.ValueText.{number_text}
use Rattle.pl_text.specs.FrameText.{WriteOptions, written_null, written_text, written_value}
use Rattle.pl_frame.specs.Types.{is_numeric}
use Rattle.pl_write.specs.declared.cell_form.CellForm.{CellForm}
use Rattle.pl_write.specs.declared.cell_form.CellForm.TheVariants as form

-- written in this form, the values of the type come out as the style asks
abbrev pub FitsForm : CellForm → WriteOptions → DataType → Type 0
FitsForm form.Digits o type = (n : ℤ) → written_value o (is_numeric type) (number_text type n) ≡ signed_decimal n
FitsForm form.AsNeeded o type = o.style ≡ 0
FitsForm form.ByCell o type = Unit {0}

-- the text of a number, or what stands for a null
abbrev pub number_or_null : (ℤ → List ℕ) → WriteOptions → Option ℤ → List ℕ
number_or_null text o None = written_null o
number_or_null text o (Some n) = text n

-- a text, or what stands for a null
abbrev pub text_or_null : WriteOptions → Option (List ℕ) → List ℕ
text_or_null o None = written_null o
text_or_null o (Some text) = written_text o text
