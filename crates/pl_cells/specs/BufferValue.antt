-- What a buffer holds, and what a cell adds to it (docs/types.md, "Buffers").
use Rattle.std.specs.Prelude.{◌≡◌, ℕ, ◌++◌, Bool, true, false, List, [], ◌∷◌, take, Option, Result, Ok, Err}
use Rattle.pl_frame.specs.declared.data_type.DataType.{DataType}
use Rattle.pl_frame.specs.Frame.{Scalar, ColumnValue}
use Rattle.pl_cells.specs.declared.cell_fault.CellFault.{CellFault}
use Rattle.pl_cells.specs.declared.cell_fault.CellFault.TheVariants as cell_fault
use Rattle.pl_cells.specs.declared.utf8.CsvEncoding.{CsvEncoding}
use Rattle.pl_cells.specs.Cells.{Cell, Reading}
use Rattle.pl_cells.specs.Faults as fault

-- a column that is being read: its name, its type, how its texts are read, and its cells so far
pub record BufferValue : Type 0 where
  pub name : List ℕ
  pub dtype : DataType
  pub quote_char : Option ℕ
  pub encoding : CsvEncoding
  pub values : List (Option Scalar)

-- the column that it is, once all is read
abbrev pub column_of : BufferValue → ColumnValue
column_of buffer = record { name = buffer.name; dtype = buffer.dtype; values = buffer.values }

-- the same with these cells
abbrev pub holding : BufferValue → List (Option Scalar) → BufferValue
holding buffer values = record {
  name = buffer.name;
  dtype = buffer.dtype;
  quote_char = buffer.quote_char;
  encoding = buffer.encoding;
  values = values;
}

-- the same with these cells more
abbrev pub with_more : BufferValue → List (Option Scalar) → BufferValue
with_more buffer more = holding buffer (buffer.values ++ more)

-- the same with one more
abbrev pub with_value : BufferValue → Option Scalar → BufferValue
with_value buffer value = with_more buffer (value ∷ [])

-- the same with the first so many of its cells, or with all if there are fewer
abbrev pub cut_to : ℕ → BufferValue → BufferValue
cut_to len buffer = holding buffer (take len buffer.values)

-- how texts of an encoding are read
abbrev pub reading_with : CsvEncoding → Bool → Bool → Reading
reading_with encoding missing_is_null ignore_errors = record { encoding = encoding; missing_is_null = missing_is_null; ignore_errors = ignore_errors }

-- how a buffer reads
abbrev pub reading_of : BufferValue → Bool → Bool → Reading
reading_of buffer missing_is_null ignore_errors = reading_with buffer.encoding missing_is_null ignore_errors

-- ---- what a cell adds

-- the cell has the fault, or memory was wanting
abbrev pub IsCellFault : CellFault → Cell → Type 0
IsCellFault cell_fault.OutOfMemory c = Unit {0}
IsCellFault cell_fault.Escape c = c ≡ Err fault.Escape
IsCellFault cell_fault.Utf8 c = c ≡ Err fault.Utf8
IsCellFault cell_fault.Value c = c ≡ Err fault.Value

-- the fault is one of those that give a null where errors are ignored
abbrev pub is_ignored : Bool → CellFault → Bool
is_ignored true cell_fault.Utf8 = true
is_ignored true cell_fault.Value = true
is_ignored _ wrong = false

-- the cell has a value, which stands at the end
pub record Adds {B : Type 0} (push : B → Option Scalar → B) (old new : B) (c : Cell) : Type 0 where
  pub value : Option Scalar
  pub is : c ≡ Ok value
  pub pushed : new ≡ push old value

-- the cell was added, or it has the fault that is answered and nothing changed
abbrev pub AnswersBy : {B T : Type 0} → (B → Option Scalar → B) → B → B → Cell → Result T CellFault → Type 0
AnswersBy push old new c (Ok done) = Adds push old new c
AnswersBy push old new c (Err wrong) = IsCellFault wrong c × (new ≡ old)

-- the same of a buffer
abbrev pub Answers : {T : Type 0} → BufferValue → BufferValue → Cell → Result T CellFault → Type 0
Answers old new c result = AnswersBy with_value old new c result

-- the same of a list of values
abbrev pub ListAnswers : {T : Type 0} → List (Option Scalar) → List (Option Scalar) → Cell → Result T CellFault → Type 0
ListAnswers old new c result = AnswersBy (λ values value. values ++ value ∷ []) old new c result
