-- What is wrong with a cell (docs/types.md, "Cells").
use Rattle.pl_frame.specs.declared.error.FaultKind.{FaultKind}
use Rattle.pl_frame.specs.declared.error.FaultKind.TheVariants as kind

-- a quoted field that does not end with its quote, a text that is not UTF-8, or a text that has no value of the type
pub data Fault : Type 0 where
  Escape : Fault
  Utf8 : Fault
  Value : Fault

-- the kind by which a fault is told
abbrev pub kind_of : Fault → FaultKind
kind_of Escape = kind.Escape
kind_of Utf8 = kind.Utf8
kind_of Value = kind.Value
