-- When options of a writer are equal (docs/quoting.md).
use Rattle.std.specs.Prelude.{◌≡◌, Bool}
use Rattle.std.specs.Bool.{Decides}
use Rattle.pl_write.specs.contracts.options.SerializeOptionsPartialEq.TheImpl as cells
use Rattle.pl_write.specs.contracts.options.CsvWriterOptionsPartialEq.TheImpl as writers
use Rattle.pl_write.specs.declared.options.SerializeOptions.{SerializeOptions}
use Rattle.pl_write.specs.declared.options.CsvWriterOptions.{CsvWriterOptions}

-- what `==` of the options of cells answers
abbrev pub cells_equal : SerializeOptions → SerializeOptions → Bool
cells_equal = cells.ghosts.eq

-- it tells whether two of them are one
abbrev pub CellOptionsAreTold : Type 0
CellOptionsAreTold = (a b : SerializeOptions) → Decides (cells_equal a b) (a ≡ b)

-- what `==` of the options of a writer answers
abbrev pub options_equal : CsvWriterOptions → CsvWriterOptions → Bool
options_equal = writers.ghosts.eq

-- it tells whether two of them are one
abbrev pub WriterOptionsAreTold : Type 0
WriterOptionsAreTold = (a b : CsvWriterOptions) → Decides (options_equal a b) (a ≡ b)
