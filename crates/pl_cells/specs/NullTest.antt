-- The null test of a field (docs/types.md, "Null values").
use Rattle.std.specs.Prelude.{ℕ, Bool, false, ◌&&◌, List, Option, None, Some}
use Rattle.pl_cells.specs.Quoting.{is_well_quoted}

-- which texts mean null
abbrev pub NullTest : Type 0
NullTest = List ℕ → Bool

-- none does
abbrev pub nothing_is_null : NullTest
nothing_is_null text = false

-- of a field without its carriage return, given the quote that it begins with: as it stands, with its quotes, it means null; and it is
-- plain or well quoted
abbrev pub null_test : NullTest → Option ℕ → List ℕ → Bool
null_test is_null None text = is_null text
null_test is_null (Some q) text = is_null text && is_well_quoted q text
