-- The type that a text gives where types are inferred (docs/types.md, "Inference").
use Rattle.std.specs.Prelude.{◌≢◌, ℕ, Bool, true, false, ◌&&◌, ◌==◌, if◌then◌else◌, List, [], ◌∷◌, Option, None, Some, is_some, unwrap_or, AllPairs}
use Rattle.std.specs.List.{list_all}
use Rattle.pl_frame.specs.declared.data_type.DataType.{DataType}
use Rattle.pl_frame.specs.declared.data_type.DataType.TheVariants as dtype
use Rattle.pl_frame.specs.declared.data_type.TimeUnit.TheVariants as unit
use Rattle.pl_frame.specs.Equal.{types_equal}
use Rattle.pl_cells.specs.Booleans.{boolean_value}
use Rattle.pl_cells.specs.Dates.{date_value}
use Rattle.pl_cells.specs.Integers.{is_integer_text}
use Rattle.pl_cells.specs.Quoting.{inside, is_well_quoted}
use Rattle.pl_cells.specs.Times.{time_value, datetime_value}

-- a text that is a date, a time or a datetime
abbrev pub moment_type : List ℕ → Option DataType
moment_type text =
    if is_some (date_value text) then Some dtype.Date
    else if is_some (time_value text) then Some dtype.Time
    else if is_some (datetime_value unit.Microseconds text) then Some (dtype.Datetime unit.Microseconds)
    else None

-- the first byte is a double quote
abbrev pub begins_with_quote : List ℕ → Bool
begins_with_quote [] = false
begins_with_quote (x ∷ xs) = x == 34

-- The type of a text: a boolean, a whole number of any length, where dates are tried a date, a time or a datetime, and else
-- a string. A text that begins with a double quote is a string, but for one that ends with another and has a date, a time or
-- a datetime between them, where these are tried.
abbrev pub inferred_type : Bool → List ℕ → DataType
inferred_type dates text =
    if begins_with_quote text then (if dates && is_well_quoted 34 text then unwrap_or (moment_type (inside text)) dtype.String else dtype.String)
    else if is_some (boolean_value text) then dtype.Boolean
    else if is_integer_text text then dtype.Int64
    else if dates then unwrap_or (moment_type text) dtype.String
    else dtype.String

-- the type of a column of which these types were seen: the one that each of them is, or else a string
abbrev pub agreed_type : List DataType → DataType
agreed_type [] = dtype.String
agreed_type (type ∷ types) = if list_all (types_equal type) types then type else dtype.String

-- ---- types that were seen, each once

-- a text may give the type
abbrev pub is_inferable : DataType → Bool
is_inferable dtype.Boolean = true
is_inferable dtype.Int64 = true
is_inferable dtype.Date = true
is_inferable dtype.Time = true
is_inferable (dtype.Datetime unit.Microseconds) = true
is_inferable dtype.String = true
is_inferable _ = false

-- no type stands twice
abbrev pub HaveNoRepeats : List DataType → Type 0
HaveNoRepeats types = AllPairs (λ a b. a ≢ b) types

-- the one type, where there is exactly one, or else a string
abbrev pub finished_type : List DataType → DataType
finished_type (type ∷ []) = type
finished_type _ = dtype.String
