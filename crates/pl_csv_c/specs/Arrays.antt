-- A column as arrays, as the view of it shows them (docs/c.md).
use Rattle.std.specs.Prelude.{◌≡◌, ℕ, ℤ, pos, negsuc, ◌+◌, ◌-◌, ◌%◌, ◌/◌, ◌^◌, if◌then◌else◌, List, [], ◌∷◌, length, map, Option, None, Some, is_some}
use Rattle.std.specs.List.{flat_map, range_with_len}
use Rattle.pl_csv_c.specs.declared.arrays.Arrays.{Arrays}
use Rattle.pl_csv_c.specs.declared.kinds.Kind.{Kind}
use Rattle.pl_csv_c.specs.declared.kinds.Kind.TheVariants as kind
use Rattle.pl_csv_c.specs.Kinds.{kind_of}
use Rattle.pl_frame.specs.Columns.{dictionary, code_at}
use Rattle.pl_frame.specs.Frame.{Scalar, Truth, Number, Letters, ColumnValue}

-- ---- cells

-- the number of a cell: 1 at true, and 0 at false and where there is none
abbrev pub number_in : Option Scalar → ℤ
number_in (Some (Number n)) = n
number_in (Some (Truth b)) = if b then pos 1 else pos 0
number_in _ = pos 0

-- the number of a cell where it is a whole number, and 0 elsewhere
abbrev pub wide_in : Option Scalar → ℤ
wide_in (Some (Number n)) = n
wide_in _ = pos 0

-- a number of 128 bits in two's complement
abbrev pub as_bits : ℤ → ℕ
as_bits (pos n) = n
as_bits (negsuc n) = (2 ^ 128 - 1) - n

-- its low word and its high word, of 64 bits each
abbrev pub low_word : ℤ → ℕ
low_word n = as_bits n % 2 ^ 64

abbrev pub high_word : ℤ → ℕ
high_word n = as_bits n / 2 ^ 64

-- the two words of a cell
abbrev pub words_in : Option Scalar → List ℕ
words_in cell = low_word (wide_in cell) ∷ high_word (wide_in cell) ∷ []

-- the text of a cell, which is empty where there is none
abbrev pub letters_in : Option Scalar → List ℕ
letters_in (Some (Letters text)) = text
letters_in _ = []

-- where the texts of cells end that stand one behind the other, from a place on
abbrev pub ends_behind : ℕ → List (Option Scalar) → List ℕ
ends_behind at [] = []
ends_behind at (cell ∷ cells) = (at + length (letters_in cell)) ∷ ends_behind (at + length (letters_in cell)) cells

-- a number, and 0 where there is none
abbrev pub or_zero : Option ℤ → ℤ
or_zero (Some n) = n
or_zero None = pos 0

-- ---- what of the cells each array has

abbrev pub numbers_of : Kind → List (Option Scalar) → List ℤ
numbers_of kind.Numbers cells = map number_in cells
numbers_of _ cells = []

abbrev pub words_of : Kind → List (Option Scalar) → List ℕ
words_of kind.Words cells = flat_map words_in cells
words_of _ cells = []

abbrev pub bytes_of : Kind → List (Option Scalar) → List ℕ
bytes_of kind.Texts cells = flat_map letters_in cells
bytes_of _ cells = []

abbrev pub ends_of : Kind → List (Option Scalar) → List ℕ
ends_of kind.Texts cells = 0 ∷ ends_behind 0 cells
ends_of _ cells = []

-- arrays have cells, which are no codes
pub record HaveCells (k : Kind) (cells : List (Option Scalar)) (arrays : Arrays) : Type 0 where
  pub present : arrays.present.items ≡ map is_some cells
  pub numbers : arrays.numbers.items ≡ numbers_of k cells
  pub words : arrays.words.items ≡ words_of k cells
  pub ends : arrays.ends.items ≡ ends_of k cells
  pub bytes : arrays.bytes.items ≡ bytes_of k cells

-- ---- codes

-- a code as a number, 0 where there is none
abbrev pub code_number : Option ℕ → ℤ
code_number (Some code) = pos code
code_number None = pos 0

-- the place of each row's text among the categories, 0 where there is none
abbrev pub codes_of : ColumnValue → List ℤ
codes_of column = map (λ row. code_number (code_at column row)) (range_with_len 0 (length column.values))

-- arrays have the codes of a column, and its categories
pub record HaveCodes (column : ColumnValue) (arrays : Arrays) : Type 0 where
  pub present : arrays.present.items ≡ map is_some column.values
  pub numbers : arrays.numbers.items ≡ codes_of column
  pub words : arrays.words.items ≡ []
  pub ends : arrays.ends.items ≡ []
  pub bytes : arrays.bytes.items ≡ []
  pub categories : map (λ text. text.items) arrays.categories.items ≡ dictionary column.dtype column.values

-- ---- a column

-- arrays have the cells of a column, and no categories
pub record HavePlain (k : Kind) (column : ColumnValue) (arrays : Arrays) : Type 0 where
  pub cells : HaveCells k column.values arrays
  pub none : arrays.categories.items ≡ []

-- the arrays that the cells of a type stand in have them, and the others are empty
abbrev pub AreArraysAs : Kind → ColumnValue → Arrays → Type 0
AreArraysAs kind.Codes column arrays = HaveCodes column arrays
AreArraysAs k column arrays = HavePlain k column arrays

abbrev pub AreArraysOf : ColumnValue → Arrays → Type 0
AreArraysOf column arrays = AreArraysAs (kind_of column.dtype) column arrays
