-- Worked rows of the definitions, each by computing.
use Rattle.std.proofs.Common.{◌≡◌, ℕ, pos, neg_ℤ, Bool, true, false, List, [], ◌∷◌, None, Some, Ok, Err, refl}
use Rattle.std.specs.Prelude.{codes}
use Rattle.std.specs.Str.{is_utf8, chars}
use Rattle.std.specs.Char.{encode_utf8}
use Rattle.pl_frame.specs.declared.data_type.DataType.{DataType}
use Rattle.pl_frame.specs.declared.data_type.DataType.TheVariants as dtype
use Rattle.pl_cells.specs.Faults as fault
use Rattle.pl_frame.specs.Frame.{Truth, Number, Letters}
use Rattle.pl_cells.specs.declared.utf8.CsvEncoding.TheVariants as encoding
use Rattle.pl_cells.specs.Values.{value_of_text}
use Rattle.pl_cells.specs.Cells.{Cell, Reading, cell}
use Rattle.pl_cells.specs.NullValues.{is_null_text, compiled_for}
use Rattle.pl_cells.specs.declared.null_values.NullValues.TheVariants as values

-- ---- values of texts

least_int8 : value_of_text dtype.Int8 (codes "-128") ≡ Some (Number (neg_ℤ (pos 128)))
least_int8 = refl

past_int8 : value_of_text dtype.Int8 (codes "128") ≡ None
past_int8 = refl

unsigned_minus : value_of_text dtype.UInt8 (codes "-0") ≡ None
unsigned_minus = refl

unsigned_plus : value_of_text dtype.UInt64 (codes "+18446744073709551615") ≡ Some (Number (pos 18446744073709551615))
unsigned_plus = refl

any_case : value_of_text dtype.Boolean (codes "TruE") ≡ Some (Truth true)
any_case = refl

last_second : value_of_text dtype.Time (codes "23:59:59.5") ≡ Some (Number (pos 86399500000000))
last_second = refl

no_february : value_of_text dtype.Date (codes "2023-02-29") ≡ None
no_february = refl

scale_one : value_of_text (dtype.Decimal None (Some 1)) (codes "1.50") ≡ Some (Number (pos 15))
scale_one = refl

past_scale : value_of_text (dtype.Decimal None (Some 1)) (codes "1.55") ≡ None
past_scale = refl

no_whole : value_of_text (dtype.Decimal None (Some 1)) (codes "-.5") ≡ Some (Number (neg_ℤ (pos 5)))
no_whole = refl

no_digit : value_of_text (dtype.Decimal None (Some 1)) (codes ".") ≡ None
no_digit = refl

-- ---- cells of fields

abbrev plain : Reading
plain = record { encoding = encoding.Utf8; missing_is_null = true; ignore_errors = false }

abbrev keeping : Reading
keeping = record { encoding = encoding.Utf8; missing_is_null = false; ignore_errors = false }

abbrev ignoring : Reading
ignoring = record { encoding = encoding.LossyUtf8; missing_is_null = true; ignore_errors = true }

abbrev in_quotes : Reading → DataType → List ℕ → Cell
in_quotes reading type field = cell reading (λ text. false) (Some 34) type field

lone_quote : in_quotes ignoring dtype.Date (34 ∷ []) ≡ Err fault.Escape
lone_quote = refl

blank_number : in_quotes plain dtype.Int64 (codes "\" 7\"") ≡ Ok (Some (Number (pos 7)))
blank_number = refl

only_blanks : in_quotes plain dtype.Int64 (32 ∷ 9 ∷ []) ≡ Ok None
only_blanks = refl

wrong_number : in_quotes plain dtype.Int64 (codes "x") ≡ Err fault.Value
wrong_number = refl

ignored_number : in_quotes ignoring dtype.Int64 (codes "x") ≡ Ok None
ignored_number = refl

undoubled : in_quotes plain dtype.String (codes "\"a\"\"b\"c\"") ≡ Ok (Some (Letters (codes "a\"bc")))
unfolding is_utf8 chars encode_utf8
undoubled = refl

missing_text : in_quotes keeping dtype.String [] ≡ Ok (Some (Letters []))
missing_text = refl

missing_category : in_quotes keeping dtype.Categorical [] ≡ Ok None
missing_category = refl

empty_category : in_quotes plain dtype.Categorical (codes "\"\"") ≡ Ok (Some (Letters []))
unfolding is_utf8 chars encode_utf8
empty_category = refl

empty_enum : in_quotes plain (dtype.Enum (Some (codes "x" ∷ codes "y" ∷ []))) (codes "\"\"") ≡ Err fault.Value
unfolding is_utf8 chars encode_utf8
empty_enum = refl

enum_outside : in_quotes plain (dtype.Enum (Some (codes "x" ∷ codes "y" ∷ []))) (codes "z") ≡ Err fault.Value
unfolding is_utf8 chars encode_utf8
enum_outside = refl

not_utf8 : in_quotes plain dtype.String (255 ∷ []) ≡ Err fault.Utf8
unfolding is_utf8 chars encode_utf8
not_utf8 = refl

category_not_utf8 : in_quotes (record { encoding = encoding.LossyUtf8; missing_is_null = true; ignore_errors = false }) dtype.Categorical (255 ∷ []) ≡ Err fault.Utf8
unfolding is_utf8 chars encode_utf8
category_not_utf8 = refl

date_with_return : in_quotes plain dtype.Date (codes "\"\"\r") ≡ Ok None
date_with_return = refl

-- ---- null texts

-- `NA` means null in the column `a`, and no text is given for the column `b`
abbrev in_column_a : List ℕ → Bool
in_column_a = is_null_text (compiled_for (values.Named ((codes "a", codes "-") ∷ (codes "a", codes "NA") ∷ [])) ((codes "a", dtype.String) ∷ (codes "b", dtype.String) ∷ [])) 0

abbrev in_column_b : List ℕ → Bool
in_column_b = is_null_text (compiled_for (values.Named ((codes "a", codes "NA") ∷ [])) ((codes "a", dtype.String) ∷ (codes "b", dtype.String) ∷ [])) 1

null_of_a : cell plain in_column_a (Some 34) dtype.String (codes "NA\r") ≡ Ok None
null_of_a = refl

text_in_quotes : cell plain in_column_a (Some 34) dtype.String (codes "\"NA\"") ≡ Ok (Some (Letters (codes "NA")))
unfolding is_utf8 chars encode_utf8
text_in_quotes = refl

-- `"NA"`, with its quotes, means null in the column `a`
abbrev with_quotes : List ℕ → Bool
with_quotes = is_null_text (compiled_for (values.Named ((codes "a", codes "\"NA\"") ∷ [])) ((codes "a", dtype.String) ∷ [])) 0

null_in_quotes : cell plain with_quotes (Some 34) dtype.String (codes "\"NA\"") ≡ Ok None
null_in_quotes = refl

plain_text : cell plain with_quotes (Some 34) dtype.String (codes "NA") ≡ Ok (Some (Letters (codes "NA")))
unfolding is_utf8 chars encode_utf8
plain_text = refl

earlier_entry : cell plain in_column_a (Some 34) dtype.String (codes "-") ≡ Ok (Some (Letters (codes "-")))
unfolding is_utf8 chars encode_utf8
earlier_entry = refl

quoted_stays_empty : cell plain in_column_b (Some 34) dtype.String (codes "\"\"") ≡ Ok (Some (Letters []))
unfolding is_utf8 chars encode_utf8
quoted_stays_empty = refl

missing_stays_empty : cell keeping in_column_b (Some 34) dtype.String [] ≡ Ok (Some (Letters []))
missing_stays_empty = refl

escape_comes_first : cell ignoring in_column_b (Some 34) dtype.String (34 ∷ []) ≡ Err fault.Escape
escape_comes_first = refl
