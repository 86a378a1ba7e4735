-- Texts and truth values that are printed and read.
use Rattle.std.proofs.Common.{◌≡◌, ℕ, Bool, true, false, List, Some, refl}
use Rattle.std.specs.Str.{is_utf8, bytes_eq}
use Rattle.std.specs.List.{list_any}
use Rattle.pl_frame.specs.declared.data_type.DataType.{DataType}
use Rattle.pl_frame.specs.declared.data_type.DataType.TheVariants as dtype
use Rattle.pl_frame.specs.Columns.{is_value_of}
use Rattle.pl_frame.specs.Frame.{Truth, Letters}
use Rattle.pl_cells.proofs.IntegerLaws.{and_true}
use Rattle.pl_round_trip.specs.RoundTrip.{Returns}

pub boolean-returns : (b : Bool) → Returns dtype.Boolean (Truth b)
boolean-returns true = refl
boolean-returns false = refl

pub among : (d : List (List ℕ)) (text : List ℕ) → is_value_of (dtype.Enum (Some d)) (Letters text) ≡ true → list_any (bytes_eq text) d ≡ true
among d text h = (and_true (is_utf8 text) (list_any (bytes_eq text) d) h).1

pub text-returns : (type : DataType) (text : List ℕ) → is_value_of type (Letters text) ≡ true → Returns type (Letters text)
text-returns dtype.String text h = refl
text-returns dtype.Categorical text h = refl
text-returns (dtype.Enum (Some d)) text h = rw (among d text h) refl
text-returns type text h = let no = (and_true (is_utf8 text) false h).1 in cc
