-- How codes among one dictionary are found among another.
use Rattle.std.specs.Prelude.{◌≡◌, ℕ, [], List, length, slice_index_or, position, Option, None, Some}
use Rattle.std.specs.Str.{bytes_eq}

-- for some texts of a dictionary, the code that each has in one's own
pub record AreTranslated (own others : List (List ℕ)) (codes : List (Option ℕ)) : Type 0 where
  pub one_length : length codes ≡ length others
  pub found : (k code : ℕ) → slice_index_or codes k None ≡ Some code → position (bytes_eq (slice_index_or others k [])) own ≡ Some code
