-- An index of record places, and its bytes.
use Rattle.std.specs.Prelude.{◌≡◌, ℕ, ◌+◌, ◌<◌, ◌^◌, List, [], ◌∷◌, ◌++◌, length, slice_index, codes, Bool, true, false, Option, Some, None, All}
use Rattle.std.specs.Int.{w64, to_be_bytes, div_ceil}
use Rattle.std.specs.List.{flat_map}
use Rattle.pl_seek.specs.declared.settings.Settings.{Settings}

-- The digest of an input; the settings that tell where its records begin, and the comment prefix, which is empty where
-- there are no comments; how many records are a group; how many there are; where each group begins.
pub record Index : Type 0 where
  pub digest : List ℕ
  pub settings : Settings
  pub comment_prefix : List ℕ
  pub every : ℕ
  pub records : ℕ
  pub places : List ℕ

-- each place is behind the one before it
abbrev pub AreRising : List ℕ → Type 0
AreRising places = (k : ℕ) → k + 1 < length places → slice_index places k < slice_index places (k + 1)

-- there are as many places as groups of records, and they rise
abbrev pub ArePlaces : ℕ → ℕ → List ℕ → Type 0
ArePlaces every records places = (0 < every) × (length places ≡ div_ceil records every) × AreRising places

-- what has bytes: a digest of 256 bits, numbers below 2 ^ 64, and such places
pub record IsIndex (i : Index) : Type 0 where
  pub digest : length i.digest ≡ 32
  pub skip_rows : i.settings.skip_rows < 2 ^ 64
  pub skip_lines : i.settings.skip_lines < 2 ^ 64
  pub skip_rows_after_header : i.settings.skip_rows_after_header < 2 ^ 64
  pub comment_prefix : length i.comment_prefix < 2 ^ 64
  pub every : i.every < 2 ^ 64
  pub records : i.records < 2 ^ 64
  pub each : All (λ place. place < 2 ^ 64) i.places
  pub places : ArePlaces i.every i.records i.places

-- what each index begins with, the last byte a line feed
abbrev pub magic : List ℕ
magic = codes "PLSEEK1" ++ 10 ∷ []

-- a number has eight bytes, the highest first
abbrev pub number_bytes : ℕ → List ℕ
number_bytes n = to_be_bytes w64 n

-- 1 where it holds, else 0
abbrev pub flag_bytes : Bool → List ℕ
flag_bytes true = 1 ∷ []
flag_bytes false = 0 ∷ []

-- 1 and the quote, or two zeros where there is none
abbrev pub quote_bytes : Option ℕ → List ℕ
quote_bytes (Some quote) = 1 ∷ quote ∷ []
quote_bytes None = 0 ∷ 0 ∷ []

-- the length of the text, and its bytes
abbrev pub text_bytes : List ℕ → List ℕ
text_bytes text = number_bytes (length text) ++ text

-- the separator, the quote, the line end, whether there is a header, whether leading line ends are kept, and what is skipped
abbrev pub settings_bytes : Settings → List ℕ
settings_bytes s =
    s.separator ∷ quote_bytes s.quote_char ++ s.eol_char ∷ flag_bytes s.has_header ++ flag_bytes s.keep_ends
    ++ number_bytes s.skip_rows ++ number_bytes s.skip_lines ++ number_bytes s.skip_rows_after_header

-- the bytes of an index
unfoldable pub index_bytes : Index → List ℕ
index_bytes i =
    magic ++ i.digest ++ settings_bytes i.settings ++ text_bytes i.comment_prefix
    ++ number_bytes i.every ++ number_bytes i.records ++ flat_map number_bytes i.places

-- the bytes are those of an index
abbrev pub HasIndex : List ℕ → Type 0
HasIndex bytes = (i : Index) × IsIndex i × (bytes ≡ index_bytes i)

-- no two indices have the same bytes
abbrev pub IndicesDiffer : Type 0
IndicesDiffer = (a b : Index) → IsIndex a → IsIndex b → index_bytes a ≡ index_bytes b → a ≡ b
