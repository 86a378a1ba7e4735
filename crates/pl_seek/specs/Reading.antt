-- The bytes of an index, read from the left. Only the proofs of the code need this.
use Rattle.std.specs.Prelude.{◌≡◌, ℕ, zero, suc, ◌/◌, ◌%◌, List, [], ◌∷◌, length, take, drop, Bool, true, false, Option, Some, None, nat_lt, if◌then◌else◌}
use Rattle.std.specs.Int.{w64, from_be_bytes}
use Rattle.pl_seek.specs.Index.{Index, magic, ArePlaces}
use Rattle.pl_seek.specs.declared.settings.Settings.{Settings}

infixl 10 ◌>>=◌
abbrev pub ◌>>=◌ : {A B : Type 0} → Option A → (A → Option B) → Option B
(Some x) >>= f = f x
None >>= f = None

-- a value, and the bytes behind it
abbrev pub Found : Type 0 → Type 0
Found A = Option (A × List ℕ)

-- one value, and another behind it
abbrev pub both : {A B : Type 0} → (List ℕ → Found A) → (List ℕ → Found B) → List ℕ → Found (A × B)
both first second bytes = do
  a ← first bytes
  b ← second a.1
  Some ((a.0, b.0), b.1)

-- what f makes of the value
abbrev pub mapped : {A B : Type 0} → (A → B) → (List ℕ → Found A) → List ℕ → Found B
mapped f read bytes = do
  a ← read bytes
  Some (f a.0, a.1)

abbrev pub bytes_at : ℕ → List ℕ → Found (List ℕ)
bytes_at n bytes = if nat_lt (length bytes) n then None else Some (take n bytes, drop n bytes)

abbrev pub number_at : List ℕ → Found ℕ
number_at bytes = if nat_lt (length bytes) 8 then None else Some (from_be_bytes w64 (take 8 bytes), drop 8 bytes)

abbrev pub byte_at : List ℕ → Found ℕ
byte_at [] = None
byte_at (b ∷ bytes) = Some (b, bytes)

unfoldable pub flag_at : List ℕ → Found Bool
flag_at [] = None
flag_at (zero ∷ bytes) = Some (false, bytes)
flag_at (suc zero ∷ bytes) = Some (true, bytes)
flag_at (suc (suc b) ∷ bytes) = None

unfoldable pub quote_at : List ℕ → Found (Option ℕ)
quote_at [] = None
quote_at (a ∷ []) = None
quote_at (zero ∷ zero ∷ bytes) = Some (None, bytes)
quote_at (zero ∷ suc b ∷ bytes) = None
quote_at (suc zero ∷ b ∷ bytes) = Some (Some b, bytes)
quote_at (suc (suc a) ∷ b ∷ bytes) = None

unfoldable pub text_at : List ℕ → Found (List ℕ)
text_at bytes = do
  n ← number_at bytes
  bytes_at n.0 n.1

-- the settings one behind the other
abbrev pub InOrder : Type 0
InOrder = ℕ × (Option ℕ × (ℕ × (Bool × (Bool × (ℕ × (ℕ × ℕ))))))

abbrev pub settings_of : InOrder → Settings
settings_of x = record {
  separator = x.0;
  quote_char = x.1.0;
  eol_char = x.1.1.0;
  has_header = x.1.1.1.0;
  keep_ends = x.1.1.1.1.0;
  skip_rows = x.1.1.1.1.1.0;
  skip_lines = x.1.1.1.1.1.1.0;
  skip_rows_after_header = x.1.1.1.1.1.1.1;
}

unfoldable pub settings_at : List ℕ → Found Settings
settings_at = mapped settings_of (both byte_at (both quote_at (both byte_at (both flag_at (both flag_at (both number_at (both number_at number_at)))))))

-- what stands in front of the places, in its order
abbrev pub Head : Type 0
Head = List ℕ × (List ℕ × (Settings × (List ℕ × (ℕ × ℕ))))

unfoldable pub head_at : List ℕ → Found Head
head_at = both (bytes_at 8) (both (bytes_at 32) (both settings_at (both text_at (both number_at number_at))))

-- the parts of an index, with its places as they are written
pub record Parts : Type 0 where
  pub magic : List ℕ
  pub digest : List ℕ
  pub settings : Settings
  pub comment_prefix : List ℕ
  pub every : ℕ
  pub records : ℕ
  pub places : List ℕ

abbrev pub parts_of : Head × List ℕ → Parts
parts_of x = record {
  magic = x.0.0;
  digest = x.0.1.0;
  settings = x.0.1.1.0;
  comment_prefix = x.0.1.1.1.0;
  every = x.0.1.1.1.1.0;
  records = x.0.1.1.1.1.1;
  places = x.1;
}

unfoldable pub parts_in : List ℕ → Option Parts
parts_in bytes = do
  head ← head_at bytes
  Some (parts_of head)

-- so many numbers
abbrev pub numbers_in : ℕ → List ℕ → List ℕ
numbers_in zero bytes = []
numbers_in (suc n) bytes = from_be_bytes w64 (take 8 bytes) ∷ numbers_in n (drop 8 bytes)

-- the index of these parts
abbrev pub index_of : Parts → Index
index_of p = record {
  digest = p.digest;
  settings = p.settings;
  comment_prefix = p.comment_prefix;
  every = p.every;
  records = p.records;
  places = numbers_in (length p.places / 8) p.places;
}

-- the parts begin as an index does, and have as many bytes of places as numbers have
abbrev pub HasForm : Parts → Type 0
HasForm p = (p.magic ≡ magic) × (length p.places % 8 ≡ 0)

-- there are as many places as groups of records, and they rise
abbrev pub HasPlaces : Parts → Type 0
HasPlaces p = ArePlaces p.every p.records (numbers_in (length p.places / 8) p.places)

-- the parts are those of an index
abbrev pub AreParts : Parts → Type 0
AreParts p = HasForm p × HasPlaces p
