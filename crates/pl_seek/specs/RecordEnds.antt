-- Where records end in a text without comments, byte by byte and in words of 64 bits. Only the proofs of the code need this.
use Rattle.std.specs.Prelude.{◌≡◌, ℕ, zero, suc, ◌+◌, ◌-◌, ◌<◌, Bool, true, false, ◌||◌, ◌&&◌, not, ◌==◌, if◌then◌else◌, List, [], ◌∷◌, ◌++◌, length, get_or, drop, ◌≤◌, None}
use Rattle.pl_frame.specs.Dialect.{Marks}
use Rattle.pl_scan.specs.Bits.{test, odd_at}
use Rattle.pl_scan.specs.Fields.{is_quote, is_plain}
use Rattle.pl_seek.specs.Grouping.{HasSeen}
use Rattle.pl_seek.specs.Places.{record_places}
use Rattle.pl_seek.specs.declared.places.Groups.{Groups}
use Rattle.pl_seek.specs.declared.record_ends.Carry.{Carry}
use Rattle.pl_seek.specs.declared.record_ends.Found.{Found}

-- where a scan stands: at the start of a field, in one that is not quoted, or in a quoted one behind an odd or an even number of its quotes
pub data Stand : Type 0 where
  AtField : Stand
  InPlain : Stand
  InOdd : Stand
  InEven : Stand

abbrev pub is_odd : Stand → Bool
is_odd AtField = false
is_odd InPlain = false
is_odd InOdd = true
is_odd InEven = false

-- a quote that comes next is counted
abbrev pub is_fresh : Stand → Bool
is_fresh AtField = true
is_fresh InPlain = false
is_fresh InOdd = false
is_fresh InEven = true

-- behind a byte that is a separator or a line end, or the quote
abbrev pub stand_on : Stand → (plain quote : Bool) → Stand
stand_on AtField plain quote = if plain then (if quote then InOdd else InPlain) else AtField
stand_on InPlain plain quote = if plain then InPlain else AtField
stand_on InOdd plain quote = if quote then InEven else InOdd
stand_on InEven plain quote = if plain then (if quote then InOdd else InEven) else AtField

abbrev pub next_stand : Marks → Stand → ℕ → Stand
next_stand m s x = stand_on s (is_plain m x) (is_quote m.quote x)

-- the byte ends a record
abbrev pub ends_record : Marks → Stand → ℕ → Bool
ends_record m s x = x == m.line_end && not (is_odd s)

-- where a text begins that is the last bytes of an input of so many, unless it is empty
abbrev pub placed : ℕ → List ℕ → List ℕ
placed size [] = []
placed size (x ∷ xs) = (size - length (x ∷ xs)) ∷ []

-- the places of the records that begin behind a line end of such a text
abbrev pub begins : Marks → ℕ → Stand → List ℕ → List ℕ
begins m size s [] = []
begins m size s (x ∷ xs) = (if ends_record m s x then placed size xs else []) ++ begins m size (next_stand m s x) xs

-- behind so many bytes from a place on
unfoldable pub stand_from : Marks → Stand → List ℕ → ℕ → ℕ → Stand
stand_from m s b at zero = s
stand_from m s b at (suc i) = next_stand m (stand_from m s b at i) (get_or b (at + i) 0)

-- ---- words

-- a quote at a place of a word is known to be counted
abbrev pub may_open : (stops quotes : ℕ) → (odd fresh : Bool) → ℕ → Bool
may_open stops quotes odd fresh zero = fresh
may_open stops quotes odd fresh (suc i) = (test stops i || test quotes i) && not (odd_at quotes odd (suc i))

-- the words tell where records end, if each quote that would be an odd one is known to be counted
pub record AreFound (stops line_ends quotes : ℕ) (carry : Carry) (found : Found) : Type 0 where
  pub known : (i : ℕ) → i < 64 → test quotes i ≡ true → odd_at quotes carry.odd (suc i) ≡ true → may_open stops quotes carry.odd carry.fresh i ≡ true
  pub ends : (i : ℕ) → i < 64 → test found.ends i ≡ (test line_ends i && not (odd_at quotes carry.odd (suc i)))
  pub odd : found.behind.odd ≡ odd_at quotes carry.odd 64
  pub fresh : found.behind.fresh ≡ may_open stops quotes carry.odd carry.fresh 64

-- a scan that stands so has come so far
pub record IsCarried (s : Stand) (carry : Carry) : Type 0 where
  pub odd : carry.odd ≡ is_odd s
  pub fresh : carry.fresh ≡ true → is_fresh s ≡ true

-- the words tell which of the 64 bytes from a place on end a record, and how far a scan that stands so has come behind them
pub record IsScanned (m : Marks) (b : List ℕ) (at : ℕ) (s : Stand) (found : Found) : Type 0 where
  pub ends : (i : ℕ) → i < 64 → test found.ends i ≡ ends_record m (stand_from m s b at i) (get_or b (at + i) 0)
  pub behind : IsCarried (stand_from m s b at 64) found.behind

-- of the places that are all, those came that do not begin behind a place at which a scan stands so
pub record HasGone (m : Marks) (input : List ℕ) (groups : Groups) (all : List ℕ) (s : Stand) (at : ℕ) : Type 0 where
  pub seen : List ℕ
  pub has : HasSeen groups seen
  pub all_are : seen ++ begins m (length input) s (drop at input) ≡ all
  pub few : length all ≤ length input

-- the same, where no record begins between the last place and this one
pub record HasGoneOn (m : Marks) (input : List ℕ) (groups : Groups) (all : List ℕ) (last at : ℕ) (carry : Carry) : Type 0 where
  pub stand : Stand
  pub carried : IsCarried stand carry
  pub gone : HasGone m input groups all stand at
  pub back : begins m (length input) AtField (drop last input) ≡ begins m (length input) stand (drop at input)

-- of the places that are all, those came that are in front of a place
pub record HasBegun (m : Marks) (input : List ℕ) (groups : Groups) (all : List ℕ) (begin : ℕ) : Type 0 where
  pub seen : List ℕ
  pub has : HasSeen groups seen
  pub all_are : seen ++ record_places m None (length input) (drop begin input) ≡ all
  pub few : length all ≤ length input
