-- How far the bytes of a text so far have brought a count of its rows. This stands behind the view of the count; a contract
-- says by items (RowCount.antt) what it comes to for every text.
use Rattle.std.specs.Prelude.{ℕ, ◌+◌, Bool, true, false, ◌==◌, if◌then◌else◌, List, [], ◌∷◌}
use Rattle.pl_frame.specs.Dialect.{Marks}
use Rattle.pl_scan.specs.Fields.{is_quote}
use Rattle.pl_scan.specs.declared.row_counter.RowState.{RowState}
use Rattle.pl_scan.specs.declared.row_counter.RowState.TheVariants.{Front, Start, Field, Plain, Even, Odd}

-- the state behind a byte where separators and line ends count, else another state, and the number of rows that end at it
abbrev pub next_at_stop : Marks → ℕ → RowState → RowState × ℕ
next_at_stop m x other = if x == m.separator then (Field, 0) else (if x == m.line_end then (Start, 1) else (other, 0))

-- the state behind one more byte, and the number of rows that end at it
abbrev pub next_state : Marks → RowState → ℕ → RowState × ℕ
next_state m Front x = if x == m.line_end then (Front, 0) else next_at_stop m x (if is_quote m.quote x then Odd else Plain)
next_state m Start x = next_at_stop m x (if is_quote m.quote x then Odd else Plain)
next_state m Field x = next_at_stop m x (if is_quote m.quote x then Odd else Plain)
next_state m Plain x = next_at_stop m x Plain
next_state m Even x = next_at_stop m x (if is_quote m.quote x then Odd else Even)
next_state m Odd x = (if is_quote m.quote x then Even else Odd, 0)

-- one where a row has begun
abbrev pub begun : RowState → ℕ
begun Front = 0
begun Start = 0
begun Field = 1
begun Plain = 1
begun Even = 1
begun Odd = 1

-- the number of rows that end behind it in what follows
abbrev pub rows_behind : Marks → RowState → List ℕ → ℕ
rows_behind m p [] = begun p
rows_behind m p (x ∷ xs) = (next_state m p x).1 + rows_behind m (next_state m p x).0 xs

-- in no quoted field, and behind the front of the text
abbrev pub is_unquoted : RowState → Bool
is_unquoted Front = false
is_unquoted Start = true
is_unquoted Field = true
is_unquoted Plain = true
is_unquoted Even = false
is_unquoted Odd = false

-- where bytes without quotes can be counted at once: in no quoted field, or in one that only a quote can end
abbrev pub is_run_state : RowState → Bool
is_run_state Front = false
is_run_state Start = true
is_run_state Field = true
is_run_state Plain = true
is_run_state Even = false
is_run_state Odd = true

-- the state behind a byte that is no quote and stands in no quoted field
abbrev pub state_behind : ℕ → ℕ → ℕ → RowState
state_behind s e x = if x == s then Field else (if x == e then Start else Plain)

-- a count of the rows of a text that comes block by block
pub record Count : Type 0 where
  pub marks : Marks
  pub rows : ℕ
  pub state : RowState

-- how many rows what came has together with what follows
abbrev pub rows_with : Count → List ℕ → ℕ
rows_with count rest = count.rows + rows_behind count.marks count.state rest
