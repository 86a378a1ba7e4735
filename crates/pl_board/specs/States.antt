-- What a board knows (docs/pieces.md, "What a board keeps").
use Rattle.std.specs.Prelude.{◌≡◌, ℕ, ◌-◌, ◌≤◌, ◌<◌, true, false, List, [], ◌∷◌, ◌++◌, length, take, map, Option, None, Some, MatchOption, slice_get, slice_set, slice_range}
use Rattle.pl_scan.specs.LineCuts.{RiseTo}
use Rattle.pl_board.specs.declared.event.Mark.{Mark}
use Rattle.pl_board.specs.declared.event.Event.{Event}
use Rattle.pl_board.specs.declared.event.Event.TheVariants.{Take, Post}
use Rattle.pl_board.specs.Pieces.{Cut, piece_from, piece_to, result_mark}
use Rattle.pl_board.specs.Log.{Setup, or_else, hand_outs, marks, is_finished, is_open, IsChain, IsLegal}

-- what a board was made for, the events so far, for each hand-out in order the result that was posted of it, how many
-- seats were made, still run and are still clean, and a result that did not match with the length of the log then
pub record Snapshot (D : Type 0) : Type 0 where
  pub setup : Setup
  pub log : List Event
  pub results : List (Option (Cut × D))
  pub seats : ℕ
  pub running : ℕ
  pub clean : ℕ
  pub stray : Option (ℕ × (Cut × D))

-- a snapshot of these parts
abbrev pub snapshot : {D : Type 0} → Setup → List Event → List (Option (Cut × D)) → ℕ → ℕ → ℕ → Option (ℕ × (Cut × D)) → Snapshot D
snapshot setup log results seats running clean stray =
    record { setup = setup; log = log; results = results; seats = seats; running = running; clean = clean; stray = stray }

-- a new board
abbrev pub fresh : {D : Type 0} → Setup → Snapshot D
fresh setup = record { setup = setup; log = []; results = []; seats = 0; running = 0; clean = 0; stray = None }

-- the piece that comes next
abbrev pub next_piece : Setup → List Event → Cut
next_piece setup log =
    let number = length (hand_outs log) in
    let from = piece_from setup.ends number in
    let to = piece_to setup.ends number in
    record { number = number; from = from; to = to; text = slice_range setup.bytes from to }

-- a piece that a board of this setup hands out: it is the next one behind a legal log that is not finished
pub record IsHandOut (setup : Setup) (piece : Cut) : Type 0 where
  pub log : List Event
  pub legal : IsLegal setup log
  pub unfinished : is_finished setup log ≡ false
  pub next : piece ≡ next_piece setup log

-- the board behind a hand-out
abbrev pub after_take : {D : Type 0} → Snapshot D → Snapshot D
after_take s =
    let piece = next_piece s.setup s.log in
    record s { log = s.log ++ Take piece.from piece.to ∷ []; results = s.results ++ None ∷ [] }

-- the board behind a post
abbrev pub after_post : {D : Type 0} → (D → Mark) → Snapshot D → Cut × D → Snapshot D
after_post mark s posted =
    record s { log = s.log ++ Post posted.0.number (mark posted.1) ∷ []; results = slice_set s.results posted.0.number (Some posted) }

-- no open hand-out among the first n events matches the piece
abbrev pub IsAstray : {D : Type 0} → List Event → ℕ × (Cut × D) → Type 0
IsAstray log stray = (stray.0 ≤ length log) × (is_open (take stray.0 log) stray.1.0.number stray.1.0.from stray.1.0.to ≡ false)

-- the board behind the first None of a seat
abbrev pub after_leave : {D : Type 0} → Snapshot D → Snapshot D
after_leave s = record s { running = s.running - 1 }

-- the board behind a result that was turned away: the first such result is kept, with the length of the log then
abbrev pub after_turn_away : {D : Type 0} → Snapshot D → Cut × D → Snapshot D
after_turn_away s posted = record s { clean = s.clean - 1; stray = or_else s.stray (Some (length s.log, posted)) }

-- the board with seats that all run and are clean
abbrev pub with_seats : {D : Type 0} → Snapshot D → ℕ → Snapshot D
with_seats s n = record s { seats = n; running = n; clean = n }

-- the seats and what they are
abbrev pub SameSeats : {D : Type 0} → Snapshot D → Snapshot D → Type 0
SameSeats s t = (t.seats ≡ s.seats) × (t.running ≡ s.running) × (t.clean ≡ s.clean)

-- what holds of every board
pub record IsSound {D : Type 0} (mark : D → Mark) (s : Snapshot D) : Type 0 where
  -- the ends of the pieces rise to the end of the text
  pub rise : RiseTo (length s.setup.bytes) 0 s.setup.ends
  -- the log is legal, and the results are those that it posts
  pub legal : IsLegal s.setup s.log
  pub replay : map (result_mark mark) s.results ≡ marks s.log
  -- each byte is handed out at most once: the pieces follow one another from the start
  pub chained : IsChain 0 (hand_outs s.log)
  -- hand-out n is piece n of the text
  pub ranged : (n : ℕ) (range : ℕ × ℕ) → slice_get (hand_outs s.log) n ≡ Some range → range ≡ (piece_from s.setup.ends n, piece_to s.setup.ends n)
  -- a result stands at its piece's number, and its piece was handed out with its range
  pub placed : (n : ℕ) (posted : Cut × D) → slice_get s.results n ≡ Some (Some posted) → (posted.0.number ≡ n) × (slice_get (hand_outs s.log) n ≡ Some (posted.0.from, posted.0.to))
  -- a seat stops only where the log is finished
  pub running_within : s.running ≤ s.seats
  pub stopped : s.running < s.seats → is_finished s.setup s.log ≡ true
  -- a seat is unclean only where a result did not match
  pub clean_within : s.clean ≤ s.seats
  pub strays : MatchOption s.stray (s.clean ≡ s.seats) (λ stray. (s.clean < s.seats) × IsAstray s.log stray)
