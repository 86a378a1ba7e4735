-- The states in front of the pieces of a text (docs/pieces.md, "States").
use Rattle.std.specs.Prelude.{◌≡◌, ℕ, ◌-◌, List, [], ◌∷◌, length, take, get_or, slice_range, Option, None, Some}
use Rattle.std.specs.List.{last_or}
use Rattle.pl_frame.specs.Dialect.{Marks}
use Rattle.pl_scan.specs.declared.summary.LineState.{LineState}
use Rattle.pl_scan.specs.declared.summary.LineState.TheVariants.{Start}
use Rattle.pl_scan.specs.declared.summary.PieceSummary.{PieceSummary}
use Rattle.pl_scan.specs.LineStates.{after, summary_of}
use Rattle.pl_board.specs.Log.{Setup}

-- the states in front of the pieces that end at these places, where the first one begins at this place
abbrev pub states_from : Marks → Option (List ℕ) → ℕ → List ℕ → List ℕ → List LineState
states_from m comment from [] b = []
states_from m comment from (end ∷ ends) b = after m comment Start (take from b) ∷ states_from m comment end ends b

-- the state in front of each piece of a text, by the ends of the pieces: that behind all bytes before it
abbrev pub states_before : Marks → Option (List ℕ) → List ℕ → List ℕ → List LineState
states_before m comment ends b = states_from m comment 0 ends b

-- the place stands just behind a line end
abbrev pub IsBehindLineEnd : ℕ → List ℕ → ℕ → Type 0
IsBehindLineEnd e b end = last_or None (take end b) ≡ Some e

-- what a worker made of a piece: it is this part of the text, and these are the states behind it
pub record IsSummarised (b : List ℕ) (m : Marks) (comment : Option (List ℕ)) (text : List ℕ) (from to : ℕ) (summary : PieceSummary) : Type 0 where
  pub text_is : text ≡ slice_range b from to
  pub states_are : summary ≡ summary_of m comment text

-- what the board is made for that hands out all pieces but the last
abbrev pub front_setup : List ℕ → List ℕ → Setup
front_setup ends b = record { bytes = take (get_or ends (length ends - 2) 0) b; ends = take (length ends - 1) ends; limit = None }
