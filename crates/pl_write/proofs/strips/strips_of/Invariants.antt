use Rattle.std.proofs.Common.{◌≡◌, ℕ, ◌≤◌, ◌<◌, map, take}
use Rattle.std.specs.Prelude.{All}
use Rattle.pl_frame.specs.Frame.{cell_at}
use Rattle.pl_text.specs.FrameText.{written_cell}
use Rattle.pl_write.specs.Options.{cell_options}
use Rattle.pl_write.specs.Strips.{HasRows, cells_in_strips}
use Rattle.pl_write.proofs.strips.strips_of.Given as goal

abbrev pub invariant-loop-place : goal.invariant-loop-place
invariant-loop-place l = record {
  rows : All (HasRows (cell_options l.options) l.copies.first l.copies.end) l.strips.items;
  cells : (row : ℕ) → l.copies.first ≤ row → row < l.copies.end
      → cells_in_strips (cell_options l.options) l.strips.items row ≡ map (λ column. written_cell (cell_options l.options) column.dtype (cell_at column row)) (take l.place l.columns);
}
