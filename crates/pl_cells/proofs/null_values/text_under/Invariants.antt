use Rattle.std.proofs.Common.{◌≡◌, [], take}
use denote.Text.{Utf8}
use denote.Shadow.{shadow}
use Rattle.pl_cells.specs.NullValues.{text_under}
use Rattle.pl_cells.proofs.null_values.text_under.Given as goal

abbrev pub invariant-loop-entry : goal.invariant-loop-entry
invariant-loop-entry l = shadow (Utf8 l.text) × (l.text ≡ text_under [] (take l.entry-index l.entries) l.name)
