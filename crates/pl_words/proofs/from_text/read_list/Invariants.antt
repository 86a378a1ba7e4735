use Rattle.std.proofs.Common.{◌≡◌, length}
use denote.Text.{Utf8}
use denote.Shadow.{shadow}
use Rattle.pl_words.specs.Lists.{list_of}
use Rattle.pl_words.proofs.ListLaws.{behind_values}
use Rattle.pl_words.proofs.from_text.read_list.Given as goal

abbrev pub invariant-loop-part : goal.invariant-loop-part
invariant-loop-part g l = shadow (Utf8 l.rest) × (list_of g.T.FromText.meaning l.text ≡ behind_values l.values.items (list_of g.T.FromText.meaning l.rest))

abbrev pub decreases-loop-part : goal.decreases-loop-part
decreases-loop-part g l = length l.rest
