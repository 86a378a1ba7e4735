-- The kinds of the columns so far are there.
use Rattle.std.proofs.Common.{◌≡◌, true}
use Rattle.std.specs.List.{All}
use Rattle.pl_verbatim.specs.Kinds.{is_sound_kind}
use Rattle.pl_verbatim.proofs.SchemaLaws.{AreKindsBefore}
use Rattle.pl_verbatim.proofs.front.kinds_of.Given as goal

abbrev pub invariant-loop-index : goal.invariant-loop-index
invariant-loop-index l = record {
  kinds : AreKindsBefore l.schema l.places l.index l.next l.kinds.items;
  sound : All (λ kind. is_sound_kind kind ≡ true) l.kinds.items;
}
