use Rattle.std.proofs.Common.{◌≡◌, ◌≤◌, length}
use Rattle.pl_intake.specs.Texts.{AreSetIn}
use Rattle.pl_intake.proofs.TextLaws.{HasRead}
use Rattle.pl_intake.proofs.texts.read_texts.Given as goal

abbrev pub invariant-loop-place : goal.invariant-loop-place
invariant-loop-place g l = record {
  len : length l.tokens.items ≡ l.place;
  set : AreSetIn l.cells l.tokens.items;
  read : HasRead (g.So.Source.left l.initial.source) (g.So.Source.left l.source) l.limit l.initial.intake l.intake l.initial.tokens.items l.tokens.items;
  later : g.So.Source.faults l.initial.source ≤ g.So.Source.faults l.source;
}
