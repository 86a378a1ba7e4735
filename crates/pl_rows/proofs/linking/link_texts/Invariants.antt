use Rattle.std.proofs.Common.{◌≡◌, ◌≤◌, ◌∷◌, ℕ, suc, List, length, map}
use Rattle.pl_rows.specs.Texts.{AllLinked}
use Rattle.pl_rows.proofs.TextLinkLaws.{AreLinked}
use Rattle.pl_rows.proofs.linking.link_texts.Given as goal

abbrev pub invariant-loop-read : goal.invariant-loop-read
invariant-loop-read l = record {
  place_is : l.place ≡ length l.yielded;
  after : l.fn.linked.end ≤ l.front.end;
  linked : (before : List ℕ) → AllLinked l.fn.plan l.fn.schema before l.initial.stacks l.fn.linked → AreLinked l.fn.plan l.fn.schema (before ∷ map (λ text. text.now) l.fn.texts) l.stacks l.front (suc l.place);
}
