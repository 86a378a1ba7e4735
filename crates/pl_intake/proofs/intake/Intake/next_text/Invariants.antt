use Rattle.std.proofs.Common.{◌≡◌, ◌≤◌, [], false, length, take}
use Rattle.pl_intake.specs.Intake.{HasGiven}
use Rattle.pl_intake.proofs.intake.Intake.next_text.Given as goal

abbrev pub invariant-loop : goal.invariant-loop
invariant-loop g l = record {
  inside : l.from ≤ length l.text.items;
  scanned : l.scanned.to ≤ l.from;
  given : HasGiven (g.So.Source.left l.fn.source) (g.So.Source.left l.source) l.limit l.fn.self l.self (take l.from l.text.items);
  within : l.self.size ≤ l.limit;
  rest : l.self.rest.items ≡ [];
  going : l.self.is_ended ≡ false;
  later : g.So.Source.faults l.fn.source ≤ g.So.Source.faults l.source;
}
