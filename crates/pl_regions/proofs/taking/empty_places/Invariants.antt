use Rattle.std.proofs.Common.{◌≡◌, All, None, length}
use Rattle.pl_regions.proofs.taking.empty_places.Given as goal

abbrev pub invariant-loop : goal.invariant-loop
invariant-loop l = record {
  len : length l.places.items ≡ l.counter;
  empty : All (λ place. place ≡ None) l.places.items;
}
