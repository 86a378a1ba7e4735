use Rattle.std.proofs.Common.{◌≡◌, map, take}
use Rattle.pl_csv_c.proofs.codes.category_bytes.Given as goal

abbrev pub invariant-loop-category : goal.invariant-loop-category
invariant-loop-category l = map (λ text. text.items) l.all.items ≡ take l.category-index l.categories
