use Rattle.std.proofs.Common.{ℕ, List, ◌∙◌, ap}
use Rattle.pl_multi.specs.Lines.{found_text}
use Rattle.pl_multi.proofs.LineLaws.{none-found}
use Rattle.pl_multi.proofs.groups.keep.Goals as goal

pub returns : goal.returns
returns g c = c.new-3.ensures ∙ ap (λ (l : List ℕ). found_text l c.args.found) c.new-2.ensures.items ∙ none-found c.args.bytes.items c.args.found (c.are_lent.ensures c.if-are_lent.false)
