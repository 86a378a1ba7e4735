use Rattle.std.proofs.Common.{◌++◌, List, ℕ, sym, subst}
use Rattle.std.specs.List.{concat}
use Rattle.pl_regions.specs.Arriving.{IsPrintedUpTo}
use Rattle.pl_regions.proofs.ArrivingLaws.{HasInLine-printed}
use Rattle.pl_regions.proofs.line.Line.keep.Goals as goal

pub returns-clause-line : goal.returns-clause-line
returns-clause-line g c = λ plan schema o before now limit first intake apart means has.
    let old = c.args.self.now in
    let line = c.keep_known.new.self in
    HasInLine-printed plan schema o before now limit first intake old.kept line.kept old.left.items line.left.items old.pending line.pending has
    (λ text up. c.in_ok-keep_known.ensures.line plan schema o text apart means
    (subst (λ (pending : List (List ℕ)). IsPrintedUpTo plan schema o text (old.left.items ++ concat pending) old.kept) (sym c.keep.ensures) up))
