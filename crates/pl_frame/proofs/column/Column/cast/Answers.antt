use Rattle.std.proofs.Common.{◌≡◌, ◌∙◌, ap, sym, subst, IfOk}
use Rattle.pl_frame.specs.Equal.{types_equal}
use Rattle.pl_frame.proofs.CastLaws.{cast_same}
use Rattle.pl_frame.specs.EqualLaws.{types_same}
use Rattle.pl_frame.proofs.column.Column.cast.Goals as goal

pub returns-then-eq-clause-column : goal.returns-then-eq-clause-column
returns-then-eq-clause-column c =
    let same = types_same c.args.self.now.dtype c.args.to.now (ap (λ t. types_equal t c.args.to.now) (sym c.dtype.ensures.dtype) ∙ sym c.eq.ensures ∙ c.if-eq.true) in
    subst (λ k. IfOk c.try_clone.result (λ column. column ≡ k)) (cast_same c.args.self.now c.args.to.now c.dtype.ensures.held same) c.try_clone.ensures.equal
