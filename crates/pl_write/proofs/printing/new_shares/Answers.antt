use Rattle.std.proofs.Common.{[], ◌∷◌, length, length-append, ◌∙◌, ap, arith}
use Rattle.pl_write.specs.Printing.{texts_of}
use Rattle.pl_write.proofs.PrintLaws.{texts-push}
use Rattle.pl_write.proofs.printing.new_shares.Goals as goal

pub loop-preserved : goal.loop-preserved
loop-preserved c =
    let share = c.in_ok-new-2.field-0 in
    let items = c.in_ok-push-2.ensures.items in
    record {
      some = omega (arith, ap length items, length-append c.loop.shares.items (share ∷ []), c.loop.invariant.some);
      empty = ap texts_of items ∙ texts-push c.loop.shares.items share c.loop.invariant.empty c.in_ok-new-2.ensures;
    }

pub returns-clause-empty : goal.returns-clause-empty
returns-clause-empty c = c.loop.invariant.empty
