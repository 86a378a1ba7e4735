use Rattle.std.proofs.Common.{◌≡◌, ℕ, Bool, true, false, length, subst, arith}
use Rattle.std.specs.Prelude.{IfSome}
use Rattle.std.specs.Bool.{OnTrue}
use Rattle.pl_csv.specs.Converting.{AreNumberable}
use Rattle.pl_csv.proofs.ConvertLaws.{row-by-row}
use Rattle.pl_csv.proofs.convert.is_row_by_row.Goals as goal

pub returns : goal.returns
returns c =
    let read = c.args.read.now in
    let write = c.args.write.now in
    let prepared = c.args.prepared.now in
    let width : c.len.result ≡ length prepared.places.items = omega arith in
    by c.are_numberable.result
    (subst (λ (n : ℕ). OnTrue c.are_numberable.result (IfSome read.row_index (λ index. AreNumberable write n index.offset c.args.amount))) width c.are_numberable.ensures)
    (λ can records small. row-by-row read write prepared.schema prepared.places.items c.args.amount c.requires can records small)
  where
    by : {P Q : Type 0} (t : Bool) → OnTrue t P → (P → Q) → OnTrue t Q
    by true holds gives = gives holds
    by false holds gives = tt
