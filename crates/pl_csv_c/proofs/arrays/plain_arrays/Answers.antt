use Rattle.std.proofs.Common.{◌≡◌, ◌+◌, ◌-◌, ◌++◌, [], take, drop, sym, ◌∙◌, ap, subst, arith}
use lib.Seq.{take-add}
use Rattle.pl_csv_c.specs.Arrays.{HaveCells}
use Rattle.pl_csv_c.proofs.arrays.plain_arrays.Goals as goal

pub loop-from-init : goal.loop-from-init
loop-from-init c = record {
  within = omega arith;
  cells = c.in_ok-make_room.ensures.cells [] c.in_ok-arrays.ensures.cells;
  none = ap (λ texts. texts.items) c.in_ok-make_room.ensures.categories ∙ c.in_ok-arrays.ensures.none;
}

pub loop-from-preserved : goal.loop-from-preserved
loop-from-preserved c =
    let from = c.loop-from.from in
    let count = c.min.result in
    let values = c.args.column.now.values in
    let size : from + count - from ≡ count = omega arith in
    let next = ap (λ n. take from values ++ take n (drop from values)) size ∙ sym (take-add from count values) in
    record {
      within = omega arith;
      cells = subst (λ cells. HaveCells c.args.kind cells c.put_run.new.arrays) next (c.in_ok-put_run.ensures.cells (take from values) c.loop-from.invariant.cells);
      none = ap (λ texts. texts.items) c.in_ok-put_run.ensures.categories ∙ c.loop-from.invariant.none;
    }
