use Rattle.std.proofs.Common.{arith, ◌∙◌, ap, sym, get_or}
use Rattle.pl_scan.specs.Dialect.{marks_of}
use Rattle.pl_table.specs.Ends.{next_spot}
use Rattle.pl_table.proofs.FlagLaws.{ends-more, lines-more, spot-more}
use Rattle.pl_table.proofs.block.ends_by_bytes.Goals as goal

pub loop-i-preserved : goal.loop-i-preserved
loop-i-preserved c =
    let m = marks_of c.args.dialect.now in
    let b = c.args.bytes.now in
    let l = c.loop-i in
    record {
      ends = ends-more m c.args.spot b l.i l.ends l.at c.ends_field.result (omega arith) (omega arith) l.invariant.ends l.invariant.at c.ends_field.ensures;
      lines = lines-more m b l.i l.lines (omega arith) (omega arith) l.invariant.lines;
      at = c.step-at.ensures ∙ ap (λ s. next_spot m s (get_or b l.i 0)) l.invariant.at ∙ sym (spot-more m c.args.spot b l.i (omega arith));
    }
