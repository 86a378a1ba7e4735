use Rattle.std.proofs.Common.{◌∙◌, ap, drop}
use Rattle.std.proofs.lemmas.List.{drop-drop}
use Rattle.pl_scan.specs.Dialect.{marks_of}
use Rattle.pl_rows.specs.RowRest.{fields_left}
use Rattle.pl_rows.proofs.row_rest.pass_some.Goals as goal

pub loop-preserved : goal.loop-preserved
loop-preserved c = record {
  left = c.next_field.ensures.left ∙ ap (drop 1) c.loop.invariant.left ∙ drop-drop 1 c.loop.counter (fields_left (marks_of c.args.dialect.now) c.args.rest);
  behind = c.next_field.ensures.behind ∙ c.loop.invariant.behind;
}
