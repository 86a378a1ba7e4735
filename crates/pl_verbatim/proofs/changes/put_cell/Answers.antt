-- What is put of a cell is what is written of it.
use Rattle.std.proofs.Common.{◌++◌, take, ap, sym, subst, ◌∙◌, arith}
use Rattle.pl_verbatim.specs.Changes.{IsChangeOfKind, null_test_of}
use Rattle.pl_verbatim.proofs.ChangeLaws.{missing-change}
use Rattle.pl_verbatim.proofs.RowChangeLaws.{stays}
use Rattle.pl_verbatim.proofs.RowLaws.{nothing}
use Rattle.pl_verbatim.proofs.changes.put_cell.Goals as goal
use Rattle.pl_verbatim.proofs.changes.put_cell.Goals.{then-form-text, else-form-text}

pub returns-then-text-at-clause-put : goal.returns-then-text-at-clause-put
returns-then-text-at-clause-put g c = record {
  end = c.args.at;
  next_is = c.pass.ensures;
  after = omega arith;
  within = omega (arith, c.if-at-text.false);
  mark_is = c.if-text-at.true;
  written = c.args.form.now.null.items;
  now_is = c.in_ok-end.ensures.text ∙ ap (λ l. take c.args.place c.args.out.now ++ l) c.deref.ensures.value;
  cell =
      subst (λ l. IsChangeOfKind c.args.separator c.args.quote c.args.form.now (null_test_of c.args.form.now) c.args.kind l c.args.form.now.null.items) (sym (nothing c.args.text.now c.args.at))
      (missing-change c.args.separator c.args.quote c.args.form.now c.args.kind);
}

pub returns-clause-kept : goal.returns-clause-kept
returns-clause-kept g c = elim c.if-form-text.branch [
  | then-form-text w ↦
      let put = w.put_unless_null-put in
      ap (take c.args.place) w.out-is
      ∙ stays put.result c.args.text.now c.args.at c.args.kind c.args.mark c.args.separator c.args.quote c.args.form.now c.args.place c.args.out.now put.new.out c.requires.place put.ensures.put put.ensures.within
      put.ensures.unchanged
  | else-form-text w ↦
      let put = w.put_value-put in
      ap (take c.args.place) w.out-is
      ∙ stays put.result c.args.text.now c.args.at c.args.kind c.args.mark c.args.separator c.args.quote c.args.form.now c.args.place c.args.out.now put.new.out c.requires.place put.ensures.put put.ensures.within
      put.ensures.unchanged
]
