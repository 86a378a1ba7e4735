-- A field that means null is written as a null, and any other as where no text means null.
use Rattle.std.proofs.Common.{◌++◌, take, refl, ap, ◌∙◌}
use Rattle.std.specs.Prelude.{slice_range}
use Rattle.pl_verbatim.specs.Changes.{found_text}
use Rattle.pl_verbatim.proofs.ChangeLaws.{null-change, other-change, bare-stands, null-of, other-of}
use Rattle.pl_verbatim.proofs.changes.put_unless_null.Goals as goal

pub returns-then-branch-clause-put : goal.returns-then-branch-clause-put
returns-then-branch-clause-put c =
    let found = c.in-Some-find.ensures in
    let field = slice_range c.args.text.now c.args.at c.in-Some-find.found.end in
    record {
      end = c.in-Some-find.found.end;
      next_is = refl;
      after = found.after;
      within = found.within;
      mark_is = found.mark_is;
      written = c.args.form.now.null.items;
      now_is = c.in_ok-end-in-Some-find.ensures.text ∙ ap (λ l. take c.args.place c.args.out.now ++ l) c.deref.ensures.value;
      cell =
          null-change c.args.separator c.args.quote c.args.form.now c.args.kind field
          (null-of c.args.form.now c.in-Some.nulls c.args.quote field c.in-Some.is (c.in_ok-means_null-in-Some-find.ensures.null c.if-branch.true))
          (λ o fits is type can holds. (found.cell o type fits is can holds).field_text);
    }

pub returns-in_ok-end-in-Some-find-2-clause-put : goal.returns-in_ok-end-in-Some-find-2-clause-put
returns-in_ok-end-in-Some-find-2-clause-put c =
    let found = c.in-Some-find.ensures in
    let field = slice_range c.args.text.now c.args.at c.in-Some-find.found.end in
    let written = found_text c.args.text.now c.args.quote c.in-Some-find.found in
    record {
      end = c.in-Some-find.found.end;
      next_is = refl;
      after = found.after;
      within = found.within;
      mark_is = found.mark_is;
      written = written;
      now_is = c.in_ok-end-in-Some-find-2.ensures.text;
      cell =
          other-change c.args.separator c.args.quote c.args.form.now c.args.kind field written
          (other-of c.args.form.now c.in-Some.nulls c.args.quote field c.in-Some.is (c.in_ok-means_null-in-Some-find.ensures.other c.if-branch.false)) found.cell;
    }

pub returns-in_ok-end-in-None-clause-put : goal.returns-in_ok-end-in-None-clause-put
returns-in_ok-end-in-None-clause-put c =
    let next = c.in_ok-next-in-None in
    let field = slice_range c.args.text.now c.args.at next.next in
    record {
      end = next.next;
      next_is = refl;
      after = next.ensures.after;
      within = next.ensures.within;
      mark_is = next.ensures.mark;
      written = c.args.form.now.null.items;
      now_is = c.in_ok-end-in-None.ensures.text ∙ ap (λ l. take c.args.place c.args.out.now ++ l) c.deref-in-None.ensures.value;
      cell =
          null-change c.args.separator c.args.quote c.args.form.now c.args.kind field
          (null-of c.args.form.now c.in-Some.nulls c.args.quote field c.in-Some.is next.ensures.null)
          (bare-stands c.args.separator c.args.quote c.args.form.now c.args.kind field next.ensures.bare);
    }
