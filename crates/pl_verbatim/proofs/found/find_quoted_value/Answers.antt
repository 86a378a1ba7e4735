use Rattle.std.proofs.Common.{◌+◌, ◌++◌, [], sym, subst, arith}
use Rattle.std.specs.Prelude.{slice_range}
use Rattle.pl_cells.specs.NullTest.{nothing_is_null}
use Rattle.pl_verbatim.specs.Changes.{framed, IsChangeOfKind}
use Rattle.pl_verbatim.proofs.ChangeLaws.{kind-other, quoted-value_change, slice-some}
use Rattle.pl_verbatim.proofs.CopyLaws.{quotes-at}
use Rattle.pl_verbatim.proofs.found.find_quoted_value.Goals as goal

pub returns : goal.returns
returns g c =
    let text = c.args.text.now in
    let at = c.args.at in
    let to = c.in_ok-to.to in
    let inner = slice_range text (at + 1) to in
    record {
      after = omega (arith, c.in_ok-to.ensures.after);
      within = omega (arith, c.if-to-text.false);
      mark_is = c.if-text-to-2.false;
      ordered = omega (arith, c.in_ok-to.ensures.after);
      inside = c.in_ok-to.ensures.within;
      few = omega arith;
      cell =
          subst (λ l. IsChangeOfKind c.args.separator c.args.quote c.args.form.now nothing_is_null c.args.kind l (framed c.quotes.result c.args.quote (inner ++ [])))
          (sym (quotes-at text at to c.args.quote (omega (arith, c.in_ok-to.ensures.after)) (omega (arith, c.if-to-text.false)) c.requires.opens c.if-text-to.false))
          (quoted-value_change c.args.separator c.args.quote c.args.form.now c.args.kind inner c.quotes.result (kind-other c.args.kind c.requires.other)
          (slice-some text (at + 1) to c.in_ok-to.ensures.after c.in_ok-to.ensures.within) c.in_ok-to.ensures.cell c.quotes.ensures);
    }
