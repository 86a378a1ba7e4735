-- What needs no quotes is written without those that it stands between.
use Rattle.std.proofs.Common.{◌≡◌, ◌||◌, ◌+◌, ◌-◌, [], ◌++◌, false, ap, sym, ◌∙◌, append-nil, arith}
use Rattle.std.specs.Prelude.{slice_range}
use Rattle.pl_text.specs.FrameText.{needs_quotes}
use Rattle.pl_verbatim.proofs.ChangeLaws.{quoted-change}
use Rattle.pl_verbatim.proofs.CopyLaws.{quotes-at}
use Rattle.pl_verbatim.proofs.QuotedLaws.{bare-between}
use Rattle.pl_verbatim.proofs.found.find_bare_inside.Goals as goal

pub returns : goal.returns
returns c =
    let text = c.args.text.now in
    let to = c.in_ok-to.to in
    let field = slice_range text c.args.at (to + 1) in
    let inside = slice_range text (c.args.at + 1) to in
    let form = c.args.form.now in
    let needs = needs_quotes form.separator c.args.quote inside in
    let goes : false ≡ (form.quotes_values || needs) = sym ((λ j. c.if-form.false j || needs) ∙ c.in_ok-to.ensures.bare.bare) in
    record {
      after = omega (arith, c.in_ok-to.ensures.after);
      within = omega (arith, c.if-to-text.false);
      mark_is = c.if-text-to-2.false;
      ordered = c.in_ok-to.ensures.after;
      inside = c.in_ok-to.ensures.within;
      few = omega arith;
      cell =
          quoted-change c.args.separator c.args.quote form c.args.kind field inside (inside ++ []) false c.requires.text
          (bare-between form.separator c.args.quote text c.args.at to c.in_ok-to.ensures.after (omega (arith, c.if-to-text.false)) c.requires.opens c.if-text-to.false c.in_ok-to.ensures.bare)
          (quotes-at text c.args.at to c.args.quote c.in_ok-to.ensures.after (omega (arith, c.if-to-text.false)) c.requires.opens c.if-text-to.false) goes (append-nil inside);
    }
