use Rattle.std.proofs.Common.{◌≡◌, ◌||◌, false, not, nat_eq, ap, sym, ◌∙◌, arith}
use Rattle.std.proofs.lemmas.Bool.Decides.{nat_tests}
use Rattle.std.specs.Prelude.{slice_range}
use Rattle.pl_text.specs.FrameText.{needs_quotes}
use Rattle.pl_verbatim.proofs.ChangeLaws.{bare-change}
use Rattle.pl_verbatim.proofs.found.find_bare.Goals as goal

pub returns-then-form : goal.returns-then-form
returns-then-form c =
    let field = slice_range c.args.text.now c.args.at c.in_ok-end.end in
    let form = c.args.form.now in
    record {
      after = omega (arith, c.in_ok-end.ensures.after);
      within = omega (arith, c.if-end-text.false);
      mark_is = c.if-text-end.false;
      ordered = omega (arith, c.in_ok-end.ensures.after);
      inside = c.in_ok-end.ensures.within;
      few = omega arith;
      cell =
          bare-change c.args.separator c.args.quote form c.args.kind field form.quotes_values c.requires.text c.in_ok-end.ensures.bare
          (c.if-form.true ∙ sym (ap (λ t. t || needs_quotes form.separator c.args.quote field) c.if-form.true));
    }

pub returns-then-form-separator : goal.returns-then-form-separator
returns-then-form-separator c =
    let field = slice_range c.args.text.now c.args.at c.in_ok-end.end in
    let form = c.args.form.now in
    record {
      after = omega (arith, c.in_ok-end.ensures.after);
      within = omega (arith, c.if-end-text.false);
      mark_is = c.if-text-end.false;
      ordered = omega (arith, c.in_ok-end.ensures.after);
      inside = c.in_ok-end.ensures.within;
      few = omega arith;
      cell =
          bare-change c.args.separator c.args.quote form c.args.kind field c.is_quoting_needed.result c.requires.text c.in_ok-end.ensures.bare
          (c.is_quoting_needed.ensures ∙ sym (ap (λ t. t || needs_quotes form.separator c.args.quote field) c.if-form.false));
    }

pub returns-else-form-separator : goal.returns-else-form-separator
returns-else-form-separator c =
    let field = slice_range c.args.text.now c.args.at c.in_ok-end.end in
    let form = c.args.form.now in
    let off : not (nat_eq form.separator c.args.separator) ≡ false = grind (arith, nat_tests, c.if-form-separator.false) in
    record {
      after = omega (arith, c.in_ok-end.ensures.after);
      within = omega (arith, c.if-end-text.false);
      mark_is = c.if-text-end.false;
      ordered = omega (arith, c.in_ok-end.ensures.after);
      inside = c.in_ok-end.ensures.within;
      few = omega arith;
      cell =
          bare-change c.args.separator c.args.quote form c.args.kind field (not (nat_eq form.separator c.args.separator)) c.requires.text c.in_ok-end.ensures.bare
          (off ∙ sym ((λ j. c.if-form.false j || needs_quotes (c.if-form-separator.false j) c.args.quote field) ∙ c.in_ok-end.ensures.bare.bare));
    }
