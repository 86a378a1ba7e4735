-- A text stays between its quotes where it needs them.
use Rattle.std.proofs.Common.{◌≡◌, ◌||◌, ◌+◌, ◌-◌, [], ◌++◌, true, false, ap, sym, ◌∙◌, append-nil, arith}
use Rattle.std.specs.Prelude.{slice_range}
use Rattle.pl_text.specs.FrameText.{needs_quotes}
use Rattle.pl_verbatim.proofs.ChangeLaws.{quoted-change}
use Rattle.pl_verbatim.proofs.QuotedLaws.{inside-parts}
use Rattle.pl_verbatim.proofs.found.find_quoted_text.Goals as goal
use Rattle.pl_verbatim.proofs.found.find_quoted_text.Goals.{then-form-via-then-form, then-form-via-else-form+then-is_quoting_needed}

pub returns-then-form : goal.returns-then-form
returns-then-form c =
    let text = c.args.text.now in
    let end = c.in_ok-end.end in
    let field = slice_range text c.args.at end in
    let inside = slice_range text (c.args.at + 1) (end - 1) in
    let form = c.args.form.now in
    let needs = needs_quotes form.separator c.args.quote inside in
    let stays : true ≡ (form.quotes_values || needs) = elim c.then-form.branch [
      | then-form-via-then-form w ↦ sym (ap (λ t. t || needs) w.if-form.true)
      | then-form-via-else-form+then-is_quoting_needed w ↦ sym ((λ j. w.if-form.false j || needs) ∙ sym w.is_quoting_needed.ensures ∙ w.if-is_quoting_needed.true)
    ] in
    record {
      after = omega (arith, c.in_ok-end.ensures.after);
      within = omega (arith, c.if-end-text.false);
      mark_is = c.if-text-end.false;
      ordered = omega (arith, c.in_ok-end.ensures.after);
      inside = c.in_ok-end.ensures.within;
      few = omega arith;
      cell =
          quoted-change c.args.separator c.args.quote form c.args.kind field inside (field ++ []) true c.requires.text c.in_ok-end.ensures.text
          (inside-parts text c.args.at end c.args.quote c.in_ok-end.ensures.after c.in_ok-end.ensures.within c.in_ok-end.ensures.text) stays (append-nil field);
    }

pub returns : goal.returns
returns c =
    let text = c.args.text.now in
    let end = c.in_ok-end.end in
    let field = slice_range text c.args.at end in
    let inside = slice_range text (c.args.at + 1) (end - 1) in
    let form = c.args.form.now in
    let needs = needs_quotes form.separator c.args.quote inside in
    let goes : false ≡ (form.quotes_values || needs) = sym ((λ j. c.if-form.false j || needs) ∙ sym c.is_quoting_needed.ensures ∙ c.if-is_quoting_needed.false) in
    record {
      after = omega (arith, c.in_ok-end.ensures.after);
      within = omega (arith, c.if-end-text.false);
      mark_is = c.if-text-end.false;
      ordered = omega (arith, c.in_ok-end.ensures.after);
      inside = omega (arith, c.in_ok-end.ensures.within);
      few = omega arith;
      cell =
          quoted-change c.args.separator c.args.quote form c.args.kind field inside (inside ++ []) false c.requires.text c.in_ok-end.ensures.text
          (inside-parts text c.args.at end c.args.quote c.in_ok-end.ensures.after c.in_ok-end.ensures.within c.in_ok-end.ensures.text) goes (append-nil inside);
    }
