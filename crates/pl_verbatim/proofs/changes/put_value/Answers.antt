use Rattle.std.proofs.Common.{refl}
use Rattle.std.specs.Prelude.{slice_range}
use Rattle.pl_verbatim.specs.Changes.{found_text}
use Rattle.pl_verbatim.proofs.ChangeLaws.{other-change}
use Rattle.pl_verbatim.proofs.StartLaws.{other-start}
use Rattle.pl_verbatim.proofs.changes.put_value.Goals as goal

pub returns-clause-put : goal.returns-clause-put
returns-clause-put g c =
    let found = c.in_ok-found.ensures in
    let field = slice_range c.args.text.now c.args.at c.in_ok-found.found.end in
    let written = found_text c.args.text.now c.args.quote c.in_ok-found.found in
    record {
      end = c.in_ok-found.found.end;
      next_is = refl;
      after = found.after;
      within = found.within;
      mark_is = found.mark_is;
      written = written;
      now_is = c.in_ok-end.ensures.text;
      cell =
          other-change c.args.separator c.args.quote c.args.form.now c.args.kind field written
          (other-start c.args.form.now c.args.quote c.args.text.now c.args.at c.in_ok-found.found.end c.requires.begin c.requires.other c.requires.inside found.after) found.cell;
    }
