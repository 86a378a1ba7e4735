-- What stands between quotes is written without them where it needs none, and else as it stands.
use Rattle.std.proofs.Common.{◌≡◌, ◌++◌, ap, sym, ◌∙◌, append-nil, arith}
use Rattle.std.specs.Prelude.{slice_range}
use Rattle.std.specs.Result.{is_ok}
use Rattle.pl_verbatim.proofs.RowLaws.{nothing}
use Rattle.pl_verbatim.proofs.RowCopyLaws.{added, cell-inner_marked, cell-whole}
use Rattle.pl_verbatim.proofs.copies.copy_quoted.Goals as goal
use Rattle.pl_verbatim.proofs.copies.copy_quoted.Goals.{else-from-at-via-then-from-at+else-is_err, else-from-at-via-else-from-at}

pub returns-in-Some-clause-copied : goal.returns-in-Some-clause-copied
returns-in-Some-clause-copied g c =
    let found = c.in-Some.ensures in
    let to = c.in-Some.to in
    let front = slice_range c.args.text.now c.args.from.now c.args.at in
    let before = c.args.lines.now.items in
    let first = c.else-from-at.lines.items in
    let lines = c.append.new.lines.items in
    let grown : first ≡ before ++ front = elim c.else-from-at.branch [
      | else-from-at-via-then-from-at+else-is_err w ↦
          ap (λ l. l.items) w.lines-is ∙ added (is_ok w.extend_from_slice.result) before w.extend_from_slice.new.self.items front w.if-is_err.ensures.negation w.extend_from_slice.ensures.items
      | else-from-at-via-else-from-at w ↦
          let there : c.args.from.now ≡ c.args.at = omega (arith, w.if-from-at.false, c.requires.before) in
          ap (λ l. l.items) w.lines-is ∙ sym (ap (λ n. before ++ slice_range c.args.text.now n c.args.at) there ∙ ap (λ l. before ++ l) (nothing c.args.text.now c.args.at) ∙ append-nil before)
    ] in
    cell-inner_marked c.args.text.now c.args.from.now c.args.at to c.args.kind c.args.mark c.args.separator c.args.quote before first lines found.after found.within found.mark found.copy grown
    c.if-not-append.ensures.copied

pub returns-clause-copied : goal.returns-clause-copied
returns-clause-copied g c =
    let found = c.in_ok-end.ensures in
    cell-whole c.args.text.now c.args.from.now c.args.at c.in_ok-end.end c.args.kind c.args.mark c.args.separator c.args.quote c.args.lines.now.items c.requires.before found.after found.within
    found.mark found.cell
