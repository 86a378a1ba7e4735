-- What is written of a cell stands behind what stood there.
use Rattle.std.proofs.Common.{◌≡◌, ◌++◌, cond, [], ◌∷◌, take, ◌+◌, ap, ◌∙◌, sym, subst, append-nil}
use Rattle.std.specs.Prelude.{slice_range}
use Rattle.std.specs.Result.{is_ok}
use Rattle.pl_verbatim.specs.CellTexts.{zeros_text}
use Rattle.pl_verbatim.specs.Verbatim.{HasGrown}
use Rattle.pl_verbatim.proofs.RowCopyLaws.{point-zeros, zeros-taken, no-zeros, grown-maybe, grown-twice, added, cell-copied}
use Rattle.pl_verbatim.proofs.copies.append.Goals as goal
use Rattle.pl_verbatim.proofs.copies.append.Goals.{else-zeros-gt0-via-then-zeros-gt0+else-is_err-2, else-zeros-gt0-via-else-zeros-gt0}

pub returns-then-is_err-clause-grown : goal.returns-then-is_err-clause-grown
returns-then-is_err-clause-grown c =
    grown-maybe (is_ok c.extend_from_slice.result) c.args.lines.now.items c.extend_from_slice.new.self.items (slice_range c.args.text.now c.args.from c.args.to) c.extend_from_slice.ensures.items

pub returns-then-is_err-2-clause-grown : goal.returns-then-is_err-2-clause-grown
returns-then-is_err-2-clause-grown c =
    let first : HasGrown c.args.lines.now.items c.extend_from_slice.new.self.items =
    grown-maybe (is_ok c.extend_from_slice.result) _ _ (slice_range c.args.text.now c.args.from c.args.to) c.extend_from_slice.ensures.items in
    let second : HasGrown c.extend_from_slice.new.self.items c.extend_from_slice-then-zeros-gt0.new.self.items =
    grown-maybe (is_ok c.extend_from_slice-then-zeros-gt0.result) _ _ _ c.extend_from_slice-then-zeros-gt0.ensures.items in
    grown-twice _ _ _ first second

pub returns-clause-copied : goal.returns-clause-copied
returns-clause-copied c =
    let own = slice_range c.args.text.now c.args.from c.args.to in
    let first = c.extend_from_slice.new.self.items in
    let zeros : c.else-zeros-gt0.lines.items ≡ first ++ zeros_text c.args.zeros = elim c.else-zeros-gt0.branch [
      | else-zeros-gt0-via-then-zeros-gt0+else-is_err-2 w ↦
          ap (λ l. l.items) w.lines-is
          ∙ added (is_ok w.extend_from_slice-then-zeros-gt0.result) first w.extend_from_slice-then-zeros-gt0.new.self.items (take (c.args.zeros + 1) point-zeros) w.if-is_err-2.ensures.negation w.extend_from_slice-then-zeros-gt0.ensures.items
          ∙ ap (λ l. first ++ l) (zeros-taken c.args.zeros w.if-zeros-gt0.true c.requires.few)
      | else-zeros-gt0-via-else-zeros-gt0 w ↦ ap (λ l. l.items) w.lines-is ∙ sym (ap (λ l. first ++ l) (no-zeros c.args.zeros w.if-zeros-gt0.false) ∙ append-nil first)
    ] in
    cell-copied c.is_ok.result c.args.lines.now.items first c.else-zeros-gt0.lines.items c.push.new.self.items own (zeros_text c.args.zeros) c.args.mark
    (added (is_ok c.extend_from_slice.result) c.args.lines.now.items first own c.if-is_err.ensures.negation c.extend_from_slice.ensures.items) zeros
    (c.push.ensures.items ∙ ap (λ t. cond t (c.else-zeros-gt0.lines.items ++ c.args.mark ∷ []) c.else-zeros-gt0.lines.items) (sym c.is_ok.ensures.value))

pub returns-clause-grown : goal.returns-clause-grown
returns-clause-grown c =
    let first = c.extend_from_slice.new.self.items in
    let one : HasGrown c.args.lines.now.items first =
    grown-maybe (is_ok c.extend_from_slice.result) _ _ (slice_range c.args.text.now c.args.from c.args.to) c.extend_from_slice.ensures.items in
    let two : HasGrown first c.else-zeros-gt0.lines.items = elim c.else-zeros-gt0.branch [
      | else-zeros-gt0-via-then-zeros-gt0+else-is_err-2 w ↦
          subst (λ l. HasGrown first l.items) (sym w.lines-is) (grown-maybe (is_ok w.extend_from_slice-then-zeros-gt0.result) _ _ _ w.extend_from_slice-then-zeros-gt0.ensures.items)
      | else-zeros-gt0-via-else-zeros-gt0 w ↦ record { copy = []; now_is = ap (λ l. l.items) w.lines-is ∙ sym (append-nil first) }
    ] in
    let three : HasGrown c.else-zeros-gt0.lines.items c.push.new.self.items = grown-maybe (is_ok c.push.result) _ _ (c.args.mark ∷ []) c.push.ensures.items in
    grown-twice _ _ _ one (grown-twice _ _ _ two three)
