use Rattle.std.proofs.Common.{◌≡◌, ◌∙◌, List, ℕ, sym, ap, subst}
use Rattle.std.specs.Prelude.{IfSome}
use Rattle.pl_frame.specs.Frame.{IsFrame, height_of}
use Rattle.pl_frame.specs.FrameParts.{stacked, HaveSameColumns}
use Rattle.pl_multi.specs.Joining.{IsPartFault}
use Rattle.pl_multi.specs.Scan.{IsHeld}
use Rattle.pl_multi.proofs.JoinedLaws.{part-fault}
use Rattle.pl_multi.proofs.RowsLaws.{frame-behind, same-behind}
use Rattle.pl_multi.proofs.joining.join_part.Goals as goal

pub returns-in-Err-clause-refused : goal.returns-in-Err-clause-refused
returns-in-Err-clause-refused g c =
    let holds = g.O.Opener.holds c.args.opener.now in
    let part = c.args.part.now in
    let bytes = c.deref.result.now in
    let held : IsHeld holds (part, bytes) =
    subst (λ path. IfSome (holds path) (λ told. bytes ≡ told)) c.as_str.ensures (subst (λ (b : List ℕ). IfSome (holds c.as_str.result.now) (λ told. b ≡ told)) (sym c.deref.ensures.value) c.in-Ok.ensures.bytes) in
    subst (IsPartFault holds _ _ c.args.options.now part c.args.place) (sym c.part_fault.ensures)
    (part-fault holds _ _ c.args.options.now part c.args.place bytes held c.in-Err.fault c.in-Err.ensures.refused)

pub returns-in-Ok-push_columns-clause-joined : goal.returns-in-Ok-push_columns-clause-joined
returns-in-Ok-push_columns-clause-joined g c =
    let holds = g.O.Opener.holds c.args.opener.now in
    let bytes = c.deref.result.now in
    let rows = c.in-Ok-read_rows.ensures.rows in
    record {
      bytes = bytes;
      held = subst (λ path. IfSome (holds path) (λ told. bytes ≡ told)) c.as_str.ensures (subst (λ (b : List ℕ). IfSome (holds c.as_str.result.now) (λ told. b ≡ told)) (sym c.deref.ensures.value) c.in-Ok.ensures.bytes);
      sound = c.in-Ok-read_rows.ensures.sound;
      is = c.in-Ok-push_columns.ensures ∙ ap (stacked c.args.stacks.now) rows;
      counted = c.rows_of-rows.ensures ∙ ap height_of (c.deref-2.ensures.value ∙ rows);
    }

pub returns-in-Ok-push_columns-clause-frame : goal.returns-in-Ok-push_columns-clause-frame
returns-in-Ok-push_columns-clause-frame g c =
    let old = c.args.stacks.now in
    let columns = c.in-Ok-read_rows.columns.items in
    let same : HaveSameColumns old columns = subst (HaveSameColumns old) (sym c.in-Ok-read_rows.ensures.rows) (c.requires.same c.deref.result.now) in
    subst IsFrame (sym c.in-Ok-push_columns.ensures) (frame-behind old columns same c.requires.frame c.in-Ok-read_rows.ensures.height)

pub returns-in-Ok-push_columns-clause-same : goal.returns-in-Ok-push_columns-clause-same
returns-in-Ok-push_columns-clause-same g c =
    let old = c.args.stacks.now in
    let columns = c.in-Ok-read_rows.columns.items in
    let same : HaveSameColumns old columns = subst (HaveSameColumns old) (sym c.in-Ok-read_rows.ensures.rows) (c.requires.same c.deref.result.now) in
    subst (HaveSameColumns old) (sym c.in-Ok-push_columns.ensures) (same-behind old columns same)
