use Rattle.std.proofs.Common.{◌≡◌, ◌∙◌, Option, length, ap, sym, subst}
use Rattle.pl_frame.specs.Frame.{IsFrame}
use Rattle.pl_options.specs.declared.row_index.RowIndex.{RowIndex}
use Rattle.pl_multi.specs.Joining.{HasFreeName}
use Rattle.pl_multi.proofs.RowsLaws.{frame-none, free-same, length-same, written-back}
use Rattle.pl_multi.proofs.ScanLaws.{early-fault}
use Rattle.pl_multi.proofs.scan.scan_parts.Goals as goal

pub returns-in-Err-clause-refused : goal.returns-in-Err-clause-refused
returns-in-Err-clause-refused g c =
    early-fault (g.O.Opener.holds c.args.opener.now) _ _ c.args.read.now c.args.slice c.args.parts.now c.in-Err.fault c.in-Err.ensures.refused

pub join_parts-requires-clause-frame : goal.join_parts-requires-clause-frame
join_parts-requires-clause-frame g c κs within =
    let read = c.args.read.now in
    subst IsFrame (sym (c.deref_mut.ensures.value ∙ c.in-Ok.ensures.empty))
    (frame-none read c.args.parts.now (subst (HasFreeName read.row_index) c.in-Ok.ensures.empty c.in-Ok.ensures.free))

pub number-requires-clause-free : goal.number-requires-clause-free
number-requires-clause-free g c =
    let index = c.args.read.now.row_index in
    let columns = c.in-Ok-into_columns.columns.items in
    let first : HasFreeName index c.deref_mut.result.now = subst (HasFreeName index) (sym c.deref_mut.ensures.value) c.in-Ok.ensures.free in
    let last : HasFreeName index c.join_parts.new.stacks = free-same index c.deref_mut.result.now c.join_parts.new.stacks first c.in_default.ensures.same in
    let value = c.deref_mut.ensures.value in
    let same : length c.in-Ok.stacks.items ≡ length c.join_parts.new.stacks = ap length (sym value) ∙ length-same c.deref_mut.result.now c.join_parts.new.stacks c.in_default.ensures.same in
    let are : columns ≡ c.join_parts.new.stacks =
    c.in-Ok-into_columns.ensures ∙ written-back c.in-Ok.stacks.items c.join_parts.new.stacks c.in-Ok.stacks.len same (sym c.deref_mut.ensures.len ∙ ap length value) in
    subst (λ (given : Option RowIndex). HasFreeName given columns) (sym c.as_ref.ensures.value) (subst (HasFreeName index) (sym are) last)
