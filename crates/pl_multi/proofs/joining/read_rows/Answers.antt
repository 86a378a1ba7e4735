use Rattle.std.proofs.Common.{◌≡◌, ◌++◌, ◌∙◌, List, sym, subst, None}
use Rattle.pl_frame.specs.Frame.{ColumnValue, HaveHeight, height_of}
use Rattle.pl_frame.specs.Schema.{Entry}
use Rattle.pl_options.specs.FirstCause.{IsFault}
use Rattle.pl_read.specs.Steps.{late_cause}
use Rattle.pl_multi.specs.Scan.{value_columns, with_part_values}
use Rattle.pl_multi.proofs.RowsLaws.{settled-given, part-height}
use Rattle.pl_multi.proofs.joining.read_rows.Goals as goal

pub returns-in-Err-clause-refused : goal.returns-in-Err-clause-refused
returns-in-Err-clause-refused g c =
    let o = c.args.options.now in
    let bytes = c.args.bytes.now in
    subst (λ (s : List Entry). IsFault (late_cause o s bytes) c.in-Err.fault) (settled-given o bytes c.requires.given) c.in-Err.ensures.refused

pub returns-in-Ok-push_values-clause-sound : goal.returns-in-Ok-push_values-clause-sound
returns-in-Ok-push_values-clause-sound g c =
    let o = c.args.options.now in
    let bytes = c.args.bytes.now in
    subst (λ (s : List Entry). late_cause o s bytes ≡ None) (settled-given o bytes c.requires.given) c.in-Ok.ensures.sound

pub returns-in-Ok-push_values-clause-height : goal.returns-in-Ok-push_values-clause-height
returns-in-Ok-push_values-clause-height g c =
    let part = c.args.part.now in
    let frame = c.in-Ok.frame in
    let are : c.push_values.new.columns.items ≡ with_part_values part frame =
    c.in-Ok-push_values.ensures ∙ (λ i. c.into_columns-columns.ensures.columns i ++ value_columns (c.height-rows.ensures i) part.values) in
    subst (λ (l : List ColumnValue). HaveHeight (height_of l) l) (sym are) (part-height part frame c.into_columns-columns.ensures.frame.one_height)
