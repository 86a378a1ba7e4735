use Rattle.std.proofs.Common.{◌≡◌, ◌+◌, ◌++◌, map, not, sym, ◌∙◌, ap, subst, append_assoc}
use Rattle.std.specs.Cow.{cow_slice_items}
use Rattle.std.specs.List.{concat}
use Rattle.std.specs.Prelude.{if◌then◌else◌, slice_range}
use Rattle.pl_frame.specs.Frame.{HaveHeight, height_of}
use Rattle.pl_write.specs.Batches.{all_lines}
use Rattle.pl_write.specs.Options.{cell_options}
use Rattle.pl_rows.specs.WholePieces.{IsPieceFound}
use Rattle.pl_regions.specs.Regions.{lines_so_far}
use Rattle.pl_verbatim.specs.PrintedTexts.{IsFrontPrinted}
use Rattle.pl_verbatim.proofs.PrintingLaws.{IsFrontPrinted-more}
use Rattle.pl_regions.proofs.RegionLaws.{ok-holds, level-piece, IsTextPrinted-piece}
use Rattle.pl_regions.proofs.region.OpenRegion.print_piece.Goals as goal

pub print-requires : goal.print-requires
print-requires c =
    let piece = slice_range c.args.self.now.text.now c.args.self.now.end c.args.to in
    let is = subst (IsPieceFound c.args.plan.now c.args.schema.now piece) c.in-Ok-Some.field-0-is c.in-Ok-Some.ensures in
    record {
      columns = subst (λ columns. HaveHeight (height_of columns) columns) (sym c.deref.ensures.value) (level-piece c.args.plan.now c.args.schema.now piece c.in-Ok-Some.read is.0);
    }

pub returns-clause-printed : goal.returns-clause-printed
returns-clause-printed c =
    let plan = c.args.plan.now in
    let schema = c.args.schema.now in
    let o = cell_options c.args.options.now in
    let text = c.args.self.now.text.now in
    let from = c.args.self.now.end in
    let to = c.args.to in
    let read = c.in-Ok-Some.read in
    let done = concat (map cow_slice_items c.args.self.now.done.items) in
    let lines = c.args.self.now.lines.items in
    let told = c.as_slice.result.now in
    let is = subst (IsPieceFound plan schema (slice_range text from to)) c.in-Ok-Some.field-0-is c.in-Ok-Some.ensures in
    let ok = c.is_err.ensures.negation ∙ ap not c.if-is_err.false in
    let pushed = c.is_err-2.ensures.negation ∙ ap not c.if-is_err-2.false in
    let printed : told ≡ all_lines o read.columns.items = c.as_slice.ensures ∙ ok-holds c.print.result _ ok c.print.ensures ∙ ap (all_lines o) c.deref.ensures.value in
    let more : c.extend_from_slice.new.self.items ≡ lines ++ told = c.extend_from_slice.ensures.items ∙ ap (λ t. if t then lines ++ told else lines) pushed in
    let front =
    IsFrontPrinted-more plan schema o text from to c.args.self.now.rows read.rows (lines_so_far c.args.self.now) told c.requires.can.dialect c.requires.printed c.requires.after c.requires.within
    (IsTextPrinted-piece plan schema o (slice_range text from to) told read is.0 printed) in
    subst (λ n. IsFrontPrinted plan schema o text to n (done ++ c.extend_from_slice.new.self.items)) (sym c.in-Some.ensures.1)
    (subst (IsFrontPrinted plan schema o text to (c.args.self.now.rows + read.rows)) (append_assoc done lines told ∙ ap (λ l. done ++ l) (sym more)) front)
