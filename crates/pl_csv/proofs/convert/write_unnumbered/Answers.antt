use Rattle.std.proofs.Common.{ℕ, Global, List, ◌∷◌, map, sym, subst}
use Rattle.std.proofs.lemmas.Result.{on_ok_weaker}
use Rattle.std.specs.Cow.{cow_slice_items}
use Rattle.std.specs.declared.borrow.CowSlice.{CowSlice}
use Rattle.std.specs.Io.KnownBytes.{Appends}
use Rattle.pl_frame.specs.Frame.{height_of, names_of}
use Rattle.pl_frame.specs.RowIndex.{row_index_column}
use Rattle.pl_frame.proofs.Known.{Appends-more}
use Rattle.pl_row_numbers.specs.Numbers.{AreLinesOf}
use Rattle.pl_text.specs.FrameText.{head_text}
use Rattle.pl_write.specs.Batches.{all_lines}
use Rattle.pl_write.specs.Options.{cell_options, frame_options}
use Rattle.pl_write.specs.Writing.{AppendsPrefix}
use Rattle.pl_write.proofs.PrintLaws.{AppendsPrefix-behind, AppendsPrefix-longer}
use Rattle.pl_csv.proofs.NumberingLaws.{head-alone, whole-text}
use Rattle.pl_csv.proofs.convert.write_unnumbered.Goals as goal

pub returns-in-Ok-clause-text : goal.returns-in-Ok-clause-text
returns-in-Ok-clause-text g c = λ frame are.
    let write = c.args.write.now in
    let offset = c.args.offset in
    let printed = c.args.printed.now in
    let old = g.S.Sink.received c.args.sink.now in
    let mid = g.S.Sink.received c.write_behind.new.sink in
    let next = g.S.Sink.received c.write_numbered.new.sink in
    let head = head_text (frame_options write) (names_of frame) in
    let lines = all_lines (cell_options write.serialize_options) (row_index_column are.name offset (height_of are.columns) ∷ are.columns) in
    let first = subst (λ (l : List ℕ). Appends old mid l) (head-alone write offset printed frame c.columns-columns.result.now are c.columns-columns.ensures.columns) c.in-Ok.ensures.text in
    let given = subst (λ (l : List (CowSlice ℕ Global)). AreLinesOf (cell_options write.serialize_options) offset are.columns (map cow_slice_items l)) (sym c.deref.ensures.value) are.lines in
    on_ok_weaker c.write_numbered.result
    (λ appended. subst (λ (l : List ℕ). Appends old next l) (whole-text write offset printed frame are) (Appends-more old mid next head lines first appended))
    (c.write_numbered.ensures.text are.name are.columns given)

pub returns-in-Ok-clause-prefix : goal.returns-in-Ok-clause-prefix
returns-in-Ok-clause-prefix g c = λ frame are.
    let write = c.args.write.now in
    let offset = c.args.offset in
    let printed = c.args.printed.now in
    let old = g.S.Sink.received c.args.sink.now in
    let mid = g.S.Sink.received c.write_behind.new.sink in
    let next = g.S.Sink.received c.write_numbered.new.sink in
    let head = head_text (frame_options write) (names_of frame) in
    let lines = all_lines (cell_options write.serialize_options) (row_index_column are.name offset (height_of are.columns) ∷ are.columns) in
    let first = subst (λ (l : List ℕ). Appends old mid l) (head-alone write offset printed frame c.columns-columns.result.now are c.columns-columns.ensures.columns) c.in-Ok.ensures.text in
    let given = subst (λ (l : List (CowSlice ℕ Global)). AreLinesOf (cell_options write.serialize_options) offset are.columns (map cow_slice_items l)) (sym c.deref.ensures.value) are.lines in
    subst (λ (l : List ℕ). AppendsPrefix old next l) (whole-text write offset printed frame are)
    (AppendsPrefix-behind old mid next head lines first (c.write_numbered.ensures.prefix are.name are.columns given))

pub returns-in-Err-clause-prefix : goal.returns-in-Err-clause-prefix
returns-in-Err-clause-prefix g c = λ frame are.
    let write = c.args.write.now in
    let offset = c.args.offset in
    let printed = c.args.printed.now in
    let old = g.S.Sink.received c.args.sink.now in
    let mid = g.S.Sink.received c.write_behind.new.sink in
    let head = head_text (frame_options write) (names_of frame) in
    let lines = all_lines (cell_options write.serialize_options) (row_index_column are.name offset (height_of are.columns) ∷ are.columns) in
    let first = subst (λ (l : List ℕ). AppendsPrefix old mid l) (head-alone write offset printed frame c.columns-columns.result.now are c.columns-columns.ensures.columns) c.write_behind.ensures.prefix in
    AppendsPrefix-longer old mid head lines _ (whole-text write offset printed frame are) first
