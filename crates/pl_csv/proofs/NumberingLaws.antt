-- What is written of lines that were printed without their row index is the text of the frame with it.
use Rattle.std.proofs.Common.{◌≡◌, ℕ, Global, List, [], ◌∷◌, ◌++◌, map, sym, ◌∙◌, ap, subst, append-nil}
use Rattle.std.specs.Prelude.{Option, None, Some, MatchOption}
use Rattle.std.specs.Cow.{cow_slice_items}
use Rattle.std.specs.declared.borrow.CowSlice.{CowSlice}
use Rattle.pl_frame.specs.Frame.{ColumnValue, height_of, names_of}
use Rattle.pl_frame.specs.RowIndex.{row_index_column}
use Rattle.pl_text.specs.FrameText.{head_text, row_lines, text_of_frame}
use Rattle.pl_write.specs.Batches.{all_lines}
use Rattle.pl_write.specs.Options.{cell_options, frame_options}
use Rattle.pl_write.specs.Printed.{printed_text}
use Rattle.pl_write.specs.declared.options.CsvWriterOptions.{CsvWriterOptions}
use Rattle.pl_csv.specs.Converting.{AreUnnumbered, HasTextOf}
use Rattle.pl_csv.specs.declared.convert.Printed.{Printed}

-- what stands before the rows is written alone
pub head-alone : (write : CsvWriterOptions) (offset : ℕ) (printed : Printed) (frame rest : List ColumnValue) → AreUnnumbered write offset printed frame → rest ≡ printed.rest
    → printed_text (frame_options write) (names_of rest) [] rest ≡ head_text (frame_options write) (names_of frame)
head-alone write offset printed frame rest are is =
    let o = frame_options write in
    ap (λ (r : List ColumnValue). printed_text o (names_of r) [] r) is
    ∙ ap (λ n. head_text o (names_of printed.rest) ++ row_lines o printed.rest 0 n) are.none
    ∙ append-nil (head_text o (names_of printed.rest))
    ∙ ap (head_text o) are.names

-- and the lines behind it
pub whole-text : (write : CsvWriterOptions) (offset : ℕ) (printed : Printed) (frame : List ColumnValue) → (are : AreUnnumbered write offset printed frame)
    → head_text (frame_options write) (names_of frame) ++ all_lines (cell_options write.serialize_options) (row_index_column are.name offset (height_of are.columns) ∷ are.columns) ≡ text_of_frame (frame_options write) frame
whole-text write offset printed frame are = ap (λ (f : List ColumnValue). head_text (frame_options write) (names_of frame) ++ all_lines (frame_options write) f) (sym are.frame_is)

-- where no numbers are wanting
pub text-plain : (write : CsvWriterOptions) (printed : Printed) (frame rest : List ColumnValue) (lines : List (CowSlice ℕ Global)) → printed.numbers ≡ None → lines ≡ printed.lines.items → rest ≡ printed.rest
    → HasTextOf write printed frame → printed_text (frame_options write) (names_of rest) (map cow_slice_items lines) rest ≡ text_of_frame (frame_options write) frame
text-plain write printed frame rest lines none lines_are is has =
    let o = frame_options write in
    ap (λ (l : List (CowSlice ℕ Global)). printed_text o (names_of rest) (map cow_slice_items l) rest) lines_are
    ∙ ap (λ (r : List ColumnValue). printed_text o (names_of r) (map cow_slice_items printed.lines.items) r) is
    ∙ subst
    (λ (n : Option ℕ). MatchOption n (printed_text o (names_of printed.rest) (map cow_slice_items printed.lines.items) printed.rest ≡ text_of_frame o frame) (λ offset. AreUnnumbered write offset printed frame))
    none has

-- where they are
pub text-numbered : (write : CsvWriterOptions) (offset : ℕ) (printed : Printed) (frame : List ColumnValue) → printed.numbers ≡ Some offset → HasTextOf write printed frame → AreUnnumbered write offset printed frame
text-numbered write offset printed frame some has =
    let o = frame_options write in
    subst
    (λ (n : Option ℕ). MatchOption n (printed_text o (names_of printed.rest) (map cow_slice_items printed.lines.items) printed.rest ≡ text_of_frame o frame) (λ offset. AreUnnumbered write offset printed frame))
    some has
