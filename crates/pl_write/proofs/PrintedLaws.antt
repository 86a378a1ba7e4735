-- The text of a frame whose first rows were printed before.
use Rattle.std.proofs.Common.{◌≡◌, ℕ, List, ◌++◌, refl, sym, ◌∙◌, ap}
use Rattle.std.specs.List.{concat}
use Rattle.pl_frame.specs.Frame.{ColumnValue, HaveHeight, height_of, names_of}
use Rattle.pl_frame.specs.FrameParts.{HaveSameColumns, schema_of, stacked}
use Rattle.pl_text.specs.FrameText.{WriteOptions, head_text, text_of_frame}
use Rattle.pl_write.specs.Batches.{all_lines}
use Rattle.pl_write.specs.Options.{cell_options, frame_options}
use Rattle.pl_write.specs.Printed.{printed_text}
use Rattle.pl_write.specs.declared.options.CsvWriterOptions.{CsvWriterOptions}
use Rattle.pl_write.proofs.StackLaws.{lines-stacked, names-are, schema-stacked}

-- the lines of rows have nothing of byte order mark and header
pub lines-alone : (o : CsvWriterOptions) (columns : List ColumnValue) → all_lines (cell_options o.serialize_options) columns ≡ all_lines (frame_options o) columns
lines-alone o columns = refl

-- columns that are put behind others have their names
pub names-stacked : (columns others : List ColumnValue) → HaveSameColumns columns others → names_of (stacked columns others) ≡ names_of others
names-stacked columns others same =
    let schema = schema_of others in
    names-are schema (stacked columns others) (schema-stacked columns others same ∙ same) ∙ sym (names-are schema others refl)

-- where the lines of the first rows were printed, the text is that of the frame of these rows and those behind them
pub printed-is-text : (o : WriteOptions) (printed : List (List ℕ)) (columns others : List ColumnValue) → HaveSameColumns columns others → HaveHeight (height_of columns) columns
    → concat printed ≡ all_lines o columns → printed_text o (names_of others) printed others ≡ text_of_frame o (stacked columns others)
printed-is-text o printed columns others same have before =
    (λ j. head_text o (sym (names-stacked columns others same) j) ++ (before j ++ all_lines o others))
    ∙ ap (λ l. head_text o (names_of (stacked columns others)) ++ l) (sym (lines-stacked o columns others same have))
