-- The lines of parts, one part behind the other, are those of their joined read.
use Rattle.std.proofs.Common.{◌≡◌, ℕ, ◌+◌, ◌<◌, Bool, true, false, ◌||◌, if◌then◌else◌, nat_lt, List, [], ◌∷◌, ◌++◌, map, length, get_or, Option, Some, None, refl, sym, ◌∙◌, ap, subst}
use Rattle.std.specs.Prelude.{◌≤◌, Ok, is_none, is_some, unwrap_or}
use Rattle.std.specs.List.{concat}
use Rattle.std.specs.Option.{option_map}
use Rattle.std.proofs.lemmas.List.{append-nil}
use Rattle.std.proofs.lemmas.List.Folds.{concat-append}
use Rattle.pl_frame.specs.Frame.{ColumnValue, IsFrame, HaveHeight, height_of, names_of}
use Rattle.pl_frame.specs.FrameParts.{stacked, schema_of, HaveSameColumns}
use Rattle.pl_frame.specs.Schema.{Entry}
use Rattle.pl_frame.specs.declared.data_type.DataType.TheVariants as dtype
use Rattle.pl_text.specs.FrameText.{head_text, text_of_frame}
use Rattle.pl_options.specs.FirstCause.{first_some}
use Rattle.pl_options.specs.declared.read_options.CsvReadOptions.{CsvReadOptions}
use Rattle.pl_options.specs.declared.row_index.RowIndex.{RowIndex}
use Rattle.pl_infer.specs.Schemas.{is_categorical}
use Rattle.pl_rows.specs.Columns.{entries_in}
use Rattle.pl_rows.proofs.FrameLaws.{have_height}
use Rattle.pl_read.specs.Options.{data_of, rules_of}
use Rattle.pl_read.specs.Projection.{projected}
use Rattle.pl_read.specs.Reading.{frame_of}
use Rattle.pl_read.specs.Refusals.{codes_past}
use Rattle.pl_read.specs.Rows.{rows_in, data_columns, with_index}
use Rattle.pl_read.specs.SettleGiven.{given_schema}
use Rattle.pl_read.proofs.CauseLaws.{first_some-behind}
use Rattle.pl_write.specs.Batches.{all_lines}
use Rattle.pl_write.specs.Options.{cell_options, frame_options}
use Rattle.pl_write.specs.Printed.{printed_text}
use Rattle.pl_write.specs.declared.options.CsvWriterOptions.{CsvWriterOptions}
use Rattle.pl_write.proofs.StackLaws.{lines-stacked, lines-empty}
use Rattle.pl_multi.specs.Parts.{partition_names, entries_read, is_wrong, start_of, end_of}
use Rattle.pl_multi.specs.Scan.{part_options, part_rows, value_columns, no_rows, rows_from, index_fault, late_fault, numbered, IsJoined}
use Rattle.pl_multi.specs.Joining.{AreJoined, Join, IsJoinFault, IsPartFault, IsSound}
use Rattle.pl_multi.specs.Printing.{IsPlain, have_codes, ArePartLines, ArePrinted}
use Rattle.pl_multi.specs.declared.part.Part.{Part}
use Rattle.pl_multi.specs.declared.scan.MultiFault.{MultiFault}
use Rattle.pl_multi.proofs.JoinedLaws.{joined-none, joined-all, joined-step, fault-step}
use Rattle.pl_multi.proofs.RowsLaws.{none-or, level, names-schema, same-part, same-names, frame-behind, same-behind, rows-all}
use Rattle.pl_multi.proofs.ScanLaws.{not-wrong, no-other, joined-frame}

-- ---- the options

-- there is no limit of rows
pub unlimited : (o : CsvReadOptions) (slice : Option (ℕ × ℕ)) (parts : List Part) → IsSound o slice parts → o.n_rows ≡ None
unlimited o slice parts sound = by o.n_rows refl
  where
    right : is_wrong o slice ≡ false
    right = not-wrong o slice parts None sound.early

    tests : is_some o.n_rows ≡ false
    tests = (none-or (is_some o.n_rows) _ (none-or (is_some o.path) _ (none-or (is_none o.schema) _ right).1).1).0

    by : (rows : Option ℕ) → o.n_rows ≡ rows → o.n_rows ≡ None
    by None e = e
    by (Some n) e = let some : is_some o.n_rows ≡ true = ap is_some e in absurd (let wrong : true ≡ false = sym some ∙ tests in cc)

-- a part is read by the options as they are
plain-options : (o : CsvReadOptions) → o.row_index ≡ None → o.n_rows ≡ None → o ≡ part_options o None
plain-options o numbers rows = (λ i. record o { row_index = numbers i; n_rows = rows i })

-- ---- the rows of a part

values-none : (values : List (List ℕ × List ℕ)) → map (λ (value : List ℕ × List ℕ). value.0) values ≡ [] → values ≡ []
values-none [] none = refl
values-none (value ∷ values) none = absurd (cc)

-- without values they are those of its bytes
rows-plain : (o : CsvReadOptions) (schema : List Entry) (part : Part) (bytes : List ℕ) → part.values ≡ [] → part_rows o schema (part, bytes) ≡ frame_of o schema bytes
rows-plain o schema part bytes none =
    let frame : List ColumnValue = frame_of o schema bytes in
    ap (λ values. frame ++ value_columns (height_of frame) values) none ∙ append-nil frame

-- they have one height
rows-level : (o : CsvReadOptions) (schema : List Entry) (bytes : List ℕ) → o.row_index ≡ None → HaveHeight (height_of (frame_of o schema bytes)) (frame_of o schema bytes)
rows-level o schema bytes none =
    let records = unwrap_or (data_of o bytes) [] in
    let given = rows_in o records in
    let columns = data_columns o schema records in
    subst (λ (index : Option RowIndex). HaveHeight (height_of (with_index index (length given) columns)) (with_index index (length given) columns)) (sym none)
    (level (length given) columns (have_height (rules_of o schema) given (entries_in schema (projected o schema))))

-- ---- parts so far

-- none
pub printed-none : (holds : List ℕ → Option (List ℕ)) (read : CsvReadOptions) (write : CsvWriterOptions) (parts : List Part) → IsFrame (no_rows read parts) → ArePrinted holds read write parts 0 []
printed-none holds read write parts frame = record {
  columns = no_rows read parts;
  joined = joined-none holds read None parts;
  frame = frame;
  same = refl;
  are = sym (lines-empty (cell_options write.serialize_options) _);
}

module _ (holds later_holds : List ℕ → Option (List ℕ)) (stays : (other : List ℕ) → later_holds other ≡ holds other) (read : CsvReadOptions) (write : CsvWriterOptions) (parts : List Part)
    (sound : IsSound read None parts) (plain : IsPlain read None parts) (place : ℕ) (part : Part) (within : place < length parts) (at : part ≡ get_or parts place part) where
  options-are : read ≡ part_options read None
  options-are = plain-options read plain.unnumbered (unlimited read None parts sound)

  names-are : map (λ (value : List ℕ × List ℕ). value.0) part.values ≡ partition_names parts
  names-are = same-names parts place part (no-other read None parts sound.early) within at

  -- one more
  pub printed-more : (before : List (List ℕ)) (text : List ℕ) → ArePrinted holds read write parts place before → ArePartLines later_holds read write part text
      → ArePrinted holds read write parts (place + 1) (before ++ text ∷ [])
  printed-more before text front (bytes, held, lines) =
      let o = cell_options write.serialize_options in
      let schema = given_schema read in
      let columns = front.columns in
      let rows : List ColumnValue = part_rows read schema (part, bytes) in
      let plainly : rows ≡ frame_of read schema bytes = rows-plain read schema part bytes (values-none part.values (names-are ∙ plain.bare)) in
      let same : HaveSameColumns columns rows =
      sym front.same ∙ subst (λ (p : CsvReadOptions). HaveSameColumns (no_rows read parts) (part_rows p schema (part, bytes))) (sym options-are) (same-part read parts None part bytes names-are) in
      record {
        columns = stacked columns rows;
        joined = joined-step holds later_holds stays read None parts place columns front.joined part within at refl read options-are (stacked columns rows) (height_of rows)
            record { bytes = bytes; held = held; sound = lines.sound; is = refl; counted = refl };
        frame = frame-behind columns rows same front.frame (subst (λ (l : List ColumnValue). HaveHeight (height_of l) l) (sym plainly) (rows-level read schema bytes plain.unnumbered));
        same = front.same ∙ same-behind columns rows same;
        are = concat-append before (text ∷ [])
            ∙ (λ i. front.are i ++ (append-nil text ∙ lines.are ∙ ap (all_lines o) (sym plainly)) i)
            ∙ sym (lines-stacked o columns rows same front.frame.one_height);
      }

  -- one that is refused
  pub printed-fault : (columns : List ColumnValue) → AreJoined holds read None parts place columns → (first before now : ℕ) (refused : MultiFault) → first ≤ before → IsPartFault later_holds before now read part place refused
      → IsJoinFault holds first now read None parts refused
  printed-fault columns joined first before now refused later fault =
      fault-step holds later_holds stays read None parts place columns joined part within at refl read options-are first before now refused later fault

-- ---- all of them

same-codes : (columns others : List ColumnValue) → HaveSameColumns columns others → have_codes columns ≡ have_codes others
same-codes [] [] same = refl
same-codes [] (x ∷ xs) same = absurd (cc)
same-codes (c ∷ cs) [] same = absurd (cc)
same-codes (c ∷ cs) (x ∷ xs) same =
    let mine : Entry = (c.name, c.dtype) in
    let its : Entry = (x.name, x.dtype) in
    let first : mine ≡ its = cc in
    let rest : schema_of cs ≡ schema_of xs = cc in
    (λ i. is_categorical (first i).1 || same-codes cs xs rest i)

-- no code is too great
codes-fit : (columns : List ColumnValue) → have_codes columns ≡ false → first_some (map codes_past columns) ≡ None
codes-fit [] none = refl
codes-fit (column ∷ columns) none =
    let both = none-or (is_categorical column.dtype) (have_codes columns) none in
    let first = both.0 in
    let here : codes_past column ≡ None = rw first refl in
    first_some-behind (codes_past column) (map codes_past columns) here ∙ codes-fit columns both.1

late-none : (o : CsvReadOptions) (slice : Option (ℕ × ℕ)) (columns : List ColumnValue) → slice ≡ None → o.row_index ≡ None → IsFrame columns → have_codes columns ≡ false
    → late_fault o.row_index (start_of slice) columns ≡ None
late-none o slice columns unsliced unnumbered frame none =
    (λ i. late_fault (unnumbered i) (start_of (unsliced i)) columns)
    ∙ by (nat_lt 0 (height_of (rows_from 0 columns)))
    ∙ ap (λ (l : List ColumnValue). option_map index_fault (first_some (map codes_past l))) (sym (rows-all columns frame))
    ∙ ap (option_map index_fault) (codes-fit columns none)
  where
    by : (some : Bool) → option_map index_fault (first_some ((if some then None else None) ∷ map codes_past (rows_from 0 columns))) ≡ option_map index_fault (first_some (map codes_past (rows_from 0 columns)))
    by true = refl
    by false = refl

module _ (holds : List ℕ → Option (List ℕ)) (o : CsvReadOptions) (slice : Option (ℕ × ℕ)) (parts : List Part) (sound : IsSound o slice parts) (plain : IsPlain o slice parts)
    (write : CsvWriterOptions) (lines : List (List ℕ)) (all : ArePrinted holds o write parts (length parts) lines) where
  pub printed-joined : have_codes (no_rows o parts) ≡ false → IsJoined holds o slice parts all.columns
  printed-joined none =
      let join : Join holds o None parts (Ok all.columns) = joined-all holds o None parts (length parts) all.columns all.joined refl in
      joined-frame holds o slice parts all.columns all.columns sound (subst (λ s. Join holds o (end_of s) parts (Ok all.columns)) (sym plain.unsliced) join)
      (late-none o slice all.columns plain.unsliced plain.unnumbered all.frame (sym (same-codes (no_rows o parts) all.columns all.same) ∙ none))
      (rows-all all.columns all.frame ∙ (λ i. numbered (sym plain.unnumbered i) (start_of (sym plain.unsliced i)) all.columns))

  -- behind the head of their columns they are its text
  pub printed-whole : (given : CsvWriterOptions) (empty : List ColumnValue) → write.serialize_options ≡ given.serialize_options → empty ≡ no_rows o parts
      → printed_text (frame_options given) (names_of empty) lines empty ≡ text_of_frame (frame_options given) all.columns
  printed-whole given empty cells none =
      let w = frame_options given in
      let rows : concat lines ≡ all_lines w all.columns = all.are ∙ ap (λ s. all_lines (cell_options s) all.columns) cells in
      ap (λ (l : List ColumnValue). printed_text w (names_of l) lines l) none
      ∙ (λ i. head_text w (names-schema (no_rows o parts) all.columns all.same i) ++ (rows i ++ lines-empty w (entries_read o (given_schema o) ++ map (λ name. (name, dtype.String)) (partition_names parts)) i))
      ∙ ap (λ l. head_text w (names_of all.columns) ++ l) (append-nil (all_lines w all.columns))
