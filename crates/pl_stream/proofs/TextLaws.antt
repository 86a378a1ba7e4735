-- The text of first rows, and of more of them; the texts of all feeds.
use Rattle.std.proofs.Common.{◌≡◌, ℕ, zero, suc, ◌+◌, ◌<◌, Bool, true, false, List, [], ◌∷◌, ◌++◌, map, length, take, drop, Option, None, Some, refl, sym, ◌∙◌, ap, subst, arith, append_assoc, append-nil, length-append}
use Rattle.std.specs.Prelude.{filter, pos, unwrap_or}
use Rattle.std.specs.List.{concat}
use Rattle.std.proofs.lemmas.List.{drop_at}
use Rattle.std.proofs.lemmas.List.FromFn.{length-map-range_with_len}
use Rattle.pl_frame.specs.Dialect.{IsDialect}
use Rattle.pl_frame.specs.declared.data_type.DataType.TheVariants as dtype
use Rattle.pl_frame.specs.Frame.{Scalar, Number, ColumnValue, HaveHeight, height_of, names_of}
use Rattle.pl_frame.specs.FrameParts.{schema_of, HaveSameColumns, stacked}
use Rattle.pl_frame.specs.RowIndex.{row_numbers}
use Rattle.pl_options.specs.declared.read_options.CsvReadOptions.{CsvReadOptions}
use Rattle.pl_options.specs.declared.row_index.RowIndex.{RowIndex}
use Rattle.pl_options.specs.Text.{marks_of, comment_of}
use Rattle.pl_read.specs.Batches.{index_behind, frame_behind}
use Rattle.pl_read.specs.Options.{data_of, rules_of}
use Rattle.pl_read.specs.Projection.{projected}
use Rattle.pl_read.specs.Rows.{rows_in, with_index}
use Rattle.pl_read.specs.SettleGiven.{given_schema}
use Rattle.pl_rows.specs.Cells.{RowRules}
use Rattle.pl_rows.specs.Columns.{entries_in, frame_of_rows}
use Rattle.pl_rows.specs.Ranges.{limited}
use Rattle.pl_rows.proofs.FrameLaws.{have_height}
use Rattle.pl_rows.proofs.SoundTextLaws.{columns-stacked, same-rows}
use Rattle.pl_table.specs.Rows.{Row, rows}
use Rattle.pl_text.specs.FrameText.{WriteOptions, head_text, text_of_frame}
use Rattle.pl_verbatim.proofs.PrintingLaws.{level}
use Rattle.pl_write.specs.Batches.{all_lines}
use Rattle.pl_write.specs.Options.{frame_options}
use Rattle.pl_write.specs.declared.options.CsvWriterOptions.{CsvWriterOptions}
use Rattle.pl_write.proofs.StackLaws.{lines-stacked, schema-stacked, names-are}
use Rattle.pl_stream.specs.Feeding.{behind_settled, whole_text, all_rows}
use Rattle.pl_stream.specs.Laws.{fed_texts, SettledTextStays, CutsDoNotMatter}
use Rattle.pl_stream.specs.Printing.{lines_behind}
use Rattle.pl_stream.specs.Settled.{frame_of_first, text_of_first, tells_head, settled_rows, settled_text, rows_so_far, is_whole}
use Rattle.pl_stream.proofs.SettledLaws.{Begins, settled_rows_stay, settled-all}

-- ---- frames of rows, one behind the other

numbers-stacked : (offset : ℕ) (xs ys : List Row) → row_numbers offset (length xs) ++ row_numbers (offset + length xs) (length ys) ≡ row_numbers offset (length (xs ++ ys))
numbers-stacked offset [] ys = let same : offset + 0 ≡ offset = omega arith in ap (λ n. row_numbers n (length ys)) same
numbers-stacked offset (x ∷ xs) ys =
    let next : offset + length (x ∷ xs) ≡ offset + 1 + length xs = omega arith in
    ap (λ l. Some (Number (pos offset)) ∷ l) (ap (λ n. row_numbers (offset + 1) (length xs) ++ row_numbers n (length ys)) next ∙ numbers-stacked (offset + 1) xs ys)

module _ (o : CsvReadOptions) where
  abbrev rules : RowRules
  rules = rules_of o (given_schema o)

  abbrev columns_in : List Row → List ColumnValue
  columns_in given = frame_of_rows rules (entries_in (given_schema o) (projected o (given_schema o))) given

  abbrev with_numbers : RowIndex → List (Option Scalar) → List ColumnValue → List ColumnValue
  with_numbers index values others = record { name = index.name; dtype = dtype.UInt64; values = values } ∷ others

  frames-stacked_by : (index : Option RowIndex) (xs ys : List Row) → stacked (with_index index (length xs) (columns_in xs)) (with_index (index_behind (length xs) index) (length ys) (columns_in ys))
      ≡ with_index index (length (xs ++ ys)) (columns_in (xs ++ ys))
  frames-stacked_by None xs ys = columns-stacked rules (entries_in (given_schema o) (projected o (given_schema o))) xs ys
  frames-stacked_by (Some index) xs ys =
      ap (λ (values : List (Option Scalar)). with_numbers index values (stacked (columns_in xs) (columns_in ys))) (numbers-stacked index.offset xs ys)
      ∙ ap (with_numbers index (row_numbers index.offset (length (xs ++ ys)))) (columns-stacked rules (entries_in (given_schema o) (projected o (given_schema o))) xs ys)

  pub frames-stacked : (xs ys : List Row) → stacked (frame_of_first o xs) (frame_behind o (given_schema o) (length xs) ys) ≡ frame_of_first o (xs ++ ys)
  frames-stacked xs ys = frames-stacked_by o.row_index xs ys

  behind_by : (index : Option RowIndex) (before : ℕ) (xs ys : List Row) → stacked (with_index (index_behind before index) (length xs) (columns_in xs)) (with_index (index_behind (before + length xs) index) (length ys) (columns_in ys))
      ≡ with_index (index_behind before index) (length (xs ++ ys)) (columns_in (xs ++ ys))
  behind_by None before xs ys = columns-stacked rules (entries_in (given_schema o) (projected o (given_schema o))) xs ys
  behind_by (Some index) before xs ys =
      let next : index.offset + (before + length xs) ≡ index.offset + before + length xs = omega arith in
      ap (λ n. with_numbers index (row_numbers (index.offset + before) (length xs) ++ row_numbers n (length ys)) (stacked (columns_in xs) (columns_in ys))) next
      ∙ ap (λ (values : List (Option Scalar)). with_numbers index values (stacked (columns_in xs) (columns_in ys))) (numbers-stacked (index.offset + before) xs ys)
      ∙ ap (with_numbers index (row_numbers (index.offset + before) (length (xs ++ ys)))) (columns-stacked rules (entries_in (given_schema o) (projected o (given_schema o))) xs ys)

  -- frames of rows behind so many others
  pub frames-behind : (before : ℕ) (xs ys : List Row) → stacked (frame_behind o (given_schema o) before xs) (frame_behind o (given_schema o) (before + length xs) ys) ≡ frame_behind o (given_schema o) before (xs ++ ys)
  frames-behind before xs ys = behind_by o.row_index before xs ys

  same_by : (index : Option RowIndex) (n k before : ℕ) (xs ys : List Row) → HaveSameColumns (with_index index n (columns_in xs)) (with_index (index_behind before index) k (columns_in ys))
  same_by None n k before xs ys = same-rows rules (entries_in (given_schema o) (projected o (given_schema o))) xs ys
  same_by (Some index) n k before xs ys = ap (λ l. (index.name, dtype.UInt64) ∷ l) (same-rows rules (entries_in (given_schema o) (projected o (given_schema o))) xs ys)

  pub same-frames : (xs ys : List Row) → HaveSameColumns (frame_of_first o xs) (frame_behind o (given_schema o) (length xs) ys)
  same-frames xs ys = same_by o.row_index (length xs) (length ys) (length xs) xs ys

  same_numbered : (index : Option RowIndex) (n k first before : ℕ) (xs ys : List Row) → HaveSameColumns (with_index (index_behind first index) n (columns_in xs)) (with_index (index_behind before index) k (columns_in ys))
  same_numbered None n k first before xs ys = same-rows rules (entries_in (given_schema o) (projected o (given_schema o))) xs ys
  same_numbered (Some index) n k first before xs ys = ap (λ l. (index.name, dtype.UInt64) ∷ l) (same-rows rules (entries_in (given_schema o) (projected o (given_schema o))) xs ys)

  pub same-behind : (first before : ℕ) (xs ys : List Row) → HaveSameColumns (frame_behind o (given_schema o) first xs) (frame_behind o (given_schema o) before ys)
  same-behind first before xs ys = same_numbered o.row_index (length xs) (length ys) first before xs ys

  high_by : (index : Option RowIndex) (xs : List Row) → HaveHeight (length xs) (with_index index (length xs) (columns_in xs))
  high_by None xs = have_height rules xs (entries_in (given_schema o) (projected o (given_schema o)))
  high_by (Some index) xs = (length-map-range_with_len (λ n. Some (Number (pos n))) index.offset (length xs), have_height rules xs (entries_in (given_schema o) (projected o (given_schema o))))

  pub level-first : (xs : List Row) → HaveHeight (height_of (frame_of_first o xs)) (frame_of_first o xs)
  level-first xs = level (length xs) (frame_of_first o xs) (high_by o.row_index xs)

  pub level-behind : (before : ℕ) (xs : List Row) → HaveHeight (height_of (frame_behind o (given_schema o) before xs)) (frame_behind o (given_schema o) before xs)
  level-behind before xs = level (length xs) (frame_behind o (given_schema o) before xs) (high_by (index_behind before o.row_index) xs)

  -- ---- their texts

  pub frame-more : (w : WriteOptions) (xs ys : List Row) → text_of_frame w (frame_of_first o (xs ++ ys)) ≡ text_of_frame w (frame_of_first o xs) ++ all_lines w (frame_behind o (given_schema o) (length xs) ys)
  frame-more w xs ys =
      let C = frame_of_first o xs in
      let D = frame_behind o (given_schema o) (length xs) ys in
      let names : names_of (stacked C D) ≡ names_of C = names-are (schema_of C) (stacked C D) (schema-stacked C D (same-frames xs ys)) ∙ sym (names-are (schema_of C) C refl) in
      ap (text_of_frame w) (sym (frames-stacked xs ys))
      ∙ ap (λ n. head_text w n ++ all_lines w (stacked C D)) names
      ∙ ap (λ l. head_text w (names_of C) ++ l) (lines-stacked w C D (same-frames xs ys) (level-first xs))
      ∙ sym (append_assoc (head_text w (names_of C)) (all_lines w C) (all_lines w D))

  pub text-more : (write : CsvWriterOptions) (row : Row) (xs ys : List Row) → text_of_first o write ((row ∷ xs) ++ ys) ≡ text_of_first o write (row ∷ xs) ++ lines_behind o write (length (row ∷ xs)) ys
  text-more write row xs ys = frame-more (frame_options write) (row ∷ xs) ys

  -- the text of the first rows is the front of that of more
  pub text-begins : (write : CsvWriterOptions) (xs ys : List Row) → Begins (text_of_first o write xs) (text_of_first o write (xs ++ ys))
  text-begins write [] ys = (text_of_first o write ys, refl)
  text-begins write (row ∷ xs) ys = (lines_behind o write (length (row ∷ xs)) ys, text-more write row xs ys)

  -- and of that of a frame of more
  frame-begins : (write : CsvWriterOptions) (xs ys : List Row) → Begins (text_of_first o write xs) (text_of_frame (frame_options write) (frame_of_first o (xs ++ ys)))
  frame-begins write [] ys = (text_of_frame (frame_options write) (frame_of_first o ys), refl)
  frame-begins write (row ∷ xs) ys = (lines_behind o write (length (row ∷ xs)) ys, frame-more (frame_options write) (row ∷ xs) ys)

  begins-same : (write : CsvWriterOptions) (xs all : List Row) → Begins xs all → Begins (text_of_first o write xs) (text_of_first o write all)
  begins-same write xs all front = let found = text-begins write xs front.0 in (found.0, ap (text_of_first o write) front.1 ∙ found.1)

  whole-same : (write : CsvWriterOptions) (xs all : List Row) → Begins xs all → Begins (text_of_first o write xs) (text_of_frame (frame_options write) (frame_of_first o all))
  whole-same write xs all front = let found = frame-begins write xs front.0 in (found.0, ap (λ given. text_of_frame (frame_options write) (frame_of_first o given)) front.1 ∙ found.1)

-- ---- the laws

pub settled_text_stays : SettledTextStays
settled_text_stays o write b more apart = begins-same o write (settled_rows o b) (settled_rows o (b ++ more)) (settled_rows_stay o b more apart)

-- what stands behind a front of a text
behind-front : (front text : List ℕ) → Begins front text → front ++ drop (length front) text ≡ text
behind-front front text (others, is) = ap (λ l. front ++ drop (length front) l) is ∙ ap (λ l. front ++ l) (drop_at front others (length front) refl) ∙ sym is

fed-from : (o : CsvReadOptions) (write : CsvWriterOptions) → IsDialect (marks_of o.parse_options) (comment_of o.parse_options) → (b : List ℕ) (pieces : List (List ℕ))
    → settled_text o write b ++ fed_texts o write b pieces ≡ settled_text o write (b ++ concat pieces)
fed-from o write apart b [] = append-nil (settled_text o write b) ∙ ap (settled_text o write) (sym (append-nil b))
fed-from o write apart b (piece ∷ pieces) =
    let more = settled_text o write (b ++ piece) in
    let rest = fed_texts o write (b ++ piece) pieces in
    sym (append_assoc (settled_text o write b) (behind_settled o write b more) rest)
    ∙ ap (λ l. l ++ rest) (behind-front (settled_text o write b) more (settled_text_stays o write b piece apart))
    ∙ fed-from o write apart (b ++ piece) pieces
    ∙ ap (settled_text o write) (append_assoc b piece (concat pieces))

pub cuts_do_not_matter : CutsDoNotMatter
cuts_do_not_matter o write pieces apart =
    let b : List ℕ = concat pieces in
    ap (λ l. l ++ behind_settled o write b (whole_text o write b)) (fed-from o write apart [] pieces)
    ∙ behind-front (settled_text o write b) (whole_text o write b) (whole-same o write (settled_rows o b) (all_rows o b) (settled-all o b apart))

-- what the settled text of bytes and of more have in common, and what the text of the frame has
pub fed-more : (o : CsvReadOptions) (write : CsvWriterOptions) (b piece : List ℕ) → IsDialect (marks_of o.parse_options) (comment_of o.parse_options)
    → settled_text o write b ++ behind_settled o write b (settled_text o write (b ++ piece)) ≡ settled_text o write (b ++ piece)
fed-more o write b piece apart = behind-front (settled_text o write b) (settled_text o write (b ++ piece)) (settled_text_stays o write b piece apart)

pub whole-more : (o : CsvReadOptions) (write : CsvWriterOptions) (b : List ℕ) → IsDialect (marks_of o.parse_options) (comment_of o.parse_options)
    → settled_text o write b ++ behind_settled o write b (whole_text o write b) ≡ whole_text o write b
whole-more o write b apart = behind-front (settled_text o write b) (whole_text o write b) (whole-same o write (settled_rows o b) (all_rows o b) (settled-all o b apart))

-- the settled records of bytes are the first of all rows of an input that begins with them
pub rows-front : (o : CsvReadOptions) (b more : List ℕ) → IsDialect (marks_of o.parse_options) (comment_of o.parse_options) → (others : List Row) × (all_rows o (b ++ more) ≡ settled_rows o b ++ others)
rows-front o b more apart =
    let stay = settled_rows_stay o b more apart in
    let all = settled-all o (b ++ more) apart in
    (stay.0 ++ all.0, all.1 ∙ ap (λ l. l ++ all.0) stay.1 ∙ append_assoc (settled_rows o b) stay.0 all.0)
