-- Parts that were read, judged and made frames of.
use Rattle.std.proofs.Common.{◌≡◌, ℕ, suc, ◌+◌, ◌-◌, ◌<◌, ◌≤◌, List, [], ◌∷◌, ◌++◌, length, take, drop, map, get_or, reverse, refl, sym, ◌∙◌, ap, subst, inl, inr, append_assoc, append-nil, arith, length-append, length-drop}
use Rattle.std.specs.Prelude.{false, Option, None, Some, IfSome, is_some}
use Rattle.std.specs.List.{flat_map}
use Rattle.std.specs.Option.{option_map}
use Rattle.std.proofs.lemmas.List.{take_all, drop_all, take_more, drop_more, take-append-drop, take-append-le, drop-append-le, reverse-append, map-append}
use Rattle.std.proofs.lemmas.List.Concat.{flat_map-append}
use Rattle.std.proofs.Math.Seq.{drop-append_seam, take-append_seam}
use Rattle.pl_frame.specs.declared.error.FaultKind.{FaultKind}
use Rattle.pl_frame.specs.declared.error.ComputeFault.TheVariants as compute_fault
use Rattle.pl_frame.specs.declared.error.PolarsError.{PolarsError}
use Rattle.pl_frame.specs.declared.error.PolarsError.TheVariants as error
use Rattle.pl_frame.specs.Frame.{ColumnValue, height_of}
use Rattle.pl_frame.specs.Schema.{Entry}
use Rattle.pl_options.specs.declared.read_options.CsvReadOptions.{CsvReadOptions}
use Rattle.pl_options.specs.declared.row_index.RowIndex.{RowIndex}
use Rattle.pl_options.specs.FirstCause.{first_some, IsFault}
use Rattle.pl_rows.specs.declared.columns.RangeColumns.{RangeColumns}
use Rattle.pl_rows.specs.Ranges.{IsRangeRead}
use Rattle.pl_rows.specs.Rows.{first_faulty}
use Rattle.pl_table.specs.Rows.{Row}
use Rattle.pl_read.specs.declared.batch_parts.Part.{Part}
use Rattle.pl_read.specs.declared.next_frames.Behind.{Behind}
use Rattle.pl_read.specs.Batches.{AreFramesOf, rows_behind, frame_behind, faulty_behind, codes_past_rows}
use Rattle.pl_frame.specs.Dialect.{AreDistinct, IsDialect}
use Rattle.pl_scan.specs.Dialect as scan
use Rattle.pl_options.specs.Text.{marks_of}
use Rattle.pl_rows.specs.Pieces.{left_limit}
use Rattle.pl_rows.specs.Plan.{AreRising}
use Rattle.pl_rows.specs.Ranges.{limited}
use Rattle.pl_read.specs.NextFrames.{CanReadPart, CanReadBehind, HaveRead, AreReadParts, IsCodesFault, options_behind, records_of, texts_of, rows_of_parts}
use Rattle.pl_read.specs.Steps.{CanReadData}
use Rattle.pl_read.proofs.DataLaws.{readable-places}
use Rattle.pl_read.proofs.ProjectionLaws.{projected-rises, projected-below}
use Rattle.pl_read.specs.Options.{rules_of}
use Rattle.pl_read.specs.Refusals.{numbers_past, codes_past, index_past}
use Rattle.pl_read.specs.Rows.{columns_read}
use Rattle.pl_read.proofs.CauseLaws.{first_some-behind}
use Rattle.pl_read.proofs.LimitLaws.{numbers_past-fewer}
use Rattle.pl_read.proofs.NextLaws.{IsSound, IsSound-told, faulty-behind, faulty-append, faulty-front, faulty-none, faulty-none_from}

-- ---- the rows of parts

rows-part : (b : Behind) (part : Part) → rows_of_parts b (part ∷ []) ≡ rows_behind b.options.now b.rows part.text.now
rows-part b part = append-nil (rows_behind b.options.now b.rows part.text.now)

rows-parts : (b : Behind) (xs ys : List Part) → rows_of_parts b (xs ++ ys) ≡ rows_of_parts b xs ++ rows_of_parts b ys
rows-parts b xs ys =
    ap (flat_map (rows_behind b.options.now b.rows)) (map-append (λ (part : Part). part.text.now) xs ys) ∙ flat_map-append (rows_behind b.options.now b.rows) (texts_of xs) (texts_of ys)

-- where a part stands
rows-split : (b : Behind) (all done others : List Part) (part : Part) → all ≡ done ++ part ∷ others
    → rows_of_parts b all ≡ rows_of_parts b done ++ (rows_behind b.options.now b.rows part.text.now ++ rows_of_parts b others)
rows-split b all done others part is = ap (rows_of_parts b) is ∙ rows-parts b done (part ∷ others)

rows-more : (b : Behind) (done more : List Part) (part : Part) → more ≡ done ++ part ∷ [] → rows_of_parts b more ≡ rows_of_parts b done ++ rows_behind b.options.now b.rows part.text.now
rows-more b done more part is = ap (rows_of_parts b) is ∙ rows-parts b done (part ∷ []) ∙ ap (λ l. rows_of_parts b done ++ l) (rows-part b part)

-- a part's rows are some of those of all
pub rows-within : (b : Behind) (all done others : List Part) (part : Part) → all ≡ done ++ part ∷ others
    → length (rows_of_parts b done) + length (rows_behind b.options.now b.rows part.text.now) ≤ length (rows_of_parts b all)
rows-within b all done others part is =
    let given = rows_behind b.options.now b.rows part.text.now in
    omega (arith, ap length (rows-split b all done others part is), length-append (rows_of_parts b done) (given ++ rows_of_parts b others), length-append given (rows_of_parts b others))

-- what is known of a part at a place
pub record IsPartAt (b : Behind) (parts : List Part) (i : ℕ) (part : Part) (read : RangeColumns) : Type 0 where
  pub stands : parts ≡ take i parts ++ part ∷ drop (i + 1) parts
  pub next : take (i + 1) parts ≡ take i parts ++ part ∷ []
  pub range : IsRangeRead b.plan b.schema.now part.text.now read
  pub within : length (rows_of_parts b (take i parts)) + length (rows_behind b.options.now b.rows part.text.now) ≤ length (rows_of_parts b parts)

read-among : (b : Behind) (done others : List Part) (part : Part) → HaveRead b (done ++ part ∷ others) → IfSome part.read (IsRangeRead b.plan b.schema.now part.text.now)
read-among b [] others part have = have.0
read-among b (first ∷ done) others part have = read-among b done others part have.1

pub IsPartAt-item : (b : Behind) (parts : List Part) (i : ℕ) (part : Part) (read : RangeColumns) → HaveRead b parts → i < length parts → part ≡ get_or parts i part → part.read ≡ Some read → IsPartAt b parts i part read
IsPartAt-item b parts i part read have inside is read_is =
    let stands : parts ≡ take i parts ++ part ∷ drop (i + 1) parts =
    sym (take-append-drop i parts) ∙ ap (λ l. take i parts ++ l) (drop_more parts i part inside) ∙ ap (λ x. take i parts ++ x ∷ drop (i + 1) parts) (sym is) in
    record {
      stands = stands;
      next = take_more parts i part inside ∙ ap (λ x. take i parts ++ x ∷ []) (sym is);
      range = subst (λ r. IfSome r (IsRangeRead b.plan b.schema.now part.text.now)) read_is (read-among b (take i parts) (drop (i + 1) parts) part (subst (HaveRead b) stands have));
      within = rows-within b parts (take i parts) (drop (i + 1) parts) part stands;
    }

-- ---- parts that are judged

-- none of the rows of these parts has a fault, and there are so many of them
pub record AreJudged (b : Behind) (done : List Part) (count : ℕ) : Type 0 where
  pub count_is : count ≡ length (rows_of_parts b done)
  pub sound : first_faulty (rules_of b.options.now b.schema.now) (columns_read b.options.now b.schema.now) b.rows (rows_of_parts b done) ≡ None

-- one more
pub AreJudged-more : (b : Behind) (done more : List Part) (part : Part) (read : RangeColumns) (count height : ℕ) → AreJudged b done count → more ≡ done ++ part ∷ [] → IsSound b.options.now b.schema.now b.rows part.text.now read
    → height ≡ height_of read.columns.items → AreJudged b more (count + height)
AreJudged-more b done more part read count height judged is sound height_is =
    let rules = rules_of b.options.now b.schema.now in
    let columns = columns_read b.options.now b.schema.now in
    let given = rows_behind b.options.now b.rows part.text.now in
    let all = rows-more b done more part is in
    record {
      count_is = omega (arith, judged.count_is, height_is, sound.height, ap length all, length-append (rows_of_parts b done) given);
      sound = ap (first_faulty rules columns b.rows) all ∙ faulty-append rules columns b.rows (rows_of_parts b done) given judged.sound
          ∙ faulty-behind rules columns (b.rows + length (rows_of_parts b done)) given None sound.sound;
    }

-- one that has a fault
pub AreJudged-fault : (b : Behind) (all done others : List Part) (part : Part) (count row column number : ℕ) (kind : FaultKind) → AreJudged b done count → all ≡ done ++ part ∷ others
    → first_faulty (rules_of b.options.now b.schema.now) (columns_read b.options.now b.schema.now) 0 (rows_behind b.options.now b.rows part.text.now) ≡ Some (row, (column, kind))
    → number ≡ b.rows + count + row
    → faulty_behind b.options.now b.schema.now b.rows (rows_of_parts b all) ≡ Some (error.ComputeError (compute_fault.Record number column kind))
AreJudged-fault b all done others part count row column number kind judged is found number_is =
    let rules = rules_of b.options.now b.schema.now in
    let columns = columns_read b.options.now b.schema.now in
    let given = rows_behind b.options.now b.rows part.text.now in
    let from = b.rows + length (rows_of_parts b done) in
    let here : first_faulty rules columns from given ≡ Some (from + row, (column, kind)) = faulty-behind rules columns from given (Some (row, (column, kind))) found in
    let place : from + row ≡ number = omega (arith, number_is, judged.count_is) in
    ap (λ rs. option_map (λ f. error.ComputeError (compute_fault.Record f.0 f.1.0 f.1.1)) (first_faulty rules columns b.rows rs)) (rows-split b all done others part is)
    ∙ ap (option_map (λ f. error.ComputeError (compute_fault.Record f.0 f.1.0 f.1.1)))
    (faulty-append rules columns b.rows (rows_of_parts b done) (given ++ rows_of_parts b others) judged.sound ∙ faulty-front rules columns from given (rows_of_parts b others) (from + row, (column, kind)) here)
    ∙ ap (λ n. Some (error.ComputeError (compute_fault.Record n column kind))) place

-- ---- frames

-- the frame of all of the rows
frame-alone : (o : CsvReadOptions) (schema : List Entry) (before : ℕ) (given : List Row) (frame : List ColumnValue) → frame ≡ frame_behind o schema before given → AreFramesOf o schema before given (frame ∷ [])
frame-alone o schema before given frame is =
    let all : take (length given) given ≡ given = take_all (length given) given (omega arith) in
    (length given, omega arith, is ∙ ap (frame_behind o schema before) (sym all), drop_all (length given) given (omega arith))

-- frames, and one more
pub frames-more : (o : CsvReadOptions) (schema : List Entry) (before next : ℕ) (given others : List Row) (frames : List (List ColumnValue)) (frame : List ColumnValue) → AreFramesOf o schema before given frames
    → next ≡ before + length given → frame ≡ frame_behind o schema next others → AreFramesOf o schema before (given ++ others) (frames ++ frame ∷ [])
frames-more o schema before next given others [] frame none next_is is =
    let here : next ≡ before = omega (arith, next_is, ap length none) in
    subst (λ g. AreFramesOf o schema before (g ++ others) (frame ∷ [])) (sym none) (frame-alone o schema before others frame (is ∙ ap (λ k. frame_behind o schema k others) here))
frames-more o schema before next given others (first ∷ frames) frame (n, few, first_is, rest) next_is is =
    let left : next ≡ before + n + length (drop n given) = omega (arith, next_is, length-drop n given) in (
      n,
      omega (arith, length-append given others),
      first_is ∙ ap (frame_behind o schema before) (sym (take-append-le n given others few)),
      subst (λ g. AreFramesOf o schema (before + n) g (frames ++ frame ∷ [])) (sym (drop-append-le n given others few)) (frames-more o schema (before + n) next (drop n given) others frames frame rest left is),
    )

-- Frames were made of the parts up to those that are left.
pub record AreFramed (b : Behind) (all left : List Part) (frames : List (List ColumnValue)) (before : ℕ) : Type 0 where
  pub done : List Part
  pub all_are : all ≡ done ++ left
  pub before_is : before ≡ b.rows + length (rows_of_parts b done)
  pub frames_are : AreFramesOf b.options.now b.schema.now b.rows (rows_of_parts b done) frames
  pub count : length frames ≡ length done
  pub read : HaveRead b left

-- what is known of the next part
pub record IsNext (b : Behind) (all : List Part) (part : Part) (read : RangeColumns) (before : ℕ) : Type 0 where
  pub is_sound : IsSound b.options.now b.schema.now b.rows part.text.now read
  pub fits : before + height_of read.columns.items ≤ b.rows + length (rows_of_parts b all)
  pub codes : codes_past_rows b.options.now b.schema.now (take (length (rows_behind b.options.now b.rows part.text.now)) (drop (before - b.rows) (rows_of_parts b all))) ≡ first_some (map codes_past read.columns.items)

pub IsNext-part : (b : Behind) (all left others : List Part) (frames : List (List ColumnValue)) (before : ℕ) (part : Part) (read : RangeColumns) → CanReadBehind b → AreFramed b all left frames before → left ≡ part ∷ others
    → part.read ≡ Some read → first_faulty (rules_of b.options.now b.schema.now) (columns_read b.options.now b.schema.now) b.rows (rows_of_parts b all) ≡ None → IsNext b all part read before
IsNext-part b all left others frames before part read can framed left_is read_is sound =
    let o = b.options.now in
    let schema = b.schema.now in
    let rules = rules_of o schema in
    let columns = columns_read o schema in
    let given = rows_behind o b.rows part.text.now in
    let done = rows_of_parts b framed.done in
    let rest = rows_of_parts b others in
    let stands : all ≡ framed.done ++ part ∷ others = framed.all_are ∙ ap (λ l. framed.done ++ l) left_is in
    let all_are = rows-split b all framed.done others part stands in
    let whole : first_faulty rules columns b.rows (done ++ (given ++ rest)) ≡ None = ap (first_faulty rules columns b.rows) (sym all_are) ∙ sound in
    let behind = sym (faulty-append rules columns b.rows done (given ++ rest) (faulty-none rules columns b.rows done (given ++ rest) whole)) ∙ whole in
    let none = faulty-none_from rules columns (b.rows + length done) given (faulty-none rules columns (b.rows + length done) given rest behind) in
    let range : IsRangeRead b.plan schema part.text.now read = subst (λ r. IfSome r (IsRangeRead b.plan schema part.text.now)) read_is (subst (HaveRead b) left_is framed.read).0 in
    let is : IsSound o schema b.rows part.text.now read = IsSound-told b.plan o schema b.rows part.text.now read (can part.text.now) range none in
    let from : before - b.rows ≡ length done = omega (arith, framed.before_is) in
    let place : take (length given) (drop (before - b.rows) (rows_of_parts b all)) ≡ given =
    ap (λ k. take (length given) (drop k (rows_of_parts b all))) from ∙ ap (λ rs. take (length given) (drop (length done) rs)) all_are
    ∙ ap (take (length given)) (drop-append_seam done (given ++ rest)) ∙ take-append_seam given rest in
    record {
      is_sound = is;
      fits = omega (arith, framed.before_is, is.height, rows-within b all framed.done others part stands);
      codes = ap (codes_past_rows o schema) place ∙ sym (ap (λ c. first_some (map codes_past c)) is.columns);
    }

-- one frame more
pub AreFramed-more : (b : Behind) (all left others : List Part) (frames more : List (List ColumnValue)) (frame : List ColumnValue) (before height : ℕ) (part : Part) (read : RangeColumns) → AreFramed b all left frames before
    → left ≡ part ∷ others → IsNext b all part read before → frame ≡ frame_behind b.options.now b.schema.now before (rows_behind b.options.now b.rows part.text.now) → more ≡ frames ++ frame ∷ []
    → height ≡ height_of read.columns.items → AreFramed b all others more (before + height)
AreFramed-more b all left others frames more frame before height part read framed left_is next frame_is more_is height_is =
    let given = rows_behind b.options.now b.rows part.text.now in
    let done = framed.done ++ part ∷ [] in
    let rows_are : rows_of_parts b done ≡ rows_of_parts b framed.done ++ given = rows-more b framed.done done part refl in
    record {
      done = done;
      all_are = framed.all_are ∙ ap (λ l. framed.done ++ l) left_is ∙ sym (append_assoc framed.done (part ∷ []) others);
      before_is = omega (arith, framed.before_is, height_is, next.is_sound.height, ap length rows_are, length-append (rows_of_parts b framed.done) given);
      frames_are = subst (AreFramesOf b.options.now b.schema.now b.rows (rows_of_parts b done)) (sym more_is)
          (subst (λ rs. AreFramesOf b.options.now b.schema.now b.rows rs (frames ++ frame ∷ [])) (sym rows_are)
          (frames-more b.options.now b.schema.now b.rows before (rows_of_parts b framed.done) given frames frame framed.frames_are framed.before_is frame_is));
      count = omega (arith, ap length more_is, framed.count, length-append frames (frame ∷ []), length-append framed.done (part ∷ []));
      read = (subst (HaveRead b) left_is framed.read).1;
    }

-- a refusal of the next part's frame
pub IsNext-fault : (b : Behind) (all : List Part) (part : Part) (read : RangeColumns) (before : ℕ) (index : Option RowIndex) (fault : PolarsError) → IsNext b all part read before
    → numbers_past b.options.now.row_index (b.rows + length (rows_of_parts b all)) ≡ None → index ≡ b.options.now.row_index
    → IsFault (index_past index (before + height_of read.columns.items) read.columns.items) fault → IsCodesFault b.options.now b.schema.now (rows_of_parts b all) fault
IsNext-fault b all part read before index fault next numbered index_is (inr wanting) = inr wanting
IsNext-fault b all part read before index fault next numbered index_is (inl past) =
    let few : numbers_past index (before + height_of read.columns.items) ≡ None =
    ap (λ i. numbers_past i (before + height_of read.columns.items)) index_is
    ∙ numbers_past-fewer b.options.now.row_index (b.rows + length (rows_of_parts b all)) (before + height_of read.columns.items) next.fits numbered in
    inl (before - b.rows, length (rows_behind b.options.now b.rows part.text.now), next.codes ∙ sym (first_some-behind _ (map codes_past read.columns.items) few) ∙ past)

-- what is left once the last of the parts in reverse was taken
pub popped : {X : Type 0} (old new : List X) (x : X) → old ≡ new ++ x ∷ [] → reverse old ≡ x ∷ reverse new
popped old new x is = ap reverse is ∙ reverse-append new (x ∷ [])

-- ---- parts that are read side by side

-- parts of the same texts
pub same-texts : (new old : List Part) → length new ≡ length old → ((i : ℕ) (d : Part) → i < length old → (get_or new i d).text.now ≡ (get_or old i d).text.now) → texts_of new ≡ texts_of old
same-texts [] [] sizes each = refl
same-texts [] (o ∷ old) sizes each = absurd (omega arith)
same-texts (n ∷ new) [] sizes each = absurd (omega arith)
same-texts (n ∷ new) (o ∷ old) sizes each =
    ap (λ y. y ∷ texts_of new) (each 0 n (omega arith)) ∙ ap (λ l. o.text.now ∷ l) (same-texts new old (omega (arith, sizes)) (λ i d inside. each (suc i) d (omega (arith, inside))))

-- each of which was read
pub all-read : (b : Behind) (new old : List Part) → length new ≡ length old
    → ((i : ℕ) (d : Part) → i < length old → ((get_or new i d).text.now ≡ (get_or old i d).text.now) × IfSome (get_or new i d).read (IsRangeRead b.plan b.schema.now (get_or old i d).text.now)) → HaveRead b new
all-read b [] old sizes each = tt
all-read b (n ∷ new) [] sizes each = absurd (omega arith)
all-read b (n ∷ new) (o ∷ old) sizes each =
    let first = each 0 n (omega arith) in
    (subst (λ t. IfSome n.read (IsRangeRead b.plan b.schema.now t)) (sym first.0) first.1, all-read b new old (omega (arith, sizes)) (λ i d inside. each (suc i) d (omega (arith, inside))))

-- parts that were read side by side, where there is no limit of rows
pub AreReadParts-each : (b : Behind) (text : List ℕ) (new old : List Part) → b.options.now.n_rows ≡ None → 0 < length old → length new ≡ length old
    → ((i : ℕ) (d : Part) → i < length old → ((get_or new i d).text.now ≡ (get_or old i d).text.now) × IfSome (get_or new i d).read (IsRangeRead b.plan b.schema.now (get_or old i d).text.now))
    → flat_map (records_of b.options.now) (texts_of old) ≡ records_of b.options.now text → AreReadParts b text (length old) new
AreReadParts-each b text new old none some sizes each rows_are =
    let o = b.options.now in
    record {
      one = omega arith;
      few = omega arith;
      rows_are = ap (λ limit. flat_map (λ t. limited (left_limit limit b.rows) (records_of o t)) (texts_of new)) none
          ∙ ap (flat_map (records_of o)) (same-texts new old sizes (λ i d inside. (each i d inside).0))
          ∙ rows_are
          ∙ sym (ap (λ limit. limited (left_limit limit b.rows) (records_of o text)) none);
      read = all-read b new old sizes each;
    }

-- a text that was read as one part
pub AreReadParts-one : (b : Behind) (text : List ℕ) (parts : List Part) (part : Part) (read : RangeColumns) → parts ≡ part ∷ [] → part.text.now ≡ text → part.read ≡ Some read → IsRangeRead b.plan b.schema.now text read
    → AreReadParts b text 1 parts
AreReadParts-one b text parts part read is text_is read_is range = subst (AreReadParts b text 1) (sym is) (record {
  one = omega arith;
  few = omega arith;
  rows_are = rows-part b part ∙ ap (rows_behind b.options.now b.rows) text_is;
  read = (subst (λ t. IfSome part.read (IsRangeRead b.plan b.schema.now t)) (sym text_is) (subst (λ r. IfSome r (IsRangeRead b.plan b.schema.now text)) (sym read_is) range), tt);
})

-- a plan that can read data can read a part
pub CanReadPart-data : (b : Behind) (text : List ℕ) → CanReadData b.plan (options_behind b.options.now b.rows) b.schema.now text → CanReadPart b.plan b.schema.now
CanReadPart-data b text can =
    let o = options_behind b.options.now b.rows in
    let places = b.plan.projection.places.now in
    record {
      apart = subst AreDistinct (sym can.plan_is.marks_are) can.dialect.distinct;
      width = can.plan_is.width_is;
      rising = subst (AreRising 0 (length b.schema.now)) (sym can.plan_is.places_are) (projected-rises o b.schema.now);
      readable = readable-places b.schema.now places can.readable (projected-below o b.schema.now places can.plan_is.places_are);
      texts = can.texts;
    }

pub IsDialect-plan : (b : Behind) (text : List ℕ) → CanReadData b.plan (options_behind b.options.now b.rows) b.schema.now text → IsDialect (scan.marks_of b.plan.dialect) (scan.comment_of b.plan.dialect)
IsDialect-plan b text can =
    subst (λ m. IsDialect m (scan.comment_of b.plan.dialect)) (sym can.plan_is.marks_are)
    (subst (IsDialect (marks_of b.options.now.parse_options)) (sym can.plan_is.comment_is) can.dialect)

-- where something is not there, there is none
pub none-told : (o : Option ℕ) → is_some o ≡ false → o ≡ None
none-told None told = refl
none-told (Some n) told = absurd (cc)
