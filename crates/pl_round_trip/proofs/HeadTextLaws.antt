-- Where the rows of the text of a frame that fits begin.
use Rattle.std.proofs.Common.{◌≡◌, ℕ, zero, suc, ◌+◌, ◌<◌, Bool, true, false, ◌||◌, ◌==◌, if◌then◌else◌, List, [], ◌∷◌, ◌++◌, length, map, drop, None, Some, nat_eq, nat_le, refl, sym, ◌∙◌, ap, subst, inl, arith, append_assoc, append-nil, length-append}
use Rattle.std.specs.List.{AllByRecursion, join_with_byte, starts_with}
use Rattle.std.proofs.lemmas.Bool.Decides.{nat_tests}
use Rattle.pl_frame.specs.Dialect.{Marks, AreDistinct}
use Rattle.pl_frame.specs.Frame.{ColumnValue, IsFrame, cell_at, height_of, names_of}
use Rattle.pl_frame.specs.ByteOrderMark.{byte_order_mark}
use Rattle.pl_text.specs.FrameText.{WriteOptions, written_text, written_cell, header_line, row_lines, text_of_frame}
use Rattle.pl_scan.specs.Fields.{extent}
use Rattle.pl_scan.specs.Start.{skips, cut_mark, cut_ends, cut_head, pass_one, pass_header, data_left}
use Rattle.pl_scan.proofs.StartLaws.{cut_ends-stop, data_left-some, pass_comments-end}
use Rattle.pl_round_trip.specs.RoundTrip.{IsFieldText, IsLine, IsLineTail, line_marks, line_of, with_tail}
use Rattle.pl_round_trip.specs.Fits.{FitsOptions, FitsColumn, FitsName, Fits}
use Rattle.pl_round_trip.proofs.CellTextLaws.{bare-field}
use Rattle.pl_round_trip.proofs.FitRowLaws.{tail-of, fits-at}
use Rattle.pl_round_trip.proofs.FrameRowLaws.{join-tail, length-tail}
use Rattle.pl_round_trip.proofs.RowTextLaws.{has-rest}
use Rattle.pl_round_trip.proofs.StepLaws.{record-length}
use Rattle.pl_round_trip.proofs.WrittenLaws.{IsWritten, are-apart, written-text, written-cell, written-field, written-begin}

-- ---- the header is a record

-- the texts of its line, the last with what stands before the line feed; without columns that alone
header_texts : WriteOptions → List ℕ → List (List ℕ) → List (List ℕ)
header_texts o tail [] = tail ∷ []
header_texts o tail (name ∷ names) = with_tail tail (map (written_text o) (name ∷ names))

header-is : (o : WriteOptions) (tail : List ℕ) (names : List (List ℕ)) → o.terminator ≡ tail ++ 10 ∷ [] → header_line o names ≡ line_of (line_marks o) (header_texts o tail names)
unfolding header_texts
header-is o tail [] is = is
header-is o tail (name ∷ names) is =
    let texts : List (List ℕ) = map (written_text o) (name ∷ names) in
    ap (λ t. join_with_byte o.separator texts ++ t) is
    ∙ sym (append_assoc (join_with_byte o.separator texts) tail (10 ∷ []))
    ∙ ap (λ l. l ++ 10 ∷ []) (join-tail o.separator tail texts (omega arith))

names-are : (o : WriteOptions) (tail : List ℕ) (names : List (List ℕ)) → FitsOptions o → IsLineTail tail → AllByRecursion (FitsName o) names
    → AllByRecursion (IsFieldText (line_marks o)) (with_tail tail (map (written_text o) names))
names-are o tail [] h ends all = tt
names-are o tail (name ∷ []) h ends all = (written-field o (written_text o name) tail h (written-text o name all.0) ends, tt)
names-are o tail (name ∷ next ∷ names) h ends all = (
  subst (IsFieldText (line_marks o)) (append-nil (written_text o name)) (written-field o (written_text o name) [] h (written-text o name all.0) (inl refl)),
  names-are o tail (next ∷ names) h ends all.1,
)

header-line : (o : WriteOptions) (tail : List ℕ) (names : List (List ℕ)) → FitsOptions o → IsLineTail tail → AllByRecursion (FitsName o) names → IsLine (line_marks o) (header_texts o tail names)
unfolding header_texts
header-line o tail [] h ends all = (omega arith, (bare-field o (are-apart o h) [] tail refl ends, tt))
header-line o tail (name ∷ names) h ends all =
    (omega (arith, length-tail tail (map (written_text o) (name ∷ names))), names-are o tail (name ∷ names) h ends all)

pass-record : (m : Marks) (b : List ℕ) → 0 < length b → pass_one m None b ≡ drop (extent m b + 1) b
pass-record m [] some = absurd (omega (arith, some))
pass-record m (x ∷ xs) some = ap (λ k. drop (k + 1) (x ∷ xs)) (record-length m (x ∷ xs))

-- and what stands behind it is left
passes : (m : Marks) (texts : List (List ℕ)) (more : List ℕ) → AreDistinct m → IsLine m texts → pass_one m None (line_of m texts ++ more) ≡ more
passes m texts more distinct line =
    let whole : List ℕ = join_with_byte m.separator texts ++ (m.line_end ∷ more) in
    ap (pass_one m None) (append_assoc (join_with_byte m.separator texts) (m.line_end ∷ []) more)
    ∙ pass-record m whole (omega (arith, length-append (join_with_byte m.separator texts) (m.line_end ∷ more)))
    ∙ has-rest m texts more distinct line

header-passes : (o : WriteOptions) (t : Bool) (names : List (List ℕ)) (more : List ℕ) → FitsOptions o → (t ≡ true → AllByRecursion (FitsName o) names)
    → pass_header t (line_marks o) None ((if t then header_line o names else []) ++ more) ≡ more
header-passes o false names more h all = refl
header-passes o true names more h all =
    let end = tail-of o h.terminator in
    ap (λ l. pass_one (line_marks o) None (l ++ more)) (header-is o end.tail names end.is)
    ∙ passes (line_marks o) (header_texts o end.tail names) more h.dialect.distinct (header-line o end.tail names h end.ends (all refl))

-- ---- leading line ends

begins_end : List ℕ → Bool
begins_end [] = false
begins_end (x ∷ xs) = x == 10 || x == 13

uncut : (b : List ℕ) → begins_end b ≡ false → cut_ends 10 b ≡ b
unfolding begins_end
uncut [] h = refl
uncut (x ∷ xs) h = cut_ends-stop 10 x xs h

line-begins : (o : WriteOptions) (text next : List ℕ) (texts : List (List ℕ)) (more : List ℕ) → FitsOptions o → IsWritten o text
    → begins_end ((join_with_byte o.separator (text ∷ next ∷ texts) ++ o.terminator) ++ more) ≡ false
unfolding begins_end
line-begins o [] next texts more h is =
    let no_feed : (o.separator == 10) ≡ false = grind (arith, nat_tests, h.dialect.distinct.0) in
    let no_return : (o.separator == 13) ≡ false = grind (arith, nat_tests, h.dialect.separator.1) in
    rw (no_feed, no_return) refl
line-begins o (x ∷ text) next texts more h is = written-begin o x text h is

rows-begin : (o : WriteOptions) (first second : ColumnValue) (columns : List ColumnValue) (n : ℕ) → FitsOptions o → FitsColumn o first → length first.values ≡ n
    → begins_end (row_lines o (first ∷ second ∷ columns) 0 n) ≡ false
unfolding begins_end
rows-begin o first second columns zero h fits height = refl
rows-begin o first second columns (suc n) h fits height =
    line-begins o (written_cell o first.dtype (cell_at first 0)) (written_cell o second.dtype (cell_at second 0)) (map (λ column. written_cell o column.dtype (cell_at column 0)) columns)
    (row_lines o (first ∷ second ∷ columns) (0 + 1) n) h
    (written-cell o first.dtype (cell_at first 0) h fits.readable (fits-at o first.dtype first.values 0 fits.cells (omega (arith, height))))

-- ---- the data

-- what stands behind the byte order mark
abbrev body : WriteOptions → List ColumnValue → List ℕ
body o columns = (if o.include_header then header_line o (names_of columns) else []) ++ row_lines o columns 0 (height_of columns)

body-begins : (o : WriteOptions) (columns : List ColumnValue) → Fits o columns → 1 < length columns → begins_end (body o columns) ≡ false
body-begins o [] fits two = absurd (omega (arith, two))
body-begins o (first ∷ []) fits two = absurd (omega (arith, two))
body-begins o (first ∷ second ∷ columns) fits two = by o.include_header fits.names
  where
    rest : List ℕ
    rest = row_lines o (first ∷ second ∷ columns) 0 (height_of (first ∷ second ∷ columns))

    by : (t : Bool) → (t ≡ true → AllByRecursion (FitsName o) (names_of (first ∷ second ∷ columns)))
        → begins_end ((if t then header_line o (names_of (first ∷ second ∷ columns)) else []) ++ row_lines o (first ∷ second ∷ columns) 0 (height_of (first ∷ second ∷ columns))) ≡ false
    by true names =
        line-begins o (written_text o first.name) (written_text o second.name) (map (written_text o) (names_of columns)) (row_lines o (first ∷ second ∷ columns) 0 (height_of (first ∷ second ∷ columns))) fits.options
        (written-text o first.name (names refl).0)
    by false names = rows-begin o first second columns (length first.values) fits.options fits.each.0 refl

mark-cut : (o : WriteOptions) (columns : List ColumnValue) → Fits o columns → cut_mark (text_of_frame o columns) ≡ body o columns
mark-cut o columns fits = by o.include_bom refl
  where
    head : List ℕ
    head = if o.include_header then header_line o (names_of columns) else []

    rest : List ℕ
    rest = row_lines o columns 0 (height_of columns)

    unmarked : o.include_bom ≡ false → starts_with nat_eq (body o columns) byte_order_mark ≡ false
    unmarked off = ap (λ (t : Bool). starts_with nat_eq (((if t then byte_order_mark else []) ++ (if o.include_header then header_line o (names_of columns) else [])) ++ row_lines o columns 0 (height_of columns)) byte_order_mark) (sym off)
        ∙ fits.start.unmarked off

    by : (t : Bool) → o.include_bom ≡ t
        → cut_mark (((if t then byte_order_mark else []) ++ (if o.include_header then header_line o (names_of columns) else [])) ++ row_lines o columns 0 (height_of columns)) ≡ body o columns
    by true is = refl
    by false is = ap (λ (t : Bool). if t then drop 3 (body o columns) else body o columns) (unmarked is)

head-cut : (o : WriteOptions) (columns : List ColumnValue) → Fits o columns → cut_head 0 (nat_le (length columns) 1) 10 (text_of_frame o columns) ≡ body o columns
head-cut o columns fits = by (nat_le (length columns) 1) refl
  where
    by : (t : Bool) → nat_le (length columns) 1 ≡ t → (if t then cut_mark (text_of_frame o columns) else cut_ends 10 (cut_mark (text_of_frame o columns))) ≡ body o columns
    by true is = mark-cut o columns fits
    by false is =
        let two : 1 < length columns = grind (arith, nat_tests, is) in
        ap (cut_ends 10) (mark-cut o columns fits) ∙ uncut (body o columns) (body-begins o columns fits two)

pub data-returns : (o : WriteOptions) (columns : List ColumnValue) → IsFrame columns → Fits o columns
    → data_left (skips 0 0 o.include_header 0) (nat_le (length columns) 1) (line_marks o) None (text_of_frame o columns) ≡ Some (row_lines o columns 0 (height_of columns))
data-returns o columns frame fits =
    data_left-some (skips 0 0 o.include_header 0) (nat_le (length columns) 1) (line_marks o) None (text_of_frame o columns) (body o columns) (ap (λ l. Some l) (head-cut o columns fits))
    ∙ ap (λ l. Some (pass_header o.include_header (line_marks o) None l)) (pass_comments-end (line_marks o) None (body o columns) refl)
    ∙ ap (λ l. Some l) (header-passes o o.include_header (names_of columns) (row_lines o columns 0 (height_of columns)) fits.options fits.names)
