-- Bytes that come to a state: where they bring it, what is settled by them, and what stands against them.
use Rattle.std.proofs.Common.{◌≡◌, ℕ, zero, suc, ◌+◌, ◌-◌, ◌≤◌, ◌^◌, Bool, true, false, cond, not, ◌&&◌, ◌||◌, ◌==◌, List, [], ◌∷◌, ◌++◌, length, take, drop, Option, None, Some, refl, sym, ◌∙◌, ap, subst, arith, append-nil, length-take, nat_le, nat_lt, inl, inr}
use Rattle.std.specs.Prelude.{◌⊎◌, IfSome, filter, unwrap_or}
use Rattle.std.specs.List.{AllByRecursion, prefix_len}
use Rattle.std.specs.Option.{option_map}
use Rattle.std.proofs.Math.Seq.{take-append_seam}
use Rattle.std.proofs.lemmas.Bool.Decides.{nat_tests}
use Rattle.std.proofs.lemmas.List.{drop_all}
use Rattle.std.proofs.lemmas.List.Elements.{filter-append}
use Rattle.pl_frame.specs.Compression.{is_compressed}
use Rattle.pl_frame.specs.Dialect.{Marks, IsDialect}
use Rattle.pl_frame.specs.declared.error.ComputeFault.TheVariants as compute_fault
use Rattle.pl_frame.specs.declared.error.FaultKind.{FaultKind}
use Rattle.pl_frame.specs.declared.error.PolarsError.{PolarsError}
use Rattle.pl_frame.specs.declared.error.PolarsError.TheVariants as error
use Rattle.pl_options.specs.declared.read_options.CsvReadOptions.{CsvReadOptions}
use Rattle.pl_options.specs.declared.row_index.RowIndex.{RowIndex}
use Rattle.pl_options.specs.FirstCause.{when, first_some}
use Rattle.pl_options.specs.Text.{marks_of, comment_of}
use Rattle.pl_read.specs.Options.{keeps_ends, data_of, rules_of}
use Rattle.pl_read.specs.Projection.{projected}
use Rattle.pl_read.specs.Refusals.{numbers_past}
use Rattle.pl_read.specs.Rows.{columns_read, with_index}
use Rattle.pl_read.specs.SettleGiven.{given_schema}
use Rattle.pl_read.proofs.CauseLaws.{first_some-behind, first_some-front, first_some-rest, first_some-one}
use Rattle.pl_rows.specs.Cells.{RowRules}
use Rattle.pl_rows.specs.Columns.{entries_in, frame_of_rows}
use Rattle.pl_rows.specs.Pieces.{left_limit}
use Rattle.pl_rows.specs.Plan.{Columns}
use Rattle.pl_rows.specs.Ranges.{limited}
use Rattle.pl_rows.specs.Rows.{first_fault, first_faulty}
use Rattle.pl_rows.specs.Steps.{is_below}
use Rattle.pl_scan.specs.Start.{skip_line, skip_lines, cut_ends}
use Rattle.pl_seek.specs.Parts.{fault_in_rows}
use Rattle.pl_table.specs.Rows.{Row, rows}
use Rattle.pl_write.specs.Batches.{all_lines}
use Rattle.pl_write.specs.Options.{frame_options}
use Rattle.pl_write.specs.declared.options.CsvWriterOptions.{CsvWriterOptions}
use Rattle.pl_stream.specs.Feeding.{feed_cause, faulty_of, numbers_of, behind_settled}
use Rattle.pl_stream.specs.Head.{HasNoStep}
use Rattle.pl_stream.specs.Printing.{front_rows, rows_cause, lines_behind, gained_text, stream_head}
use Rattle.pl_stream.specs.Settled.{has_lines, is_whole, tells_head, rows_so_far, settled_rows, settled_text, text_of_first, frame_of_first}
use Rattle.pl_stream.specs.Stream.{IsInHead, IsAtRecords, IsPastLimit, IsOnWay, HasCome, head_left, head_at, lines_at, unless_kept, most_kept}
use Rattle.pl_stream.specs.Stepping.{is_in_head}
use Rattle.pl_stream.specs.Whole.{IsWholeFront, IsWholeEnd}
use Rattle.pl_stream.specs.declared.place.Place.{Place}
use Rattle.pl_stream.specs.declared.place.Place.TheVariants as place
use Rattle.pl_stream.specs.declared.whole.Whole.{Whole}
use Rattle.pl_stream.proofs.BoundLaws.{few-kept, few-line}
use Rattle.pl_stream.proofs.PrintLaws.{none-lines, lines-none, cause-behind, sound-none}
use Rattle.pl_stream.proofs.StandLaws.{all-whole, settled-are}
use Rattle.pl_stream.proofs.StepLaws.{at-more, same-front, gained-more}
use Rattle.pl_stream.proofs.SettledLaws.{settled_rows_stay}
use Rattle.pl_stream.proofs.TextLaws.{frame-more}
use Rattle.pl_stream.proofs.WholeItemLaws.{whole-nil, rows-whole}

-- ---- numbers

-- fewer numbers fit where more do
pub none-before : (index : Option RowIndex) (few more : ℕ) → few ≤ more → numbers_past index more ≡ None → numbers_past index few ≡ None
none-before None few more least none = refl
none-before (Some given) few more least none =
    let still : nat_lt (2 ^ 64) (given.offset + few) ≡ false = fits (nat_lt (2 ^ 64) (given.offset + more)) refl none in
    ap (λ t. when t (error.ComputeError (compute_fault.Index given.offset few))) still
  where
    fits : (t : Bool) → nat_lt (2 ^ 64) (given.offset + more) ≡ t → when t (error.ComputeError (compute_fault.Index given.offset more)) ≡ None → nat_lt (2 ^ 64) (given.offset + few) ≡ false
    fits true is none = absurd (cc)
    fits false is none = grind (arith, nat_tests, is, least)

-- ---- limits

limit-next : (limit : Option ℕ) (count more : ℕ) → IfSome limit (λ most. count ≤ most) → left_limit limit count ≡ Some more → limit ≡ Some (count + more)
limit-next None count more few is = absurd (cc)
limit-next (Some most) count more few is =
    let left : most - count ≡ more = cc in
    let all : most ≡ count + more = omega (arith, few, left) in
    ap (λ n. Some n) all

few-next : (limit : Option ℕ) (count more : ℕ) → IfSome limit (λ most. count ≤ most) → IfSome (left_limit limit count) (λ most. more ≤ most) → IfSome limit (λ most. count + more ≤ most)
few-next None count more few left = tt
few-next (Some most) count more few left = omega (arith, few, left)

-- where no more are wanted, the limit is reached
limit-met : (limit : Option ℕ) (count : ℕ) → IfSome limit (λ most. count ≤ most) → is_below limit count ≡ false → limit ≡ Some count
limit-met None count few is = absurd (cc)
limit-met (Some most) count few is =
    let same : most ≡ count = grind (arith, nat_tests, few, is) in
    ap (λ n. Some n) same

limit-open : (limit : Option ℕ) (count : ℕ) → is_below limit count ≡ true → limit ≡ Some count → ⊥
limit-open None count is same = cc
limit-open (Some most) count is same =
    let met : most ≡ count = cc in
    grind (arith, nat_tests, is, met)

module _ (o : CsvReadOptions) where
  abbrev m : Marks
  m = marks_of o.parse_options

  abbrev comment : Option (List ℕ)
  comment = comment_of o.parse_options

  abbrev rules : RowRules
  rules = rules_of o (given_schema o)

  abbrev columns : Columns
  columns = columns_read o (given_schema o)

  -- no row has a fault
  abbrev pub Sound : List Row → Type 0
  Sound given = AllByRecursion (λ row. first_fault rules columns row ≡ None) given

  few_by : (limit : Option ℕ) (t : Bool) (xs : List Row) → IfSome limit (λ most. length (cond t (limited limit xs) []) ≤ most)
  few_by None t xs = tt
  few_by (Some most) true xs = omega (arith, length-take most xs)
  few_by (Some most) false xs = omega arith

  pub few-settled : (b : List ℕ) → IfSome o.n_rows (λ most. length (settled_rows o b) ≤ most)
  few-settled b = few_by o.n_rows (tells_head o b) (filter is_whole (rows_so_far o b))

  -- ---- causes

  sound-append : (xs ys : List Row) → Sound xs → Sound ys → Sound (xs ++ ys)
  sound-append [] ys first second = second
  sound-append (x ∷ xs) ys first second = (first.0, sound-append xs ys first.1 second)

  clean-all : (n : ℕ) (given : List Row) → first_faulty rules columns n given ≡ None → Sound given
  clean-all n [] none = tt
  clean-all n (row ∷ others) none = by (first_fault rules columns row) refl none (clean-all (n + 1) others)
    where
      by : (found : Option (ℕ × FaultKind)) → first_fault rules columns row ≡ found → elim found as (λ _. Option (ℕ × (ℕ × FaultKind))) [ None ↦ first_faulty rules columns (n + 1) others | Some fault ↦ Some (n, fault) ] ≡ None
          → (first_faulty rules columns (n + 1) others ≡ None → Sound others) → (first_fault rules columns row ≡ None) × Sound others
      by None is none deeper = (is, deeper none)
      by (Some fault) is none deeper = absurd (cc)

  abbrev told : ℕ × (ℕ × FaultKind) → PolarsError
  told found = error.ComputeError (compute_fault.Record found.0 found.1.0 found.1.1)

  unmapped : (given : Option (ℕ × (ℕ × FaultKind))) → option_map told given ≡ None → given ≡ None
  unmapped None none = refl
  unmapped (Some x) none = absurd (let h : ◌≡◌ {A = Option PolarsError} (Some (told x)) None = none in cc)

  -- rows against which no cause stands have no fault, and their number fits
  cause-sound : (before : ℕ) (given : List Row) → rows_cause o before given ≡ None → Sound given
  cause-sound before given none =
      clean-all before given (unmapped (first_faulty rules columns before given) (first_some-front (fault_in_rows o before given) (numbers_past o.row_index (before + length given) ∷ []) none))

  pub cause-fits : (before : ℕ) (given : List Row) → rows_cause o before given ≡ None → numbers_past o.row_index (before + length given) ≡ None
  cause-fits before given none =
      sym (first_some-one (numbers_past o.row_index (before + length given))) ∙ first_some-rest (fault_in_rows o before given) (numbers_past o.row_index (before + length given) ∷ []) none

  zero-more : (n : ℕ) → 0 + n ≡ n
  zero-more n = omega arith

  sound-cause : (given : List Row) → Sound given → numbers_past o.row_index (length given) ≡ None → rows_cause o 0 given ≡ None
  sound-cause given sound fits =
      first_some-behind (fault_in_rows o 0 given) (numbers_past o.row_index (0 + length given) ∷ []) (ap (option_map told) (sound-none rules columns 0 given sound)) ∙ first_some-one (numbers_past o.row_index (0 + length given))
      ∙ ap (numbers_past o.row_index) (zero-more (length given)) ∙ fits

  numbers-are : (n : ℕ) → numbers_past o.row_index 0 ≡ None → numbers_of o n ≡ numbers_past o.row_index n
  numbers-are zero none = sym none
  numbers-are (suc n) none = refl

  -- the first cause against bytes that are not compressed is that against their settled records
  pub cause-is : (b : List ℕ) → (4 ≤ length b → is_compressed b ≡ false) → numbers_past o.row_index 0 ≡ None → feed_cause o b ≡ rows_cause o 0 (settled_rows o b)
  cause-is b plain none =
      let given = settled_rows o b in
      first_some-behind (when (nat_le 4 (length b) && is_compressed b) (error.ComputeError compute_fault.Compressed)) (faulty_of o given ∷ numbers_of o (length given) ∷ [])
      (ap (λ t. when t (error.ComputeError compute_fault.Compressed)) (unmarked (nat_le 4 (length b)) refl))
      ∙ ap (λ n. first_some (fault_in_rows o 0 given ∷ n ∷ [])) (numbers-are (length given) none)
      ∙ ap (λ n. first_some (fault_in_rows o 0 given ∷ numbers_past o.row_index n ∷ [])) (sym (zero-more (length given)))
    where
      unmarked : (t : Bool) → nat_le 4 (length b) ≡ t → (t && is_compressed b) ≡ false
      unmarked false is = refl
      unmarked true is = plain (grind (arith, nat_tests, is))

  -- and that against the records behind those that were settled
  pub cause-next : (b now : List ℕ) (others : List Row) → (4 ≤ length now → is_compressed now ≡ false) → Sound (settled_rows o b) → numbers_past o.row_index (length (settled_rows o b)) ≡ None → settled_rows o now ≡ settled_rows o b ++ others
      → feed_cause o now ≡ rows_cause o (length (settled_rows o b)) others
  cause-next b now others plain sound fits more =
      cause-is now plain (none-before o.row_index 0 (length (settled_rows o b)) (omega arith) fits) ∙ ap (rows_cause o 0) more ∙ cause-behind o 0 (settled_rows o b) others (sound-cause (settled_rows o b) sound fits)
      ∙ ap (λ n. rows_cause o n others) (zero-more (length (settled_rows o b)))

  pub sound-next : (b now : List ℕ) (others : List Row) → Sound (settled_rows o b) → settled_rows o now ≡ settled_rows o b ++ others → rows_cause o (length (settled_rows o b)) others ≡ None → Sound (settled_rows o now)
  sound-next b now others sound more none = subst Sound (sym more) (sound-append (settled_rows o b) others sound (cause-sound (length (settled_rows o b)) others none))

  -- ---- the text

  module _ (write : CsvWriterOptions) where
    first-none : all_lines (frame_options write) (frame_of_first o []) ≡ []
    first-none = by o.row_index
      where
        by : (index : Option RowIndex) → all_lines (frame_options write) (with_index index 0 (frame_of_rows rules (entries_in (given_schema o) (projected o (given_schema o))) [])) ≡ []
        by None = none-lines (frame_options write) rules (entries_in (given_schema o) (projected o (given_schema o)))
        by (Some index) = refl

    first-text : (given : List Row) → text_of_first o write given ≡ gained_text o write 0 given
    first-text [] = refl
    first-text (row ∷ others) =
        frame-more o (frame_options write) [] (row ∷ others)
        ∙ ap (λ l. (stream_head o write ++ l) ++ lines_behind o write 0 (row ∷ others)) first-none
        ∙ ap (λ l. l ++ lines_behind o write 0 (row ∷ others)) (append-nil (stream_head o write))

    later-text : (n : ℕ) (given : List Row) → lines_behind o write (suc n) given ≡ gained_text o write (suc n) given
    later-text n [] = lines-none o write (suc n)
    later-text n (row ∷ others) = refl

    -- what the settled text gains by more records
    pub gains : (b now : List ℕ) (others : List Row) → settled_rows o now ≡ settled_rows o b ++ others → behind_settled o write b (settled_text o write now) ≡ gained_text o write (length (settled_rows o b)) others
    gains b now others more = by (settled_rows o b) refl
      where
        by : (xs : List Row) → settled_rows o b ≡ xs → behind_settled o write b (settled_text o write now) ≡ gained_text o write (length xs) others
        by [] is = ap (λ l. drop (length (text_of_first o write l)) (settled_text o write now)) is ∙ ap (text_of_first o write) (more ∙ ap (λ l. l ++ others) is) ∙ first-text others
        by (row ∷ xs) is = gained-more o write b now row xs others is more ∙ ap (λ l. lines_behind o write (length l) others) is ∙ later-text (length xs) others

  -- ---- the way through the head

  start-head : (b kept : List ℕ) → b ≡ kept → IsInHead o b place.Start kept
  start-head b kept same = record {
    data_is = λ more. ap (λ l. data_of o (l ++ more)) same;
    lines_are = λ more. ap (λ l. has_lines o.parse_options.eol_char o.skip_lines (l ++ more)) same;
    items = [];
    whole = whole-nil o.parse_options;
    head_is = λ more. ap (λ l. head_left o (l ++ more)) same;
  }

  pub head-of : (p : Place) (b kept : List ℕ) (count : ℕ) → is_in_head p ≡ true → IsOnWay o b p kept count → IsInHead o b p kept × (count ≡ 0)
  head-of place.Start b kept count within way = (start-head b kept way.0, way.1)
  head-of (place.Lines n) b kept count within way = way
  head-of place.Ends b kept count within way = way
  head-of (place.Rows n) b kept count within way = way
  head-of place.Header b kept count within way = way
  head-of (place.Behind n) b kept count within way = way
  head-of place.Records b kept count within way = absurd (cc)
  head-of place.Full b kept count within way = absurd (cc)

  -- and back
  pub way-of : (p : Place) (b kept : List ℕ) → is_in_head p ≡ true → (p ≡ place.Start → b ≡ kept) → IsInHead o b p kept → IsOnWay o b p kept 0
  way-of place.Start b kept within first is = (first refl, refl)
  way-of (place.Lines n) b kept within first is = (is, refl)
  way-of place.Ends b kept within first is = (is, refl)
  way-of (place.Rows n) b kept within first is = (is, refl)
  way-of place.Header b kept within first is = (is, refl)
  way-of (place.Behind n) b kept within first is = (is, refl)
  way-of place.Records b kept within first is = absurd (cc)
  way-of place.Full b kept within first is = absurd (cc)

  -- behind it
  pub out-head : (p : Place) (b kept : List ℕ) → is_in_head p ≡ false → IsInHead o b p kept → IsInHead o b place.Records kept
  out-head place.Start b kept out is = absurd (cc)
  out-head (place.Lines n) b kept out is = absurd (cc)
  out-head place.Ends b kept out is = absurd (cc)
  out-head (place.Rows n) b kept out is = absurd (cc)
  out-head place.Header b kept out is = absurd (cc)
  out-head (place.Behind n) b kept out is = absurd (cc)
  out-head place.Records b kept out is = is
  out-head place.Full b kept out is = record { data_is = is.data_is; lines_are = is.lines_are; items = is.items; whole = is.whole; head_is = is.head_is }

  -- ---- enough came

  both : (t u : Bool) → (t && u) ≡ true → t ≡ true
  both true u is = refl
  both false u is = is

  pub four-told : (b : List ℕ) → tells_head o b ≡ true → 4 ≤ length b
  four-told b told = let enough : nat_le 4 (length b) ≡ true = both (nat_le 4 (length b)) (has_lines o.parse_options.eol_char o.skip_lines b) told in grind (arith, nat_tests, enough)

  tells-by : (b : List ℕ) → 4 ≤ length b → has_lines o.parse_options.eol_char o.skip_lines b ≡ true → tells_head o b ≡ true
  tells-by b enough lines = let four : nat_le 4 (length b) ≡ true = grind (arith, nat_tests, enough) in ap (λ t. t && has_lines o.parse_options.eol_char o.skip_lines b) four ∙ lines

  tells-head : (p : Place) (b kept : List ℕ) → 4 ≤ length b → IsInHead o b p kept → lines_at o p (kept ++ []) ≡ true → tells_head o b ≡ true
  tells-head p b kept enough is lines = tells-by b enough (ap (has_lines o.parse_options.eol_char o.skip_lines) (sym (append-nil b)) ∙ is.lines_are [] ∙ lines)

  pub come-head : (p : Place) (b kept : List ℕ) → 4 ≤ length b → IsInHead o b p kept → HasCome o p b
  come-head place.Start b kept enough is = tt
  come-head (place.Lines n) b kept enough is = enough
  come-head place.Ends b kept enough is = tells-head place.Ends b kept enough is refl
  come-head (place.Rows n) b kept enough is = tells-head (place.Rows n) b kept enough is refl
  come-head place.Header b kept enough is = tells-head place.Header b kept enough is refl
  come-head (place.Behind n) b kept enough is = tells-head (place.Behind n) b kept enough is refl
  come-head place.Records b kept enough is = tells-head place.Records b kept enough is refl
  come-head place.Full b kept enough is = tells-head place.Full b kept enough is refl

  -- ---- how much is kept within the head

  lines-kept : (n : ℕ) (b : List ℕ) → skip_line o.parse_options.eol_char b ≡ b → skip_lines o.parse_options.eol_char n b ≡ b
  lines-kept zero b same = refl
  lines-kept (suc n) b same = ap (skip_lines o.parse_options.eol_char n) same ∙ lines-kept n b same

  long-line : (b : List ℕ) → has_lines o.parse_options.eol_char 1 b ≡ false → length b ≤ prefix_len (λ x. not (x == o.parse_options.eol_char)) b + 1
  long-line b none = by (nat_lt (prefix_len (λ x. not (x == o.parse_options.eol_char)) b + 1) (length b)) refl none
    where
      by : (t : Bool) → nat_lt (prefix_len (λ x. not (x == o.parse_options.eol_char)) b + 1) (length b) ≡ t → (t && true) ≡ false → length b ≤ prefix_len (λ x. not (x == o.parse_options.eol_char)) b + 1
      by true is none = absurd (cc)
      by false is none = grind (arith, nat_tests, is)

  line-kept : (b : List ℕ) → length b ≤ prefix_len (λ x. not (x == o.parse_options.eol_char)) b + 1 → skip_line o.parse_options.eol_char b ≡ b
  line-kept b long = rw (drop_all (prefix_len (λ x. not (x == o.parse_options.eol_char)) b + 1) b long) refl

  -- what leading line ends leave of a line, or few bytes
  ends-kept : (b : List ℕ) → length b ≤ prefix_len (λ x. not (x == o.parse_options.eol_char)) b + 1 → ((13 == o.parse_options.eol_char) ≡ false → prefix_len (λ x. x == 13 || x == 13) b ≡ 0)
      → (length b ≤ 4) ⊎ (cut_ends o.parse_options.eol_char b ≡ b)
  ends-kept [] long none = inl (omega arith)
  ends-kept (x ∷ xs) long none = by (x == o.parse_options.eol_char) (x == 13) refl refl
    where
      by : (t u : Bool) → (x == o.parse_options.eol_char) ≡ t → (x == 13) ≡ u → (length (x ∷ xs) ≤ 4) ⊎ (cut_ends o.parse_options.eol_char (x ∷ xs) ≡ x ∷ xs)
      by true u is other =
          let short : prefix_len (λ x. not (x == o.parse_options.eol_char)) (x ∷ xs) ≡ 0 = rw is refl in
          inl (omega (arith, long, short))
      by false true is other =
          let apart : (13 == o.parse_options.eol_char) ≡ false = grind (arith, nat_tests, is, other) in
          let some : prefix_len (λ x. x == 13 || x == 13) (x ∷ xs) ≡ 1 + prefix_len (λ x. x == 13 || x == 13) xs = rw other refl in
          absurd (omega (arith, some, none apart))
      by false false is other =
          let short : prefix_len (λ x. x == o.parse_options.eol_char || x == 13) (x ∷ xs) ≡ 0 = rw is (rw other refl) in
          inr (ap (λ n. drop n (x ∷ xs)) short)

  module _ (apart : IsDialect m comment) where
    head-now : (p : Place) (b kept : List ℕ) → (is : IsInHead o b p kept) → head_left o b ≡ is.items ++ head_at o p kept
    head-now p b kept is = ap (head_left o) (sym (append-nil b)) ∙ is.head_is [] ∙ ap (λ l. is.items ++ head_at o p l) (append-nil kept)

    few-lines : (n : ℕ) (b kept : List ℕ) → IsInHead o b (place.Lines n) kept → HasNoStep o (place.Lines n) kept → length kept ≤ most_kept o b
    few-lines n b kept is stops =
        let long = long-line kept stops.1 in
        let same : skip_lines o.parse_options.eol_char n kept ≡ kept = lines-kept n kept (line-kept kept long) in
        let here : head_left o b ≡ is.items ++ unless_kept o kept = head-now (place.Lines n) b kept is ∙ ap (λ l. is.items ++ unless_kept o l) same in
        by long here (keeps_ends o) refl
      where
        by : length kept ≤ prefix_len (λ x. not (x == o.parse_options.eol_char)) kept + 1 → head_left o b ≡ is.items ++ unless_kept o kept → (t : Bool) → keeps_ends o ≡ t → length kept ≤ most_kept o b
        by long here true keeps = few-line o b is.items kept apart (here ∙ ap (λ t. is.items ++ cond t kept (cut_ends o.parse_options.eol_char kept)) keeps) is.whole long
        by long here false keeps = elim (ends-kept kept long (stops.2 keeps)) [
          | inl few ↦ omega (arith, few)
          | inr all ↦ few-line o b is.items kept apart (here ∙ ap (λ t. is.items ++ cond t kept (cut_ends o.parse_options.eol_char kept)) keeps ∙ ap (λ l. is.items ++ l) all) is.whole long
        ]

    pub few-head : (p : Place) (b kept : List ℕ) → is_in_head p ≡ true → IsInHead o b p kept → HasNoStep o p kept → length kept ≤ most_kept o b
    few-head place.Start b kept within is stops = omega (arith, stops)
    few-head (place.Lines n) b kept within is stops = few-lines n b kept is stops
    few-head place.Ends b kept within is stops = omega (arith, ap length stops.1)
    few-head (place.Rows n) b kept within is stops = few-kept o b is.items kept apart (head-now (place.Rows n) b kept is) is.whole stops.1
    few-head place.Header b kept within is stops = few-kept o b is.items kept apart (head-now place.Header b kept is) is.whole stops
    few-head (place.Behind n) b kept within is stops = few-kept o b is.items kept apart (head-now (place.Behind n) b kept is) is.whole stops.1
    few-head place.Records b kept within is stops = absurd (cc)
    few-head place.Full b kept within is stops = absurd (cc)

    -- ---- the step at the records

    settled-full : (b kept : List ℕ) (count : ℕ) (at : IsAtRecords o b kept count) → tells_head o b ≡ true → o.n_rows ≡ Some count → settled_rows o b ≡ rows m comment at.records
    settled-full b kept count at told limit =
        let found : data_of o b ≡ Some (at.records ++ kept) = ap (data_of o) (sym (append-nil b)) ∙ at.data_is [] ∙ ap (λ l. Some (at.records ++ l)) (append-nil kept) in
        let own = rows m comment at.records in
        let others = filter is_whole (rows m comment kept) in
        let all : filter is_whole (rows m comment (at.records ++ kept)) ≡ own ++ others =
        ap (filter is_whole) (rows-whole o.parse_options at.records kept apart at.are_whole) ∙ filter-append is_whole own (rows m comment kept) ∙ ap (λ l. l ++ others) (all-whole o.parse_options at.records apart at.are_whole) in
        ap (λ t. cond t (limited o.n_rows (filter is_whole (rows_so_far o b))) []) told
        ∙ ap (λ given. limited o.n_rows (filter is_whole (rows m comment (unwrap_or given [])))) found
        ∙ ap (limited o.n_rows) all
        ∙ ap (λ n. limited n (own ++ others)) limit
        ∙ ap (λ n. take n (own ++ others)) at.count_is
        ∙ take-append_seam own others

    module _ (b piece left : List ℕ) (count : ℕ) (whole : Whole) (at : IsAtRecords o (b ++ piece) left count) (told : tells_head o (b ++ piece) ≡ true) (counted : count ≡ length (settled_rows o b)) (front : IsWholeFront o.parse_options left whole)
        (end : IsWholeEnd o.parse_options left (left_limit o.n_rows count) whole) (few : IfSome (left_limit o.n_rows count) (λ most. whole.rows ≤ most))
      where
        abbrev next : ℕ
        next = count + whole.rows

        abbrev behind : List ℕ
        behind = drop whole.end left

        pub at-next : IsAtRecords o (b ++ piece) behind next
        at-next = at-more o (b ++ piece) left count next whole apart at front refl

        few-before : IfSome o.n_rows (λ most. count ≤ most)
        few-before = subst (λ n. IfSome o.n_rows (λ most. n ≤ most)) (sym counted) (few-settled b)

        pub few-now : IfSome o.n_rows (λ most. next ≤ most)
        few-now = few-next o.n_rows count whole.rows few-before few

        settled-now : settled_rows o (b ++ piece) ≡ rows m comment at-next.records
        settled-now = by end
          where
            by : IsWholeEnd o.parse_options left (left_limit o.n_rows count) whole → settled_rows o (b ++ piece) ≡ rows m comment at-next.records
            by (inl full) = settled-full (b ++ piece) behind next at-next told (limit-next o.n_rows count whole.rows few-before full)
            by (inr broken) = settled-are o (b ++ piece) behind next at-next apart told broken few-now

        pub rows-next : settled_rows o (b ++ piece) ≡ settled_rows o b ++ front_rows o left whole
        unfolding at-more at-next
        rows-next =
            let are : settled_rows o (b ++ piece) ≡ rows m comment at.records ++ front_rows o left whole = settled-now ∙ rows-whole o.parse_options at.records (take whole.end left) apart at.are_whole in
            let stay = settled_rows_stay o b piece apart in
            let same = same-front (settled_rows o b) stay.0 (rows m comment at.records) (front_rows o left whole) (sym stay.1 ∙ are) (sym counted ∙ at.count_is) in
            are ∙ ap (λ l. l ++ front_rows o left whole) (sym same.0)

        -- what is kept where more are asked for
        pub few-behind : is_below o.n_rows next ≡ true → length behind ≤ most_kept o (b ++ piece)
        few-behind free = by end
          where
            by : IsWholeEnd o.parse_options left (left_limit o.n_rows count) whole → length behind ≤ most_kept o (b ++ piece)
            by (inl full) = absurd (limit-open o.n_rows next free (limit-next o.n_rows count whole.rows few-before full))
            by (inr broken) = few-kept o (b ++ piece) at-next.items behind apart (ap (head_left o) (sym (append-nil (b ++ piece))) ∙ at-next.head_is [] ∙ ap (λ l. at-next.items ++ l) (append-nil behind)) at-next.whole broken

        -- and where none are
        pub past-next : is_below o.n_rows next ≡ false → IsPastLimit o (b ++ piece) next
        past-next met = record {
          limit_is = limit-met o.n_rows next few-now met;
          first = rows m comment at-next.records;
          count_is = sym at-next.count_is;
          stay = λ more. (
            at-next.records ++ (behind ++ more),
            at-next.data_is more,
            ap (take next) (rows-whole o.parse_options at-next.records (behind ++ more) apart at-next.are_whole) ∙ ap (λ n. take n (rows m comment at-next.records ++ rows m comment (behind ++ more))) at-next.count_is
                ∙ take-append_seam (rows m comment at-next.records) (rows m comment (behind ++ more)),
          );
        }
