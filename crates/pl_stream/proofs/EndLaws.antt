-- What an input that ended has behind its settled records.
use Rattle.std.proofs.Common.{◌≡◌, ℕ, zero, suc, ◌+◌, ◌-◌, ◌<◌, ◌≤◌, ◌^◌, Bool, true, false, cond, List, [], ◌∷◌, ◌++◌, length, take, drop, Option, None, Some, refl, sym, ◌∙◌, ap, subst, arith, append_assoc, append-nil, length-append, inl, inr}
use Rattle.std.specs.Prelude.{unwrap_or, IfSome, OnOk, IfErr, Result, Ok, Err, filter, is_none, nat_le, ◌&&◌}
use Rattle.std.proofs.lemmas.List.{take-append-drop, drop_at, length-take-le}
use Rattle.std.specs.List.{AllByRecursion}
use Rattle.std.specs.Option.{option_map}
use Rattle.std.proofs.lemmas.Bool.Decides.{nat_tests}
use Rattle.pl_frame.specs.Compression.{is_compressed}
use Rattle.pl_frame.specs.Dialect.{IsDialect}
use Rattle.pl_frame.specs.declared.error.ComputeFault.TheVariants as compute_fault
use Rattle.pl_frame.specs.declared.error.PolarsError.{PolarsError}
use Rattle.pl_frame.specs.declared.error.PolarsError.TheVariants as error
use Rattle.pl_frame.specs.declared.error.NoDataFault.TheVariants as no_data
use Rattle.pl_options.specs.declared.read_options.CsvReadOptions.{CsvReadOptions}
use Rattle.pl_options.specs.Text.{marks_of, comment_of}
use Rattle.pl_options.specs.FirstCause.{when, first_some}
use Rattle.pl_read.specs.Options.{data_of, rules_of}
use Rattle.pl_read.specs.Refusals.{numbers_past}
use Rattle.pl_options.specs.declared.row_index.RowIndex.{RowIndex}
use Rattle.pl_read.specs.Projection.{projected}
use Rattle.pl_read.specs.Rows.{columns_read, with_index}
use Rattle.pl_rows.specs.Columns.{entries_in, frame_of_rows}
use Rattle.pl_read.specs.SettleGiven.{given_schema}
use Rattle.pl_read.proofs.NextLaws.{few-rows}
use Rattle.pl_rows.proofs.RangeLaws.{rows-nil}
use Rattle.pl_rows.specs.Pieces.{left_limit}
use Rattle.pl_rows.specs.Ranges.{limited}
use Rattle.pl_table.specs.Rows.{Row, rows}
use Rattle.pl_write.specs.declared.options.CsvWriterOptions.{CsvWriterOptions}
use Rattle.pl_seek.specs.Parts.{fault_in_rows}
use Rattle.pl_text.specs.FrameText.{text_of_frame, head_text}
use Rattle.pl_write.specs.Batches.{all_lines}
use Rattle.pl_write.specs.Options.{frame_options}
use Rattle.pl_stream.specs.declared.place.Place.{Place}
use Rattle.pl_stream.specs.declared.place.Place.TheVariants as place
use Rattle.pl_stream.specs.Feeding.{faulty_of, numbers_of, finish_cause, all_rows, behind_settled, whole_text}
use Rattle.pl_stream.specs.Settled.{settled_rows, tells_head, is_whole, rows_so_far, frame_of_first, text_of_first}
use Rattle.pl_stream.specs.Stream.{Stream, StandsFor, IsOnWay, IsInHead, IsAtRecords, IsPastLimit, HasCome, data_at}
use Rattle.pl_stream.proofs.PrintLaws.{fault-behind, none-lines, sound-none}
use Rattle.pl_stream.proofs.SettledLaws.{settled-all}
use Rattle.pl_stream.proofs.StepLaws.{same-front}
use Rattle.pl_stream.proofs.TextLaws.{frame-more}
use Rattle.pl_stream.proofs.WholeItemLaws.{rows-whole}
use Rattle.pl_stream.specs.declared.fault.StreamFault.{StreamFault}
use Rattle.pl_stream.specs.Ending.{end_rows, end_text, HasEndText}
use Rattle.pl_stream.specs.Printing.{first_rows, rows_cause, IsRowsFault, head_once, lines_behind, stream_head}

-- a list that is no longer than a number is its first ones
take-all : {X : Type 0} (n : ℕ) (xs : List X) → length xs ≤ n → take n xs ≡ xs
take-all zero [] h = refl
take-all (suc n) [] h = refl
take-all zero (x ∷ xs) h = absurd (omega (arith, h))
take-all (suc n) (x ∷ xs) h = ap (λ l. x ∷ l) (take-all n xs (omega (arith, h)))

-- the first rows, as many as the limit leaves, or else as there are bytes, are those up to the limit
pub first-end : (o : CsvReadOptions) (before count : ℕ) (records : List ℕ) → count ≡ unwrap_or (left_limit o.n_rows before) (length records) → first_rows o count records ≡ end_rows o before records
first-end o before count records is = ap (λ n. first_rows o n records) is ∙ by (left_limit o.n_rows before)
  where
    by : (limit : Option ℕ) → first_rows o (unwrap_or limit (length records)) records ≡ limited limit (rows (marks_of o.parse_options) (comment_of o.parse_options) records)
    by None = take-all (length records) (rows (marks_of o.parse_options) (comment_of o.parse_options) records) (few-rows (marks_of o.parse_options) (comment_of o.parse_options) records)
    by (Some limit) = refl

fewer : {X : Type 0} (n : ℕ) (xs : List X) → length (take n xs) ≤ length xs
fewer zero [] = omega arith
fewer (suc n) [] = omega arith
fewer zero (x ∷ xs) = omega arith
fewer (suc n) (x ∷ xs) = omega (arith, fewer n xs)

pub first-few : (o : CsvReadOptions) (count : ℕ) (records : List ℕ) → length (first_rows o count records) ≤ length records
first-few o count records =
    let m = marks_of o.parse_options in
    let comment = comment_of o.parse_options in
    omega (arith, fewer count (rows m comment records), few-rows m comment records)

-- what stands before the rows, and then their lines
pub text-end : {T E : Type 0} (result : Result T E) (old mid now : List ℕ) (o : CsvReadOptions) (write : CsvWriterOptions) (before : ℕ) (first given : List Row) → first ≡ given → mid ≡ old ++ head_once o write before
    → OnOk result (now ≡ mid ++ lines_behind o write before first) → OnOk result (now ≡ old ++ end_text o write before given)
text-end (Err e) old mid now o write before first given same head lines = tt
text-end (Ok x) old mid now o write before first given same head lines =
    lines ∙ ap (λ l. l ++ lines_behind o write before first) head ∙ append_assoc old (head_once o write before) (lines_behind o write before first) ∙ ap (λ rows. old ++ end_text o write before rows) same

-- ---- rows up to a limit

limited-behind : {X : Type 0} (limit : Option ℕ) (xs ys : List X) → IfSome limit (λ most. length xs ≤ most) → limited limit (xs ++ ys) ≡ xs ++ limited (left_limit limit (length xs)) ys
limited-behind None xs ys few = refl
limited-behind (Some most) xs ys few = by most xs few
  where
    by : (n : ℕ) (xs : List _) → length xs ≤ n → take n (xs ++ ys) ≡ xs ++ take (n - length xs) ys
    by n [] few = ap (λ k. take k ys) (let h : n ≡ n - 0 = omega arith in h)
    by zero (x ∷ xs) few = absurd (omega (arith, few))
    by (suc n) (x ∷ xs) few = ap (λ l. x ∷ l) (by n xs (omega (arith, few)) ∙ ap (λ k. xs ++ take k ys) (let h : n - length xs ≡ suc n - suc (length xs) = omega arith in h))

take-none : (n : ℕ) → ◌≡◌ {A = List Row} (take n []) []
take-none zero = refl
take-none (suc n) = refl

length-take-most : {X : Type 0} (n : ℕ) (xs : List X) → length (take n xs) ≤ n
length-take-most zero [] = omega arith
length-take-most zero (x ∷ xs) = omega arith
length-take-most (suc n) [] = omega arith
length-take-most (suc n) (x ∷ xs) = omega (arith, length-take-most n xs)

settled-few : (o : CsvReadOptions) (b : List ℕ) → IfSome o.n_rows (λ most. length (settled_rows o b) ≤ most)
settled-few o b = by (tells_head o b)
  where
    most-few : {X : Type 0} (limit : Option ℕ) (xs : List X) → IfSome limit (λ most. length (limited limit xs) ≤ most)
    most-few None xs = tt
    most-few (Some most) xs = length-take-most most xs

    none-few : (limit : Option ℕ) → IfSome limit (λ most. 0 ≤ most)
    none-few None = tt
    none-few (Some most) = omega arith

    by : (t : Bool) → IfSome o.n_rows (λ most. length (cond t (limited o.n_rows (filter is_whole (rows_so_far o b))) []) ≤ most)
    by true = most-few o.n_rows (filter is_whole (rows_so_far o b))
    by false = none-few o.n_rows

nil : {X : Type 0} (xs : List X) → 0 ≡ length xs → xs ≡ []
nil [] e = refl
nil (x ∷ xs) e = absurd (omega (arith, e))

same-some : (a b : List ℕ) → ◌≡◌ {A = Option (List ℕ)} (Some a) (Some b) → a ≡ b
same-some a b h = cc

-- ---- the rows of an input that ended

module _ (o : CsvReadOptions) (b : List ℕ) (apart : IsDialect (marks_of o.parse_options) (comment_of o.parse_options)) where
  -- those that are not settled stand behind the settled ones
  abbrev AreBehind : ℕ → List ℕ → Type 0
  AreBehind count records = all_rows o b ≡ settled_rows o b ++ end_rows o count records

  -- where the data are those of the records, and none are settled
  none-before : (records : List ℕ) → data_of o b ≡ Some records → 0 ≡ length (settled_rows o b) → AreBehind 0 records
  none-before records given_data none =
      ap (λ given. limited o.n_rows (rows (marks_of o.parse_options) (comment_of o.parse_options) (unwrap_or given []))) given_data
      ∙ limited-behind o.n_rows [] (rows (marks_of o.parse_options) (comment_of o.parse_options) records) (none-few o.n_rows)
      ∙ ap (λ l. l ++ end_rows o 0 records) (sym (nil (settled_rows o b) none))
    where
      none-few : (limit : Option ℕ) → IfSome limit (λ most. 0 ≤ most)
      none-few None = tt
      none-few (Some most) = omega arith

  -- behind whole records
  records-before : (kept : List ℕ) (count : ℕ) → IsAtRecords o b kept count → count ≡ length (settled_rows o b) → AreBehind count kept
  records-before kept count at counted =
      let m = marks_of o.parse_options in
      let comment = comment_of o.parse_options in
      let xs = rows m comment at.records in
      let given_data : data_of o b ≡ Some (at.records ++ kept) = ap (data_of o) (sym (append-nil b)) ∙ at.data_is [] ∙ ap (λ l. Some (at.records ++ l)) (append-nil kept) in
      let all : all_rows o b ≡ xs ++ limited (left_limit o.n_rows (length xs)) (rows m comment kept) =
      ap (λ given. limited o.n_rows (rows m comment (unwrap_or given []))) given_data
      ∙ ap (limited o.n_rows) (rows-whole o.parse_options at.records kept apart at.are_whole)
      ∙ limited-behind o.n_rows xs (rows m comment kept) (subst (λ (n : ℕ). IfSome o.n_rows (λ most. n ≤ most)) (sym counted ∙ at.count_is) (settled-few o b)) in
      let front = settled-all o b apart in
      let same = same-front (settled_rows o b) front.0 xs (limited (left_limit o.n_rows (length xs)) (rows m comment kept)) (sym front.1 ∙ all) (sym counted ∙ at.count_is) in
      all ∙ ap (λ l. l ++ limited (left_limit o.n_rows (length xs)) (rows m comment kept)) (sym same.0)
      ∙ ap (λ n. settled_rows o b ++ limited (left_limit o.n_rows n) (rows m comment kept)) (sym at.count_is)

  -- behind all that are asked for
  all-before : (count : ℕ) → IsPastLimit o b count → count ≡ length (settled_rows o b) → AreBehind count []
  all-before count past counted =
      let m = marks_of o.parse_options in
      let comment = comment_of o.parse_options in
      let stay = past.stay [] in
      let told : data_of o b ≡ Some stay.0 = ap (data_of o) (sym (append-nil b)) ∙ stay.1 in
      let all : all_rows o b ≡ past.first =
      ap (λ given. limited o.n_rows (rows m comment (unwrap_or given []))) told ∙ ap (λ limit. limited limit (rows m comment stay.0)) past.limit_is ∙ stay.2 in
      let front = settled-all o b apart in
      let same = same-front (settled_rows o b) front.0 past.first [] (sym front.1 ∙ all ∙ sym (append-nil past.first)) (sym counted ∙ sym past.count_is) in
      all ∙ sym same.0 ∙ sym (append-nil (settled_rows o b)) ∙ ap (λ l. settled_rows o b ++ l) (sym (none-left (left_limit o.n_rows count)))
    where
      none-left : (limit : Option ℕ) → limited limit (rows (marks_of o.parse_options) (comment_of o.parse_options) []) ≡ []
      none-left None = rows-nil (marks_of o.parse_options) (comment_of o.parse_options)
      none-left (Some most) = ap (take most) (rows-nil (marks_of o.parse_options) (comment_of o.parse_options)) ∙ take-none most

  in-head : (at : Place) (kept : List ℕ) → IsInHead o b at kept → data_of o b ≡ data_at o at kept
  in-head at kept is = ap (data_of o) (sym (append-nil b)) ∙ is.data_is [] ∙ ap (data_at o at) (append-nil kept)

  -- the rows of what stands at a place are those behind the settled ones
  pub rows-end : (at : Place) (kept : List ℕ) (count : ℕ) (records : List ℕ) → IsOnWay o b at kept count → count ≡ length (settled_rows o b) → data_at o at kept ≡ Some records → AreBehind count records
  rows-end place.Start kept count records way counted told = moved way.1 (none-before records (ap (data_of o) way.0 ∙ told) (sym way.1 ∙ counted))
    where
      moved : {count : ℕ} → count ≡ 0 → AreBehind 0 records → AreBehind count records
      moved is behind = subst (λ n. AreBehind n records) (sym is) behind
  rows-end (place.Lines n) kept count records way counted told = subst (λ n. AreBehind n records) (sym way.1) (none-before records (in-head (place.Lines n) kept way.0 ∙ told) (sym way.1 ∙ counted))
  rows-end place.Ends kept count records way counted told = subst (λ n. AreBehind n records) (sym way.1) (none-before records (in-head place.Ends kept way.0 ∙ told) (sym way.1 ∙ counted))
  rows-end (place.Rows n) kept count records way counted told = subst (λ n. AreBehind n records) (sym way.1) (none-before records (in-head (place.Rows n) kept way.0 ∙ told) (sym way.1 ∙ counted))
  rows-end place.Header kept count records way counted told = subst (λ n. AreBehind n records) (sym way.1) (none-before records (in-head place.Header kept way.0 ∙ told) (sym way.1 ∙ counted))
  rows-end (place.Behind n) kept count records way counted told = subst (λ n. AreBehind n records) (sym way.1) (none-before records (in-head (place.Behind n) kept way.0 ∙ told) (sym way.1 ∙ counted))
  rows-end place.Records kept count records way counted told = subst (AreBehind count) (same-some kept records told) (records-before kept count way counted)
  rows-end place.Full kept count records way counted told = subst (AreBehind count) (sym way.1 ∙ same-some kept records told) (all-before count way.0 counted)

  -- and there are data exactly where there are some at the place
  pub told-end : (at : Place) (kept : List ℕ) (count : ℕ) → IsOnWay o b at kept count → is_none (data_of o b) ≡ is_none (data_at o at kept)
  told-end place.Start kept count way = ap (λ l. is_none (data_of o l)) way.0
  told-end (place.Lines n) kept count way = ap is_none (in-head (place.Lines n) kept way.0)
  told-end place.Ends kept count way = ap is_none (in-head place.Ends kept way.0)
  told-end (place.Rows n) kept count way = ap is_none (in-head (place.Rows n) kept way.0)
  told-end place.Header kept count way = ap is_none (in-head place.Header kept way.0)
  told-end (place.Behind n) kept count way = ap is_none (in-head (place.Behind n) kept way.0)
  told-end place.Records kept count way = ap is_none (ap (data_of o) (sym (append-nil b)) ∙ way.data_is [])
  told-end place.Full kept count way = ap is_none (ap (data_of o) (sym (append-nil b)) ∙ (way.0.stay []).1)

-- ---- what stands against it

told-enough : (o : CsvReadOptions) (b : List ℕ) → tells_head o b ≡ true → 4 ≤ length b
told-enough o b told = grind (arith, nat_tests, both-true (nat_le 4 (length b)) _ told)
  where
    both-true : (s t : Bool) → (s && t) ≡ true → s ≡ true
    both-true true t both = refl
    both-true false t both = both

-- enough came to tell whether the input is compressed
come-enough : (o : CsvReadOptions) (at : Place) (b : List ℕ) → HasCome o at b → (at ≡ place.Start → ⊥) → 4 ≤ length b
come-enough o place.Start b come other = absurd (other refl)
come-enough o (place.Lines n) b come other = come
come-enough o place.Ends b come other = told-enough o b come
come-enough o (place.Rows n) b come other = told-enough o b come
come-enough o place.Header b come other = told-enough o b come
come-enough o (place.Behind n) b come other = told-enough o b come
come-enough o place.Records b come other = told-enough o b come
come-enough o place.Full b come other = told-enough o b come

pub plain-end : (s : Stream) (b : List ℕ) → StandsFor s b → (s.place ≡ place.Start → is_compressed s.kept ≡ false) → is_compressed b ≡ false
plain-end s b stands plain = by s.place s.kept s.rows stands.read stands.come plain
  where
    other : (at : Place) → HasCome s.read at b → (at ≡ place.Start → ⊥) → is_compressed b ≡ false
    other at come not_start = stands.plain (come-enough s.read at b come not_start)

    by : (at : Place) (kept : List ℕ) (count : ℕ) → IsOnWay s.read b at kept count → HasCome s.read at b → (at ≡ place.Start → is_compressed kept ≡ false) → is_compressed b ≡ false
    by place.Start kept count way come plain = ap is_compressed way.0 ∙ plain refl
    by (place.Lines n) kept count way come plain = other (place.Lines n) come (λ e. cc)
    by place.Ends kept count way come plain = other place.Ends come (λ e. cc)
    by (place.Rows n) kept count way come plain = other (place.Rows n) come (λ e. cc)
    by place.Header kept count way come plain = other place.Header come (λ e. cc)
    by (place.Behind n) kept count way come plain = other (place.Behind n) come (λ e. cc)
    by place.Records kept count way come plain = other place.Records come (λ e. cc)
    by place.Full kept count way come plain = other place.Full come (λ e. cc)

-- the causes against all rows are those against the ones that are not settled
pub cause-end : (s : Stream) (b : List ℕ) (given : List Row) → StandsFor s b → is_compressed b ≡ false → is_none (data_of s.read b) ≡ false → numbers_past s.read.row_index 0 ≡ None → all_rows s.read b ≡ settled_rows s.read b ++ given
    → finish_cause s.read b ≡ rows_cause s.read s.rows given
cause-end s b given stands plain told numbered all =
    ap (λ t. first_some (when t (error.ComputeError compute_fault.Compressed) ∷ when (is_none (data_of o b)) (error.NoData no_data.Skip) ∷ faulty_of o (all_rows o b) ∷ numbers_of o (length (all_rows o b)) ∷ [])) plain
    ∙ ap (λ t. first_some (when t (error.NoData no_data.Skip) ∷ faulty_of o (all_rows o b) ∷ numbers_of o (length (all_rows o b)) ∷ [])) told
    ∙ ap (λ first. first_some (first ∷ numbers_of o (length (all_rows o b)) ∷ [])) faulty
    ∙ ap (λ last. first_some (fault_in_rows o s.rows given ∷ last ∷ [])) numbers
  where
    o : CsvReadOptions
    o = s.read

    xs : List Row
    xs = settled_rows s.read b

    sound : fault_in_rows s.read 0 xs ≡ None
    sound = ap (option_map (λ found. error.ComputeError (compute_fault.Record found.0 found.1.0 found.1.1))) (sound-none (rules_of s.read (given_schema s.read)) (columns_read s.read (given_schema s.read)) 0 xs stands.sound)

    faulty : faulty_of s.read (all_rows s.read b) ≡ fault_in_rows s.read s.rows given
    faulty = ap (faulty_of s.read) all ∙ fault-behind s.read 0 xs given sound ∙ ap (λ n. fault_in_rows s.read n given) (let same : 0 + length xs ≡ s.rows = omega (arith, stands.count) in same)

    numbers_are : (n : ℕ) → numbers_of s.read n ≡ numbers_past s.read.row_index n
    numbers_are zero = sym numbered
    numbers_are (suc n) = refl

    size : length (all_rows s.read b) ≡ s.rows + length given
    size = ap length all ∙ length-append xs given ∙ ap (λ n. n + length given) (sym stands.count)

    numbers : numbers_of s.read (length (all_rows s.read b)) ≡ numbers_past s.read.row_index (s.rows + length given)
    numbers = numbers_are (length (all_rows s.read b)) ∙ ap (numbers_past s.read.row_index) size

-- ---- its text

pub behind-text : (o : CsvReadOptions) (write : CsvWriterOptions) (xs ys : List Row) → drop (length (text_of_first o write xs)) (text_of_frame (frame_options write) (frame_of_first o (xs ++ ys))) ≡ end_text o write (length xs) ys
behind-text o write [] ys = frame-more o (frame_options write) [] ys ∙ ap (λ l. l ++ lines_behind o write 0 ys) head-alone
  where
    none : (index : Option RowIndex) → all_lines (frame_options write) (with_index index 0 (frame_of_rows (rules_of o (given_schema o)) (entries_in (given_schema o) (projected o (given_schema o))) [])) ≡ []
    none None = none-lines (frame_options write) (rules_of o (given_schema o)) (entries_in (given_schema o) (projected o (given_schema o)))
    none (Some index) = refl

    head-alone : text_of_frame (frame_options write) (frame_of_first o []) ≡ stream_head o write
    head-alone = ap (λ l. stream_head o write ++ l) (none o.row_index) ∙ append-nil (stream_head o write)
behind-text o write (row ∷ xs) ys =
    ap (drop (length (text_of_first o write (row ∷ xs)))) (frame-more o (frame_options write) (row ∷ xs) ys)
    ∙ drop_at (text_of_first o write (row ∷ xs)) (lines_behind o write (length (row ∷ xs)) ys) (length (text_of_first o write (row ∷ xs))) refl

-- what the text of the frame has behind the settled text
pub text-behind : (s : Stream) (b : List ℕ) (given : List Row) → StandsFor s b → all_rows s.read b ≡ settled_rows s.read b ++ given → behind_settled s.read s.write b (whole_text s.read s.write b) ≡ end_text s.read s.write s.rows given
text-behind s b given stands all =
    ap (λ (rows : List Row). drop (length (text_of_first s.read s.write (settled_rows s.read b))) (text_of_frame (frame_options s.write) (frame_of_first s.read rows))) all
    ∙ behind-text s.read s.write (settled_rows s.read b) given
    ∙ ap (λ n. end_text s.read s.write n given) (sym stands.count)

-- ---- an input that ended

module _ (s : Stream) (b : List ℕ) (apart : IsDialect (marks_of s.read.parse_options) (comment_of s.read.parse_options)) (stands : StandsFor s b) where
  -- the bytes at the start are compressed
  pub end-compressed : s.place ≡ place.Start → is_compressed s.kept ≡ true → finish_cause s.read b ≡ Some (error.ComputeError compute_fault.Compressed)
  end-compressed start marked =
      let same : b ≡ s.kept = at-start s.place s.kept s.rows stands.read start in
      ap (λ t. first_some (when t (error.ComputeError compute_fault.Compressed) ∷ when (is_none (data_of s.read b)) (error.NoData no_data.Skip) ∷ faulty_of s.read (all_rows s.read b) ∷ numbers_of s.read (length (all_rows s.read b)) ∷ []))
      (ap is_compressed same ∙ marked)
    where
      at-start : (at : Place) (kept : List ℕ) (count : ℕ) → IsOnWay s.read b at kept count → at ≡ place.Start → b ≡ kept
      at-start place.Start kept count way e = way.0
      at-start (place.Lines n) kept count way e = cc
      at-start place.Ends kept count way e = cc
      at-start (place.Rows n) kept count way e = cc
      at-start place.Header kept count way e = cc
      at-start (place.Behind n) kept count way e = cc
      at-start place.Records kept count way e = cc
      at-start place.Full kept count way e = cc

  -- there are too few items to be skipped
  pub end-skipped : (s.place ≡ place.Start → is_compressed s.kept ≡ false) → data_at s.read s.place s.kept ≡ None → finish_cause s.read b ≡ Some (error.NoData no_data.Skip)
  end-skipped plain none =
      ap (λ t. first_some (when t (error.ComputeError compute_fault.Compressed) ∷ when (is_none (data_of s.read b)) (error.NoData no_data.Skip) ∷ faulty_of s.read (all_rows s.read b) ∷ numbers_of s.read (length (all_rows s.read b)) ∷ [])) (plain-end s b stands plain)
      ∙ ap (λ t. first_some (when t (error.NoData no_data.Skip) ∷ faulty_of s.read (all_rows s.read b) ∷ numbers_of s.read (length (all_rows s.read b)) ∷ [])) (told-end s.read b apart s.place s.kept s.rows stands.read ∙ ap is_none none)

  module _ (records : List ℕ) (plain : s.place ≡ place.Start → is_compressed s.kept ≡ false) (told : data_at s.read s.place s.kept ≡ Some records) (numbered : numbers_past s.read.row_index 0 ≡ None) where
    abbrev given : List Row
    given = end_rows s.read s.rows records

    all : all_rows s.read b ≡ settled_rows s.read b ++ given
    all = rows-end s.read b apart s.place s.kept s.rows records stands.read stands.count told

    cause : finish_cause s.read b ≡ rows_cause s.read s.rows given
    cause = cause-end s b given stands (plain-end s b stands plain) (told-end s.read b apart s.place s.kept s.rows stands.read ∙ ap is_none told) numbered all

    pub end-refused : {T : Type 0} (result : Result T StreamFault) → IfErr result (IsRowsFault (rows_cause s.read s.rows (end_rows s.read s.rows records))) → IfErr result (IsRowsFault (finish_cause s.read b))
    end-refused result refused = subst (λ (first : Option PolarsError). IfErr result (IsRowsFault first)) (sym cause) refused

    pub has-end : {T : Type 0} (result : Result T StreamFault) (text now : List ℕ) → OnOk result (now ≡ text ++ end_text s.read s.write s.rows (end_rows s.read s.rows records)) → OnOk result (rows_cause s.read s.rows (end_rows s.read s.rows records) ≡ None)
        → OnOk result (HasEndText s b text now)
    has-end (Err e) text now appended sound = tt
    has-end (Ok x) text now appended sound = record { sound = cause ∙ sound; appended = appended ∙ ap (λ l. text ++ l) (sym (text-behind s b given stands all)) }
