-- Where a reader of batches stands.
use Rattle.std.proofs.Common.{◌≡◌, ℕ, zero, suc, ◌+◌, ◌-◌, ◌<◌, List, [], ◌∷◌, ◌++◌, length, take, drop, refl, sym, ◌∙◌, ap, inl, inr, arith, append_assoc, length-append}
use Rattle.std.specs.Prelude.{◌⊎◌, Option, None, Some}
use Rattle.std.proofs.lemmas.List.{take-append-drop, drop-drop, drop_all}
use Rattle.pl_frame.specs.Dialect.{IsDialect}
use Rattle.pl_frame.specs.Schema.{Entry}
use Rattle.pl_frame.specs.declared.error.ComputeFault.{ComputeFault}
use Rattle.pl_frame.specs.declared.error.FaultKind.{FaultKind}
use Rattle.pl_options.specs.declared.read_options.CsvReadOptions.{CsvReadOptions}
use Rattle.pl_options.specs.Text.{marks_of, comment_of}
use Rattle.pl_rows.specs.Cells.{RowRules}
use Rattle.pl_rows.specs.Pieces.{left_limit}
use Rattle.pl_rows.specs.Plan.{Columns}
use Rattle.pl_rows.specs.Ranges.{limited}
use Rattle.pl_rows.specs.Rows.{first_fault, first_faulty}
use Rattle.pl_rows.proofs.RangeLaws.{rows-nil, first_faulty-more, first_faulty-here}
use Rattle.pl_table.specs.Rows.{Row, rows}
use Rattle.pl_table.proofs.PieceLaws.{rows-append}
use Rattle.pl_read.specs.declared.preparing.Prepared.{Prepared}
use Rattle.pl_read.proofs.NextTextLaws.{EndsAtItem-append, EndsAtItem-nil}
use Rattle.pl_read.specs.BatchSteps.{held}
use Rattle.pl_read.specs.Batches.{EndsAtItem, StandsInData, EndsBatches, rows_behind}
use Rattle.pl_read.specs.Options.{rules_of}
use Rattle.pl_read.specs.Rows.{columns_read, rows_in}

-- ---- rows with more behind them

take-behind : {X : Type 0} (n : ℕ) (xs ys : List X) → take n (xs ++ ys) ≡ take n xs ++ take (n - length (take n xs)) ys
take-behind zero xs ys = refl
take-behind (suc n) [] ys = let same : suc n ≡ suc n - 0 = omega arith in ap (λ k. take k ys) same
take-behind (suc n) (x ∷ xs) ys =
    let less : n - length (take n xs) ≡ suc n - length (x ∷ take n xs) = omega arith in
    ap (λ l. x ∷ l) (take-behind n xs ys ∙ ap (λ k. take n xs ++ take k ys) less)

limited-behind : {X : Type 0} (limit : Option ℕ) (xs ys : List X) → limited limit (xs ++ ys) ≡ limited limit xs ++ limited (left_limit limit (length (limited limit xs))) ys
limited-behind None xs ys = refl
limited-behind (Some n) xs ys = take-behind n xs ys

-- the rows of a text that ends where an item does, with more behind it
pub rows_in-behind : (o : CsvReadOptions) (front rest : List ℕ) → IsDialect (marks_of o.parse_options) (comment_of o.parse_options) → EndsAtItem o front
    → rows_in o (front ++ rest) ≡ rows_in o front ++ rows_behind o (length (rows_in o front)) rest
rows_in-behind o front rest dialect ends =
    let m = marks_of o.parse_options in
    let comment = comment_of o.parse_options in
    ap (limited o.n_rows) (rows-append m comment front rest dialect.distinct dialect.prefix ends.ended ends.closed) ∙ limited-behind o.n_rows (rows m comment front) (rows m comment rest)

-- no fault among rows and others behind them
pub sound-behind : (rules : RowRules) (columns : Columns) (k : ℕ) (xs ys : List Row) → first_faulty rules columns k xs ≡ None → first_faulty rules columns (k + length xs) ys ≡ None → first_faulty rules columns k (xs ++ ys) ≡ None
sound-behind rules columns k [] ys none others = let same : k + 0 ≡ k = omega arith in ap (λ n. first_faulty rules columns n ys) (sym same) ∙ others
sound-behind rules columns k (row ∷ xs) ys none others = by (first_fault rules columns row) refl (λ first next. sound-behind rules columns (k + 1) xs ys first next)
  where
    by : (found : Option (ℕ × FaultKind)) → first_fault rules columns row ≡ found
        → (first_faulty rules columns (k + 1) xs ≡ None → first_faulty rules columns (k + 1 + length xs) ys ≡ None → first_faulty rules columns (k + 1) (xs ++ ys) ≡ None)
        → first_faulty rules columns k (row ∷ xs ++ ys) ≡ None
    by None e deeper =
        let next : k + 1 + length xs ≡ k + length (row ∷ xs) = omega arith in
        let first : first_faulty rules columns (k + 1) xs ≡ None = sym (first_faulty-more rules columns k row xs e) ∙ none in
        first_faulty-more rules columns k row (xs ++ ys) e ∙ deeper first (ap (λ n. first_faulty rules columns n ys) next ∙ others)
    by (Some found) e deeper = absurd (let here : first_faulty rules columns k (row ∷ xs) ≡ Some (k, found) = first_faulty-here rules columns k row xs found e in cc)

-- ---- where a reader stands

no_rows : (limit : Option ℕ) → limited {X = Row} limit [] ≡ []
no_rows None = refl
no_rows (Some zero) = refl
no_rows (Some (suc n)) = refl

pub rows_in-nil : (o : CsvReadOptions) → rows_in o [] ≡ []
rows_in-nil o = ap (limited o.n_rows) (rows-nil (marks_of o.parse_options) (comment_of o.parse_options)) ∙ no_rows o.n_rows

-- at the start of data
abbrev pub StandsInData-fresh : (o : CsvReadOptions) (schema : List Entry) (records : List ℕ) → StandsInData (record { options = o; schema = schema; records = records; rest = records; rows = 0; fault = None })
StandsInData-fresh o schema records = record {
  front = [];
  cut_is = refl;
  start = inr (EndsAtItem-nil o);
  count = sym (ap length (rows_in-nil o));
  sound = ap (first_faulty (rules_of o schema) (columns_read o schema) 0) (rows_in-nil o);
}

-- where it keeps a fault
pub StandsInData-kept : (o : CsvReadOptions) (input : List ℕ) (prepared : Prepared) (at rows : ℕ) (fault other : Option ComputeFault) → StandsInData (held o input prepared at rows fault) → StandsInData (held o input prepared at rows other)
StandsInData-kept o input prepared at rows fault other stands = record { front = stands.front; cut_is = stands.cut_is; start = stands.start; count = stands.count; sound = stands.sound }

-- behind the batches of a call
module _ (o : CsvReadOptions) (input : List ℕ) (prepared : Prepared) (at rows end : ℕ) (fault : Option ComputeFault) (given : List Row)
    (dialect : IsDialect (marks_of o.parse_options) (comment_of o.parse_options)) (some : 0 < length (drop at input)) (stands : StandsInData (held o input prepared at rows fault))
    (ends : EndsBatches o rows (drop at input) given end) (none : first_faulty (rules_of o prepared.schema) (columns_read o prepared.schema) rows given ≡ None) where
  abbrev rest : List ℕ
  rest = drop at input

  abbrev piece : List ℕ
  piece = take end rest

  before : EndsAtItem o stands.front
  before = begins stands.start
    where
      begins : (rest ≡ []) ⊎ EndsAtItem o stands.front → EndsAtItem o stands.front
      begins (inl gone) = absurd (let none : length (drop at input) ≡ 0 = ap length gone in omega (arith, some, none))
      begins (inr there) = there

  all : rows_in o (stands.front ++ piece) ≡ rows_in o stands.front ++ given
  all =
      rows_in-behind o stands.front piece dialect before
      ∙ ap (λ n. rows_in o stands.front ++ rows_behind o n piece) (sym stands.count)
      ∙ ap (λ rs. rows_in o stands.front ++ rs) ends.rows_are

  left : drop end rest ≡ drop (at + end) input
  left = drop-drop end at input

  starts : (end ≡ length rest) ⊎ EndsAtItem o piece → (drop (at + end) input ≡ []) ⊎ EndsAtItem o (stands.front ++ piece)
  starts (inl whole) = inl (sym left ∙ drop_all end rest (omega (arith, whole)))
  starts (inr there) = inr (EndsAtItem-append o stands.front piece dialect before there)

  pub StandsInData-next : StandsInData (held o input prepared (at + end) (rows + length given) fault)
  StandsInData-next = record {
    front = stands.front ++ piece;
    cut_is = stands.cut_is ∙ ap (λ l. stands.front ++ l) (sym (take-append-drop end rest) ∙ ap (λ l. piece ++ l) left) ∙ sym (append_assoc stands.front piece (drop (at + end) input));
    start = starts ends.start;
    count = omega (arith, stands.count, ap length all, length-append (rows_in o stands.front) given);
    sound = ap (first_faulty (rules_of o prepared.schema) (columns_read o prepared.schema) 0) all
        ∙ sound-behind (rules_of o prepared.schema) (columns_read o prepared.schema) 0 (rows_in o stands.front) given stands.sound
        (ap (λ n. first_faulty (rules_of o prepared.schema) (columns_read o prepared.schema) n given) (let same : 0 + length (rows_in o stands.front) ≡ rows = omega (arith, stands.count) in same) ∙ none);
  }
