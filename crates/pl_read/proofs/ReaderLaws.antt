-- What a read answers, by what the input of its reader means.
use Rattle.std.proofs.Common.{◌≡◌, ℕ, Bool, true, false, List, [], ◌∷◌, length, refl, sym, ◌∙◌, ap, subst, inl, inr}
use Rattle.std.specs.Prelude.{◌⊎◌, Option, None, Some, Result, Ok, Err, IfOk, IfErr, IsNone, IsSome, IfSome, MatchResult, map, is_none}
use Rattle.std.specs.Io.KnownBytes.{IsAtEnd}
use Rattle.std.specs.List.{AllByRecursion}
use Rattle.std.specs.Option.{option_map, option_and_then}
use Rattle.pl_frame.specs.Causes.{Rose}
use Rattle.pl_frame.specs.Frame.{ColumnValue}
use Rattle.pl_frame.specs.Schema.{Entry}
use Rattle.pl_frame.specs.declared.error.NoDataFault.TheVariants as no_data
use Rattle.pl_frame.specs.declared.error.PolarsError.{PolarsError}
use Rattle.pl_frame.specs.declared.error.PolarsError.TheVariants as error
use Rattle.pl_options.specs.declared.parse_options.CsvParseOptions.{CsvParseOptions}
use Rattle.pl_options.specs.declared.read_options.CsvReadOptions.{CsvReadOptions}
use Rattle.pl_options.specs.declared.row_index.RowIndex.{RowIndex}
use Rattle.pl_read.specs.BytesReader.{input_of, IsSourceFault}
use Rattle.pl_read.specs.CsvReader.{Reader, IsInput, OfInput, IsFinishFault, IsMeaning, AnswersUnlessFailed}
use Rattle.pl_options.specs.FirstCause.{Tells, IsFirstCause, when, first_some}
use Rattle.pl_infer.specs.Inference.{inference_of, empty, repeated}
use Rattle.pl_read.specs.Options.{data_of, settled_schema}
use Rattle.pl_read.specs.Reading.{IsRead, IsRefusal, IsReadFault}
use Rattle.pl_read.specs.Refusals.{unless_given, numbers_past, codes_past, index_past, read_causes, nothing_read, faulty_record, unknown, out_of_bounds, duplicate}
use Rattle.pl_read.specs.Rows.{rows_in, data_columns}

-- ---- a fault of a source is no cause against an input

-- it is not `IO`
abbrev pub IsElse : Option PolarsError → Type 0
IsElse cause = cause ≡ Some error.IO → ⊥

else-when : (holds : Bool) (fault : PolarsError) → IsElse (Some fault) → IsElse (when holds fault)
else-when true fault is = is
else-when false fault is = λ e. cc

else-map : {X : Type 0} (f : X → PolarsError) (x : Option X) → ((y : X) → IsElse (Some (f y))) → IsElse (option_map f x)
else-map f None is = λ e. cc
else-map f (Some y) is = is y

else-then : {X : Type 0} (f : X → Option PolarsError) (x : Option X) → ((y : X) → IsElse (f y)) → IsElse (option_and_then f x)
else-then f None is = λ e. cc
else-then f (Some y) is = is y

else-first : (causes : List (Option PolarsError)) → AllByRecursion IsElse causes → IsElse (first_some causes)
else-first [] all = λ e. cc
else-first (None ∷ causes) all = else-first causes all.1
else-first (Some fault ∷ causes) all = all.0

else-numbers : (index : Option RowIndex) (count : ℕ) → IsElse (numbers_past index count)
else-numbers None count = λ e. cc
else-numbers (Some index) count = else-when _ _ (λ e. cc)

else-codes : (columns : List ColumnValue) → AllByRecursion IsElse (map codes_past columns)
else-codes [] = tt
else-codes (column ∷ columns) = (else-when _ _ (λ e. cc), else-codes columns)

else-index : (index : Option RowIndex) (count : ℕ) (columns : List ColumnValue) → IsElse (index_past index count columns)
else-index index count columns = else-first (numbers_past index count ∷ map codes_past columns) (else-numbers index count, else-codes columns)

else-unless : (given : Option (List Entry)) (cause : Option PolarsError) → IsElse cause → IsElse (unless_given given cause)
else-unless None cause is = is
else-unless (Some schema) cause is = λ e. cc

-- no cause against an input is `IO`
pub else-causes : (o : CsvReadOptions) (schema : List Entry) (input : List ℕ) (is_dialect : Bool) → IsElse (first_some (read_causes o schema input is_dialect))
else-causes o schema input is_dialect =
    let inference = inference_of o in
    let some = data_of o input in
    let past : List ℕ → Option PolarsError = λ records. index_past o.row_index (length (rows_in o records)) (data_columns o schema records) in
    let in_data : AllByRecursion IsElse (
    option_and_then (nothing_read o schema) some ∷ option_and_then (faulty_record o schema) some ∷ option_and_then past some ∷ []) = (
      else-then (nothing_read o schema) some (λ y. else-when _ _ (λ e. cc)),
      (
        else-then (faulty_record o schema) some (λ y. else-map _ _ (λ z e. cc)),
        (else-then past some (λ records. else-index o.row_index (length (rows_in o records)) (data_columns o schema records)), tt),
      ),
    ) in
    let behind : AllByRecursion IsElse (
    unknown o schema ∷ when (is_none some) (error.NoData no_data.Skip) ∷ out_of_bounds o schema ∷ duplicate o schema
    ∷ option_and_then (nothing_read o schema) some ∷ option_and_then (faulty_record o schema) some ∷ option_and_then past some ∷ []) =
    (else-map _ _ (λ y e. cc), (else-when _ _ (λ e. cc), (else-map _ _ (λ y e. cc), (else-map _ _ (λ y e. cc), in_data)))) in
    else-first (read_causes o schema input is_dialect) (
      else-when _ _ (λ e. cc),
      (
        else-when _ _ (λ e. cc),
        (
          else-when _ _ (λ e. cc),
          (
            else-unless o.schema (empty inference input) (else-when _ _ (λ e. cc)),
            (
              else-unless o.schema (repeated schema) (else-map _ _ (λ y e. cc)),
              (
                else-when _ _ (λ e. cc),
                (else-map _ _ (λ y e. cc), behind),
              ),
            ),
          ),
        ),
      ),
    )

-- so none refuses an input with it
pub no-io : (o : CsvReadOptions) (schema : List Entry) (input : List ℕ) → IsRefusal o schema input error.IO → ⊥
no-io o schema input refusal = else-causes o schema input refusal.is_dialect (sym refusal.is)

-- ---- there is one first cause

tells-same : (a b : Bool) (P : Type 0) → Tells a P → Tells b P → a ≡ b
tells-same true true P h k = refl
tells-same true false P h k = absurd (k h)
tells-same false true P h k = absurd (h k)
tells-same false false P h k = refl

pub first-same : (causes : Bool → List (Option PolarsError)) (o : CsvParseOptions) (x y : Option PolarsError) → IsFirstCause causes o x → IsFirstCause causes o y → x ≡ y
first-same causes o x y f g = f.is ∙ ap (λ d. first_some (causes d)) (tells-same f.is_dialect g.is_dialect _ f.tells g.tells) ∙ sym g.is

-- ---- the answer

-- the first cause against the input is why a reader gives no frame
refusal-of : {R : Type 0} (lent left : R → Option (List ℕ)) (faults : R → ℕ) (before now : R) (o : CsvReadOptions) (fault : PolarsError)
    → OfInput lent left before now (λ input. IsRefusal o (settled_schema o input) input fault) → IsFinishFault lent left faults before now o fault
refusal-of lent left faults before now o (error.InvalidOperation op) h = h
refusal-of lent left faults before now o (error.ComputeError compute) h = h
refusal-of lent left faults before now o (error.NoData none) h = h
refusal-of lent left faults before now o (error.ColumnNotFound name) h = h
refusal-of lent left faults before now o (error.OutOfBounds index bound) h = h
refusal-of lent left faults before now o (error.Duplicate name place) h = h
refusal-of lent left faults before now o error.EmptyProjection h = h
refusal-of lent left faults before now o error.IO (input, is, refusal) = absurd (no-io o (settled_schema o input) input refusal)
refusal-of lent left faults before now o error.OutOfMemory h = tt

-- and so is a fault of a read of the input
refused-of : {R : Type 0} (lent left : R → Option (List ℕ)) (faults : R → ℕ) (before now : R) (o : CsvReadOptions) (fault : PolarsError) (input : List ℕ)
    → IsInput (lent before) (left before) (left now) input → IsReadFault o (settled_schema o input) input fault → IsFinishFault lent left faults before now o fault
refused-of lent left faults before now o fault input is (inl refusal) = refusal-of lent left faults before now o fault (input, is, refusal)
refused-of lent left faults before now o fault input is (inr wanting) = subst (IsFinishFault lent left faults before now o) (sym wanting) tt

-- an answer is that of a read of an input under its settled schema
abbrev pub IsAnswer : CsvReadOptions → List ℕ → Result (List ColumnValue) PolarsError → Type 0
IsAnswer o input result = MatchResult result (IsRead o (settled_schema o input) input) (IsReadFault o (settled_schema o input) input)

-- both answers of a read
pub frame-is : {R : Type 0} (lent left : R → Option (List ℕ)) (before now : R) (o : CsvReadOptions) (result : Result (List ColumnValue) PolarsError) (input : List ℕ)
    → IsInput (lent before) (left before) (left now) input → IsAnswer o input result → IfOk result (λ frame. OfInput lent left before now (λ input. IsRead o (settled_schema o input) input frame))
frame-is lent left before now o (Ok frame) input is h = (input, is, h)
frame-is lent left before now o (Err fault) input is h = tt

pub refused-is : {R : Type 0} (lent left : R → Option (List ℕ)) (faults : R → ℕ) (before now : R) (o : CsvReadOptions) (result : Result (List ColumnValue) PolarsError) (input : List ℕ)
    → IsInput (lent before) (left before) (left now) input → IsAnswer o input result → IfErr result (IsFinishFault lent left faults before now o)
refused-is lent left faults before now o (Ok frame) input is h = tt
refused-is lent left faults before now o (Err fault) input is h = refused-of lent left faults before now o fault input is h

-- a fault of a source is want of memory, or comes by its count
pub failed-of : (before now : ℕ) (fault : PolarsError) → IsSourceFault before now fault → (fault ≡ error.OutOfMemory) ⊎ ((fault ≡ error.IO) × Rose before now)
failed-of before now (error.InvalidOperation op) h = inr (h (λ e. cc))
failed-of before now (error.ComputeError compute) h = inr (h (λ e. cc))
failed-of before now (error.NoData none) h = inr (h (λ e. cc))
failed-of before now (error.ColumnNotFound name) h = inr (h (λ e. cc))
failed-of before now (error.OutOfBounds index bound) h = inr (h (λ e. cc))
failed-of before now (error.Duplicate name place) h = inr (h (λ e. cc))
failed-of before now error.EmptyProjection h = inr (h (λ e. cc))
failed-of before now error.IO h = inr (h (λ e. cc))
failed-of before now error.OutOfMemory h = inl refl

-- what lends no bytes
pub none-lent : (lent : Option (List ℕ)) → (IsSome lent → ⊥) → IsNone lent
none-lent None not = refl
none-lent (Some bytes) not = absurd (not refl)

-- such a fault of a source that lends nothing is why a reader gives no frame
pub refused-failed : {R : Type 0} (lent left : R → Option (List ℕ)) (faults : R → ℕ) (before now : R) (o : CsvReadOptions) (fault : PolarsError)
    → (IsSome (lent before) → ⊥) → IsSourceFault (faults before) (faults now) fault → IsFinishFault lent left faults before now o fault
refused-failed lent left faults before now o fault not h = by_cause (failed-of (faults before) (faults now) fault h)
  where
    by_cause : (fault ≡ error.OutOfMemory) ⊎ ((fault ≡ error.IO) × Rose (faults before) (faults now)) → IsFinishFault lent left faults before now o fault
    by_cause (inl wanting) = subst (IsFinishFault lent left faults before now o) (sym wanting) tt
    by_cause (inr failed) = subst (IsFinishFault lent left faults before now o) (sym failed.0) (none-lent (lent before) not, failed.1)

-- an answer of a read is what the input means, or want of memory
meaning-of : (o : CsvReadOptions) (input : List ℕ) (result meaning : Result (List ColumnValue) PolarsError) → IsAnswer o input result → IsMeaning o input meaning
    → (result ≡ meaning) ⊎ (result ≡ Err error.OutOfMemory)
meaning-of o input (Ok frame) (Ok other) h k = inl (ap Ok (h.1 ∙ sym k.1))
meaning-of o input (Ok frame) (Err fault) h k =
    absurd (let e : ◌≡◌ {A = Option PolarsError} None (Some fault) = first-same (read_causes o (settled_schema o input) input) o.parse_options None (Some fault) h.0 k in cc)
meaning-of o input (Err fault) meaning (inr wanting) k = inr (ap Err wanting)
meaning-of o input (Err fault) (Ok other) (inl h) k =
    absurd (let e : ◌≡◌ {A = Option PolarsError} (Some fault) None = first-same (read_causes o (settled_schema o input) input) o.parse_options (Some fault) None h k.0 in cc)
meaning-of o input (Err fault) (Err other) (inl h) k =
    inl (let e : ◌≡◌ {A = Option PolarsError} (Some fault) (Some other) = first-same (read_causes o (settled_schema o input) input) o.parse_options (Some fault) (Some other) h k in let same : fault ≡ other = cc in ap Err same)

-- where an input is told, it is the one that came
pub told-is : (told : Option (List ℕ)) (bytes input : List ℕ) → IfSome told (λ input. bytes ≡ input) → told ≡ Some input → bytes ≡ input
told-is None bytes input h e = absurd (cc)
told-is (Some known) bytes input h e = h ∙ (let same : known ≡ input = cc in same)

pub complete-of : (lent before now : Option (List ℕ)) (o : CsvReadOptions) (result : Result (List ColumnValue) PolarsError) (bytes : List ℕ) (faults raised : ℕ)
    → IsInput lent before now bytes → IsAnswer o bytes result
    → (input : List ℕ) (meaning : Result (List ColumnValue) PolarsError) → input_of lent before ≡ Some input → IsMeaning o input meaning → AnswersUnlessFailed result meaning faults raised
complete-of lent before now o result bytes faults raised is h input meaning told k =
    by_meaning (meaning-of o bytes result meaning h (subst (λ bytes. IsMeaning o bytes meaning) (sym (told-is (input_of lent before) bytes input is.told told)) k))
  where
    by_meaning : (result ≡ meaning) ⊎ (result ≡ Err error.OutOfMemory) → AnswersUnlessFailed result meaning faults raised
    by_meaning (inl same) = inl same
    by_meaning (inr wanting) = inr (inl wanting)

-- ---- the input

-- what was read of a source, or else what it lends, is its input
pub is-input : {V : Type 0} (read : Option V) (items : V → List ℕ) (lent before now known : Option (List ℕ)) (input : List ℕ)
    → (IsNone lent → IsSome read)
    → (IsSome lent → (read ≡ None) × (known ≡ lent))
    → IfSome read (λ bytes. IfSome before (λ left. items bytes ≡ left))
    → (IsSome read → IsAtEnd now)
    → IfSome read (λ bytes. input ≡ items bytes)
    → (IsNone read → Some input ≡ known)
    → IsInput lent before now input
is-input None items None before now known input is_read not_read left end was else = absurd (let e = is_read refl in cc)
is-input (Some bytes) items None None now known input is_read not_read left end was else = record { told = tt; ended = λ _. end refl }
is-input (Some bytes) items None (Some known_left) now known input is_read not_read left end was else = record { told = was ∙ left; ended = λ _. end refl }
is-input None items (Some lent) before now known input is_read not_read left end was else =
    record { told = (let e : Some input ≡ Some lent = else refl ∙ (not_read refl).1 in let same : input ≡ lent = cc in same); ended = λ none. absurd (cc) }
is-input (Some bytes) items (Some lent) before now known input is_read not_read left end was else = absurd (let e = (not_read refl).0 in cc)

-- ---- a reader as it is seen

module _ {R : Type 0} (lent left : R → Option (List ℕ)) (faults : R → ℕ) (source now : R) (o : CsvReadOptions) (result : Result (List ColumnValue) PolarsError) where
  -- the three facts of a read, of a source and options that are those of a reader
  pub frame-seen : (reader : Reader R) → ◌≡◌ {A = Reader R} (record { source = source; options = o }) reader
      → IfOk result (λ frame. OfInput lent left source now (λ input. IsRead o (settled_schema o input) input frame))
      → IfOk result (λ frame. OfInput lent left reader.source now (λ input. IsRead reader.options (settled_schema reader.options input) input frame))
  frame-seen reader is h =
      subst (λ (r : Reader R). IfOk result (λ frame. OfInput lent left r.source now (λ input. IsRead r.options (settled_schema r.options input) input frame))) is h

  pub refused-seen : (reader : Reader R) → ◌≡◌ {A = Reader R} (record { source = source; options = o }) reader
      → IfErr result (IsFinishFault lent left faults source now o) → IfErr result (IsFinishFault lent left faults reader.source now reader.options)
  refused-seen reader is h = subst (λ (r : Reader R). IfErr result (IsFinishFault lent left faults r.source now r.options)) is h

  pub complete-seen : (reader : Reader R) → ◌≡◌ {A = Reader R} (record { source = source; options = o }) reader
      → ((input : List ℕ) (meaning : Result (List ColumnValue) PolarsError) → input_of (lent source) (left source) ≡ Some input → IsMeaning o input meaning → AnswersUnlessFailed result meaning (faults source) (faults now))
      → (input : List ℕ) (meaning : Result (List ColumnValue) PolarsError) → input_of (lent reader.source) (left reader.source) ≡ Some input → IsMeaning reader.options input meaning
      → AnswersUnlessFailed result meaning (faults reader.source) (faults now)
  complete-seen reader is h =
      subst (λ (r : Reader R). (input : List ℕ) (meaning : Result (List ColumnValue) PolarsError) → input_of (lent r.source) (left r.source) ≡ Some input → IsMeaning r.options input meaning
      → AnswersUnlessFailed result meaning (faults r.source) (faults now)) is h
