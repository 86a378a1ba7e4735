-- How readers of batches are opened.
use Rattle.std.proofs.Common.{◌≡◌, ℕ, List, sym, ◌∙◌, ap, subst, inl, inr}
use Rattle.std.specs.Prelude.{◌⊎◌, Option, None, Some, Result, Ok, Err, IsSome, IfOk, IfErr, IfSome}
use Rattle.pl_frame.specs.Causes.{Rose}
use Rattle.pl_frame.specs.declared.error.PolarsError.{PolarsError}
use Rattle.pl_frame.specs.declared.error.PolarsError.TheVariants as error
use Rattle.pl_options.specs.declared.read_options.CsvReadOptions.{CsvReadOptions}
use Rattle.pl_read.specs.Batches.{Batches, opening_causes, IsOpened, IsOpeningRefusal, IsOpening, IsOpeningFault, OfTold, IsBorrowingFault}
use Rattle.pl_read.specs.BatchSteps.{IsOpeningFaultOf}
use Rattle.pl_read.specs.BytesReader.{input_of, IsSourceFault}
use Rattle.pl_read.specs.CsvReader.{Reader, IsInput, OfInput, IsUnlentFault, AnswersUnlessFailed}
use Rattle.pl_read.specs.Options.{settled_schema}
use Rattle.pl_read.specs.Reading.{IsRefusal}
use Rattle.pl_read.specs.Refusals.{row_causes}
use Rattle.pl_read.proofs.CauseLaws.{first_some-early}
use Rattle.pl_read.proofs.ReaderLaws.{no-io, failed-of, none-lent, first-same, told-is}

-- a cause that stands before those of the rows is one against the frame
refusal-opening : (o : CsvReadOptions) (input : List ℕ) (fault : PolarsError) → IsOpeningRefusal o input fault → IsRefusal o (settled_schema o input) input fault
refusal-opening o input fault refusal =
    let schema = settled_schema o input in
    record {
      is_dialect = refusal.is_dialect;
      tells = refusal.tells;
      is = sym (first_some-early (opening_causes o schema input refusal.is_dialect) (row_causes o schema input) fault (sym refusal.is));
    }

-- so it is never `IO`
no-io-opening : (o : CsvReadOptions) (input : List ℕ) → IsOpeningRefusal o input error.IO → ⊥
no-io-opening o input refusal = no-io o (settled_schema o input) input (refusal-opening o input error.IO refusal)

-- ---- a reader that owns its bytes

opening-fault : {R : Type 0} (lent left : R → Option (List ℕ)) (faults : R → ℕ) (before now : R) (o : CsvReadOptions) (fault : PolarsError)
    → OfInput lent left before now (λ input. IsOpeningRefusal o input fault) → IsOpeningFault lent left faults before now o fault
opening-fault lent left faults before now o (error.InvalidOperation op) h = h
opening-fault lent left faults before now o (error.ComputeError compute) h = h
opening-fault lent left faults before now o (error.NoData none) h = h
opening-fault lent left faults before now o (error.ColumnNotFound name) h = h
opening-fault lent left faults before now o (error.OutOfBounds index bound) h = h
opening-fault lent left faults before now o (error.Duplicate name place) h = h
opening-fault lent left faults before now o error.EmptyProjection h = h
opening-fault lent left faults before now o error.IO (input, is, refusal) = absurd (no-io-opening o input refusal)
opening-fault lent left faults before now o error.OutOfMemory h = tt

opening-refused : {R : Type 0} (lent left : R → Option (List ℕ)) (faults : R → ℕ) (before now : R) (o : CsvReadOptions) (fault : PolarsError) (input : List ℕ)
    → IsInput (lent before) (left before) (left now) input → IsOpeningFaultOf o input fault → IsOpeningFault lent left faults before now o fault
opening-refused lent left faults before now o fault input is (inl refusal) = opening-fault lent left faults before now o fault (input, is, refusal)
opening-refused lent left faults before now o fault input is (inr wanting) = subst (IsOpeningFault lent left faults before now o) (sym wanting) tt

-- both answers over an input
pub opening-opened : {R : Type 0} (lent left : R → Option (List ℕ)) (before now : R) (o : CsvReadOptions) (result : Result Batches PolarsError) (input : List ℕ)
    → IsInput (lent before) (left before) (left now) input → IfOk result (IsOpened o input) → IfOk result (λ batches. OfInput lent left before now (λ input. IsOpened o input batches))
opening-opened lent left before now o (Ok batches) input is h = (input, is, h)
opening-opened lent left before now o (Err fault) input is h = tt

pub opening-refusal : {R : Type 0} (lent left : R → Option (List ℕ)) (faults : R → ℕ) (before now : R) (o : CsvReadOptions) (result : Result Batches PolarsError) (input : List ℕ)
    → IsInput (lent before) (left before) (left now) input → IfErr result (IsOpeningFaultOf o input) → IfErr result (IsOpeningFault lent left faults before now o)
opening-refusal lent left faults before now o (Ok batches) input is h = tt
opening-refusal lent left faults before now o (Err fault) input is h = opening-refused lent left faults before now o fault input is h

-- a fault of a source that lends nothing
pub unlent-of : (lent : Option (List ℕ)) (before now : ℕ) (fault : PolarsError) → (IsSome lent → ⊥) → IsSourceFault before now fault → IsUnlentFault lent before now fault
unlent-of lent before now fault not h = by_cause (failed-of before now fault h)
  where
    by_cause : (fault ≡ error.OutOfMemory) ⊎ ((fault ≡ error.IO) × Rose before now) → IsUnlentFault lent before now fault
    by_cause (inl wanting) = inl wanting
    by_cause (inr failed) = inr (failed.0, none-lent lent not, failed.1)

pub opening-failed : {R : Type 0} (lent left : R → Option (List ℕ)) (faults : R → ℕ) (before now : R) (o : CsvReadOptions) (fault : PolarsError)
    → IsUnlentFault (lent before) (faults before) (faults now) fault → IsOpeningFault lent left faults before now o fault
opening-failed lent left faults before now o fault (inl wanting) = subst (IsOpeningFault lent left faults before now o) (sym wanting) tt
opening-failed lent left faults before now o fault (inr (failed, none, rose)) = subst (IsOpeningFault lent left faults before now o) (sym failed) (none, rose)

pub complete-failed : (lent left : Option (List ℕ)) (o : CsvReadOptions) (before now : ℕ) (fault : PolarsError) → IsUnlentFault lent before now fault
    → (input : List ℕ) (opening : Result Batches PolarsError) → input_of lent left ≡ Some input → IsOpening o input opening → AnswersUnlessFailed (Err fault) opening before now
complete-failed lent left o before now fault (inl wanting) input opening told is = inr (inl (ap Err wanting))
complete-failed lent left o before now fault (inr (failed, none, rose)) input opening told is = inr (inr (ap Err failed, rose))

-- ---- a reader that borrows them

borrowing-fault : (lent left : Option (List ℕ)) (o : CsvReadOptions) (fault : PolarsError) → OfTold lent left (λ input. IsOpeningRefusal o input fault) → IsBorrowingFault lent left o fault
borrowing-fault lent left o (error.InvalidOperation op) h = h
borrowing-fault lent left o (error.ComputeError compute) h = h
borrowing-fault lent left o (error.NoData none) h = h
borrowing-fault lent left o (error.ColumnNotFound name) h = h
borrowing-fault lent left o (error.OutOfBounds index bound) h = h
borrowing-fault lent left o (error.Duplicate name place) h = h
borrowing-fault lent left o error.EmptyProjection h = h
borrowing-fault lent left o error.IO (input, is, refusal) = absurd (no-io-opening o input refusal)
borrowing-fault lent left o error.OutOfMemory h = tt

borrowing-refused : (lent left : Option (List ℕ)) (o : CsvReadOptions) (fault : PolarsError) (input : List ℕ) → IfSome (input_of lent left) (λ told. input ≡ told) → IsOpeningFaultOf o input fault → IsBorrowingFault lent left o fault
borrowing-refused lent left o fault input is (inl refusal) = borrowing-fault lent left o fault (input, is, refusal)
borrowing-refused lent left o fault input is (inr wanting) = subst (IsBorrowingFault lent left o) (sym wanting) tt

pub borrowing-opened : (lent left : Option (List ℕ)) (o : CsvReadOptions) (result : Result Batches PolarsError) (input : List ℕ)
    → IfSome (input_of lent left) (λ told. input ≡ told) → IfOk result (IsOpened o input) → IfOk result (λ batches. OfTold lent left (λ input. IsOpened o input batches))
borrowing-opened lent left o (Ok batches) input is h = (input, is, h)
borrowing-opened lent left o (Err fault) input is h = tt

pub borrowing-refusal : (lent left : Option (List ℕ)) (o : CsvReadOptions) (result : Result Batches PolarsError) (input : List ℕ)
    → IfSome (input_of lent left) (λ told. input ≡ told) → IfErr result (IsOpeningFaultOf o input) → IfErr result (IsBorrowingFault lent left o)
borrowing-refusal lent left o (Ok batches) input is h = tt
borrowing-refusal lent left o (Err fault) input is h = borrowing-refused lent left o fault input is h

-- a fault of a source that lends nothing
pub borrowing-failed : (lent left : Option (List ℕ)) (before now : ℕ) (o : CsvReadOptions) (fault : PolarsError) → (IsSome lent → ⊥) → IsSourceFault before now fault → IsBorrowingFault lent left o fault
borrowing-failed lent left before now o fault not h = by_cause (failed-of before now fault h)
  where
    by_cause : (fault ≡ error.OutOfMemory) ⊎ ((fault ≡ error.IO) × Rose before now) → IsBorrowingFault lent left o fault
    by_cause (inl wanting) = subst (IsBorrowingFault lent left o) (sym wanting) tt
    by_cause (inr failed) = subst (IsBorrowingFault lent left o) (sym failed.0) (none-lent lent not)

-- ---- the answer that an input has comes

-- an answer over an input is what comes of opening a reader over it, or want of memory
opening-same : (o : CsvReadOptions) (input : List ℕ) (result opening : Result Batches PolarsError) → IfOk result (IsOpened o input) → IfErr result (IsOpeningFaultOf o input) → IsOpening o input opening
    → (result ≡ opening) ⊎ (result ≡ Err error.OutOfMemory)
opening-same o input (Ok batches) (Ok other) h r k = inl (ap Ok (h.1 ∙ sym k.1))
opening-same o input (Ok batches) (Err fault) h r k =
    absurd (let e : ◌≡◌ {A = Option PolarsError} None (Some fault) = first-same (opening_causes o (settled_schema o input) input) o.parse_options None (Some fault) h.0 k in cc)
opening-same o input (Err fault) opening h (inr wanting) k = inr (ap Err wanting)
opening-same o input (Err fault) (Ok other) h (inl r) k =
    absurd (let e : ◌≡◌ {A = Option PolarsError} (Some fault) None = first-same (opening_causes o (settled_schema o input) input) o.parse_options (Some fault) None r k.0 in cc)
opening-same o input (Err fault) (Err other) h (inl r) k =
    inl (let e : ◌≡◌ {A = Option PolarsError} (Some fault) (Some other) = first-same (opening_causes o (settled_schema o input) input) o.parse_options (Some fault) (Some other) r k in let same : fault ≡ other = cc in ap Err same)

pub opening-complete : (lent before now : Option (List ℕ)) (o : CsvReadOptions) (result : Result Batches PolarsError) (bytes : List ℕ) (faults raised : ℕ)
    → IsInput lent before now bytes → IfOk result (IsOpened o bytes) → IfErr result (IsOpeningFaultOf o bytes)
    → (input : List ℕ) (opening : Result Batches PolarsError) → input_of lent before ≡ Some input → IsOpening o input opening → AnswersUnlessFailed result opening faults raised
opening-complete lent before now o result bytes faults raised is h r input opening told k =
    by_same (opening-same o bytes result opening h r (subst (λ bytes. IsOpening o bytes opening) (sym (told-is (input_of lent before) bytes input is.told told)) k))
  where
    by_same : (result ≡ opening) ⊎ (result ≡ Err error.OutOfMemory) → AnswersUnlessFailed result opening faults raised
    by_same (inl same) = inl same
    by_same (inr wanting) = inr (inl wanting)

-- what holds of a source and options holds of a reader that has them
pub seen : {R : Type 0} (P : R → CsvReadOptions → Type 0) (source : R) (o : CsvReadOptions) (reader : Reader R) → ◌≡◌ {A = Reader R} (record { source = source; options = o }) reader → P source o → P reader.source reader.options
seen {R = R} P source o reader is h = subst (λ (r : Reader R). P r.source r.options) is h
