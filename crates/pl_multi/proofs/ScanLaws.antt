-- What a scan answers, by its steps.
use Rattle.std.proofs.Common.{◌≡◌, ◌⊎◌, ℕ, Bool, true, false, if◌then◌else◌, List, [], ◌∷◌, map, Option, Some, None, refl, sym, ◌∙◌, ap, subst, inl, inr}
use Rattle.std.specs.Prelude.{Result, Ok, Err, IfOk, IfErr, OnOk}
use Rattle.std.specs.Option.{option_map}
use Rattle.pl_frame.specs.Frame.{ColumnValue}
use Rattle.pl_frame.specs.Names.{repeated_name}
use Rattle.pl_frame.specs.declared.error.ComputeFault.TheVariants as compute_fault
use Rattle.pl_frame.specs.declared.error.PolarsError.{PolarsError}
use Rattle.pl_frame.specs.declared.error.PolarsError.TheVariants as error
use Rattle.pl_options.specs.declared.read_options.CsvReadOptions.{CsvReadOptions}
use Rattle.pl_options.specs.FirstCause.{first_some, IsFirstCause}
use Rattle.pl_read.specs.Refusals.{early_causes}
use Rattle.pl_read.specs.SettleGiven.{given_schema, settled_causes, given_causes, IsGivenFault}
use Rattle.pl_read.specs.Steps.{MayRead}
use Rattle.pl_read.proofs.CauseLaws.{first_some-early, first_some-one}
use Rattle.pl_read.proofs.ReaderLaws.{first-same}
use Rattle.pl_multi.specs.Parts.{first_other, column_names, is_wrong, start_of, end_of, early_fault}
use Rattle.pl_multi.specs.Scan.{PartBytes, no_rows, unless, and_then, joined, index_fault, late_fault, numbered, scan_meaning, IsScanMeaning, AreHeld, IsScanFault, IsJoined, AreTold, ScansUnlessFailed}
use Rattle.pl_multi.specs.Joining.{Join, IsJoinFault, IsSound, IsEarlyFault, IsLateFault, read_fault}
use Rattle.pl_multi.specs.declared.part.Part.{Part}
use Rattle.pl_multi.specs.declared.scan.MultiFault.{MultiFault}
use Rattle.pl_multi.specs.declared.scan.MultiFault.TheVariants as fault
use Rattle.pl_multi.proofs.HeldLaws.{some-bytes, some-held, held-told}

-- ---- causes before any byte

-- a first cause against the options of a read is one against all that is given
pub given-cause : (o : CsvReadOptions) (refusal : PolarsError) → IsFirstCause (early_causes o) o.parse_options (Some refusal) → IsFirstCause (given_causes o) o.parse_options (Some refusal)
given-cause o refusal first = record {
  is_dialect = first.is_dialect;
  tells = first.tells;
  is = sym (first_some-early (early_causes o first.is_dialect) (settled_causes o (given_schema o)) refusal (sym first.is));
}

-- there is a first cause, or none
pub some-cause : {T : Type 0} (o : CsvReadOptions) (result : Result T PolarsError) → OnOk result (MayRead o) → IfErr result (λ refusal. IsFirstCause (early_causes o) o.parse_options (Some refusal))
    → (refused : Option PolarsError) × IsFirstCause (given_causes o) o.parse_options refused
some-cause o (Ok done) sound refused = (first_some (given_causes o sound.is_dialect), record { is_dialect = sound.is_dialect; tells = sound.tells; is = refl })
some-cause o (Err refusal) sound refused = (Some refusal, given-cause o refusal refused)

abbrev wrong_first : Bool → Option MultiFault
wrong_first wrong = if wrong then Some fault.Options else None

pub not-wrong : (o : CsvReadOptions) (slice : Option (ℕ × ℕ)) (parts : List Part) (refused : Option PolarsError) → early_fault refused o slice parts ≡ None → is_wrong o slice ≡ false
not-wrong o slice parts refused early = by (is_wrong o slice) refl
  where
    by : (b : Bool) → is_wrong o slice ≡ b → is_wrong o slice ≡ false
    by false e = e
    by true e =
        let rest = option_map fault.Read refused ∷ option_map fault.Partitions (first_other parts) ∷ option_map fault.Duplicate (repeated_name (column_names o (given_schema o) parts)) ∷ [] in
        let first : early_fault refused o slice parts ≡ Some fault.Options = ap (λ b. first_some (wrong_first b ∷ rest)) e in
        absurd (cc)

pub no-other : (o : CsvReadOptions) (slice : Option (ℕ × ℕ)) (parts : List Part) → early_fault None o slice parts ≡ None → first_other parts ≡ None
no-other o slice parts early = by (first_other parts) refl
  where
    right : is_wrong o slice ≡ false
    right = not-wrong o slice parts None early

    by : (other : Option ℕ) → first_other parts ≡ other → first_other parts ≡ None
    by None e = e
    by (Some place) e =
        let last = option_map fault.Duplicate (repeated_name (column_names o (given_schema o) parts)) ∷ [] in
        let first : early_fault None o slice parts ≡ Some (fault.Partitions place) = (λ i. first_some (wrong_first (right i) ∷ None ∷ option_map fault.Partitions (e i) ∷ last)) in
        absurd (cc)

-- the first cause, found step by step
module _ (o : CsvReadOptions) (slice : Option (ℕ × ℕ)) (parts : List Part) where
  abbrev pub names : Option (List ℕ)
  names = repeated_name (column_names o (given_schema o) parts)

  pub early-wrong : (refused : Option PolarsError) → is_wrong o slice ≡ true → early_fault refused o slice parts ≡ Some fault.Options
  early-wrong refused e = (λ i. first_some (wrong_first (e i) ∷ option_map fault.Read refused ∷ option_map fault.Partitions (first_other parts) ∷ option_map fault.Duplicate names ∷ []))

  module _ (right : is_wrong o slice ≡ false) where
    pub early-read : (refusal : PolarsError) → early_fault (Some refusal) o slice parts ≡ Some (fault.Read refusal)
    early-read refusal = (λ i. first_some (wrong_first (right i) ∷ Some (fault.Read refusal) ∷ option_map fault.Partitions (first_other parts) ∷ option_map fault.Duplicate names ∷ []))

    pub early-other : (place : ℕ) → first_other parts ≡ Some place → early_fault None o slice parts ≡ Some (fault.Partitions place)
    early-other place e = (λ i. first_some (wrong_first (right i) ∷ None ∷ option_map fault.Partitions (e i) ∷ option_map fault.Duplicate names ∷ []))

    module _ (same : first_other parts ≡ None) where
      pub early-names : (given : Option (List ℕ)) → names ≡ given → early_fault None o slice parts ≡ first_some (option_map fault.Duplicate given ∷ [])
      early-names given e = (λ i. first_some (wrong_first (right i) ∷ None ∷ option_map fault.Partitions (same i) ∷ option_map fault.Duplicate (e i) ∷ []))

-- faults of the options
pub read-fault : (o : CsvReadOptions) (slice : Option (ℕ × ℕ)) (parts : List Part) → is_wrong o slice ≡ false → (refusal : PolarsError) → IsFirstCause (given_causes o) o.parse_options (Some refusal) → IsEarlyFault o slice parts (read_fault refusal)
read-fault o slice parts right error.OutOfMemory first = inr refl
read-fault o slice parts right error.IO first = inl (Some error.IO, first, early-read o slice parts right error.IO)
read-fault o slice parts right error.EmptyProjection first = inl (Some error.EmptyProjection, first, early-read o slice parts right error.EmptyProjection)
read-fault o slice parts right (error.InvalidOperation op) first = inl (Some (error.InvalidOperation op), first, early-read o slice parts right (error.InvalidOperation op))
read-fault o slice parts right (error.ComputeError compute) first = inl (Some (error.ComputeError compute), first, early-read o slice parts right (error.ComputeError compute))
read-fault o slice parts right (error.NoData none) first = inl (Some (error.NoData none), first, early-read o slice parts right (error.NoData none))
read-fault o slice parts right (error.ColumnNotFound name) first = inl (Some (error.ColumnNotFound name), first, early-read o slice parts right (error.ColumnNotFound name))
read-fault o slice parts right (error.OutOfBounds index bound) first = inl (Some (error.OutOfBounds index bound), first, early-read o slice parts right (error.OutOfBounds index bound))
read-fault o slice parts right (error.Duplicate name place) first = inl (Some (error.Duplicate name place), first, early-read o slice parts right (error.Duplicate name place))

pub given-fault : (o : CsvReadOptions) (slice : Option (ℕ × ℕ)) (parts : List Part) → is_wrong o slice ≡ false → (refusal : PolarsError) → IsGivenFault o refusal → IsEarlyFault o slice parts (read_fault refusal)
given-fault o slice parts right refusal (inl first) = read-fault o slice parts right refusal first
given-fault o slice parts right refusal (inr wanting) = subst (λ f. IsEarlyFault o slice parts (read_fault f)) (sym wanting) (inr refl)

pub names-fault : (o : CsvReadOptions) (slice : Option (ℕ × ℕ)) (parts : List Part) → IsFirstCause (given_causes o) o.parse_options None → is_wrong o slice ≡ false → first_other parts ≡ None → (given : MultiFault)
    → (option_map fault.Duplicate (repeated_name (column_names o (given_schema o) parts)) ≡ Some given) ⊎ (given ≡ fault.OutOfMemory) → IsEarlyFault o slice parts given
names-fault o slice parts sound right same given (inr wanting) = inr wanting
names-fault o slice parts sound right same given (inl repeated) =
    inl (None, sound, early-names o slice parts right same (repeated_name (column_names o (given_schema o) parts)) refl ∙ first_some-one (option_map fault.Duplicate (repeated_name (column_names o (given_schema o) parts))) ∙ repeated)

-- ---- what the parts mean

abbrev next : CsvReadOptions → Option (ℕ × ℕ) → List ColumnValue → Result (List ColumnValue) MultiFault
next o slice columns = unless (late_fault o.row_index (start_of slice) columns) (Ok (numbered o.row_index (start_of slice) columns))

module _ (o : CsvReadOptions) (slice : Option (ℕ × ℕ)) (parts : List Part) (sound : IsSound o slice parts) (given : List PartBytes) (are : map (λ (it : PartBytes). it.0) given ≡ parts) where
  meaning-is : (read : Result (List ColumnValue) MultiFault) → joined o (end_of slice) 0 (no_rows o parts) given ≡ read → scan_meaning None o slice given ≡ and_then read (next o slice)
  meaning-is read join =
      let early : early_fault None o slice (map (λ (it : PartBytes). it.0) given) ≡ None = ap (early_fault None o slice) are ∙ sound.early in
      let all : joined o (end_of slice) 0 (no_rows o (map (λ (it : PartBytes). it.0) given)) given ≡ read = ap (λ l. joined o (end_of slice) 0 (no_rows o l) given) are ∙ join in
      (λ i. unless (early i) (and_then (all i) (next o slice)))

  pub meaning-frame : (columns : List ColumnValue) → joined o (end_of slice) 0 (no_rows o parts) given ≡ Ok columns → late_fault o.row_index (start_of slice) columns ≡ None
      → IsScanMeaning o slice given (Ok (numbered o.row_index (start_of slice) columns))
  meaning-frame columns join late =
      (None, sound.sound, sym (meaning-is (Ok columns) join ∙ ap (λ f. unless f (Ok (numbered o.row_index (start_of slice) columns))) late))

  pub meaning-late : (columns : List ColumnValue) (refused : MultiFault) → joined o (end_of slice) 0 (no_rows o parts) given ≡ Ok columns → late_fault o.row_index (start_of slice) columns ≡ Some refused
      → IsScanMeaning o slice given (Err refused)
  meaning-late columns refused join late =
      (None, sound.sound, sym (meaning-is (Ok columns) join ∙ ap (λ f. unless f (Ok (numbered o.row_index (start_of slice) columns))) late))

  pub meaning-join : (refused : MultiFault) → joined o (end_of slice) 0 (no_rows o parts) given ≡ Err refused → IsScanMeaning o slice given (Err refused)
  meaning-join refused join = (None, sound.sound, sym (meaning-is (Err refused) join))

meaning-early : (o : CsvReadOptions) (slice : Option (ℕ × ℕ)) (parts : List Part) (given : List PartBytes) (refused : Option PolarsError) (first : MultiFault) → map (λ (it : PartBytes). it.0) given ≡ parts
    → IsFirstCause (given_causes o) o.parse_options refused → early_fault refused o slice parts ≡ Some first → IsScanMeaning o slice given (Err first)
meaning-early o slice parts given refused first are sound early =
    let all : early_fault refused o slice (map (λ (it : PartBytes). it.0) given) ≡ Some first = ap (early_fault refused o slice) are ∙ early in
    (refused, sound, sym (ap (λ f. unless f (and_then (joined o (end_of slice) 0 (no_rows o (map (λ (it : PartBytes). it.0) given)) given) (next o slice))) all))

-- ---- faults

-- a cause that is neither a failed part nor want of memory
abbrev IsCause : MultiFault → Type 0
IsCause fault.OutOfMemory = ⊥
IsCause (fault.Io place) = ⊥
IsCause _ = Unit {0}

cause-fault : (holds : List ℕ → Option (List ℕ)) (before now : ℕ) (o : CsvReadOptions) (slice : Option (ℕ × ℕ)) (parts : List Part) (refused : MultiFault)
    → IsCause refused → (given : List PartBytes) → AreHeld holds parts given → IsScanMeaning o slice given (Err refused) → IsScanFault holds before now o slice parts refused
cause-fault holds before now o slice parts fault.Options is given held meaning = (given, held, meaning)
cause-fault holds before now o slice parts (fault.Read refusal) is given held meaning = (given, held, meaning)
cause-fault holds before now o slice parts (fault.Partitions place) is given held meaning = (given, held, meaning)
cause-fault holds before now o slice parts (fault.Duplicate name) is given held meaning = (given, held, meaning)
cause-fault holds before now o slice parts (fault.Part place refusal) is given held meaning = (given, held, meaning)
cause-fault holds before now o slice parts (fault.Io place) is given held meaning = absurd (is)
cause-fault holds before now o slice parts (fault.Index offset rows) is given held meaning = (given, held, meaning)
cause-fault holds before now o slice parts fault.OutOfMemory is given held meaning = absurd (is)

early-cause : (wrong : Bool) (refused : Option PolarsError) (other : Option ℕ) (name : Option (List ℕ)) (first : MultiFault)
    → first_some (wrong_first wrong ∷ option_map fault.Read refused ∷ option_map fault.Partitions other ∷ option_map fault.Duplicate name ∷ []) ≡ Some first → IsCause first
early-cause true refused other name first e = subst IsCause (let same : fault.Options ≡ first = cc in same) tt
early-cause false (Some refusal) other name first e = subst IsCause (let same : fault.Read refusal ≡ first = cc in same) tt
early-cause false None (Some place) name first e = subst IsCause (let same : fault.Partitions place ≡ first = cc in same) tt
early-cause false None None (Some name) first e = subst IsCause (let same : fault.Duplicate name ≡ first = cc in same) tt
early-cause false None None None first e = absurd (cc)

pub early-fault : (holds : List ℕ → Option (List ℕ)) (before now : ℕ) (o : CsvReadOptions) (slice : Option (ℕ × ℕ)) (parts : List Part) (refused : MultiFault)
    → IsEarlyFault o slice parts refused → IsScanFault holds before now o slice parts refused
early-fault holds before now o slice parts refused (inl (first, sound, is)) =
    let held = some-held holds parts in
    cause-fault holds before now o slice parts refused
    (early-cause (is_wrong o slice) first (first_other parts) (repeated_name (column_names o (given_schema o) parts)) refused is)
    (some-bytes parts holds) held (meaning-early o slice parts (some-bytes parts holds) first refused held.0 sound is)
early-fault holds before now o slice parts refused (inr wanting) = subst (IsScanFault holds before now o slice parts) (sym wanting) tt

pub join-fault : (holds : List ℕ → Option (List ℕ)) (before now : ℕ) (o : CsvReadOptions) (slice : Option (ℕ × ℕ)) (parts : List Part) (refused : MultiFault)
    → IsSound o slice parts → IsJoinFault holds before now o (end_of slice) parts refused → IsScanFault holds before now o slice parts refused
join-fault holds before now o slice parts fault.Options sound (given, held, join) = (given, held, meaning-join o slice parts sound given held.0 _ join)
join-fault holds before now o slice parts (fault.Read refusal) sound (given, held, join) = (given, held, meaning-join o slice parts sound given held.0 _ join)
join-fault holds before now o slice parts (fault.Partitions place) sound (given, held, join) = (given, held, meaning-join o slice parts sound given held.0 _ join)
join-fault holds before now o slice parts (fault.Duplicate name) sound (given, held, join) = (given, held, meaning-join o slice parts sound given held.0 _ join)
join-fault holds before now o slice parts (fault.Part place refusal) sound (given, held, join) = (given, held, meaning-join o slice parts sound given held.0 _ join)
join-fault holds before now o slice parts (fault.Io place) sound (rose, wanted) = (
  rose,
  record {
    sound = sound.sound;
    early = sound.early;
    within = wanted.within;
    given = wanted.given;
    held = wanted.held;
    columns = wanted.columns;
    read = wanted.read;
    wanted = wanted.wanted;
  },
)
join-fault holds before now o slice parts (fault.Index offset rows) sound (given, held, join) = (given, held, meaning-join o slice parts sound given held.0 _ join)
join-fault holds before now o slice parts fault.OutOfMemory sound wanting = tt

abbrev IsIndex : MultiFault → Type 0
IsIndex (fault.Index offset rows) = Unit {0}
IsIndex fault.OutOfMemory = Unit {0}
IsIndex _ = ⊥

index-is : (refusal : PolarsError) → IsIndex (index_fault refusal)
index-is (error.InvalidOperation op) = tt
index-is (error.ComputeError compute_fault.Quote) = tt
index-is (error.ComputeError compute_fault.Compressed) = tt
index-is (error.ComputeError (compute_fault.Dtype column)) = tt
index-is (error.ComputeError (compute_fault.Record row column kind)) = tt
index-is (error.ComputeError (compute_fault.Index offset rows)) = tt
index-is (error.NoData none) = tt
index-is (error.ColumnNotFound name) = tt
index-is (error.OutOfBounds index bound) = tt
index-is (error.Duplicate name place) = tt
index-is error.EmptyProjection = tt
index-is error.IO = tt
index-is error.OutOfMemory = tt

late-is : (cause : Option PolarsError) (refused : MultiFault) → option_map index_fault cause ≡ Some refused → IsIndex refused
late-is None refused e = absurd (cc)
late-is (Some refusal) refused e = subst IsIndex (let same : index_fault refusal ≡ refused = cc in same) (index-is refusal)

pub late-fault : (holds : List ℕ → Option (List ℕ)) (before now : ℕ) (o : CsvReadOptions) (slice : Option (ℕ × ℕ)) (parts : List Part) (columns : List ColumnValue) (refused : MultiFault)
    → IsSound o slice parts → Join holds o (end_of slice) parts (Ok columns) → IsLateFault o.row_index (start_of slice) columns refused → IsScanFault holds before now o slice parts refused
late-fault holds before now o slice parts columns refused sound join (inr wanting) = subst (IsScanFault holds before now o slice parts) (sym wanting) tt
late-fault holds before now o slice parts columns refused sound (given, held, join) (inl late) = by refused (late-is _ refused late) (meaning-late o slice parts sound given held.0 columns refused join late)
  where
    by : (refused : MultiFault) → IsIndex refused → IsScanMeaning o slice given (Err refused) → IsScanFault holds before now o slice parts refused
    by (fault.Index offset rows) is meaning = (given, held, meaning)
    by fault.OutOfMemory is meaning = tt
    by fault.Options is meaning = absurd (is)
    by (fault.Read refusal) is meaning = absurd (is)
    by (fault.Partitions place) is meaning = absurd (is)
    by (fault.Duplicate name) is meaning = absurd (is)
    by (fault.Part place refusal) is meaning = absurd (is)
    by (fault.Io place) is meaning = absurd (is)

pub joined-frame : (holds : List ℕ → Option (List ℕ)) (o : CsvReadOptions) (slice : Option (ℕ × ℕ)) (parts : List Part) (columns frame : List ColumnValue)
    → IsSound o slice parts → Join holds o (end_of slice) parts (Ok columns) → late_fault o.row_index (start_of slice) columns ≡ None → frame ≡ numbered o.row_index (start_of slice) columns
    → IsJoined holds o slice parts frame
joined-frame holds o slice parts columns frame sound (given, held, join) late is =
    subst (IsJoined holds o slice parts) (sym is) (given, held, meaning-frame o slice parts sound given held.0 columns join late)

-- ---- told bytes

pub scan-complete : (holds : List ℕ → Option (List ℕ)) (before now : ℕ) (o : CsvReadOptions) (slice : Option (ℕ × ℕ)) (parts : List Part) (result : Result (List ColumnValue) MultiFault)
    → IfOk result (IsJoined holds o slice parts) → IfErr result (IsScanFault holds before now o slice parts)
    → (given : List PartBytes) (meaning : Result (List ColumnValue) MultiFault) → AreTold holds parts given → IsScanMeaning o slice given meaning → ScansUnlessFailed result meaning before now
scan-complete holds before now o slice parts result frame refused given meaning told (first, sound, is) = by result frame refused
  where
    same : (result : Result (List ColumnValue) MultiFault) (other : List PartBytes) → AreHeld holds parts other → IsScanMeaning o slice other result → ScansUnlessFailed result meaning before now
    same result other held (mine, its, means) =
        inl (means ∙ ap (λ f. scan_meaning f o slice other) (first-same (given_causes o) o.parse_options mine first its sound) ∙ ap (scan_meaning first o slice) (held-told holds parts other given held told) ∙ sym is)

    by : (result : Result (List ColumnValue) MultiFault) → IfOk result (IsJoined holds o slice parts) → IfErr result (IsScanFault holds before now o slice parts) → ScansUnlessFailed result meaning before now
    by (Ok columns) (other, held, means) refused = same (Ok columns) other held means
    by (Err fault.Options) frame (other, held, means) = same _ other held means
    by (Err (fault.Read refusal)) frame (other, held, means) = same _ other held means
    by (Err (fault.Partitions place)) frame (other, held, means) = same _ other held means
    by (Err (fault.Duplicate name)) frame (other, held, means) = same _ other held means
    by (Err (fault.Part place refusal)) frame (other, held, means) = same _ other held means
    by (Err (fault.Io place)) frame (rose, reached) = inr (inr (place, refl, rose))
    by (Err (fault.Index offset rows)) frame (other, held, means) = same _ other held means
    by (Err fault.OutOfMemory) frame refused = inr (inl refl)
