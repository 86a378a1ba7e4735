-- What files mean is one.
use Rattle.std.proofs.Common.{◌≡◌, ◌≢◌, ℕ, ◌+◌, ◌^◌, ◌<◌, ◌≤◌, Bool, true, false, cond, not, ◌==◌, List, [], ◌∷◌, length, refl, sym, ◌∙◌, ap, subst, arith, inl, inr}
use Rattle.std.proofs.lemmas.Bool.Decides.{nat_tests}
use Rattle.std.specs.Prelude.{◌⊎◌, nat_lt, min, Option, None, Some, Result, Ok, Err, IfSome}
use Rattle.std.specs.List.{prefix_len, zip}
use Rattle.pl_frame.specs.declared.error.PolarsError.{PolarsError}
use Rattle.pl_options.specs.declared.read_options.CsvReadOptions.{CsvReadOptions}
use Rattle.pl_options.specs.FirstCause.{first_some}
use Rattle.pl_csv.specs.declared.run.Refusal.TheVariants as refusal
use Rattle.pl_write.specs.declared.options.CsvWriterOptions.{CsvWriterOptions}
use Rattle.pl_read.proofs.ReaderLaws.{first-same}
use Rattle.pl_seek.specs.Binding.{HaveSameSettings, IsBindFault, IsDifference, first_difference, places_difference}
use Rattle.pl_seek.specs.Building.{index_in, is_wrong, causes_before, MayIndex, IsCause, IsBuildFault}
use Rattle.pl_seek.specs.Files.{IsHeld, IsToldAt, IsReadAnd}
use Rattle.pl_seek.specs.Index.{Index, IsIndex, HasIndex, index_bytes}
use Rattle.pl_seek.specs.Meaning.{IsBoundBy, IsBuildMeaning, IsSliceFault, IsSliceMeaning, IsMeaning}
use Rattle.pl_seek.specs.Parts.{IsReadFault}
use Rattle.pl_seek.specs.Slices.{slice_rows, slice_cause}
use Rattle.pl_seek.specs.Telling.{refusal_of}
use Rattle.pl_seek.specs.declared.fault.SeekFault.{SeekFault}
use Rattle.pl_seek.specs.declared.fault.SeekFault.TheVariants as fault
use Rattle.pl_seek.specs.declared.job.SeekJob.{SeekJob}
use Rattle.pl_seek.specs.declared.job.SeekJob.TheVariants as job
use Rattle.pl_seek.specs.declared.run.SeekRefusal.{SeekRefusal}
use Rattle.pl_seek.specs.declared.run.SeekRefusal.TheVariants as seek
use Rattle.pl_seek.proofs.Whole.{differ}

true_false : {X : Type 0} → true ≡ false → X
true_false e = cc

some_none : {X Y : Type 0} (x : X) → ◌≡◌ {A = Option X} (Some x) None → Y
some_none x e = cc

some_is : {X : Type 0} (x y : X) → ◌≡◌ {A = Option X} (Some x) (Some y) → x ≡ y
some_is x y e = cc

-- ---- causes against an input

module _ (o : CsvReadOptions) (input : List ℕ) where
  -- why there is no index, but for want of memory
  abbrev pub Against : SeekFault → Type 0
  Against cause = ((cause ≡ fault.Options) × (is_wrong o ≡ true)) ⊎ ((first : PolarsError) × (cause ≡ fault.Polars first) × IsCause o input first)

  pub against-one : (cause other : SeekFault) → Against cause → Against other → cause ≡ other
  against-one cause other (inl (is, wrong)) (inl (same, too)) = is ∙ sym same
  against-one cause other (inl (is, wrong)) (inr (first, same, holds)) = true_false (sym wrong ∙ holds.0)
  against-one cause other (inr (first, is, holds)) (inl (same, wrong)) = true_false (sym wrong ∙ holds.0)
  against-one cause other (inr (first, is, holds)) (inr (second, same, too)) =
      let one : first ≡ second = some_is first second (first-same (causes_before o input) o.parse_options (Some first) (Some second) holds.1 too.1) in
      is ∙ ap fault.Polars one ∙ sym same

  pub against-may : {X : Type 0} (cause : SeekFault) → Against cause → MayIndex o input → X
  against-may cause (inl (is, wrong)) may = true_false (sym wrong ∙ may.0)
  against-may cause (inr (first, is, holds)) may = some_none first (first-same (causes_before o input) o.parse_options (Some first) None holds.1 may.1)

  pub build-against : (cause : SeekFault) → IsBuildFault o input cause → cause ≢ fault.OutOfMemory → Against cause
  build-against fault.Options holds not = inl (refl, holds)
  build-against (fault.Polars first) holds not = inr (first, refl, holds)
  build-against fault.OutOfMemory holds not = absurd (not refl)
  build-against fault.Format holds not = absurd (holds)
  build-against fault.Input holds not = absurd (holds)
  build-against fault.Settings holds not = absurd (holds)
  build-against (fault.Places number) holds not = absurd (holds)

-- what an input means is one
pub build-same : (o : CsvReadOptions) (every : ℕ) (input : List ℕ) (one other : Result (List ℕ) SeekRefusal) → IsBuildMeaning o every input one → IsBuildMeaning o every input other → one ≡ other
build-same o every input (Ok text) (Ok other) (may, is) (too, same) = ap Ok (is ∙ sym same)
build-same o every input (Ok text) (Err given) (may, is) (cause, holds, not, same) = against-may o input cause (build-against o input cause holds not) may
build-same o every input (Err given) (Ok text) (cause, holds, not, same) (may, is) = against-may o input cause (build-against o input cause holds not) may
build-same o every input (Err given) (Err other) (cause, holds, not, is) (second, too, nor, same) =
    ap Err (is ∙ ap refusal_of (against-one o input cause second (build-against o input cause holds not) (build-against o input second too nor)) ∙ sym same)

-- ---- differences of indices

module _ (i own : Index) where
  abbrev pub Differs : SeekFault → Type 0
  Differs cause =
      ((cause ≡ fault.Input) × (i.digest ≢ own.digest))
      ⊎ ((cause ≡ fault.Settings) × (i.digest ≡ own.digest) × (¬ HaveSameSettings i own))
      ⊎ ((number : ℕ) × (cause ≡ fault.Places number) × (i.digest ≡ own.digest) × HaveSameSettings i own × (places_difference i own ≡ Some number))

  pub difference-differs : (cause : SeekFault) → IsDifference i own cause → Differs cause
  difference-differs fault.Input holds = inl (refl, holds)
  difference-differs fault.Settings holds = inr (inl (refl, holds.0, holds.1))
  difference-differs (fault.Places number) holds = inr (inr (number, refl, holds.0, holds.1, holds.2))
  difference-differs fault.Options holds = absurd (holds)
  difference-differs (fault.Polars first) holds = absurd (holds)
  difference-differs fault.Format holds = absurd (holds)
  difference-differs fault.OutOfMemory holds = absurd (holds)

  pub differs-one : (cause other : SeekFault) → Differs cause → Differs other → cause ≡ other
  differs-one cause other (inl (is, un)) (inl (same, nor)) = is ∙ sym same
  differs-one cause other (inl (is, un)) (inr (inl (same, digest, nor))) = absurd (un digest)
  differs-one cause other (inl (is, un)) (inr (inr (number, same, digest, settings, place))) = absurd (un digest)
  differs-one cause other (inr (inl (is, digest, un))) (inl (same, nor)) = absurd (nor digest)
  differs-one cause other (inr (inl (is, digest, un))) (inr (inl (same, too, nor))) = is ∙ sym same
  differs-one cause other (inr (inl (is, digest, un))) (inr (inr (number, same, too, settings, place))) = absurd (un settings)
  differs-one cause other (inr (inr (number, is, digest, settings, place))) (inl (same, nor)) = absurd (nor digest)
  differs-one cause other (inr (inr (number, is, digest, settings, place))) (inr (inl (same, too, nor))) = absurd (nor settings)
  differs-one cause other (inr (inr (number, is, digest, settings, place))) (inr (inr (second, same, too, are, at))) =
      is ∙ ap fault.Places (some_is number second (sym place ∙ at)) ∙ sym same

eq-refl : (x : ℕ) → (x == x) ≡ true
eq-refl x = grind (arith, nat_tests)

none-differ : (xs : List ℕ) → prefix_len (λ (pair : ℕ × ℕ). not (not (pair.0 == pair.1))) (zip xs xs) ≡ length (zip xs xs)
none-differ [] = refl
none-differ (x ∷ xs) =
    let one : 1 + length (zip xs xs) ≡ length (zip (x ∷ xs) (x ∷ xs)) = omega arith in
    ap (λ (t : Bool). cond (not (not t)) (1 + prefix_len (λ (pair : ℕ × ℕ). not (not (pair.0 == pair.1))) (zip xs xs)) 0) (eq-refl x) ∙ ap (λ n. 1 + n) (none-differ xs) ∙ one

placed-none : (n all : ℕ) → n ≡ all → ◌≡◌ {A = Option ℕ} (cond (nat_lt n all) (Some n) None) None
placed-none n all e = let no : nat_lt n all ≡ false = grind (arith, nat_tests) in ap (λ (t : Bool). cond t (Some n) None) no

-- an index does not differ from itself
pub no-difference : (i : Index) → places_difference i i ≡ None
no-difference i =
    let first : first_difference i.places i.places ≡ None = placed-none _ _ (none-differ i.places) in
    (λ k. first_some (first k ∷ (cond (eq-refl i.records k) None (Some (min (length i.places) (length i.places)))) ∷ []))

pub differs-not : {X : Type 0} (i own : Index) (cause : SeekFault) → Differs i own cause → i ≡ own → X
differs-not i own cause (inl (is, un)) same = absurd (un (ap (λ (x : Index). x.digest) same))
differs-not i own cause (inr (inl (is, digest, un))) same = absurd (un (ap (λ (x : Index). x.settings) same, ap (λ (x : Index). x.comment_prefix) same))
differs-not i own cause (inr (inr (number, is, digest, settings, place))) same = some_none number (sym place ∙ ap (λ x. places_difference x own) same ∙ no-difference own)

-- ---- a slice

module _ (o : CsvReadOptions) (start count : ℕ) (input bytes : List ℕ) where
  abbrev first : Option PolarsError
  first = slice_cause o start (slice_rows o input start count)

  -- why there is no slice, but for want of memory
  abbrev Stops : SeekFault → Type 0
  Stops cause =
      ((¬ HasIndex bytes) × (cause ≡ fault.Format))
      ⊎ ((i : Index) × IsIndex i × (bytes ≡ index_bytes i) × (Against o input cause ⊎ (MayIndex o input × Differs i (index_in o i.every input) cause)))
      ⊎ (IsBoundBy o input bytes × ((found : PolarsError) × (cause ≡ fault.Polars found) × (first ≡ Some found)))

  bind-stops : (i : Index) (cause : SeekFault) → IsBindFault o input i cause → cause ≢ fault.OutOfMemory → Against o input cause ⊎ (MayIndex o input × Differs i (index_in o i.every input) cause)
  bind-stops i fault.Options holds not = inl (inl (refl, holds))
  bind-stops i (fault.Polars found) holds not = inl (inr (found, refl, holds))
  bind-stops i fault.OutOfMemory holds not = absurd (not refl)
  bind-stops i fault.Format holds not = inr (holds.0, difference-differs i (index_in o i.every input) fault.Format holds.1)
  bind-stops i fault.Input holds not = inr (holds.0, difference-differs i (index_in o i.every input) fault.Input holds.1)
  bind-stops i fault.Settings holds not = inr (holds.0, difference-differs i (index_in o i.every input) fault.Settings holds.1)
  bind-stops i (fault.Places number) holds not = inr (holds.0, difference-differs i (index_in o i.every input) (fault.Places number) holds.1)

  read-stops : (cause : SeekFault) → IsReadFault first cause → cause ≢ fault.OutOfMemory → (found : PolarsError) × (cause ≡ fault.Polars found) × (first ≡ Some found)
  read-stops (fault.Polars found) holds not = (found, refl, holds)
  read-stops fault.OutOfMemory holds not = absurd (not refl)
  read-stops fault.Options holds not = absurd (holds)
  read-stops fault.Format holds not = absurd (holds)
  read-stops fault.Input holds not = absurd (holds)
  read-stops fault.Settings holds not = absurd (holds)
  read-stops (fault.Places number) holds not = absurd (holds)

  stops : (cause : SeekFault) → IsSliceFault o start count input bytes cause → cause ≢ fault.OutOfMemory → Stops cause
  stops cause (inl none) not = inl none
  stops cause (inr (inl (i, is, are, holds))) not = inr (inl (i, is, are, bind-stops i cause holds not))
  stops cause (inr (inr (inl (bound, holds)))) not = inr (inr (bound, read-stops cause holds not))
  stops cause (inr (inr (inr wanting))) not = absurd (not wanting)

  has-index : (bound : IsBoundBy o input bytes) → HasIndex bytes
  has-index bound = (bound.index, bound.is, bound.bytes_are)

  -- an index that is bound does not stop a slice
  bound-not : {X : Type 0} (i : Index) (cause : SeekFault) → IsIndex i → bytes ≡ index_bytes i → IsBoundBy o input bytes
      → Against o input cause ⊎ (MayIndex o input × Differs i (index_in o i.every input) cause) → X
  bound-not i cause is are bound (inl against) = against-may o input cause against bound.may
  bound-not i cause is are bound (inr (may, differs)) =
      let same : i ≡ bound.index = differ i bound.index is bound.is (sym are ∙ bound.bytes_are) in
      differs-not i (index_in o i.every input) cause differs (same ∙ bound.own ∙ sym (ap (λ (x : Index). index_in o x.every input) same))

  bind-one : (i second : Index) (cause other : SeekFault) → i ≡ second → Against o input cause ⊎ (MayIndex o input × Differs i (index_in o i.every input) cause)
      → Against o input other ⊎ (MayIndex o input × Differs second (index_in o second.every input) other) → cause ≡ other
  bind-one i second cause other same (inl against) (inl too) = against-one o input cause other against too
  bind-one i second cause other same (inl against) (inr (may, differs)) = against-may o input cause against may
  bind-one i second cause other same (inr (may, differs)) (inl against) = against-may o input other against may
  bind-one i second cause other same (inr (may, differs)) (inr (too, differ)) =
      differs-one i (index_in o i.every input) cause other differs (subst (λ (x : Index). Differs x (index_in o x.every input) other) (sym same) differ)

  stops-one : (cause other : SeekFault) → Stops cause → Stops other → cause ≡ other
  stops-one cause other (inl (none, is)) (inl (nor, same)) = is ∙ sym same
  stops-one cause other (inl (none, is)) (inr (inl (i, its, are, holds))) = absurd (none (i, its, are))
  stops-one cause other (inl (none, is)) (inr (inr (bound, found))) = absurd (none (has-index bound))
  stops-one cause other (inr (inl (i, its, are, holds))) (inl (none, is)) = absurd (none (i, its, are))
  stops-one cause other (inr (inl (i, its, are, holds))) (inr (inl (second, is, same, too))) = bind-one i second cause other (differ i second its is (sym are ∙ same)) holds too
  stops-one cause other (inr (inl (i, its, are, holds))) (inr (inr (bound, found))) = bound-not i cause its are bound holds
  stops-one cause other (inr (inr (bound, found))) (inl (none, is)) = absurd (none (has-index bound))
  stops-one cause other (inr (inr (bound, found))) (inr (inl (i, its, are, holds))) = bound-not i other its are bound holds
  stops-one cause other (inr (inr (bound, (found, is, at)))) (inr (inr (too, (second, same, its)))) = is ∙ ap fault.Polars (some_is found second (sym at ∙ its)) ∙ sym same

  stops-not : {X : Type 0} (cause : SeekFault) → Stops cause → IsBoundBy o input bytes → first ≡ None → X
  stops-not cause (inl (none, is)) bound sound = absurd (none (has-index bound))
  stops-not cause (inr (inl (i, its, are, holds))) bound sound = bound-not i cause its are bound holds
  stops-not cause (inr (inr (too, (found, is, at)))) bound sound = some_none found (sym at ∙ sound)

  -- what an input and the bytes of an index mean is one
  pub slice-same : (write : CsvWriterOptions) (one other : Result (List ℕ) SeekRefusal) → IsSliceMeaning o write start count input bytes one → IsSliceMeaning o write start count input bytes other → one ≡ other
  slice-same write (Ok text) (Ok other) (bound, sound, is) (too, nor, same) = ap Ok (is ∙ sym same)
  slice-same write (Ok text) (Err given) (bound, sound, is) (cause, holds, not, same) = stops-not cause (stops cause holds not) bound sound
  slice-same write (Err given) (Ok text) (cause, holds, not, same) (bound, sound, is) = stops-not cause (stops cause holds not) bound sound
  slice-same write (Err given) (Err other) (cause, holds, not, is) (second, too, nor, same) =
      ap Err (is ∙ ap refusal_of (stops-one cause second (stops cause holds not) (stops second too nor)) ∙ sym same)

-- ---- files

held-told : (holds : List ℕ → Option (List ℕ)) (path bytes told : List ℕ) → IsHeld holds path bytes → IsToldAt holds path told → bytes ≡ told
held-told holds path bytes told held is = subst (λ (h : Option (List ℕ)). IfSome h (λ t. bytes ≡ t)) is held

-- what comes of the bytes at a path is one, where it is so of the same bytes
pub read-same : {X : Type 0} (holds : List ℕ → Option (List ℕ)) (path : List ℕ) (Next Then : List ℕ → Result X SeekRefusal → Type 0) (one other : Result X SeekRefusal)
    → ((bytes : List ℕ) → Next bytes one → Then bytes other → one ≡ other) → IsReadAnd (IsHeld holds) path Next one → IsReadAnd (IsToldAt holds) path Then other → one ≡ other
read-same holds path Next Then one other same (bytes, held, come) (told, is, came) = by come came (held-told holds path bytes told held is)
  where
    by : ((2 ^ 36 < length bytes) × (one ≡ Err (seek.Run refusal.TooLong))) ⊎ ((length bytes ≤ 2 ^ 36) × Next bytes one)
        → ((2 ^ 36 < length told) × (other ≡ Err (seek.Run refusal.TooLong))) ⊎ ((length told ≤ 2 ^ 36) × Then told other) → bytes ≡ told → one ≡ other
    by (inl (long, is)) (inl (too, its)) e = is ∙ sym its
    by (inl (long, is)) (inr (few, its)) e = let size : length bytes ≡ length told = ap length e in absurd (omega (arith, size, long, few))
    by (inr (few, is)) (inl (long, its)) e = let size : length bytes ≡ length told = ap length e in absurd (omega (arith, size, long, few))
    by (inr (few, is)) (inr (too, its)) e = same bytes is (subst (λ (b : List ℕ). Then b other) (sym e) its)

-- what a job means by the files that an opener holds is what it means by those that it tells
pub meaning-same : (holds : List ℕ → Option (List ℕ)) (given : SeekJob) (one other : Result (List ℕ) SeekRefusal) → IsMeaning (IsHeld holds) given one → IsMeaning (IsToldAt holds) given other → one ≡ other
meaning-same holds (job.Build every path read) one other is its =
    read-same holds path (IsBuildMeaning read every) (IsBuildMeaning read every) one other (λ input. build-same read every input one other) is its
meaning-same holds (job.Slice start count path index_path read write) one other is its =
    read-same holds path (λ input. IsReadAnd (IsHeld holds) index_path (IsSliceMeaning read write start count input)) (λ input. IsReadAnd (IsToldAt holds) index_path (IsSliceMeaning read write start count input)) one other
    (λ input mine told.
    read-same holds index_path (IsSliceMeaning read write start count input) (IsSliceMeaning read write start count input) one other (λ bytes. slice-same read start count input bytes write one other) mine told)
    is its
