-- The rows of parts, part by part.
use Rattle.std.proofs.Common.{◌≡◌, ℕ, zero, suc, ◌+◌, ◌<◌, true, false, if◌then◌else◌, List, [], ◌∷◌, ◌++◌, length, take, drop, get_or, Option, Some, None, refl, sym, ◌∙◌, ap, subst, arith, inl, inr}
use Rattle.std.specs.Prelude.{◌≤◌, Ok, Err, IfSome}
use Rattle.std.specs.Option.{option_map}
use Rattle.std.proofs.lemmas.List.{append-nil, append_assoc}
use Rattle.pl_frame.specs.Frame.{ColumnValue, height_of}
use Rattle.pl_frame.specs.FrameParts.{stacked}
use Rattle.pl_frame.specs.declared.error.PolarsError.{PolarsError}
use Rattle.pl_frame.specs.declared.error.PolarsError.TheVariants as error
use Rattle.pl_options.specs.FirstCause.{IsFault}
use Rattle.pl_options.specs.declared.read_options.CsvReadOptions.{CsvReadOptions}
use Rattle.pl_read.specs.Refusals.{is_zero}
use Rattle.pl_read.specs.SettleGiven.{given_schema}
use Rattle.pl_read.specs.Steps.{late_cause}
use Rattle.pl_multi.specs.Scan.{PartBytes, part_options, part_rows, no_rows, wanted_behind, unless, joined, IsHeld, AreHeld}
use Rattle.pl_multi.specs.Joining.{IsPartJoined, IsPartFault, AreJoined, Join, IsWanted, IsJoinFault, part_fault}
use Rattle.pl_multi.specs.declared.part.Part.{Part}
use Rattle.pl_multi.specs.declared.scan.MultiFault.{MultiFault}
use Rattle.pl_multi.specs.declared.scan.MultiFault.TheVariants as fault
use Rattle.pl_multi.proofs.HeldLaws.{held-behind, held-one, some-bytes, some-held, parts-split, parts-more}

-- ---- one step

abbrev options_at : CsvReadOptions → Option ℕ → List ColumnValue → CsvReadOptions
options_at o end columns = part_options o (wanted_behind end (height_of columns))

-- a part without a cause
joined-read : (o : CsvReadOptions) (end : Option ℕ) (place : ℕ) (columns : List ColumnValue) (given : PartBytes) (more : List PartBytes)
    → is_zero (wanted_behind end (height_of columns)) ≡ false → late_cause (options_at o end columns) (given_schema o) given.1 ≡ None
    → joined o end place columns (given ∷ more) ≡ joined o end (place + 1) (stacked columns (part_rows (options_at o end columns) (given_schema o) given)) more
joined-read o end place columns given more wanted sound =
    let rest = joined o end (place + 1) (stacked columns (part_rows (options_at o end columns) (given_schema o) given)) more in
    (λ i. if wanted i then Ok columns else unless (option_map (fault.Part place) (sound i)) rest)

-- a part with one
joined-refused : (o : CsvReadOptions) (end : Option ℕ) (place : ℕ) (columns : List ColumnValue) (given : PartBytes) (more : List PartBytes) (refusal : PolarsError)
    → is_zero (wanted_behind end (height_of columns)) ≡ false → late_cause (options_at o end columns) (given_schema o) given.1 ≡ Some refusal
    → joined o end place columns (given ∷ more) ≡ Err (fault.Part place refusal)
joined-refused o end place columns given more refusal wanted cause =
    let rest = joined o end (place + 1) (stacked columns (part_rows (options_at o end columns) (given_schema o) given)) more in
    (λ i. if wanted i then Ok columns else unless (option_map (fault.Part place) (cause i)) rest)

-- no row is wanted any more
joined-enough : (o : CsvReadOptions) (end : Option ℕ) (place : ℕ) (columns : List ColumnValue) (given : List PartBytes)
    → is_zero (wanted_behind end (height_of columns)) ≡ true → joined o end place columns given ≡ Ok columns
joined-enough o end place columns [] enough = refl
joined-enough o end place columns (given ∷ more) enough =
    let rest = joined o end (place + 1) (stacked columns (part_rows (options_at o end columns) (given_schema o) given)) more in
    (λ i. if enough i then Ok columns else unless (option_map (fault.Part place) (late_cause (options_at o end columns) (given_schema o) given.1)) rest)

-- ---- parts so far

-- no part
pub joined-none : (holds : List ℕ → Option (List ℕ)) (o : CsvReadOptions) (end : Option ℕ) (parts : List Part) → AreJoined holds o end parts 0 (no_rows o parts)
joined-none holds o end parts = record { given = []; held = (refl, tt); behind = λ more. refl }

take-all : {X : Type 0} (xs : List X) (n : ℕ) → length xs ≡ n → take n xs ≡ xs
take-all [] zero e = refl
take-all [] (suc n) e = refl
take-all (x ∷ xs) zero e = absurd (omega arith)
take-all {X} (x ∷ xs) (suc n) e = ap (λ (l : List X). x ∷ l) (take-all xs n (omega arith))

take-drop : {X : Type 0} (xs : List X) (n : ℕ) → take n xs ++ drop n xs ≡ xs
take-drop xs zero = refl
take-drop [] (suc n) = refl
take-drop {X} (x ∷ xs) (suc n) = ap (λ (l : List X). x ∷ l) (take-drop xs n)

module _ (holds : List ℕ → Option (List ℕ)) (o : CsvReadOptions) (end : Option ℕ) (parts : List Part) (place : ℕ) (columns : List ColumnValue) (are : AreJoined holds o end parts place columns) where
  -- all of them
  pub joined-all : length parts ≡ place → Join holds o end parts (Ok columns)
  joined-all all = (
    are.given,
    subst (λ l. AreHeld holds l are.given) (take-all parts place all) are.held,
    ap (λ l. joined o end 0 (no_rows o parts) l) (sym (append-nil are.given)) ∙ are.behind [],
  )

  -- enough of them
  pub joined-some : is_zero (wanted_behind end (height_of columns)) ≡ true → Join holds o end parts (Ok columns)
  joined-some enough =
      let rest = some-bytes (drop place parts) holds in (
        are.given ++ rest,
        subst (λ l. AreHeld holds l (are.given ++ rest)) (take-drop parts place) (held-behind holds (take place parts) (drop place parts) are.given rest are.held (some-held holds (drop place parts))),
        are.behind rest ∙ joined-enough o end place columns rest enough,
      )

  -- the next one is still wanted
  pub wanted-next : place < length parts → is_zero (wanted_behind end (height_of columns)) ≡ false → IsWanted holds o end parts place
  wanted-next within wanted = record {
    within = within;
    given = are.given;
    held = are.held;
    columns = columns;
    read = ap (λ l. joined o end 0 (no_rows o parts) l) (sym (append-nil are.given)) ∙ are.behind [];
    wanted = wanted;
  }

  module _ (part : Part) (bytes : List ℕ) (within : place < length parts) (at : part ≡ get_or parts place part) (held : IsHeld holds (part, bytes)) (wanted : is_zero (wanted_behind end (height_of columns)) ≡ false) where
    -- one more
    pub joined-more : late_cause (part_options o (wanted_behind end (height_of columns))) (given_schema o) bytes ≡ None
        → AreJoined holds o end parts (place + 1) (stacked columns (part_rows (part_options o (wanted_behind end (height_of columns))) (given_schema o) (part, bytes)))
    joined-more sound = record {
      given = are.given ++ (part, bytes) ∷ [];
      held = subst (λ l. AreHeld holds l (are.given ++ (part, bytes) ∷ [])) (parts-more parts place part within at)
          (held-behind holds (take place parts) (part ∷ []) are.given ((part, bytes) ∷ []) are.held (held-one holds part bytes held));
      behind = λ more.
          ap (λ l. joined o end 0 (no_rows o parts) l) (append_assoc are.given ((part, bytes) ∷ []) more)
          ∙ are.behind ((part, bytes) ∷ more) ∙ joined-read o end place columns (part, bytes) more wanted sound;
    }

    -- one that is refused
    pub joined-fault : (refusal : PolarsError) → late_cause (part_options o (wanted_behind end (height_of columns))) (given_schema o) bytes ≡ Some refusal → Join holds o end parts (Err (fault.Part place refusal))
    joined-fault refusal cause =
        let rest = some-bytes (drop (suc place) parts) holds in (
          are.given ++ (part, bytes) ∷ rest,
          subst (λ l. AreHeld holds l (are.given ++ (part, bytes) ∷ rest)) (parts-split parts place part within at)
              (held-behind holds (take place parts) (part ∷ drop (suc place) parts) are.given ((part, bytes) ∷ rest) are.held
              (held-behind holds (part ∷ []) (drop (suc place) parts) ((part, bytes) ∷ []) rest (held-one holds part bytes held) (some-held holds (drop (suc place) parts)))),
          are.behind ((part, bytes) ∷ rest) ∙ joined-refused o end place columns (part, bytes) rest refusal wanted cause,
        )

-- ---- one part, read later

module _ (holds later_holds : List ℕ → Option (List ℕ)) (stays : (other : List ℕ) → later_holds other ≡ holds other) where
  pub held-same : (given : PartBytes) → IsHeld later_holds given → IsHeld holds given
  held-same given held = subst (λ told. IfSome told (λ bytes. given.1 ≡ bytes)) (stays given.0.path) held

  module _ (o : CsvReadOptions) (end : Option ℕ) (parts : List Part) (place : ℕ) (columns : List ColumnValue) (are : AreJoined holds o end parts place columns)
      (part : Part) (within : place < length parts) (at : part ≡ get_or parts place part) (wanted : is_zero (wanted_behind end (height_of columns)) ≡ false)
      (options : CsvReadOptions) (is : options ≡ part_options o (wanted_behind end (height_of columns))) where
    pub joined-step : (now : List ColumnValue) (rows : ℕ) → IsPartJoined later_holds options part columns now rows → AreJoined holds o end parts (place + 1) now
    joined-step now rows joined =
        let cause : late_cause (part_options o (wanted_behind end (height_of columns))) (given_schema o) joined.bytes ≡ None = subst (λ (p : CsvReadOptions). late_cause p (given_schema p) joined.bytes ≡ None) is joined.sound in
        let rows_are : now ≡ stacked columns (part_rows (part_options o (wanted_behind end (height_of columns))) (given_schema o) (part, joined.bytes)) =
        joined.is ∙ ap (λ (p : CsvReadOptions). stacked columns (part_rows p (given_schema p) (part, joined.bytes))) is in
        subst (AreJoined holds o end parts (place + 1)) (sym rows_are)
        (joined-more holds o end parts place columns are part joined.bytes within at (held-same (part, joined.bytes) joined.held) wanted cause)

    pub fault-step : (first before now : ℕ) (refused : MultiFault) → first ≤ before → IsPartFault later_holds before now options part place refused → IsJoinFault holds first now o end parts refused
    fault-step first before now fault.OutOfMemory later given = tt
    fault-step first before now (fault.Io place') later (same, rose) =
        ((omega (arith, later, rose)), subst (IsWanted holds o end parts) (sym same) (wanted-next holds o end parts place columns are within wanted))
    fault-step first before now (fault.Part place' refusal) later (same, (bytes, held, cause)) =
        let its : late_cause (part_options o (wanted_behind end (height_of columns))) (given_schema o) bytes ≡ Some refusal = subst (λ (p : CsvReadOptions). late_cause p (given_schema p) bytes ≡ Some refusal) is cause in
        subst (λ p. Join holds o end parts (Err (fault.Part p refusal))) (sym same)
        (joined-fault holds o end parts place columns are part bytes within at (held-same (part, bytes) held) wanted refusal its)
    fault-step first before now fault.Options later given = absurd (given)
    fault-step first before now (fault.Read refusal) later given = absurd (given)
    fault-step first before now (fault.Partitions place') later given = absurd (given)
    fault-step first before now (fault.Duplicate name) later given = absurd (given)
    fault-step first before now (fault.Index offset rows) later given = absurd (given)

-- the fault of a part for a cause against its bytes, or for want of memory
pub part-fault : (holds : List ℕ → Option (List ℕ)) (before now : ℕ) (options : CsvReadOptions) (part : Part) (place : ℕ) (bytes : List ℕ) → IsHeld holds (part, bytes)
    → (refusal : PolarsError) → IsFault (late_cause options (given_schema options) bytes) refusal → IsPartFault holds before now options part place (part_fault place refusal)
part-fault holds before now options part place bytes held refusal (inr wanting) = subst (λ f. IsPartFault holds before now options part place (part_fault place f)) (sym wanting) tt
part-fault holds before now options part place bytes held error.OutOfMemory (inl is) = tt
part-fault holds before now options part place bytes held error.IO (inl is) = (refl, (bytes, held, is))
part-fault holds before now options part place bytes held error.EmptyProjection (inl is) = (refl, (bytes, held, is))
part-fault holds before now options part place bytes held (error.InvalidOperation op) (inl is) = (refl, (bytes, held, is))
part-fault holds before now options part place bytes held (error.ComputeError compute) (inl is) = (refl, (bytes, held, is))
part-fault holds before now options part place bytes held (error.NoData none) (inl is) = (refl, (bytes, held, is))
part-fault holds before now options part place bytes held (error.ColumnNotFound name) (inl is) = (refl, (bytes, held, is))
part-fault holds before now options part place bytes held (error.OutOfBounds index bound) (inl is) = (refl, (bytes, held, is))
part-fault holds before now options part place bytes held (error.Duplicate name at) (inl is) = (refl, (bytes, held, is))
