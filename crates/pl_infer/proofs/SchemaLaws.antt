-- The names and types of a schema by their places, and schemas whose types are replaced.
use Rattle.std.proofs.Common.{◌≡◌, ◌≢◌, ℕ, zero, suc, ◌+◌, ◌<◌, Bool, true, false, not, List, [], ◌∷◌, ◌++◌, length, map, take, drop, get_or, slice_get, refl, sym, ◌∙◌, ap, arith}
use Rattle.std.specs.Prelude.{Option, None, Some, find}
use Rattle.std.specs.List.{list_any}
use Rattle.std.proofs.lemmas.List.{length-map}
use Rattle.std.proofs.lemmas.List.Folds.{list_any_at}
use Rattle.pl_frame.specs.declared.data_type.DataType.{DataType}
use Rattle.pl_frame.specs.declared.data_type.DataType.TheVariants as dtype
use Rattle.pl_frame.specs.declared.error.PolarsError.{PolarsError}
use Rattle.pl_frame.specs.declared.error.PolarsError.TheVariants as error
use Rattle.pl_frame.specs.Schema.{Entry, names_in, place_of, with_type_at, lacks}
use Rattle.pl_frame.specs.Types.{is_readable}
use Rattle.pl_frame.proofs.ColumnLaws.{position-found, position-nowhere}
use Rattle.pl_cells.specs.InitBuffers.{entry_at}
use Rattle.pl_cells.proofs.PlaceLaws.{find_first, find_more}
use Rattle.pl_cells.specs.NullValues.{IsNameFault}
use Rattle.pl_infer.specs.Schemas.{retyped, overwritten_schema, unknown_name, types_of, is_categorical, first_unreadable_column}

-- ---- places

types_of-at : (schema : List Entry) (k : ℕ) → get_or (types_of schema) k dtype.Null ≡ (entry_at schema k).1
types_of-at [] k = refl
types_of-at (entry ∷ schema) zero = refl
types_of-at (entry ∷ schema) (suc k) = types_of-at schema k

names_in-at : (schema : List Entry) (k : ℕ) (entry : Entry) → slice_get schema k ≡ Some entry → get_or (names_in schema) k [] ≡ entry.0
names_in-at [] k entry here = absurd (cc)
names_in-at (first ∷ schema) zero entry here = cc
names_in-at (first ∷ schema) (suc k) entry here = names_in-at schema k entry here

-- ---- the least column that can't be read

pub first_unreadable-here : (schema : List Entry) (i : ℕ) → i < length schema → ((k : ℕ) → k < i → not (is_readable (entry_at schema k).1) ≡ false) → not (is_readable (entry_at schema i).1) ≡ true
    → first_unreadable_column schema ≡ Some i
first_unreadable-here schema i l before here =
    let test : DataType → Bool = λ type. not (is_readable type) in
    let within : i < length (types_of schema) = omega (arith, length-map schema (λ (column : Entry). column.1)) in
    position-found test (types_of schema) i dtype.Null within (λ k m. ap test (types_of-at schema k) ∙ before k m) (ap test (types_of-at schema i) ∙ here)

pub first_unreadable-none : (schema : List Entry) → ((k : ℕ) → k < length schema → not (is_readable (entry_at schema k).1) ≡ false) → first_unreadable_column schema ≡ None
first_unreadable-none schema all =
    let test : DataType → Bool = λ type. not (is_readable type) in
    position-nowhere test (types_of schema) dtype.Null (λ k m. ap test (types_of-at schema k) ∙ all k (fewer k m))
  where
    fewer : (k : ℕ) → k < length (types_of schema) → k < length schema
    fewer k m = omega (arith, length-map schema (λ (column : Entry). column.1))

-- ---- a categorical column

pub categorical-here : (schema : List Entry) (i : ℕ) → i < length schema → is_categorical (entry_at schema i).1 ≡ true → list_any is_categorical (types_of schema) ≡ true
categorical-here schema i l here =
    let within : i < length (types_of schema) = omega (arith, length-map schema (λ (column : Entry). column.1)) in
    list_any_at is_categorical (types_of schema) i dtype.Null within (ap is_categorical (types_of-at schema i) ∙ here)

pub categorical-none : (schema : List Entry) → ((k : ℕ) → k < length schema → is_categorical (entry_at schema k).1 ≡ false) → list_any is_categorical (types_of schema) ≡ false
categorical-none [] all = refl
categorical-none (entry ∷ schema) all =
    let here : is_categorical entry.1 ≡ false = all 0 (omega arith) in
    rw here (categorical-none schema (λ k l. all (suc k) (omega arith)))

-- ---- names that are not there

module _ (other schema : List Entry) (k : ℕ) (entry : Entry) (at : slice_get other k ≡ Some entry) (within : k < length other) (before : find (lacks schema) (take k (names_in other)) ≡ None) where
  below : k < length (names_in other)
  below = omega (arith, length-map other (λ (column : Entry). column.0))

  pub known-more : (i : ℕ) → place_of entry.0 schema ≡ Some i → find (lacks schema) (take (k + 1) (names_in other)) ≡ None
  known-more i there =
      let known : lacks schema entry.0 ≡ false = rw there refl in
      find_more (lacks schema) (names_in other) k [] below before (ap (lacks schema) (names_in-at other k entry at) ∙ known)

  pub unknown-here : place_of entry.0 schema ≡ None → unknown_name other schema ≡ Some entry.0
  unknown-here nowhere =
      let unknown : lacks schema entry.0 ≡ true = rw nowhere refl in
      sym (find_first (lacks schema) (names_in other) k [] below before (ap (lacks schema) (names_in-at other k entry at) ∙ unknown)) ∙ ap Some (names_in-at other k entry at)

-- the refusal of the first unknown name, or of want of memory
pub name-fault : (first : Option (List ℕ)) (name : List ℕ) (fault : PolarsError) → first ≡ Some name → (fault ≢ error.OutOfMemory → fault ≡ error.ColumnNotFound name) → IsNameFault first fault
name-fault first name (error.ColumnNotFound other) is told = let same : error.ColumnNotFound other ≡ error.ColumnNotFound name = told (λ e. absurd (cc)) in cc
name-fault first name error.OutOfMemory is told = tt
name-fault first name (error.InvalidOperation fault) is told = absurd (let same : error.InvalidOperation fault ≡ error.ColumnNotFound name = told (λ e. absurd (cc)) in cc)
name-fault first name (error.ComputeError fault) is told = absurd (let same : error.ComputeError fault ≡ error.ColumnNotFound name = told (λ e. absurd (cc)) in cc)
name-fault first name (error.NoData fault) is told = absurd (let same : error.NoData fault ≡ error.ColumnNotFound name = told (λ e. absurd (cc)) in cc)
name-fault first name (error.OutOfBounds index len) is told = absurd (let same : error.OutOfBounds index len ≡ error.ColumnNotFound name = told (λ e. absurd (cc)) in cc)
name-fault first name (error.Duplicate other place) is told = absurd (let same : error.Duplicate other place ≡ error.ColumnNotFound name = told (λ e. absurd (cc)) in cc)
name-fault first name error.EmptyProjection is told = absurd (let same : error.EmptyProjection ≡ error.ColumnNotFound name = told (λ e. absurd (cc)) in cc)
name-fault first name error.IO is told = absurd (let same : error.IO ≡ error.ColumnNotFound name = told (λ e. absurd (cc)) in cc)

-- ---- types that are replaced

-- a schema whose first so many entries have their types in another one
abbrev pub retyped_to : List Entry → ℕ → List Entry → List Entry
retyped_to other k schema = map (retyped other) (take k schema) ++ drop k schema

-- behind the first entry
with_type_at-behind : (entry : Entry) (entries : List Entry) (i : ℕ) (type : DataType) → with_type_at (entry ∷ entries) (suc i) type ≡ entry ∷ with_type_at entries i type
with_type_at-behind entry entries i type = by (slice_get entries i) refl
  where
    by : (o : Option Entry) → slice_get entries i ≡ o → with_type_at (entry ∷ entries) (suc i) type ≡ entry ∷ with_type_at entries i type
    by None e = rw e refl
    by (Some found) e = rw e refl

-- one entry more
pub retyped_to-more : (other schema : List Entry) (k : ℕ) → k < length schema
    → with_type_at (retyped_to other k schema) k (retyped other (entry_at schema k)).1 ≡ retyped_to other (suc k) schema
retyped_to-more other [] k l = absurd (omega arith)
retyped_to-more other (entry ∷ schema) zero l = refl
retyped_to-more other (entry ∷ schema) (suc k) l =
    with_type_at-behind (retyped other entry) (retyped_to other k schema) k (retyped other (entry_at schema k)).1
    ∙ ap (λ es. retyped other entry ∷ es) (retyped_to-more other schema k (omega arith))

-- all entries
pub retyped_to-all : (other schema : List Entry) → retyped_to other (length schema) schema ≡ overwritten_schema other schema
retyped_to-all other [] = refl
retyped_to-all other (entry ∷ schema) = ap (λ es. retyped other entry ∷ es) (retyped_to-all other schema)
