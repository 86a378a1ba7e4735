-- The columns of a schema by their places.
use Rattle.std.proofs.Common.{◌≡◌, ℕ, zero, suc, ◌+◌, ◌<◌, Bool, true, false, not, List, [], ◌∷◌, length, get_or, refl, ◌∙◌, ap, arith}
use Rattle.std.specs.Prelude.{None, Some, find}
use Rattle.std.specs.List.{range_with_len}
use Rattle.std.proofs.lemmas.List.{length-map}
use Rattle.std.proofs.lemmas.List.Folds.{list_any_at}
use Rattle.pl_frame.specs.declared.data_type.DataType.{DataType}
use Rattle.pl_frame.specs.declared.data_type.DataType.TheVariants as dtype
use Rattle.pl_frame.specs.Schema.{Entry}
use Rattle.pl_frame.specs.Types.{is_readable}
use Rattle.pl_frame.proofs.ColumnLaws.{position-found, position-nowhere}
use Rattle.pl_frame.proofs.SchemaLaws.{none_passes}
use Rattle.pl_cells.specs.InitBuffers.{entry_at}
use Rattle.pl_infer.specs.Schemas.{types_of, first_unreadable_column}

-- none of the numbers passes
pub find-range : (p : ℕ → Bool) (a n : ℕ) → ((k : ℕ) → k < n → p (a + k) ≡ false) → find p (range_with_len a n) ≡ None
find-range p a zero each = refl
find-range p a (suc n) each =
    let start : a ≡ a + 0 = omega arith in
    let here : p a ≡ false = ap p start ∙ each 0 (omega arith) in
    rw here (find-range p (a + 1) n (λ k l. next k l))
  where
    next : (k : ℕ) → k < n → p (a + 1 + k) ≡ false
    next k l = let same : a + 1 + k ≡ a + suc k = omega arith in ap p same ∙ each (suc k) (omega arith)

type_at-get_or : (schema : List Entry) (k : ℕ) → get_or (types_of schema) k dtype.Null ≡ (entry_at schema k).1
type_at-get_or [] k = refl
type_at-get_or (entry ∷ schema) zero = refl
type_at-get_or (entry ∷ schema) (suc k) = type_at-get_or schema k

-- where all types can be read, that at any place can
pub readable_at : (schema : List Entry) (k : ℕ) → first_unreadable_column schema ≡ None → k < length schema → not (is_readable (entry_at schema k).1) ≡ false
readable_at schema k none l = by (not (is_readable (entry_at schema k).1)) refl
  where
    by : (b : Bool) → not (is_readable (entry_at schema k).1) ≡ b → not (is_readable (entry_at schema k).1) ≡ false
    by false e = e
    by true e =
        let test : DataType → Bool = λ type. not (is_readable type) in
        let within : k < length (types_of schema) = omega (arith, length-map schema (λ (column : Entry). column.1)) in
        let there : test (get_or (types_of schema) k dtype.Null) ≡ true = ap test (type_at-get_or schema k) ∙ e in
        let seen = list_any_at test (types_of schema) k dtype.Null within there in
        let unseen = none_passes test (types_of schema) none in
        absurd (cc)

-- the least column whose type can't be read
pub first_unreadable-here : (schema : List Entry) (i : ℕ) → i < length schema → ((k : ℕ) → k < i → not (is_readable (entry_at schema k).1) ≡ false) → not (is_readable (entry_at schema i).1) ≡ true
    → first_unreadable_column schema ≡ Some i
first_unreadable-here schema i l before here =
    let test : DataType → Bool = λ type. not (is_readable type) in
    let within : i < length (types_of schema) = omega (arith, length-map schema (λ (column : Entry). column.1)) in
    position-found test (types_of schema) i dtype.Null within (λ k m. ap test (type_at-get_or schema k) ∙ before k m) (ap test (type_at-get_or schema i) ∙ here)

pub first_unreadable-none : (schema : List Entry) → ((k : ℕ) → k < length schema → not (is_readable (entry_at schema k).1) ≡ false) → first_unreadable_column schema ≡ None
first_unreadable-none schema all =
    let test : DataType → Bool = λ type. not (is_readable type) in
    position-nowhere test (types_of schema) dtype.Null (λ k m. ap test (type_at-get_or schema k) ∙ all k (fewer k m))
  where
    fewer : (k : ℕ) → k < length (types_of schema) → k < length schema
    fewer k m = omega (arith, length-map schema (λ (column : Entry). column.1))
