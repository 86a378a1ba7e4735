-- Batches: the names and types that they have, and the lines of their rows.
use Rattle.std.proofs.Common.{◌≡◌, ℕ, zero, suc, ◌<◌, Bool, true, false, List, [], ◌∷◌, length, get_or, slice_get, refl, sym, ◌∙◌, ap, subst, arith}
use Rattle.std.specs.Bool.{Decides}
use Rattle.std.specs.Cmp.Lexicographic.{pointwise}
use Rattle.std.specs.Option.{option_map_or}
use Rattle.std.proofs.lemmas.List.{length-map}
use Rattle.pl_frame.specs.declared.data_type.DataType.TheVariants as dtype
use Rattle.pl_frame.specs.Equal.{entries_equal}
use Rattle.pl_frame.specs.Frame.{ColumnValue}
use Rattle.pl_frame.specs.FrameParts.{empty_columns, schema_of}
use Rattle.pl_frame.specs.Schema.{Entry}
use Rattle.pl_frame.proofs.AlikeLaws.{pointwise-all, pointwise-differ}
use Rattle.pl_frame.proofs.FramePartLaws.{same_columns_told}
use Rattle.pl_write.specs.Batches.{HaveSchema}

-- an entry to stand for none
abbrev pub no_entry : Entry
no_entry = ([], dtype.Null)

-- what the test of a column and the entry at its place tells
pub entry_told : (columns : List ColumnValue) (schema : List Entry) (i : ℕ) (column : ColumnValue) (told : Bool) → i < length columns → i < length schema → column ≡ get_or columns i column
    → told ≡ option_map_or (entries_equal (column.name, column.dtype)) (slice_get schema i) false → entries_equal (get_or (schema_of columns) i no_entry) (get_or schema i no_entry) ≡ told
entry_told [] schema i column told l m at is = absurd (omega (arith, l))
entry_told (c ∷ columns) [] i column told l m at is = absurd (omega (arith, m))
entry_told (c ∷ columns) (entry ∷ schema) zero column told l m at is = sym (is ∙ ap (λ (x : ColumnValue). entries_equal (x.name, x.dtype) entry) at)
entry_told (c ∷ columns) (entry ∷ schema) (suc i) column told l m at is = entry_told columns schema i column told (omega (arith, l)) (omega (arith, m)) at is

-- all of them are the same
pub entries_all : (columns : List ColumnValue) (schema : List Entry) → length schema ≡ length columns
    → ((k : ℕ) → k < length columns → entries_equal (get_or (schema_of columns) k no_entry) (get_or schema k no_entry) ≡ true) → true ≡ pointwise entries_equal (schema_of columns) schema
entries_all columns schema n each =
    let long : length (schema_of columns) ≡ length columns = length-map columns (λ column. (column.name, column.dtype)) in
    sym (pointwise-all entries_equal no_entry (schema_of columns) schema (long ∙ sym n) (λ k h. each k (omega (arith, h, long))))

-- two at a place are not
pub entries_differ : (columns : List ColumnValue) (schema : List Entry) (i : ℕ) → i < length columns → length schema ≡ length columns
    → entries_equal (get_or (schema_of columns) i no_entry) (get_or schema i no_entry) ≡ false → false ≡ pointwise entries_equal (schema_of columns) schema
entries_differ columns schema i l n e =
    let long : length (schema_of columns) ≡ length columns = length-map columns (λ column. (column.name, column.dtype)) in
    sym (pointwise-differ entries_equal no_entry (schema_of columns) schema i (omega (arith, l, long)) (omega (arith, l, n)) e)

-- the names and types of columns that were made of them
pub schema_of-empty : (schema : List Entry) → schema_of (empty_columns schema) ≡ schema
schema_of-empty [] = refl
schema_of-empty (entry ∷ schema) = ap (λ l. entry ∷ l) (schema_of-empty schema)

-- the test of all of them tells whether they are the same
pub schema_told : (columns : List ColumnValue) (schema : List Entry) (told : Bool) → told ≡ pointwise entries_equal (schema_of columns) schema → Decides told (HaveSchema schema columns)
schema_told columns schema told is =
    let same = schema_of-empty schema in
    subst (λ l. Decides told (schema_of columns ≡ l)) same
    (same_columns_told columns (empty_columns schema) told (is ∙ ap (pointwise entries_equal (schema_of columns)) (sym same)))
