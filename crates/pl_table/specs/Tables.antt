-- Tables of fields: where the fields of records stand in a text (docs/grammar.md, "Fields" and "Records").
use Rattle.std.specs.List.{AllByRecursion}
use Rattle.std.specs.Prelude.{◌≡◌, ℕ, ◌≤◌, false, List, map, drop, slice_range}
use Rattle.pl_frame.specs.Dialect.{Marks}
use Rattle.pl_scan.specs.Closing.{have_open_end}
use Rattle.pl_table.specs.declared.table.Placed.{Placed}

-- where a field stands
pub record Cut : Type 0 where
  pub start : ℕ
  pub end : ℕ

-- the field lies in the first n bytes
abbrev pub IsWithin : ℕ → Cut → Type 0
IsWithin n c = (c.start ≤ c.end) × (c.end ≤ n)

-- all fields of all records do
abbrev pub AreWithin : ℕ → List (List Cut) → Type 0
AreWithin n table = AllByRecursion (λ row. AllByRecursion (IsWithin n) row) table

-- the bytes of a field
abbrev pub cut_text : List ℕ → Cut → List ℕ
cut_text text c = slice_range text c.start c.end

-- the bytes of the fields of each record
abbrev pub fields_of : List ℕ → List (List Cut) → List (List (List ℕ))
fields_of text table = map (λ row. map (cut_text text) row) table

-- no record ends within a quoted field
abbrev pub AreClosed : Marks → List (List (List ℕ)) → Type 0
AreClosed m records = AllByRecursion (λ fields. have_open_end m fields ≡ false) records

-- the bytes of a field that is given with what stands before it
abbrev pub placed_text : Placed → List ℕ
placed_text placed = drop placed.start placed.upto.now
