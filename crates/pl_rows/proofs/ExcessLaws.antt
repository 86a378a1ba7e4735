-- More fields than columns, and the fault of a cell as its row's.
use Rattle.std.proofs.Common.{◌≡◌, ℕ, ◌+◌, ◌<◌, ◌≤◌, Bool, true, false, cond, not, ◌&&◌, ◌==◌, ltb, List, [], ◌∷◌, length, drop, refl, sym, ◌∙◌, ap, arith, length-drop, eqb-true}
use Rattle.std.specs.Prelude.{Option, None, Some, Err}
use Rattle.std.proofs.lemmas.List.{drop_all}
use Rattle.std.proofs.lemmas.Bool.Decides.{nat_tests}
use Rattle.pl_frame.specs.declared.error.FaultKind.{FaultKind}
use Rattle.pl_frame.specs.declared.error.FaultKind.TheVariants as fault
use Rattle.pl_frame.specs.Dialect.{Marks}
use Rattle.pl_scan.specs.Fields.{fields, extent, behind, cut_field}
use Rattle.pl_scan.proofs.FieldLaws.{fields_last, fields_more}
use Rattle.pl_scan.proofs.ItemLaws.{extent_last, fields-some}
use Rattle.pl_cells.specs.declared.cell_fault.CellFault.{CellFault}
use Rattle.pl_cells.specs.declared.cell_fault.CellFault.TheVariants as cell_fault
use Rattle.pl_cells.specs.BufferValue.{IsCellFault}
use Rattle.pl_cells.specs.Cells.{Cell}
use Rattle.pl_cells.specs.Faults.{Fault, kind_of}
use Rattle.pl_cells.specs.Faults as cell
use Rattle.pl_rows.specs.declared.row_rest.RowRest.{RowRest}
use Rattle.pl_rows.specs.declared.row_rest.RowRest.TheVariants as rest
use Rattle.pl_rows.specs.RowRest.{fields_left, behind_row, IsDone, HasMore}
use Rattle.pl_cells.specs.Columns.{field_in}
use Rattle.pl_rows.specs.Rows.{is_forgiven, excess_fault}
use Rattle.pl_table.specs.Rows.{Row, row_at}
use Rattle.pl_rows.specs.Steps.{IsRowFault, row_fault_of}
use Rattle.pl_rows.proofs.RestLaws.{field_at-drop}

none_of : {X : Type 0} (t u : Bool) (x y : X) → t ≡ false → cond (t && u) x y ≡ y
none_of t u x y e = rw e refl

not_forgiven : {X : Type 0} (t u : Bool) (x y : X) → t ≡ true → u ≡ false → cond (t && not u) x y ≡ x
not_forgiven t u x y e h = rw (e, h) refl

forgiven : {X : Type 0} (t u : Bool) (x y : X) → u ≡ true → cond (t && not u) x y ≡ y
forgiven true u x y h = rw h refl
forgiven false u x y h = refl

both : (a b c : Bool) → a ≡ true → b ≡ true → c ≡ true → (a && (b && c)) ≡ true
both a b c p q r = rw (p, q, r) refl

not_all : (a b c : Bool) → (a ≡ true → b ≡ true → c ≡ true → ⊥) → (a && (b && c)) ≡ false
not_all true true true h = absurd (h refl refl refl)
not_all true true false h = refl
not_all true false c h = refl
not_all false b c h = refl

-- the empty text is one empty field
pub fields-nil : (m : Marks) → (fields m [] ≡ [] ∷ []) × (extent m [] ≡ 0)
unfolding fields cut_field
fields-nil m = (refl, refl)

-- as many fields as columns, or fewer
pub excess_fault-none : (n : ℕ) (row : Row) → drop n row.fields ≡ [] → excess_fault false n row ≡ None
excess_fault-none n row e =
    let few : length row.fields ≤ n = omega (arith, length-drop n row.fields, ap length e) in
    let test : ltb n (length row.fields) ≡ false = grind (arith, nat_tests) in
    none_of (ltb n (length row.fields)) (not (is_forgiven n row)) (Some (n, fault.Fields)) None test

-- one empty field more, at the end
pub excess_fault-forgiven : (n : ℕ) (row : Row) → drop n row.fields ≡ [] ∷ [] → row.is_end ≡ true → excess_fault false n row ≡ None
excess_fault-forgiven n row e end =
    let count : length row.fields ≡ n + 1 = omega (arith, length-drop n row.fields, ap length e) in
    let empty : length (field_in row.fields n) ≡ 0 = ap length (sym (field_at-drop row.fields n) ∙ ap (λ fs. field_in fs 0) e) in
    let one_more : (length row.fields == n + 1) ≡ true = grind (arith, nat_tests) in
    let no_bytes : (length (field_in row.fields n) == 0) ≡ true = grind (arith, nat_tests) in
    forgiven (ltb n (length row.fields)) (is_forgiven n row) (Some (n, fault.Fields)) None (both row.is_end _ _ end one_more no_bytes)

-- more than that
pub excess_fault-some : (n : ℕ) (row : Row) → 0 < length (drop n row.fields)
    → (row.is_end ≡ true → length (drop n row.fields) ≡ 1 → length (field_in (drop n row.fields) 0) ≡ 0 → ⊥) → excess_fault false n row ≡ Some (n, fault.Fields)
excess_fault-some n row some more =
    let many : n < length row.fields = omega (arith, length-drop n row.fields) in
    let test : ltb n (length row.fields) ≡ true = grind (arith, nat_tests) in
    let judged : is_forgiven n row ≡ false =
    not_all row.is_end _ _ (λ end one_more no_bytes. more end (omega (arith, length-drop n row.fields, eqb-true _ _ one_more)) (ap length (field_at-drop row.fields n) ∙ eqb-true _ _ no_bytes)) in
    not_forgiven (ltb n (length row.fields)) (is_forgiven n row) (Some (n, fault.Fields)) None test judged

-- a row of which all columns were read and that is done has no fault of its number of fields
pub excess_fault-done : (m : Marks) (b : List ℕ) (n : ℕ) (left : RowRest) (behind : List ℕ) → fields_left m left ≡ drop n (fields m b) → behind_row m left ≡ drop (extent m b) b
    → IsDone left behind → (excess_fault false n (row_at m b) ≡ None) × (behind ≡ drop (extent m b) b)
excess_fault-done m b n (rest.Fields bytes) behind left_is behind_is done =
    let one : drop n (fields m b) ≡ [] ∷ [] = sym left_is ∙ ap (fields m) done.0 ∙ (fields-nil m).0 in
    let gone : drop (extent m b) b ≡ [] = sym behind_is ∙ ap (λ l. drop (extent m l) l) done.0 ∙ drop_all (extent m []) [] (omega arith) in
    let end : (length (drop (extent m b) b) == 0) ≡ true = rw gone refl in
    (excess_fault-forgiven n (row_at m b) one end, done.1 ∙ sym gone)
excess_fault-done m b n (rest.End bytes) behind left_is behind_is done =
    (excess_fault-none n (row_at m b) (sym left_is), done ∙ behind_is)

pub length-nil : (l : List ℕ) → length l ≡ 0 → l ≡ []
length-nil [] e = refl
length-nil (x ∷ l) e = absurd (omega arith)

-- one field without bytes and nothing behind it is no text
one_empty : (m : Marks) (bytes : List ℕ) → length (fields m bytes) ≡ 1 → length (field_in (fields m bytes) 0) ≡ 0 → drop (extent m bytes) bytes ≡ [] → bytes ≡ []
one_empty m bytes one empty gone = by_rest (behind m.separator (cut_field m bytes).1) refl
  where
    by_rest : (o : Option (List ℕ)) → behind m.separator (cut_field m bytes).1 ≡ o → bytes ≡ []
    by_rest None e =
        let size : extent m bytes ≡ 0 = extent_last m bytes e ∙ ap (λ fs. length (field_in fs 0)) (sym (fields_last m bytes e)) ∙ empty in
        ap (λ k. drop k bytes) (sym size) ∙ gone
    by_rest (Some r) e =
        let more = ap length (fields_more m bytes r e) in
        let others = fields-some m r in
        absurd (omega (arith, ap length others.2))

-- a row with more has that fault
pub excess_fault-more : (m : Marks) (b : List ℕ) (n : ℕ) (left : RowRest) → fields_left m left ≡ drop n (fields m b) → behind_row m left ≡ drop (extent m b) b
    → HasMore left → excess_fault false n (row_at m b) ≡ Some (n, fault.Fields)
excess_fault-more m b n (rest.Fields bytes) left_is behind_is more =
    let first = fields-some m bytes.now in
    let some : 0 < length (drop n (fields m b)) = omega (arith, ap length left_is, ap length first.2) in
    excess_fault-some n (row_at m b) some (λ end one empty.
    let gone : drop (extent m b) b ≡ [] = length-nil _ (eqb-true _ _ end) in
    more (one_empty m bytes.now (ap length left_is ∙ one) (ap (λ fs. length (field_in fs 0)) left_is ∙ empty) (behind_is ∙ gone)))
excess_fault-more m b n (rest.End bytes) left_is behind_is more = absurd more

-- the fault of a column's cell is the row's
pub row_fault-is : (wrong : CellFault) (v : Cell) (i : ℕ) (first : Option (ℕ × FaultKind)) → IsCellFault wrong v → ((given : Fault) → v ≡ Err given → first ≡ Some (i, kind_of given))
    → IsRowFault (row_fault_of i wrong) first
row_fault-is cell_fault.Escape v i first is given = given cell.Escape is
row_fault-is cell_fault.Utf8 v i first is given = given cell.Utf8 is
row_fault-is cell_fault.Value v i first is given = given cell.Value is
row_fault-is cell_fault.OutOfMemory v i first is given = tt
