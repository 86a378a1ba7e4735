-- What is left of a row behind its fields.
use Rattle.std.proofs.Common.{◌≡◌, ℕ, zero, suc, ◌+◌, ◌≤◌, List, [], ◌∷◌, length, take, drop, refl, sym, ◌∙◌, ap}
use Rattle.std.specs.Prelude.{None, Some}
use Rattle.std.proofs.lemmas.List.{length-take-le, drop-drop}
use Rattle.pl_frame.specs.Dialect.{Marks}
use Rattle.pl_scan.specs.Fields.{fields, extent, behind, field, cut_field, cut_at}
use Rattle.pl_scan.proofs.FieldLaws.{fields-step, fields_last, fields_more, behind-some}
use Rattle.pl_scan.proofs.ItemLaws.{extent_last, extent_more}
use Rattle.pl_rows.specs.declared.row_rest.RowRest.{RowRest}
use Rattle.pl_rows.specs.declared.row_rest.RowRest.TheVariants as rest
use Rattle.pl_rows.specs.RowRest.{fields_left, behind_row, IsBehind}
use Rattle.pl_cells.specs.Columns.{field_in}

-- the field of a column is the first of those that are left there
pub field_at-drop : (fs : List (List ℕ)) (k : ℕ) → field_in (drop k fs) 0 ≡ field_in fs k
field_at-drop [] zero = refl
field_at-drop [] (suc k) = refl
field_at-drop (f ∷ fs) zero = refl
field_at-drop (f ∷ fs) (suc k) = field_at-drop fs k

-- the first field of a text whose first field has n bytes
pub field_at-first : (m : Marks) (b : List ℕ) (n : ℕ) → cut_field m b ≡ cut_at n b → take n b ≡ field_in (fields m b) 0
field_at-first m b n cut = sym (ap (λ fs. field_in fs 0) (fields-step m b) ∙ ap (λ (parts : List ℕ × List ℕ). parts.0) cut)

pub fields_left-next : (m : Marks) (b : List ℕ) (n : ℕ) (r : RowRest) → cut_field m b ≡ cut_at n b → IsBehind m.separator (drop n b) r → fields_left m r ≡ drop 1 (fields m b)
fields_left-next m b n (rest.Fields next) cut is =
    let e : behind m.separator (cut_field m b).1 ≡ Some (next.now) = ap (λ (parts : List ℕ × List ℕ). behind m.separator parts.1) cut ∙ is in
    sym (ap (drop 1) (fields_more m b next.now e))
fields_left-next m b n (rest.End others) cut is =
    let e : behind m.separator (cut_field m b).1 ≡ None = ap (λ (parts : List ℕ × List ℕ). behind m.separator parts.1) cut ∙ is.0 in
    sym (ap (drop 1) (fields_last m b e))

length-field : (m : Marks) (b : List ℕ) (n : ℕ) → cut_field m b ≡ cut_at n b → n ≤ length b → length (field m b) ≡ n
length-field m b n cut fits = ap (λ (parts : List ℕ × List ℕ). length parts.0) cut ∙ length-take-le n b fits

pub behind_row-next : (m : Marks) (b : List ℕ) (n : ℕ) (r : RowRest) → cut_field m b ≡ cut_at n b → n ≤ length b → IsBehind m.separator (drop n b) r → behind_row m r ≡ drop (extent m b) b
behind_row-next m b n (rest.Fields next) cut fits is =
    let e : behind m.separator (cut_field m b).1 ≡ Some (next.now) = ap (λ (parts : List ℕ × List ℕ). behind m.separator parts.1) cut ∙ is in
    let size : extent m b ≡ n + 1 + extent m next.now = extent_more m b next.now e ∙ ap (λ k. k + 1 + extent m next.now) (length-field m b n cut fits) in
    let there : drop n b ≡ m.separator ∷ next.now = behind-some m.separator (drop n b) next.now is in
    let k = extent m next.now in
    sym (ap (λ j. drop j b) size ∙ sym (drop-drop k (n + 1) b) ∙ ap (drop k) (sym (drop-drop 1 n b) ∙ ap (drop 1) there))
behind_row-next m b n (rest.End others) cut fits is =
    let e : behind m.separator (cut_field m b).1 ≡ None = ap (λ (parts : List ℕ × List ℕ). behind m.separator parts.1) cut ∙ is.0 in
    is.1 ∙ ap (λ k. drop k b) (sym (extent_last m b e ∙ length-field m b n cut fits))
