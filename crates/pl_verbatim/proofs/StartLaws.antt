-- Bytes with which texts that mean null begin: a field that begins with another is no such text.
use Rattle.std.proofs.Common.{◌≡◌, ℕ, zero, suc, ◌+◌, ◌-◌, ◌<◌, ◌≤◌, Bool, true, false, nat_eq, ◌&&◌, if◌then◌else◌, List, [], ◌∷◌, length, take, get_or, Option, None, Some, Ok, refl, sym, ◌∙◌, ap, subst, arith}
use Rattle.std.specs.Prelude.{slice_range}
use Rattle.std.specs.List.{ends_with}
use Rattle.std.proofs.Math.Seq.{take-length}
use Rattle.pl_cells.specs.Cells.{Cell, stripped_cell}
use Rattle.pl_cells.specs.NullTest.{NullTest, nothing_is_null}
use Rattle.pl_cells.specs.Quoting.{quote_of}
use Rattle.pl_verbatim.specs.declared.form.Form.{Form}
use Rattle.pl_verbatim.specs.Nulls.{AreStartsOf}
use Rattle.pl_verbatim.specs.Changes.{null_test_of, IsOtherField}
use Rattle.pl_verbatim.proofs.NullLaws.{cell-missing}
use Rattle.pl_verbatim.proofs.NumberLaws.{slice-cons}
use Rattle.pl_verbatim.proofs.RowLaws.{nothing}

-- what begins with a byte with which no text begins that means null
other-field : (is_null : NullTest) (quote x : ℕ) (rest : List ℕ) → ((more : List ℕ) → is_null (x ∷ more) ≡ false) → IsOtherField is_null quote (x ∷ rest)
other-field is_null quote x rest none reading type = whole (ends_with nat_eq field (13 ∷ []))
  where
    field : List ℕ
    field = x ∷ rest

    missing : (t : Bool) (c : Cell) → (if (t && false) then Ok None else c) ≡ c
    missing true c = refl
    missing false c = refl

    by : (q : Option ℕ) (n : ℕ) → stripped_cell reading is_null q type (take n field) ≡ stripped_cell reading nothing_is_null q type (take n field)
    by None zero = missing (is_null []) _
    by (Some q) zero = refl
    by None (suc n) = rw (none (take n rest)) refl
    by (Some q) (suc n) = rw (none (take n rest)) refl

    whole : (t : Bool) → stripped_cell reading is_null (quote_of (Some quote) field) type (if t then take (length field - 1) field else field)
        ≡ stripped_cell reading nothing_is_null (quote_of (Some quote) field) type (if t then take (length field - 1) field else field)
    whole true = by (quote_of (Some quote) field) (length field - 1)
    whole false = subst (λ s. stripped_cell reading is_null (quote_of (Some quote) field) type s ≡ stripped_cell reading nothing_is_null (quote_of (Some quote) field) type s) (take-length field) (by (quote_of (Some quote) field) (length field))

-- the field at a place whose byte is not marked
pub other-start : (form : Form) (quote : ℕ) (text : List ℕ) (at end : ℕ) → AreStartsOf form.nulls form.starts → get_or form.starts (get_or text at 0) false ≡ false → at < length text → at ≤ end
    → IsOtherField (null_test_of form) quote (slice_range text at end)
other-start form quote text at end are off inside after = by (end - at) refl
  where
    x : ℕ
    x = get_or text at 0

    none : (t : Bool) (more : List ℕ) → null_test_of form (x ∷ more) ≡ t → t ≡ false
    none true more is = let on : get_or form.starts x false ≡ true = are x more is in absurd (cc)
    none false more is = refl

    by : (n : ℕ) → end - at ≡ n → IsOtherField (null_test_of form) quote (slice_range text at end)
    by zero e = let same : end ≡ at = omega (arith, e, after) in subst (IsOtherField (null_test_of form) quote) (sym (ap (slice_range text at) same ∙ nothing text at)) (λ reading type. cell-missing reading (null_test_of form) quote type)
    by (suc n) e = subst (IsOtherField (null_test_of form) quote) (sym (slice-cons text at end inside (omega (arith, e)))) (other-field (null_test_of form) quote x (slice_range text (at + 1) end) (λ more. none _ more refl))
