-- A field with a carriage return behind it.
use Rattle.std.proofs.Common.{◌≡◌, ◌≢◌, ℕ, ◌-◌, Bool, true, false, ◌==◌, if◌then◌else◌, List, [], ◌∷◌, ◌++◌, length, take, drop, None, Some, nat_eq, refl, sym, ◌∙◌, ap, arith, length-append}
use Rattle.std.specs.Cmp.Lexicographic.{pointwise}
use Rattle.std.specs.List.{ends_with}
use Rattle.std.proofs.Math.Seq.{drop-append_seam, take-append_seam}
use Rattle.std.proofs.lemmas.Bool.Decides.{nat_tests}
use Rattle.pl_frame.specs.declared.data_type.DataType.{DataType}
use Rattle.pl_scan.specs.Fields.{begins_quoted}
use Rattle.pl_cells.specs.Cells.{Reading, stripped_cell, cell}
use Rattle.pl_cells.specs.NullTest.{NullTest}
use Rattle.pl_cells.specs.Quoting.{strip, quote_of}
use Rattle.pl_round_trip.proofs.FieldLaws.{stripped}

long : (field : List ℕ) → length (field ++ 13 ∷ []) - 1 ≡ length field
long field = omega (arith, length-append field (13 ∷ []))

ends : (field : List ℕ) → ends_with nat_eq (field ++ 13 ∷ []) (13 ∷ []) ≡ true
ends field = ap (λ k. pointwise nat_eq (13 ∷ []) (drop k (field ++ 13 ∷ []))) (long field) ∙ ap (pointwise nat_eq (13 ∷ [])) (drop-append_seam field (13 ∷ []))

taken : (field : List ℕ) → strip (field ++ 13 ∷ []) ≡ field
taken field =
    ap (λ (t : Bool). if t then take (length (field ++ 13 ∷ []) - 1) (field ++ 13 ∷ []) else field ++ 13 ∷ []) (ends field)
    ∙ ap (λ k. take k (field ++ 13 ∷ [])) (long field) ∙ take-append_seam field (13 ∷ [])

same-quote : (q : ℕ) (field : List ℕ) → q ≢ 13 → begins_quoted (Some q) (field ++ 13 ∷ []) ≡ begins_quoted (Some q) field
same-quote q [] other = let bare : (13 == q) ≡ false = grind (arith, nat_tests, other) in bare
same-quote q (x ∷ field) other = refl

pub tail-returns : (reading : Reading) (is_null : NullTest) (q : ℕ) (type : DataType) (field : List ℕ) → q ≢ 13 → ends_with nat_eq field (13 ∷ []) ≡ false
    → cell reading is_null (Some q) type (field ++ 13 ∷ []) ≡ cell reading is_null (Some q) type field
tail-returns reading is_null q type field other whole =
    ap (stripped_cell reading is_null (quote_of (Some q) (field ++ 13 ∷ [])) type) (taken field ∙ sym (stripped field whole))
    ∙ ap (λ (t : Bool). stripped_cell reading is_null (if t then Some q else None) type (strip field)) (same-quote q field other)
