-- The field of a null, as it is written and read.
use Rattle.std.proofs.Common.{◌≡◌, ◌≢◌, ℕ, ◌<◌, Bool, true, false, not, ◌&&◌, ◌==◌, if◌then◌else◌, List, [], ◌∷◌, ◌++◌, length, Option, None, Some, Ok, Err, nat_eq, refl, ◌∙◌, ap, arith}
use Rattle.std.specs.List.{ends_with}
use Rattle.std.proofs.lemmas.Bool.Decides.{nat_tests}
use Rattle.pl_frame.specs.declared.data_type.DataType.{DataType}
use Rattle.pl_frame.specs.Frame.{Scalar}
use Rattle.pl_text.specs.FrameText.{WriteOptions, quoted_null, written_cell}
use Rattle.pl_scan.specs.Fields.{begins_quoted}
use Rattle.pl_cells.specs.Cells.{Reading, Cell, missing_value, plain_cell, quoted_cell, softened, stripped_cell, cell}
use Rattle.pl_cells.specs.Faults as fault
use Rattle.pl_cells.specs.NullTest.{NullTest}
use Rattle.pl_cells.specs.Quoting.{quote_of, is_well_quoted, inside}
use Rattle.pl_round_trip.specs.RoundTrip.{IsNullWritable}
use Rattle.pl_round_trip.proofs.FieldLaws.{stripped, quoted-end, same_byte, softened-ok}
use Rattle.pl_round_trip.proofs.UndoubleLaws.{well-quoted}

-- what is well quoted and means null is null
null-here : (ill well null : Bool) (own : Cell) → ill ≡ false → well ≡ true → null ≡ true → (if ill then Err fault.Escape else (if (null && well) && not false then Ok None else own)) ≡ Ok None
null-here false true true own e f g = refl
null-here true well null own e f g = cc
null-here false false null own e f g = cc
null-here false true false own e f g = cc

quoted-returns : (reading : Reading) (is_null : NullTest) (q : ℕ) (type : DataType) (null : List ℕ) → q ≢ 13 → is_null (quoted_null q null) ≡ true → cell reading is_null (Some q) type (quoted_null q null) ≡ Ok None
quoted-returns reading is_null q type null other meant =
    let field = q ∷ (null ++ q ∷ []) in
    ap (stripped_cell reading is_null (quote_of (Some q) field) type) (stripped field (quoted-end q null other))
    ∙ ap (λ (t : Bool). stripped_cell reading is_null (if t then Some q else None) type field) (same_byte q)
    ∙ null-here (not (is_well_quoted q field)) (is_well_quoted q field) (is_null field) (softened reading.ignore_errors (quoted_cell reading q type (inside field)))
    (ap not (well-quoted q null)) (well-quoted q null) meant

null-there : (null empty : Bool) (own : Cell) → null ≡ true → empty ≡ false → (if null && not (true && empty) then Ok None else own) ≡ Ok None
null-there true false own e f = refl
null-there false empty own e f = cc
null-there true true own e f = cc

-- a text that means null, and is not empty
plain-null : (reading : Reading) (is_null : NullTest) (type : DataType) (text : List ℕ) → 0 < length text → is_null text ≡ true → stripped_cell reading is_null None type text ≡ Ok None
plain-null reading is_null type [] some meant = absurd (omega (arith, some))
plain-null reading is_null type (x ∷ text) some meant =
    let no : (length (x ∷ text) == 0) ≡ false = grind (arith, nat_tests) in
    null-there (is_null (x ∷ text)) (length (x ∷ text) == 0) (softened reading.ignore_errors (plain_cell reading type (x ∷ text))) meant no

-- the empty text, where what is missing is null
plain-none : (reading : Reading) (is_null : NullTest) (type : DataType) → missing_value reading.missing_is_null type ≡ None → stripped_cell reading is_null None type [] ≡ Ok None
plain-none reading is_null type missing = by (is_null []) ∙ ap (λ (v : Option Scalar). softened reading.ignore_errors (Ok v)) missing ∙ softened-ok reading.ignore_errors None
  where
    by : (t : Bool) → (if t && not true then Ok None else softened reading.ignore_errors (plain_cell reading type [])) ≡ softened reading.ignore_errors (plain_cell reading type [])
    by true = refl
    by false = refl

bare-returns : (reading : Reading) (is_null : NullTest) (q : ℕ) (type : DataType) (null : List ℕ) → begins_quoted (Some q) null ≡ false → ends_with nat_eq null (13 ∷ []) ≡ false
    → (null ≡ [] → missing_value reading.missing_is_null type ≡ None) → (0 < length null → is_null null ≡ true) → cell reading is_null (Some q) type null ≡ Ok None
bare-returns reading is_null q type null bare whole missing meant =
    ap (stripped_cell reading is_null (quote_of (Some q) null) type) (stripped null whole)
    ∙ ap (λ (t : Bool). stripped_cell reading is_null (if t then Some q else None) type null) bare
    ∙ either null missing meant
  where
    either : (text : List ℕ) → (text ≡ [] → missing_value reading.missing_is_null type ≡ None) → (0 < length text → is_null text ≡ true) → stripped_cell reading is_null None type text ≡ Ok None
    either [] m n = plain-none reading is_null type (m refl)
    either (x ∷ text) m n = plain-null reading is_null type (x ∷ text) (omega arith) (n (omega arith))

pub null-returns : (reading : Reading) (is_null : NullTest) (o : WriteOptions) (type : DataType) → IsNullWritable o reading is_null type
    → cell reading is_null (Some o.quote) type (written_cell o type None) ≡ Ok None
null-returns reading is_null o type h = by (o.style == 1) h.missing h.meant
  where
    by : (t : Bool) → ((if t then quoted_null o.quote o.null else o.null) ≡ [] → missing_value reading.missing_is_null type ≡ None)
        → (0 < length (if t then quoted_null o.quote o.null else o.null) → is_null (if t then quoted_null o.quote o.null else o.null) ≡ true)
        → cell reading is_null (Some o.quote) type (if t then quoted_null o.quote o.null else o.null) ≡ Ok None
    by true missing meant = quoted-returns reading is_null o.quote type o.null h.no_return (meant (omega arith))
    by false missing meant = bare-returns reading is_null o.quote type o.null h.bare h.whole missing meant
