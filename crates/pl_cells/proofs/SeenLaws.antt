-- The cells of numbers that are read in place.
use Rattle.std.proofs.Common.{◌≡◌, ◌≤◌, ◌+◌, ◌-◌, ℕ, ◌==◌, nat_eq, get_or, take, drop, length, Bool, true, false, not, ◌||◌, if◌then◌else◌, List, [], ◌∷◌, ◌++◌, map, Option, Some, None, Ok, Err, refl, sym, ◌∙◌, ap, ap₂, arith}
use Rattle.std.proofs.lemmas.Bool.Decides.{nat_tests}
use Rattle.std.proofs.lemmas.List.{map-append}
use Rattle.std.specs.Char.{is_ascii_digit}
use Rattle.std.specs.Option.{option_map}
use Rattle.pl_frame.specs.declared.data_type.DataType.{DataType}
use Rattle.pl_frame.specs.Frame.{Scalar}
use Rattle.pl_frame.specs.Types.{is_text, is_whole_number}
use Rattle.pl_scan.specs.Fields.{begins_quoted}
use Rattle.pl_cells.specs.declared.utf8.CsvEncoding.{CsvEncoding}
use Rattle.pl_cells.specs.BufferValue.{BufferValue, with_value, reading_of}
use Rattle.pl_cells.specs.Cells.{Cell, cell, stripped_cell, plain_cell, value_or_null, value_text, softened, quoted_cell}
use Rattle.pl_cells.specs.Columns.{begins_number, is_apart_from_numbers, AddsSeen, StandsFor}
use Rattle.pl_cells.specs.Faults as fault
use Rattle.pl_cells.specs.Integers.{without_blanks}
use Rattle.pl_cells.specs.NullTest.{nothing_is_null}
use Rattle.pl_cells.specs.Quoting.{strip, quote_of, is_well_quoted, inside}
use Rattle.pl_cells.specs.Values.{value_of_text}
use Rattle.pl_cells.proofs.BufferLaws.{record_of, plain_value, quoted_value, softened_ok, by_quoting}
use Rattle.pl_cells.proofs.PlacedLaws.{strip_last, begins_with, well_quoted, inside_at}

-- a number does not begin with a blank
unblanked : (type : DataType) (text : List ℕ) → begins_number text ≡ true → value_text type text ≡ text
unblanked type [] front = absurd (cc)
unblanked type (x ∷ xs) front = by (is_whole_number type)
  where
    digit : (x == 32 || x == 9) ≡ false
    digit = grind (arith, nat_tests, front)

    first : (t : Bool) → t ≡ false → (elim t [ true ↦ without_blanks xs | false ↦ x ∷ xs ]) ≡ x ∷ xs
    first true e = absurd (cc)
    first false e = refl

    by : (t : Bool) → (if t then without_blanks (x ∷ xs) else x ∷ xs) ≡ x ∷ xs
    by true = first (x == 32 || x == 9) digit
    by false = refl

some_cell : (type : DataType) (text : List ℕ) (value : Scalar) → begins_number text ≡ true → value_of_text type text ≡ Some value → value_or_null type text ≡ Ok (Some value)
some_cell type [] value front is = absurd (cc)
some_cell type (x ∷ xs) value front is = ap cell_of is
  where
    cell_of : Option Scalar → Cell
    cell_of None = Err fault.Value
    cell_of (Some v) = Ok (Some v)

-- a text that does not begin with the quote stands for itself
pub plain_stands : (quote : Option ℕ) (text : List ℕ) → quote_of quote text ≡ None → StandsFor quote text text
plain_stands quote text begins = λ reading type value no_text front back is.
    ap₂ (λ (q : Option ℕ) (t : List ℕ). stripped_cell reading nothing_is_null q type t) begins back
    ∙ softened_ok reading.ignore_errors (plain_cell reading type text) (Some value)
    (plain_value reading type text no_text ∙ ap (value_or_null type) (unblanked type text front) ∙ some_cell type text value front is)

other_byte : (x q : ℕ) → not (is_ascii_digit q || q == 45) ≡ true → (is_ascii_digit x || x == 45) ≡ true → nat_eq x q ≡ false
other_byte x q apart front = grind (arith, nat_tests)

unquoted : (quote : Option ℕ) (text : List ℕ) → is_apart_from_numbers quote ≡ true → begins_number text ≡ true → quote_of quote text ≡ None
unquoted quote [] apart front = absurd (cc)
unquoted None (x ∷ xs) apart front = refl
unquoted (Some q) (x ∷ xs) apart front = by (nat_eq x q) (other_byte x q apart front)
  where
    by : (t : Bool) → t ≡ false → (if t then Some q else None) ≡ None
    by true e = absurd (cc)
    by false e = refl

-- a number stands for itself where none begins with the quote
pub number_stands : (quote : Option ℕ) (text : List ℕ) → is_apart_from_numbers quote ≡ true → StandsFor quote text text
number_stands quote text apart = λ reading type value no_text front back is. plain_stands quote text (unquoted quote text apart front) reading type value no_text front back is

-- and what stands between quotes for the field
quoted_stands : (q : ℕ) (field text : List ℕ) → quote_of (Some q) field ≡ Some q → strip field ≡ field → is_well_quoted q field ≡ true → text ≡ inside field → StandsFor (Some q) field text
quoted_stands q field text begins same well is = λ reading type value no_text front back has.
    ap₂ (λ (o : Option ℕ) (t : List ℕ). stripped_cell reading nothing_is_null o type t) begins same
    ∙ (λ j. by_quoting reading q type field (well j))
    ∙ ap (λ (t : List ℕ). softened reading.ignore_errors (quoted_cell reading q type t)) (sym is)
    ∙ softened_ok reading.ignore_errors (quoted_cell reading q type text) (Some value)
    (quoted_value reading q type text no_text ∙ ap (value_or_null type) (unblanked type text front) ∙ some_cell type text value front has)

pub quoted_place : (q : ℕ) (upto : List ℕ) (start : ℕ) → start + 2 ≤ length upto → nat_eq 13 q ≡ false → get_or upto start 0 ≡ q → get_or upto (length upto - 1) 0 ≡ q
    → StandsFor (Some q) (drop start upto) (drop (start + 1) (take (length upto - 1) upto))
quoted_place q upto start room other first last =
    quoted_stands q (drop start upto) (drop (start + 1) (take (length upto - 1) upto)) (begins_with q upto start (omega (arith, room)) first)
    (strip_last upto start (omega (arith, room)) (ap (nat_eq 13) last ∙ other)) (well_quoted q upto start room last) (inside_at upto start room)

pub seen_adds : (old new : BufferValue) (quote : Option ℕ) (type : DataType) (field text : List ℕ) (value : Scalar) → type ≡ old.dtype → is_text type ≡ false → begins_number text ≡ true → strip text ≡ text
    → StandsFor quote field text → value_of_text type text ≡ Some value → new ≡ with_value old (Some value) → AddsSeen quote field old new
seen_adds old new quote type field text value same no_text front back stands is pushed missing ignore = record {
  value = Some value;
  is = ap (λ (t : DataType). cell (reading_of old missing ignore) nothing_is_null quote t field) (sym same) ∙ stands (reading_of old missing ignore) type value no_text front back is;
  pushed = pushed;
}

-- a buffer with one more value
pub one_more : {X : Type 0} (old : BufferValue) (name : List ℕ) (type : DataType) (quote : Option ℕ) (encoding : CsvEncoding) (f : X → Scalar) (values new : List (Option X)) (value : X)
    → record_of name type quote encoding (map (option_map f) values) ≡ old → new ≡ values ++ Some value ∷ []
    → record_of name type quote encoding (map (option_map f) new) ≡ with_value old (Some (f value))
one_more {X} old name type quote encoding f values new value is pushed =
    ap (λ (l : List (Option X)). record_of name type quote encoding (map (option_map f) l)) pushed
    ∙ ap (record_of name type quote encoding) (map-append (option_map f) values (Some value ∷ []))
    ∙ ap (λ (b : BufferValue). with_value b (Some (f value))) is

-- the quote that a text begins with is the given one
pub quote_given : (quote : Option ℕ) (text : List ℕ) (q : ℕ) → quote_of quote text ≡ Some q → quote ≡ Some q
quote_given quote text q h = by (begins_quoted quote text) h
  where
    by : (t : Bool) → (if t then quote else None) ≡ Some q → quote ≡ Some q
    by true e = e
    by false e = absurd (cc)
