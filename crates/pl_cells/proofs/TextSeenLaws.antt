-- The cells of texts that are read in place.
use Rattle.std.proofs.Common.{◌≡◌, ◌<◌, ◌≤◌, ◌+◌, ◌-◌, ℕ, true, false, List, length, nat_eq, get_or, take, drop, Option, Some, None, sym, ◌∙◌, ap, ap₂, arith}
use Rattle.std.proofs.lemmas.Bool.Decides.{nat_tests}
use Rattle.pl_cells.specs.Cells.{stripped_cell, quoted_cell, text_cell, softened}
use Rattle.pl_cells.specs.Columns.{StandsForText}
use Rattle.pl_cells.specs.NullTest.{nothing_is_null}
use Rattle.pl_cells.specs.Quoting.{strip, quote_of, is_well_quoted, inside, undouble}
use Rattle.pl_cells.proofs.BufferLaws.{plain_some, quoted_text, by_quoting}
use Rattle.pl_cells.proofs.PlacedLaws.{strip_last, begins_with, well_quoted, inside_at}

-- what stands between quotes, where it holds none, stands for the field
quoted_text_stands : (q : ℕ) (field text : List ℕ) → quote_of (Some q) field ≡ Some q → strip field ≡ field → is_well_quoted q field ≡ true → text ≡ inside field → undouble q text ≡ text
    → StandsForText (Some q) field text
quoted_text_stands q field text begins same well is bare = λ reading type texts.
    ap₂ (λ (o : Option ℕ) (t : List ℕ). stripped_cell reading nothing_is_null o type t) begins same
    ∙ (λ j. by_quoting reading q type field (well j))
    ∙ ap (λ (t : List ℕ). softened reading.ignore_errors (quoted_cell reading q type t)) (sym is)
    ∙ ap (softened reading.ignore_errors) (quoted_text reading q type text texts ∙ ap (text_cell reading type) bare)

pub quoted_text_place : (q : ℕ) (upto : List ℕ) (start : ℕ) → start + 2 ≤ length upto → nat_eq 13 q ≡ false → get_or upto start 0 ≡ q → get_or upto (length upto - 1) 0 ≡ q
    → undouble q (drop (start + 1) (take (length upto - 1) upto)) ≡ drop (start + 1) (take (length upto - 1) upto)
    → StandsForText (Some q) (drop start upto) (drop (start + 1) (take (length upto - 1) upto))
quoted_text_place q upto start room other first last bare =
    quoted_text_stands q (drop start upto) (drop (start + 1) (take (length upto - 1) upto)) (begins_with q upto start (omega (arith, room)) first)
    (strip_last upto start (omega (arith, room)) (ap (nat_eq 13) last ∙ other)) (well_quoted q upto start room last) (inside_at upto start room) bare

-- a text that begins with no quote stands for itself
pub plain_text_stands : (quote : Option ℕ) (text : List ℕ) → 0 < length text → quote_of quote text ≡ None → strip text ≡ text → StandsForText quote text text
plain_text_stands quote text some front back = λ reading type texts.
    ap₂ (λ (o : Option ℕ) (t : List ℕ). stripped_cell reading nothing_is_null o type t) front back
    ∙ ap (softened reading.ignore_errors) (plain_some reading type text (grind (arith, nat_tests, some)))
