-- Rows that stand as they are written but for the separator.
use Rattle.std.specs.Prelude.{◌≡◌, ℕ, ◌==◌, if◌then◌else◌, List, [], map, None}
use Rattle.pl_verbatim.specs.declared.form.Form.{Form}
use Rattle.pl_verbatim.specs.Changes.{IsAlike}

-- a text with one byte in the place of each that is another
abbrev pub swapped : ℕ → ℕ → List ℕ → List ℕ
swapped old new text = map (λ x. if x == old then new else x) text

-- quoted where necessary, with nothing for a null and a line feed behind a line, and no text means null: nothing but the separator may be another
pub record IsSwap (form : Form) : Type 0 where
  pub alike : IsAlike form form.separator
  pub null_is : form.null.items ≡ []
  pub nulls_are : form.nulls ≡ None
