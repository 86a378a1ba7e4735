use Rattle.std.proofs.Common.{ℕ, Option, ◌∙◌, ap, sym, subst}
use Rattle.pl_table.specs.Tables.{placed_text}
use Rattle.pl_cells.specs.Columns.{StandsFor}
use Rattle.pl_cells.specs.Quoting.{quote_of}
use Rattle.pl_cells.proofs.SeenLaws.{plain_stands, quote_given}
use Rattle.pl_cells.proofs.quoted_at.value_at.Goals as goal

pub returns-in_ok-text-in-Some : goal.returns-in_ok-text-in-Some
returns-in_ok-text-in-Some c =
    subst (λ (q : Option ℕ). StandsFor q (placed_text c.args.field) (placed_text c.in_ok-text-in-Some.text))
    (sym (quote_given c.args.quote_char (placed_text c.args.field) c.in-Some.quote (ap (quote_of c.args.quote_char) (sym c.from_place-bytes.ensures) ∙ sym c.in-Some.ensures))) c.in_ok-text-in-Some.ensures.value

pub returns-in-None : goal.returns-in-None
returns-in-None c = plain_stands c.args.quote_char (placed_text c.args.field) (ap (quote_of c.args.quote_char) (sym c.from_place-bytes.ensures) ∙ sym c.in-None.ensures)
