use Rattle.std.proofs.Common.{ℕ, List, Option, ◌∙◌, ap, sym, subst}
use Rattle.pl_table.specs.Tables.{placed_text}
use Rattle.pl_cells.specs.Columns.{StandsForText}
use Rattle.pl_cells.specs.Quoting.{quote_of}
use Rattle.pl_cells.proofs.SeenLaws.{quote_given}
use Rattle.pl_cells.proofs.TextSeenLaws.{plain_text_stands}
use Rattle.pl_cells.proofs.quoted_at.bytes_at.Goals as goal

pub returns-in_ok-text-in-Some : goal.returns-in_ok-text-in-Some
returns-in_ok-text-in-Some c =
    subst (λ (q : Option ℕ). StandsForText q (placed_text c.args.field) c.in_ok-text-in-Some.text.now)
    (sym (quote_given c.args.quote_char (placed_text c.args.field) c.in-Some.quote (ap (quote_of c.args.quote_char) (sym c.from_place-bytes.ensures) ∙ sym c.in-Some.ensures))) c.in_ok-text-in-Some.ensures

pub returns-in_ok-text-in-None : goal.returns-in_ok-text-in-None
returns-in_ok-text-in-None c =
    subst (λ (t : List ℕ). StandsForText c.args.quote_char (placed_text c.args.field) t) (sym c.in_ok-text-in-None.ensures.text)
    (plain_text_stands c.args.quote_char (placed_text c.args.field) c.in_ok-text-in-None.ensures.some c.in_ok-text-in-None.ensures.front c.in_ok-text-in-None.ensures.back)
