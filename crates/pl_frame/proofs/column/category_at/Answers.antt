use Rattle.std.proofs.Common.{sym, ◌∙◌, ap, None, Some, unwrap_or}
use Rattle.pl_frame.specs.Columns.{categories_of}
use Rattle.pl_frame.proofs.CategoryLaws.{code_within, decoded-at}
use Rattle.pl_frame.proofs.column.category_at.Goals as goal

pub text_at-requires : goal.text_at-requires
text_at-requires c =
    rw c.enum_texts.ensures (code_within (categories_of c.args.dtype.now) c.args.places.now c.args.row c.in-Some.place c.requires.places c.in-Some.ensures)

pub returns-in-Some : goal.returns-in-Some
returns-in-Some c =
    ap Some (rw c.enum_texts.ensures at c.text_at.ensures)
    ∙ sym (ap (λ o. unwrap_or o None) (decoded-at (categories_of c.args.dtype.now) c.args.places.now c.args.row (Some c.in-Some.place) c.in-Some.ensures))

pub returns-in-None : goal.returns-in-None
returns-in-None c = sym (ap (λ o. unwrap_or o None) (decoded-at (categories_of c.args.dtype.now) c.args.places.now c.args.row None c.in-None.ensures))
