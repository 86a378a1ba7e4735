use Rattle.std.proofs.Common.{refl, sym, subst}
use Rattle.pl_frame.specs.declared.data_type.DataType.TheVariants as dtype
use Rattle.pl_frame.specs.Columns.{HoldsType}
use Rattle.pl_frame.proofs.CellLaws.{texts_hold}
use Rattle.pl_frame.proofs.column.Column.packed_string.Goals as goal

pub returns-in_err-part-clause-held : goal.returns-in_err-part-clause-held
returns-in_err-part-clause-held c = texts_hold dtype.String c.args.texts.now (λ text. refl) c.len-len.ensures.utf8

pub of_part-requires-clause-held : goal.of_part-requires-clause-held
of_part-requires-clause-held c =
    subst (HoldsType dtype.String) (sym c.in_ok-part.ensures) (texts_hold dtype.String c.args.texts.now (λ text. refl) c.len-len.ensures.utf8)
