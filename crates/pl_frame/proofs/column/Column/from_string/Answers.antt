use Rattle.std.proofs.Common.{refl}
use Rattle.pl_frame.specs.declared.data_type.DataType.TheVariants as dtype
use Rattle.pl_frame.proofs.CellLaws.{texts_hold}
use Rattle.pl_frame.proofs.column.Column.from_string.Goals as goal

pub invariant_of-result : goal.invariant_of-result
invariant_of-result c = record { coded = refl; enumerated = refl; places = tt; held = texts_hold dtype.String c.args.texts (λ text. refl) c.len-len.ensures.utf8 }

pub returns-clause-held : goal.returns-clause-held
returns-clause-held c = texts_hold dtype.String c.args.texts (λ text. refl) c.len-len.ensures.utf8
