use Rattle.std.proofs.Common.{refl}
use Rattle.pl_frame.specs.declared.data_type.DataType.TheVariants as dtype
use Rattle.pl_csv_c.proofs.host_made.categorical_column.Goals as goal

pub returns-in-Ok-clause-whole : goal.returns-in-Ok-clause-whole
returns-in-Ok-clause-whole c = c.in-Ok.ensures.whole dtype.Categorical refl
