use Rattle.std.proofs.Common.{length, sym, ◌∙◌, ap}
use Rattle.pl_csv_c.proofs.GrowingLaws.{plain-arrays}
use Rattle.pl_csv_c.specs.Kinds.{kind_of}
use Rattle.pl_csv_c.proofs.growing.kept_plain.Goals as goal

pub returns : goal.returns
returns c = λ column name have apart. record {
  name_is = name;
  arrays_are = plain-arrays (kind_of column.dtype) column c.args.arrays apart have;
  categories_are = ap length c.new.ensures.items ∙ sym (ap length have.none);
}
