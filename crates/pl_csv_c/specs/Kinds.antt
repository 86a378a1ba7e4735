-- Which arrays a column's cells stand in, by its type (docs/c.md).
use Rattle.pl_csv_c.specs.declared.kinds.Kind.{Kind}
use Rattle.pl_csv_c.specs.declared.kinds.Kind.TheVariants as kind
use Rattle.pl_frame.specs.declared.data_type.DataType.{DataType}
use Rattle.pl_frame.specs.declared.data_type.DataType.TheVariants as dtype
use Rattle.pl_frame.specs.declared.data_type.TimeUnit.TheVariants as unit

-- where the cells of a type stand
abbrev pub kind_of : DataType → Kind
kind_of dtype.Int128 = kind.Words
kind_of dtype.UInt64 = kind.Words
kind_of (dtype.Datetime unit.Nanoseconds) = kind.Words
kind_of (dtype.Decimal precision scale) = kind.Words
kind_of dtype.String = kind.Texts
kind_of dtype.Categorical = kind.Codes
kind_of (dtype.Enum categories) = kind.Codes
kind_of dtype.Null = kind.Nowhere
kind_of _ = kind.Numbers
