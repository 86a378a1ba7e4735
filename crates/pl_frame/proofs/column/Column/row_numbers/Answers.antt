use Rattle.pl_frame.proofs.RowIndexLaws.{row_numbers_hold, numbered}
use Rattle.pl_frame.proofs.column.Column.row_numbers.Goals as goal

pub from_narrow-requires-clause-held : goal.from_narrow-requires-clause-held
from_narrow-requires-clause-held c = row_numbers_hold c.args.offset c.args.count _ c.requires c.in-Ok.ensures

pub returns-in-Ok-clause-column : goal.returns-in-Ok-clause-column
returns-in-Ok-clause-column c = numbered c.from_narrow.result c.args.name c.args.offset c.args.count _ c.from_narrow.ensures c.in-Ok.ensures

pub from_wide-requires-clause-held : goal.from_wide-requires-clause-held
from_wide-requires-clause-held c = row_numbers_hold c.args.offset c.args.count _ c.requires c.in-Ok-wide_from.ensures

pub returns-in-Ok-wide_from-clause-column : goal.returns-in-Ok-wide_from-clause-column
returns-in-Ok-wide_from-clause-column c = numbered c.from_wide.result c.args.name c.args.offset c.args.count _ c.from_wide.ensures c.in-Ok-wide_from.ensures
