use Rattle.std.proofs.Common.{sym, subst}
use Rattle.pl_frame.specs.Columns.{HoldsType}
use Rattle.pl_frame.specs.Types.{from_to}
use Rattle.pl_csv_c.proofs.HostLaws.{numbers-hold}
use Rattle.pl_csv_c.proofs.host_made.wide_column.Goals as goal

pub from_wide-requires-clause-held : goal.from_wide-requires-clause-held
from_wide-requires-clause-held c =
    let type = c.args.dtype in
    let range = sym c.in-Some.ensures in
    subst (HoldsType type) (sym (c.in-Ok.ensures.cells type (range, c.requires.wide)))
    (numbers-hold type c.args.host.now (from_to c.in-Some.range.low c.in-Some.range.high) range)
