use Rattle.std.proofs.Common.{IfOk, sym, subst}
use Rattle.pl_frame.specs.Columns.{number_cells}
use Rattle.pl_frame.specs.Types.{from_to}
use Rattle.pl_csv_c.specs.HostCells.{IsPushed}
use Rattle.pl_csv_c.proofs.HostLaws.{narrow-value}
use Rattle.pl_csv_c.proofs.host_cells.NarrowCellsHostCells.push_value.Goals as goal

pub returns-clause-pushed : goal.returns-clause-pushed
returns-clause-pushed c = λ type t.
    let host = c.args.column.now in
    let r = from_to c.args.self.now.range.low c.args.self.now.range.high in
    subst (λ v. IfOk c.push_within.result (λ fits. IsPushed fits v (number_cells c.args.self.now.numbers) (number_cells c.push_within.new.numbers)))
    (sym (narrow-value type host c.args.row c.number_at.result r t.0 t.1 (sym c.number_at.ensures))) c.push_within.ensures
