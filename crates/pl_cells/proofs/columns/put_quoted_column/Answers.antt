use Rattle.std.proofs.Common.{◌≡◌, ◌<◌, take, length, arith}
use Rattle.std.specs.Option.{option_copied}
use Rattle.pl_table.specs.Tables.{fields_of}
use Rattle.pl_table.proofs.TableRowLaws.{length-fields_of}
use Rattle.pl_cells.specs.NullValues.{means_null}
use Rattle.pl_cells.proofs.ColumnLaws.{fault-at}
use Rattle.pl_cells.proofs.columns.put_quoted_column.Goals as goal

pub returns-in-Err-clause-refused : goal.returns-in-Err-clause-refused
returns-in-Err-clause-refused g c =
    let records = fields_of c.args.text.now c.args.table.now in
    let within : c.loop-row.row < length records = omega (arith, length-fields_of c.args.text.now c.args.table.now, c.requires.rows, c.loop-row-test.true) in
    let answered = rw c.in-Err.is at c.put_any-put.ensures in
    fault-at (g.B.CellBuffer.state c.args.buffer.now) (g.B.CellBuffer.state c.loop-row.buffer) c.args.missing_is_null c.args.ignore_errors (means_null (option_copied c.args.null_values) c.args.column) c.args.quote_char c.args.column
    c.args.rows c.loop-row.row records _ _ c.in-Err.fault c.loop-row.invariant.added (omega (arith, c.loop-row-test.true)) within c.placed_in-placed.ensures.field answered.0
