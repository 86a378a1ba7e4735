use Rattle.std.specs.Int.{w128}
use Rattle.std.proofs.lemmas.Int.{to_z-of_z}
use Rattle.pl_write.proofs.HeldLaws.{held_number}
use Rattle.pl_write.proofs.cells.push_cell.Goals as goal

pub push_number_cell-requires : goal.push_number_cell-requires
push_number_cell-requires c =
    let column = c.args.column.now in
    let n = c.in-Whole.number in
    let typed = rw c.in-Whole.is at c.get.type_inv in
    let same = to_z-of_z w128 n (record { sfits = typed.1.1.1.1.0.1 }) in
    rw (same, c.dtype-in-Whole.ensures.dtype) (held_number column.dtype column.values c.args.row n c.requires c.dtype-in-Whole.ensures.held c.in-Whole.ensures)
