use Rattle.std.proofs.Common.{length, ap, arith}
use Rattle.std.proofs.lemmas.List.FromFn.{length-map-range_with_len}
use Rattle.pl_table.specs.Index.{row_cuts}
use Rattle.pl_table.proofs.table.Table.front.Goals as goal

pub front_of-requires-clause-row : goal.front_of-requires-clause-row
front_of-requires-clause-row c =
    let long = length-map-range_with_len (row_cuts c.self.inside.starts.items c.self.inside.firsts.items) 0 c.self.inside.count in
    omega (arith, long, ap length c.self.view_is, c.requires.row)
