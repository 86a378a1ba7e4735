use Rattle.std.proofs.Common.{length, ap, sym, ◌∙◌}
use Rattle.std.proofs.lemmas.List.FromFn.{length-map-range_with_len}
use Rattle.pl_table.specs.Index.{row_cuts}
use Rattle.pl_table.proofs.table.Table.len.Goals as goal

pub returns : goal.returns
returns c = sym (length-map-range_with_len (row_cuts c.self.inside.starts.items c.self.inside.firsts.items) 0 c.self.inside.count) ∙ ap length c.self.view_is
