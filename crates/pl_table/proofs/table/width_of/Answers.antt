use Rattle.std.proofs.Common.{sym, ◌∙◌}
use Rattle.pl_table.proofs.TableLaws.{width-is}
use Rattle.pl_table.proofs.table.width_of.Goals as goal

pub returns : goal.returns
returns c = c.width_in.ensures ∙ sym (width-is c.args.starts.now c.args.firsts.now c.args.count c.args.row c.requires.row)
