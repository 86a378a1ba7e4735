use Rattle.pl_cells.proofs.CutLaws.{cells_cut}
use Rattle.pl_cells.proofs.text_types.TextsTextType.cut_back.Goals as goal

pub returns-clause-kept : goal.returns-clause-kept
returns-clause-kept c = cells_cut c.args.len c.args.self.now c.truncate.new.self c.truncate.ensures
