use Rattle.std.proofs.Common.{ap}
use Rattle.pl_cells.specs.EnumPlaces.{EnumValue}
use Rattle.pl_cells.proofs.CutLaws.{cells_cut}
use Rattle.pl_cells.proofs.enum_texts.EnumTextsTextType.cut_back.Goals as goal

pub returns-clause-kept : goal.returns-clause-kept
returns-clause-kept c = cells_cut c.args.len c.args.self.now.texts c.truncate.new.self.texts (ap (λ (v : EnumValue). v.texts) c.truncate.ensures)
