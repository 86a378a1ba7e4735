use Rattle.pl_cells.proofs.CutLaws.{places_cut, texts_cut}
use Rattle.pl_cells.proofs.enum_texts.EnumTexts.truncate.Goals as goal

pub invariant_of-self : goal.invariant_of-self
invariant_of-self c = places_cut c.self.inside.categories c.args.len c.self.inside.places c.truncate.new.self c.self.invariant c.truncate.ensures

pub returns : goal.returns
returns c = texts_cut c.args.self.now c.self.inside.categories c.args.len c.self.inside.places c.truncate.new.self c.self.view_is c.truncate.ensures
