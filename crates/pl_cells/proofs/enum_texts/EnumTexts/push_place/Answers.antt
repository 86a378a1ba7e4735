use Rattle.pl_cells.proofs.EnumLaws.{places_after, text_after}
use Rattle.pl_cells.proofs.enum_texts.EnumTexts.push_place.Goals as goal

pub invariant_of-self : goal.invariant_of-self
invariant_of-self c =
    places_after c.push.result c.args.self.now c.self.inside.categories c.self.inside.places c.push.new.self c.args.text.now c.args.place c.self.view_is c.self.invariant c.utf8.text c.requires
    c.push.ensures.ok c.push.ensures.err

pub returns-clause-ok : goal.returns-clause-ok
returns-clause-ok c =
    text_after c.push.result c.args.self.now c.self.inside.categories c.self.inside.places c.push.new.self c.args.text.now c.args.place c.self.view_is c.requires c.push.ensures.ok
