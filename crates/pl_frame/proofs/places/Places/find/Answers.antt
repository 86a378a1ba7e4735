use Rattle.std.proofs.Common.{◌∙◌}
use Rattle.std.specs.Prelude.{string_bytes}
use Rattle.pl_frame.proofs.CategoryLaws.{key_place}
use Rattle.pl_frame.proofs.places.Places.find.Goals as goal

pub returns : goal.returns
returns c = c.get_index_of.ensures.index ∙ key_place string_bytes _ _ c.self.view_is c.args.text.now
