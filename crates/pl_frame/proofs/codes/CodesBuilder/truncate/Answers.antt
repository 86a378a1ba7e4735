use Rattle.std.proofs.Common.{ap, length}
use Rattle.std.specs.Prelude.{string_bytes}
use Rattle.pl_frame.proofs.CutLaws.{keys-take}
use Rattle.pl_frame.proofs.codes.CodesBuilder.truncate.Goals as goal

pub invariant_of-self : goal.invariant_of-self
invariant_of-self c =
    keys-take string_bytes c.self.inside.places.keys c.truncate-2.new.self.keys c.self.inside.kept c.truncate.new.self c.args.len _ c.self.invariant c.truncate.ensures
    (ap length c.dictionary.ensures) c.truncate-2.ensures.keys
