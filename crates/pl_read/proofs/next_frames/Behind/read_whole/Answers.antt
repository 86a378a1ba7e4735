use Rattle.std.proofs.Common.{refl}
use Rattle.pl_read.specs.NextFrames.{AreReadParts}
use Rattle.pl_read.proofs.NextPartLaws.{ok-then}
use Rattle.pl_read.proofs.NextFrameLaws.{AreReadParts-one, CanReadPart-data, IsDialect-plan}
use Rattle.pl_read.proofs.next_frames.Behind.read_whole.Goals as goal

pub read_by_workers-requires-clause-dialect : goal.read_by_workers-requires-clause-dialect
read_by_workers-requires-clause-dialect g c κs within = IsDialect-plan c.args.self.now c.args.text.now (c.requires.can c.args.text.now)

pub read_by_workers-requires-clause-width : goal.read_by_workers-requires-clause-width
read_by_workers-requires-clause-width g c κs within = (CanReadPart-data c.args.self.now c.args.text.now (c.requires.can c.args.text.now)).width

pub read_by_workers-requires-clause-rising : goal.read_by_workers-requires-clause-rising
read_by_workers-requires-clause-rising g c κs within = (CanReadPart-data c.args.self.now c.args.text.now (c.requires.can c.args.text.now)).rising

pub read_by_workers-requires-clause-readable : goal.read_by_workers-requires-clause-readable
read_by_workers-requires-clause-readable g c κs within = (CanReadPart-data c.args.self.now c.args.text.now (c.requires.can c.args.text.now)).readable

pub read_by_workers-requires-clause-texts : goal.read_by_workers-requires-clause-texts
read_by_workers-requires-clause-texts g c κs within = (CanReadPart-data c.args.self.now c.args.text.now (c.requires.can c.args.text.now)).texts

pub returns : goal.returns
returns g c =
    ok-then c.whole_part.result _ (λ parts. AreReadParts c.args.self.now c.args.text.now 1 parts.items) c.whole_part.ensures
    (λ parts is. AreReadParts-one c.args.self.now c.args.text.now parts.items _ c.in_ok-read.read is refl refl c.in_ok-read.ensures)
