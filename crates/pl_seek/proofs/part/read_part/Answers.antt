use Rattle.std.proofs.Common.{arith, ◌^◌}
use Rattle.pl_seek.proofs.PartLaws.{rows-fit, dialect-given}
use Rattle.pl_seek.proofs.part.read_part.Goals as goal

pub part_columns-requires-clause-fits : goal.part_columns-requires-clause-fits
part_columns-requires-clause-fits c =
    let o = c.args.read.now in
    rows-fit o c.args.skip c.args.length (2 ^ 64) c.args.part.now (dialect-given o c.requires.sound).distinct c.ranges.skip.fits (omega arith)
