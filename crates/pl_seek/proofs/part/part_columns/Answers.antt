use Rattle.pl_seek.specs.Parts.{rows_from}
use Rattle.pl_seek.proofs.part.part_columns.Goals as goal

pub columns_of-requires : goal.columns_of-requires
columns_of-requires c =
    let o = c.args.read.now in
    record { read = (o, rows_from o c.args.skip c.args.count c.args.part.now, c.in-Ok-found.ensures, c.requires.fits) }
