use Rattle.std.proofs.Common.{take}
use Rattle.pl_write.proofs.SourceLaws.{number_cell, number_within, put-as}
use Rattle.pl_write.proofs.put_sources.DateSourcePutCell.put.Goals as goal

pub put_date_cell-requires-clause-range : goal.put_date_cell-requires-clause-range
put_date_cell-requires-clause-range c = λ n at. number_within c.args.row n c.requires.fits.0 c.requires.fits.1 c.requires.row at

pub returns-clause-text : goal.returns-clause-text
returns-clause-text c =
    put-as c.put_date_cell.result c.put_date_cell.new.to (take c.args.at c.args.to.now) _ _ c.put_date_cell.ensures.text (number_cell c.args.row c.requires.fits.0)
