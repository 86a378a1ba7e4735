use Rattle.pl_cells.proofs.AroundLaws.{joined_whole}
use Rattle.pl_cells.proofs.around_point.joined.Goals as goal

pub returns : goal.returns
returns c = joined_whole c.args.front c.args.back c.args.count c.fits-front.0 c.fits-back.0 c.fits-front.1 c.fits-back.1 c.requires.few c.requires.zeros
