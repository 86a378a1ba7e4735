use Rattle.std.proofs.Common.{◌^◌, rules}
use Rattle.pl_seek.proofs.SeekRunLaws.{too-long}
use Rattle.pl_seek.proofs.files.read_path.Goals as goal

pub returns-in-Err-TooLong-clause-refused : goal.returns-in-Err-TooLong-clause-refused
returns-in-Err-TooLong-clause-refused g c =
    too-long (2 ^ 36) (g.O.Opener.holds c.args.opener.now c.args.path.now) _ _ c.in-Ok.ensures.opened.whole (c.read_all-read.ensures.too_long (search rules))
