use Rattle.pl_multi.proofs.ScanLaws.{scan-complete}
use Rattle.pl_multi.proofs.scan.scan_multi.Goals as goal

pub returns-clause-complete : goal.returns-clause-complete
returns-clause-complete g c =
    scan-complete (g.O.Opener.holds c.args.opener.now) _ _ c.args.read.now c.args.slice c.args.parts.now c.scan_parts.result c.scan_parts.ensures.frame c.scan_parts.ensures.refused
