use Rattle.pl_read.proofs.OpeningLaws.{unlent-of}
use Rattle.pl_read.proofs.csv_reader.read_owned.Goals as goal

pub returns-in-Err-clause-refused : goal.returns-in-Err-clause-refused
returns-in-Err-clause-refused g c =
    unlent-of (g.R.MmapBytesReader.lent c.args.reader.now) (g.R.Source.faults c.args.reader.now) (g.R.Source.faults c.read_unlent.new.reader) c.in-Err.fault
    (λ lends. let e = (c.in-Err.ensures.lent lends).0 in cc) c.in-Err.ensures.refused
