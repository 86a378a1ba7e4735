use Rattle.std.proofs.Common.{rules}
use Rattle.pl_read.specs.CsvReader.{IsInput}
use Rattle.pl_read.proofs.ReaderLaws.{is-input, frame-is, refused-is, refused-failed, complete-of}
use Rattle.pl_read.proofs.csv_reader.read_source.Goals as goal

pub returns : goal.returns
returns g c =
    let lent = g.R.MmapBytesReader.lent in
    let left = g.R.Source.left in
    let before = c.args.reader.now in
    let now = c.read_unlent.new.reader in
    let o = c.args.options.now in
    let input = c.bytes.result.now in
    let result = c.read_frame-frame.result in
    let is : IsInput (lent before) (left before) (left now) input = search (rules, is-input) in
    record {
      frame = frame-is lent left before now o result input is c.read_frame-frame.ensures;
      refused = refused-is lent left g.R.Source.faults before now o result input is c.read_frame-frame.ensures;
      complete = complete-of (lent before) (left before) (left now) o result input _ _ is c.read_frame-frame.ensures;
      lent = search rules;
      read_on = search rules;
      later = search rules;
    }

pub returns-in-Err-clause-refused : goal.returns-in-Err-clause-refused
returns-in-Err-clause-refused g c =
    refused-failed g.R.MmapBytesReader.lent g.R.Source.left g.R.Source.faults c.args.reader.now c.read_unlent.new.reader c.args.options.now c.in-Err.fault
    (λ lends. let e = (c.in-Err.ensures.lent lends).0 in cc) c.in-Err.ensures.refused
