use Rattle.std.proofs.Common.{rules, ◌≡◌}
use Rattle.std.specs.Prelude.{None}
use Rattle.pl_read.proofs.SourceReadLaws.{source-frame, source-refused, source-complete}
use Rattle.pl_read.proofs.csv_reader.read_as_given.Goals as goal

pub returns-then-reads_ahead-clause-frame : goal.returns-then-reads_ahead-clause-frame
returns-then-reads_ahead-clause-frame g c =
    let lent = g.R.MmapBytesReader.lent in
    let left = g.R.Source.left in
    let before = c.args.reader.now in
    let now = c.read_from.new.source in
    let none : lent before ≡ None = search rules in
    source-frame lent left before now c.args.options.now _ _ c.read_from.result none c.read_from.ensures.answer

pub returns-then-reads_ahead-clause-refused : goal.returns-then-reads_ahead-clause-refused
returns-then-reads_ahead-clause-refused g c =
    let lent = g.R.MmapBytesReader.lent in
    let left = g.R.Source.left in
    let before = c.args.reader.now in
    let now = c.read_from.new.source in
    let none : lent before ≡ None = search rules in
    source-refused lent left g.R.Source.faults before now c.args.options.now c.read_from.result none c.read_from.ensures.answer

pub returns-then-reads_ahead-clause-complete : goal.returns-then-reads_ahead-clause-complete
returns-then-reads_ahead-clause-complete g c =
    let lent = g.R.MmapBytesReader.lent in
    let left = g.R.Source.left in
    let before = c.args.reader.now in
    let now = c.read_from.new.source in
    let none : lent before ≡ None = search rules in
    source-complete (lent before) (left before) (left now) c.args.options.now _ _ c.read_from.result none c.read_from.ensures.answer
