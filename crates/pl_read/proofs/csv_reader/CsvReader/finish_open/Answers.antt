use Rattle.std.specs.Prelude.{IfOk, IfErr}
use Rattle.pl_frame.specs.Came.{IsReadOn}
use Rattle.pl_read.specs.BytesReader.{input_of}
use Rattle.pl_read.specs.CsvReader.{OfInput, IsFinishFault}
use Rattle.pl_read.specs.Options.{settled_schema}
use Rattle.pl_read.specs.Reading.{IsRead}
use Rattle.pl_read.specs.RoundTrip.{ReturnsFrames}
use Rattle.pl_read.proofs.ComesBackLaws.{returns-frames}
use Rattle.pl_read.proofs.OpeningLaws.{seen}
use Rattle.pl_read.proofs.csv_reader.CsvReader.finish_open.Goals as goal

pub returns-clause-frame : goal.returns-clause-frame
returns-clause-frame g c =
    seen (λ source o. IfOk c.read_as_given.result (λ frame. OfInput g.R.MmapBytesReader.lent g.R.Source.left source c.read_as_given.new.reader (λ input. IsRead o (settled_schema o input) input frame)))
    c.self.inside.reader c.self.inside.options c.args.self.now c.self.view_is c.read_as_given.ensures.frame

pub returns-clause-refused : goal.returns-clause-refused
returns-clause-refused g c =
    seen (λ source o. IfErr c.read_as_given.result (IsFinishFault g.R.MmapBytesReader.lent g.R.Source.left g.R.Source.faults source c.read_as_given.new.reader o))
    c.self.inside.reader c.self.inside.options c.args.self.now c.self.view_is c.read_as_given.ensures.refused

pub returns-clause-round_trip : goal.returns-clause-round_trip
returns-clause-round_trip g c =
    let lent = g.R.MmapBytesReader.lent in
    let left = g.R.Source.left in
    let faults = g.R.Source.faults in
    let before = c.self.inside.reader in
    let now = c.read_as_given.new.reader in
    seen (λ source o. ReturnsFrames o (input_of (lent source) (left source)) c.read_as_given.result (faults source) (faults now)) before c.self.inside.options c.args.self.now c.self.view_is
    (returns-frames c.self.inside.options (input_of (lent before) (left before)) c.read_as_given.result (faults before) (faults now) c.read_as_given.ensures.complete)

pub returns-clause-read_on : goal.returns-clause-read_on
returns-clause-read_on g c =
    seen (λ source o. IsReadOn (g.R.Source.left source) (g.R.Source.left c.read_as_given.new.reader)) c.self.inside.reader c.self.inside.options c.args.self.now c.self.view_is c.read_as_given.ensures.read_on
